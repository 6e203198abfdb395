-- A significand is moved to another exponent.
use mathlib.Core.Bool.{Bool, true}
use mathlib.Core.Path.{◌≡◌, refl, sym, ◌∙◌, ap, subst}
use mathlib.Core.Logic.{inl, inr, ⊎_elim}
use Prim.Native.Nat.{ℕ, ◌+◌, ◌*◌, ◌-◌, ◌/◌, ◌%◌, ◌^◌, ◌<◌, ◌≤◌}
use native.Mathlib.Nat.{le_trans, lt_of_lt_of_le, mul_assoc, mul-one, le-mul_of_pos_right, mul-le-mul_left, mul-le-mul_right}
use native.Mathlib.Omega.{arith}
use lib.Dec.{lit<}
use lib.Pow.{pow-add, pow_mono, pow_pos, shl_exact, shl_lt, shr_le}
use Rattle.packing.specs.Bracket.{Brackets, Rebrackets}
use Rattle.packing.proofs.BracketLaws.{exact_brackets}
use Rattle.sums.specs.Alignment.{Aligns, Alignable}

itself : (m e : ℕ) → Brackets (m * 2 ^ e) 1 m e true
itself m e = exact_brackets (m * 2 ^ e) 1 m e (omega arith) refl (mul-one (m * 2 ^ e))

-- Digits that are put behind a significand lower its exponent.
moved : (m j e k : ℕ) → j + e ≡ k → m * 2 ^ j * 2 ^ e ≡ m * 2 ^ k
moved m j e k is = mul_assoc m (2 ^ j) (2 ^ e) ∙ ap (λ (t : ℕ). m * t) (sym (pow-add 2 j e) ∙ ap (λ (t : ℕ). 2 ^ t) is)

-- The guard digits that may be put behind a significand of 53 digits: at least two, so that a difference keeps 53,
-- and at most ten, so that a sum fits a word.
pub record Guards (g : ℕ) : Type 0 where
  pub enough : 2 ≤ g
  pub room : 53 + g ≤ 63

module _ {m e m' e' g : ℕ} (a : Alignable m e m' e') (guard : Guards g) where
  -- Exponents that differ by at most g: all digits of both are kept.
  module _ (close : e - e' ≤ g) where
    near_word : (m * 2 ^ (e - e')) % 2 ^ 64 ≡ m * 2 ^ (e - e')
    near_word = shl_exact {a = m} 53 (e - e') 64 a.short (let room = guard.room in omega arith)

    near_exact : Aligns (m * 2 ^ e) (m' * 2 ^ e') (m * 2 ^ (e - e')) m' e' true
    near_exact =
        let le = a.ordered in
        record {
          whole = moved m (e - e') e' e (omega arith);
          cut = itself m' e';
          fine = ⊎_elim (λ none. inl (omega arith)) (λ full. inr (le_trans full (le-mul_of_pos_right m (pow_pos (e - e'))))) a.fine;
          long = inl refl;
          room = lt_of_lt_of_le (shl_lt {a = m} 53 (e - e') a.short) (pow_mono {j = 63} (let room = guard.room in omega arith));
          short = a.short';
          near = let near = a.near in omega arith;
        }

    pub aligns_near : Aligns (m * 2 ^ e) (m' * 2 ^ e') ((m * 2 ^ (e - e')) % 2 ^ 64) m' e' true
    aligns_near = subst (λ (h : ℕ). Aligns (m * 2 ^ e) (m' * 2 ^ e') h m' e' true) (sym near_word) near_exact

  -- Exponents that differ by more: g digits are put behind the first, and the second is cut there.
  module _ {low e'' : ℕ} {x : Bool} (far : g < e - e') (cuts : (low ≡ m' / 2 ^ (e - e' - g)) × (e'' ≡ e' + (e - e' - g))) (cut : Rebrackets m' e' true low e'' x) where
    full : 2 ^ 52 ≤ m
    full = ⊎_elim (λ none. omega arith) (λ full. full) a.fine

    far_word : (m * 2 ^ g) % 2 ^ 64 ≡ m * 2 ^ g
    far_word = shl_exact {a = m} 53 g 64 a.short (let room = guard.room in omega arith)

    long_word : 2 ^ 54 ≤ m * 2 ^ g
    long_word = le_trans (mul-le-mul_right (2 ^ 2) full) (mul-le-mul_left m (pow_mono guard.enough))

    far_cut : Aligns (m * 2 ^ e) (m' * 2 ^ e') (m * 2 ^ g) low e'' x
    far_cut =
        let near = a.near in
        let short' = a.short' in
        let at : e'' ≡ e' + (e - e' - g) = cuts.1 in
        let less : low ≤ m' = subst (λ (k : ℕ). k ≤ m') (sym cuts.0) (shr_le m' (e - e' - g)) in
        record {
          whole = moved m g e'' e (omega arith);
          cut = cut (m' * 2 ^ e') 1 (lit< tt) (itself m' e');
          fine = inr (omega (arith, long_word));
          long = inr long_word;
          room = lt_of_lt_of_le (shl_lt {a = m} 53 g a.short) (pow_mono {j = 63} guard.room);
          short = omega arith;
          near = omega arith;
        }

    pub aligns_far : Aligns (m * 2 ^ e) (m' * 2 ^ e') ((m * 2 ^ g) % 2 ^ 64) low e'' x
    aligns_far = subst (λ (h : ℕ). Aligns (m * 2 ^ e) (m' * 2 ^ e') h low e'' x) (sym far_word) far_cut
