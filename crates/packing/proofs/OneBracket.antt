-- What is taken apart, cut, normalised and packed has one answer: a value has one bracket at an exponent, and one that is as fine as it has to be.
use mathlib.Core.Bool.{Bool, true, false, false≢true}
use mathlib.Core.Logic.{◌↔◌, inr, ⊎_elim}
use mathlib.Core.Path.{◌≡◌, refl, sym, ◌∙◌, ap, subst}
use Prim.Native.Nat.{ℕ, ◌+◌, ◌*◌, ◌^◌, ◌<◌, ◌≤◌}
use native.Mathlib.Nat.{le_antisymm, le_trans, lt_irrefl, lt_of_mul-lt-mul_right, mul-le-mul_left, mul-le-mul_right, mul-one}
use native.Mathlib.Omega.{arith}
use lib.Dec.{lit<}
use lib.Pow.{pow_mono, pow_pos}
use Rattle.truth.proofs.AnswerLaws.{answers_once}
use Rattle.patterns.specs.Format.{Format}
use Rattle.patterns.specs.Rounding.{Representable}
use Rattle.patterns.proofs.UpLaws.{rounds_up_unique, rounds_down_unique}
use Rattle.patterns.proofs.ValueLaws.{pow_next}
use Rattle.packing.specs.Bracket.{Brackets, FineEnough, Lowered}
use Rattle.packing.specs.Magnitude.{Normalised, Unpacks}
use Rattle.packing.specs.Packing.{Packable, PacksUp, PacksDown, TellsRepresentable}
use Rattle.packing.proofs.BracketLaws.{exact_brackets}

-- Two truth values that say the same are equal.
same_truth : {P : Type 0} (x y : Bool) → (x ≡ true) ↔ P → (y ≡ true) ↔ P → x ≡ y
same_truth true true h k = refl
same_truth true false h k = absurd (false≢true (k.1 (h.0 refl)))
same_truth false true h k = absurd (false≢true (h.1 (k.0 refl)))
same_truth false false h k = refl

module _ {n d : ℕ} (some : 0 < d) where
  -- One exponent.
  not_above_lem : {m m' e : ℕ} {x x' : Bool} → Brackets n d m e x → Brackets n d m' e x' → m ≤ m'
  not_above_lem {m} {m'} {e} b b' =
      let less : m < m' + 1 = lt_of_mul-lt-mul_right (2 ^ e * d) (let low = b.low in let high = b'.high in omega arith) in
      omega arith

  pub brackets_once : {m m' e : ℕ} {x x' : Bool} → Brackets n d m e x → Brackets n d m' e x' → (m ≡ m') × (x ≡ x')
  brackets_once {m} {m'} {e} {x} {x'} b b' =
      let same : m ≡ m' = le_antisymm (not_above_lem b b') (not_above_lem b' b) in
      (same, same_truth x x' b.told (subst (λ (k : ℕ). (x' ≡ true) ↔ (k * 2 ^ e * d ≡ n)) (sym same) b'.told))

  -- Any exponent that is as fine as it has to be.
  module _ {frac start : ℕ} where
    not_finer : {m m' e e' : ℕ} {x x' : Bool} → Lowered frac start m e → Lowered frac start m' e' → FineEnough frac m' e'
        → Brackets n d m e x → Brackets n d m' e' x' → e < e' → ⊥
    not_finer {m} {m'} {e} {e'} lowered lowered' fine' b b' less =
        let within = lowered'.lower in
        ⊎_elim (λ same. omega arith) (λ short. ⊎_elim (λ none. omega arith) (λ full. lt_irrefl n (disjoint short full)) fine') lowered.short
      where
        disjoint : m < 2 ^ (frac + 1) → 2 ^ frac ≤ m' → n < n
        disjoint short full =
            let high = b.high in
            let low = b'.low in
            let first : (m + 1) * (2 ^ e * d) ≤ 2 ^ (frac + 1) * (2 ^ e * d) = mul-le-mul_right (2 ^ e * d) (omega arith) in
            let second : 2 ^ frac * (2 ^ (e + 1) * d) ≤ m' * (2 ^ e' * d) =
            le_trans (mul-le-mul_left (2 ^ frac) (mul-le-mul_right d (pow_mono {i = e + 1} (omega arith)))) (mul-le-mul_right (2 ^ e' * d) full) in
            omega (arith, ap (λ (k : ℕ). k * (2 ^ e * d)) (pow_next frac), ap (λ (k : ℕ). 2 ^ frac * (k * d)) (pow_next e))

    pub fine_once : {m m' e e' : ℕ} {x x' : Bool} → Lowered frac start m e → Lowered frac start m' e' → FineEnough frac m e → FineEnough frac m' e'
        → Brackets n d m e x → Brackets n d m' e' x' → (e ≡ e') × (m ≡ m') × (x ≡ x')
    fine_once {m} {m'} {e} {e'} {x} {x'} lowered lowered' fine fine' b b' =
        let same : e ≡ e' = omega (arith, not_finer lowered lowered' fine' b b', not_finer lowered' lowered fine b' b) in
        let once = brackets_once b (subst (λ (k : ℕ). Brackets n d m' k x') (sym same) b') in
        (same, once.0, once.1)

-- An exact value at any such exponent.
exact_once : {frac start v m m' e e' : ℕ} → m * 2 ^ e ≡ v → m' * 2 ^ e' ≡ v → Lowered frac start m e → Lowered frac start m' e'
    → FineEnough frac m e → FineEnough frac m' e' → (e ≡ e') × (m ≡ m')
exact_once {v = v} {m} {m'} {e} {e'} is is' lowered lowered' fine fine' =
    let b = exact_brackets v 1 m e {x = true} (lit< tt) refl (mul-one (m * 2 ^ e) ∙ is) in
    let b' = exact_brackets v 1 m' e' {x = true} (lit< tt) refl (mul-one (m' * 2 ^ e') ∙ is') in
    let once = fine_once (lit< tt) lowered lowered' fine fine' b b' in
    (once.0, once.1)

pub normalised_once : {frac m e m' e' m'' e'' : ℕ} → Normalised frac m e m' e' → Normalised frac m e m'' e'' → (e' ≡ e'') × (m' ≡ m'')
normalised_once h k = exact_once h.worth k.worth h.lowered k.lowered h.fine k.fine

pub unpacks_once : {frac b m m' e e' : ℕ} → Unpacks frac b m e → Unpacks frac b m' e' → (e ≡ e') × (m ≡ m')
unpacks_once {e = e} {e'} h k =
    exact_once {start = e + e'} (sym h.worth) (sym k.worth) (record { lower = omega arith; short = inr h.short })
    (record { lower = omega arith; short = inr k.short }) h.fine k.fine

-- Every bracket holds a value, and every width is one of a format.
record Bracketed (m e : ℕ) (x : Bool) : Type 0 where
  pub n : ℕ
  pub d : ℕ
  pub some : 0 < d
  pub brackets : Brackets n d m e x

bracketed : (m e : ℕ) (x : Bool) → Bracketed m e x
bracketed m e true = record { n = m * 2 ^ e; d = 1; some = lit< tt; brackets = exact_brackets (m * 2 ^ e) 1 m e (lit< tt) refl (mul-one (m * 2 ^ e)) }
bracketed m e false = record {
  n = m * 2 ^ e * 2 + 1;
  d = 2;
  some = lit< tt;
  brackets = record { low = omega arith; high = omega (arith, pow_pos e); told = (λ never. absurd (false≢true never), λ is. absurd (omega arith)) };
}

module _ {frac codes m e : ℕ} (packable : Packable frac codes m e) where
  abbrev format : Format
  format = record { frac = frac; codes = codes; point = 0; fine = packable.some; wide = packable.ranged }

  pub packs_up_once : {x : Bool} {r r' : ℕ} → PacksUp frac codes m e x r → PacksUp frac codes m e x r' → r ≡ r'
  packs_up_once {x} h k =
      let held = bracketed m e x in
      rounds_up_unique format (h format refl refl held.n held.d held.some held.brackets) (k format refl refl held.n held.d held.some held.brackets)

  pub packs_down_once : {x : Bool} {r r' : ℕ} → PacksDown frac codes m e x r → PacksDown frac codes m e x r' → r ≡ r'
  packs_down_once {x} h k =
      let held = bracketed m e x in
      rounds_down_unique format (h format refl refl held.n held.d held.some held.brackets) (k format refl refl held.n held.d held.some held.brackets)

  pub representable_once : {x t t' : Bool} → TellsRepresentable frac codes m e x t → TellsRepresentable frac codes m e x t' → t ≡ t'
  representable_once {x} {t} {t'} h k =
      let held = bracketed m e x in
      answers_once (Representable format held.n held.d) t t' (h format refl refl held.n held.d held.some held.brackets) (k format refl refl held.n held.d held.some held.brackets)
