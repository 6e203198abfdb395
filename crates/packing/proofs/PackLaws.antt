-- A bracket of at most frac + 1 digits, packed at its exponent, is its value rounded: one law for every format.
use mathlib.Core.Bool.{Bool, true, false, false≢true, ◌&&◌}
use mathlib.Core.Path.{◌≡◌, sym, ◌∙◌, ap, ap₂, subst, subst₂}
use mathlib.Core.Logic.{inl, inr, ⊎_elim}
use Prim.Native.Nat.{ℕ, min, ◌+◌, ◌*◌, ◌-◌, ◌^◌, ◌<◌, ◌≤◌}
use native.Mathlib.Omega.{arith}
use native.Mathlib.Nat.{le_antisymm, le_of_eq, le_trans, lt_irrefl, lt_of_le_of_lt, lt_of_lt_of_le, min-le_left, min-le_right, mul-le-mul_right, mul-lt-mul_of_pos_right}
use lib.Arith.{lt_of_le-ne}
use Rattle.truth.specs.Answers.{Answers}
use Rattle.truth.proofs.AnswerLaws.{answers_iff, answers_and, answers_itself}
use Rattle.patterns.specs.Format.{Format, infinity}
use Rattle.patterns.specs.Value.{value}
use Rattle.patterns.specs.Rounding.{RoundsUp, RoundsDown, Representable}
use Rattle.patterns.proofs.ValueLaws.{le_or_lt, packed, value_mono, value_strict}
use Rattle.patterns.proofs.UpLaws.{infinity_positive}
use Rattle.packing.specs.Bracket.{Brackets, FineEnough}
use Rattle.packing.specs.Packing.{PacksUp, PacksDown, TellsRepresentable}

-- A pattern that is not below n / d and whose smaller ones are, cut at infinity's.
lands_up : (F : Format) (n d p : ℕ) → n ≤ value F.frac p * d → ((c : ℕ) → c < p → value F.frac c * d < n)
    → RoundsUp F n d (min p (infinity F))
lands_up F n d p above least = record {
  within = min-le_right p (infinity F);
  above = λ less. le_trans above (mul-le-mul_right d (value_mono F.frac (omega arith)));
  least = λ c less. least c (lt_of_lt_of_le less (min-le_left p (infinity F)));
}

module _ (F : Format) {n d q k : ℕ} {x : Bool} (some : 0 < d) (fine : FineEnough F.frac q k) (short : q < 2 ^ (F.frac + 1)) (b : Brackets n d q k x) where
  here : value F.frac (k * 2 ^ F.frac + q) ≡ q * 2 ^ k
  here = packed F.frac k q fine (omega arith)

  next : value F.frac (k * 2 ^ F.frac + (q + 1)) ≡ (q + 1) * 2 ^ k
  next = packed F.frac k (q + 1) (⊎_elim inl (λ full. inr (omega arith)) fine) (omega arith)

  exact_up : x ≡ true → RoundsUp F n d (min (k * 2 ^ F.frac + q) (infinity F))
  exact_up exact =
      let is : value F.frac (k * 2 ^ F.frac + q) * d ≡ n = ap (λ (v : ℕ). v * d) here ∙ b.told.0 exact in
      lands_up F n d _ (le_of_eq (sym is))
      (λ c less. lt_of_lt_of_le (mul-lt-mul_of_pos_right (value_strict F.frac less) some) (le_of_eq is))

  inexact_up : x ≡ false → RoundsUp F n d (min (k * 2 ^ F.frac + (q + 1)) (infinity F))
  inexact_up inexact =
      let above : n < value F.frac (k * 2 ^ F.frac + (q + 1)) * d = subst (λ (v : ℕ). n < v * d) (sym next) b.high in
      let below : q * 2 ^ k * d < n = lt_of_le-ne b.low (λ is. false≢true (sym inexact ∙ b.told.1 is)) in
      lands_up F n d _ (omega arith)
      (λ c less. lt_of_le_of_lt (mul-le-mul_right d (le_trans (value_mono F.frac (omega arith)) (le_of_eq here))) below)

  cut_down : RoundsDown F n d (min (k * 2 ^ F.frac + q) (infinity F - 1))
  cut_down = record {
    within = omega (arith, infinity_positive F);
    below = le_trans (mul-le-mul_right d (le_trans (value_mono F.frac (min-le_left _ _)) (le_of_eq here))) b.low;
    greatest = λ c more less.
        lt_of_lt_of_le b.high (mul-le-mul_right d (le_trans (le_of_eq (sym next)) (value_mono F.frac (omega arith))));
  }

  -- A value is a pattern's worth if it was not cut, and if the pattern of its digits is finite. No pattern lies between two neighbours.
  told_representable : {t : Bool} → Answers (k * 2 ^ F.frac + q < infinity F) t → Answers (Representable F n d) (x && t)
  told_representable finite = answers_iff forth back (answers_and (answers_itself x) finite)
    where
      forth : (x ≡ true) × (k * 2 ^ F.frac + q < infinity F) → Representable F n d
      forth h = record { pattern = k * 2 ^ F.frac + q; finite = h.1; eq = ap (λ (v : ℕ). v * d) here ∙ b.told.0 h.0 }

      not_above_lem : (r : Representable F n d) → r.pattern ≤ k * 2 ^ F.frac + q
      not_above_lem r =
          ⊎_elim (λ more. absurd (lt_irrefl n (lt_of_lt_of_le b.high (le_trans (le_of_eq (ap (λ (v : ℕ). v * d) (sym next)))
          (le_trans (mul-le-mul_right d (value_mono F.frac {b = r.pattern} (omega arith))) (le_of_eq r.eq))))))
          (λ less. omega arith) (le_or_lt (k * 2 ^ F.frac + (q + 1)) r.pattern)

      not_below_lem : (r : Representable F n d) → k * 2 ^ F.frac + q ≤ r.pattern
      not_below_lem r =
          ⊎_elim (λ le. le)
          (λ less. absurd (lt_irrefl n (lt_of_le_of_lt (le_of_eq (sym r.eq))
          (lt_of_lt_of_le (mul-lt-mul_of_pos_right (value_strict F.frac less) some) (le_trans (le_of_eq (ap (λ (v : ℕ). v * d) here)) b.low)))))
          (le_or_lt (k * 2 ^ F.frac + q) r.pattern)

      back : Representable F n d → (x ≡ true) × (k * 2 ^ F.frac + q < infinity F)
      back r =
          let same : k * 2 ^ F.frac + q ≡ r.pattern = le_antisymm (not_below_lem r) (not_above_lem r) in
          (b.told.1 (ap (λ (v : ℕ). v * d) (sym here) ∙ ap (λ (c : ℕ). value F.frac c * d) same ∙ r.eq), lt_of_le_of_lt (le_of_eq same) r.finite)

-- The same, told by the width of the fraction and the exponent field of infinity alone.
module _ {frac codes q k : ℕ} (fine : FineEnough frac q k) (short : q < 2 ^ (frac + 1)) where
  module _ (F : Format) (fracs : F.frac ≡ frac) (codess : F.codes ≡ codes) where
    fine_in : FineEnough F.frac q k
    fine_in = subst (λ (h : ℕ). FineEnough h q k) (sym fracs) fine

    short_in : q < 2 ^ (F.frac + 1)
    short_in = subst (λ (h : ℕ). q < 2 ^ (h + 1)) (sym fracs) short

    infinity_in : codes * 2 ^ frac ≡ infinity F
    unfolding infinity
    infinity_in = ap₂ (λ (s h : ℕ). s * 2 ^ h) (sym codess) (sym fracs)

    pattern_in : (m : ℕ) → k * 2 ^ frac + m ≡ k * 2 ^ F.frac + m
    pattern_in m = ap (λ (h : ℕ). k * 2 ^ h + m) (sym fracs)

  pub packs_exact : {x : Bool} → x ≡ true → {r most : ℕ} → most ≡ codes * 2 ^ frac → r ≡ min (k * 2 ^ frac + q) most → PacksUp frac codes q k x r
  packs_exact exact most lands F fracs codess n d some b =
      subst (RoundsUp F n d) (sym (lands ∙ ap₂ min (pattern_in F fracs codess q) (most ∙ infinity_in F fracs codess)))
      (exact_up F some (fine_in F fracs codess) (short_in F fracs codess) b exact)

  pub packs_inexact : {x : Bool} → x ≡ false → {r most : ℕ} → most ≡ codes * 2 ^ frac → r ≡ min (k * 2 ^ frac + (q + 1)) most → PacksUp frac codes q k x r
  packs_inexact inexact most lands F fracs codess n d some b =
      subst (RoundsUp F n d) (sym (lands ∙ ap₂ min (pattern_in F fracs codess (q + 1)) (most ∙ infinity_in F fracs codess)))
      (inexact_up F some (fine_in F fracs codess) (short_in F fracs codess) b inexact)

  pub packs_down : {x : Bool} → {r most : ℕ} → most ≡ codes * 2 ^ frac → r ≡ min (k * 2 ^ frac + q) (most - 1) → PacksDown frac codes q k x r
  packs_down most lands F fracs codess n d some b =
      subst (RoundsDown F n d) (sym (lands ∙ ap₂ min (pattern_in F fracs codess q) (ap (λ (i : ℕ). i - 1) (most ∙ infinity_in F fracs codess))))
      (cut_down F some (fine_in F fracs codess) (short_in F fracs codess) b)

  pub packs_representable : (x : Bool) {t : Bool} → Answers (k * 2 ^ frac + q < codes * 2 ^ frac) t → TellsRepresentable frac codes q k x (x && t)
  packs_representable x {t} finite F fracs codess n d some b =
      told_representable F some (fine_in F fracs codess) (short_in F fracs codess) b
      (subst₂ (λ (p i : ℕ). Answers (p < i) t) (pattern_in F fracs codess q) (infinity_in F fracs codess) finite)
