-- The set of a valid pair, seen by its ends.
use mathlib.Core.Bool.{Bool}
use mathlib.Core.Path.{◌≡◌, refl, sym, ◌∙◌, ap, subst, subst⁻¹}
use mathlib.Core.Logic.{◌⊎◌, inl, inr}
use Prim.Native.Nat.{ℕ}
use native.Mathlib.Omega.{arith}
use Rattle.patterns.specs.Format.{Format, infinity}
use Rattle.patterns.specs.Value.{Finite}
use Rattle.meaning.specs.Fraction.{◌≼◌}
use Rattle.meaning.specs.Sets.{End, at, unbounded, Set, empty, span}
use Rattle.meaning.specs.Pairs.{Pair, worth, minus_infinity, Proper, EmptyPair, Bare, end_of, set_of}
use Rattle.meaning.specs.Decorations.{Common, common, Point, one}
use Rattle.meaning.proofs.FractionLaws.{antisymm, eq_ge}
use Rattle.meaning.proofs.PairLaws.{end_finite, end_infinity, end_minus_infinity, infinities_differ, infinity_not_finite, minus_infinity_not_finite, lower_not_infinity, set_proper, set_empty}
use Rattle.truth.specs.Answers.{Answers}
use Rattle.truth.proofs.AnswerLaws.{answers_iff}

pub data LowerShape (F : Format) (n : ℕ) : End → Type 0 where
  lower_finite : Finite F n → LowerShape F n (at (worth F n))
  lower_infinite : n ≡ minus_infinity F → LowerShape F n unbounded

pub data UpperShape (F : Format) (n : ℕ) : End → Type 0 where
  upper_finite : Finite F n → UpperShape F n (at (worth F n))
  upper_infinite : n ≡ infinity F → UpperShape F n unbounded

pub data Shape (F : Format) (p : Pair) : Set → Type 0 where
  shape_empty : EmptyPair F p → Shape F p empty
  shape_span : {a b : End} → Proper F p → LowerShape F p.lower a → UpperShape F p.upper b → Shape F p (span a b)

lower_shape : (F : Format) (n : ℕ) → Finite F n ⊎ (n ≡ minus_infinity F) → LowerShape F n (end_of F n)
lower_shape F n (inl f) = subst⁻¹ (LowerShape F n) (end_finite F f) (lower_finite f)
lower_shape F n (inr e) = subst⁻¹ (LowerShape F n) (ap (end_of F) e ∙ end_minus_infinity F) (lower_infinite e)

upper_shape : (F : Format) (n : ℕ) → Finite F n ⊎ (n ≡ infinity F) → UpperShape F n (end_of F n)
upper_shape F n (inl f) = subst⁻¹ (UpperShape F n) (end_finite F f) (upper_finite f)
upper_shape F n (inr e) = subst⁻¹ (UpperShape F n) (ap (end_of F) e ∙ end_infinity F) (upper_infinite e)

pub shape : (F : Format) (p : Pair) → Bare F p → Shape F p (set_of F p)
shape F p (inl h) =
    subst⁻¹ (Shape F p) (set_proper F p h)
    (shape_span h (lower_shape F p.lower h.lower_end) (upper_shape F p.upper h.upper_end))
shape F p (inr e) = subst⁻¹ (Shape F p) (set_empty F p e) (shape_empty e)

module _ (F : Format) {p : Pair} where
  pub nothing_when : {Z : Set} → Shape F p Z → EmptyPair F p → Z ≡ empty
  nothing_when (shape_empty e) q = refl
  nothing_when (shape_span h l u) q = absurd (lower_not_infinity F p h q.lower_is)

  pub nothing_only : {Z : Set} → Shape F p Z → Z ≡ empty → EmptyPair F p
  nothing_only (shape_empty e) q = e
  nothing_only (shape_span h l u) q = let z : ◌≡◌ {A = ℕ} 0 1 = cc in absurd (omega arith)

  pub all_when : {Z : Set} → Shape F p Z → p.lower ≡ minus_infinity F → p.upper ≡ infinity F → Z ≡ span unbounded unbounded
  all_when (shape_empty e) l u = absurd (infinities_differ F (sym e.lower_is ∙ l))
  all_when (shape_span h (lower_finite f) v) l u = absurd (minus_infinity_not_finite F (subst (Finite F) l f))
  all_when (shape_span h (lower_infinite e) (upper_finite g)) l u = absurd (infinity_not_finite F (subst (Finite F) u g))
  all_when (shape_span h (lower_infinite e) (upper_infinite q)) l u = refl

  pub all_only : {Z : Set} → Shape F p Z → Z ≡ span unbounded unbounded → (p.lower ≡ minus_infinity F) × (p.upper ≡ infinity F)
  all_only (shape_empty e) q = let z : ◌≡◌ {A = ℕ} 0 1 = cc in absurd (omega arith)
  all_only (shape_span h (lower_finite f) v) q = let z : ◌≡◌ {A = ℕ} 0 1 = cc in absurd (omega arith)
  all_only (shape_span h (lower_infinite e) (upper_finite g)) q = let z : ◌≡◌ {A = ℕ} 0 1 = cc in absurd (omega arith)
  all_only (shape_span h (lower_infinite e) (upper_infinite u)) q = (e, u)

  -- An interval is nonempty and bounded if both ends are finite.
  pub common_when : {Z : Set} → Shape F p Z → Finite F p.lower × Finite F p.upper → Common Z
  common_when (shape_empty e) f = absurd (infinity_not_finite F (subst (Finite F) e.lower_is f.0))
  common_when (shape_span h (lower_finite l) (upper_finite u)) f = common
  common_when (shape_span h (lower_finite l) (upper_infinite u)) f = absurd (infinity_not_finite F (subst (Finite F) u f.1))
  common_when (shape_span h (lower_infinite l) v) f = absurd (minus_infinity_not_finite F (subst (Finite F) l f.0))

  pub common_only : {Z : Set} → Shape F p Z → Common Z → Finite F p.lower × Finite F p.upper
  common_only (shape_span h (lower_finite l) (upper_finite u)) common = (l, u)
  common_only (shape_empty _) k = elim k [ ]
  common_only (shape_span h (lower_finite l) (upper_infinite _)) k = elim k [ ]
  common_only (shape_span h (lower_infinite _) _) k = elim k [ ]

  pub point_when : {Z : Set} → Shape F p Z → Finite F p.lower × Finite F p.upper
      → worth F p.upper ≼ worth F p.lower → Point Z
  point_when (shape_empty e) f k = absurd (infinity_not_finite F (subst (Finite F) e.lower_is f.0))
  point_when (shape_span h (lower_finite l) (upper_finite u)) f k = one (antisymm (h.in_order l u) k)
  point_when (shape_span h (lower_finite l) (upper_infinite u)) f k = absurd (infinity_not_finite F (subst (Finite F) u f.1))
  point_when (shape_span h (lower_infinite l) v) f k = absurd (minus_infinity_not_finite F (subst (Finite F) l f.0))

  pub point_bounded : {Z : Set} → Shape F p Z → Point Z → Finite F p.lower × Finite F p.upper
  point_bounded (shape_span h (lower_finite l) (upper_finite u)) (one e) = (l, u)
  point_bounded (shape_empty _) k = elim k [ ]
  point_bounded (shape_span h (lower_finite l) (upper_infinite _)) k = elim k [ ]
  point_bounded (shape_span h (lower_infinite _) _) k = elim k [ ]

  pub point_only : {Z : Set} → Shape F p Z → Point Z → worth F p.upper ≼ worth F p.lower
  point_only (shape_span h (lower_finite l) (upper_finite u)) (one e) = eq_ge e
  point_only (shape_empty _) k = elim k [ ]
  point_only (shape_span h (lower_finite l) (upper_infinite _)) k = elim k [ ]
  point_only (shape_span h (lower_infinite _) _) k = elim k [ ]

-- A question on the ends of a valid pair answers one on its set.
module _ (F : Format) (p : Pair) (b : Bare F p) {t : Bool} where
  pub answers_nothing : Answers (EmptyPair F p) t → Answers (set_of F p ≡ empty) t
  answers_nothing = answers_iff (nothing_when F (shape F p b)) (nothing_only F (shape F p b))

  pub answers_common : Answers (Finite F p.lower × Finite F p.upper) t → Answers (Common (set_of F p)) t
  answers_common = answers_iff (common_when F (shape F p b)) (common_only F (shape F p b))
