-- The tests for jumps, from comparisons of ends.
use mathlib.Core.Bool.{Bool, true, false}
use mathlib.Core.Path.{◌≡◌, refl, sym, ◌∙◌, subst, subst₂, subst⁻¹}
use mathlib.Core.Logic.{◌⊎◌, inl, inr}
use Prim.Native.Nat.{ℕ, ◌*◌, ◌<◌}
use native.Mathlib.Omega.{arith}
use borrow.Author.Tests.{ltb-true}
use lib.Dec.{ltb}
use Rattle.patterns.specs.Format.{Format, infinity, sign_bit}
use Rattle.patterns.specs.Value.{magnitude, Finite}
use Rattle.patterns.proofs.ValueLaws.{value_zero}
use Rattle.patterns.proofs.SignLaws.{finite_positive}
use Rattle.meaning.specs.Fraction.{Fraction, ◌≈◌, ◌⊕◌, whole, half, Whole}
use Rattle.meaning.specs.Sets.{End, at, Set, empty, span, SameEnd, same_number}
use Rattle.meaning.specs.Points.{Unary}
use Rattle.meaning.specs.Results.{Result₁}
use Rattle.meaning.specs.Pairs.{Pair, worth, Proper, EmptyPair, Bare, empty_pair, end_by, end_of, set_of}
use Rattle.meaning.specs.Decorations as meant
use Rattle.meaning.specs.Decorations.{LowersAgree, lowers_agree, UppersAgree, uppers_agree, HalfEnd, half_lower, half_upper, ZeroLower, zero_lower, DacTest, Stepped, Allows₁}
use Rattle.meaning.specs.Statement.{HullOf}
use Rattle.meaning.proofs.FractionLaws.{eq_sym, eq_trans}
use Rattle.meaning.proofs.PairLaws.{end_finite, set_proper}
use Rattle.meaning.proofs.Unique.{hull_once}
use Rattle.truth.specs.Answers.{Answers}
use Rattle.truth.proofs.AnswerLaws.{answers_iff}
use Rattle.end_pairs.proofs.EmptyLaws.{not_empty_lem, empty_hull₁}
use Rattle.wholes.specs.Made.{operation}
use Rattle.wholes.specs.declared.functions.Function.{Function}
use Rattle.wholes.proofs.EnclosureLaws.{natural}
use Rattle.integer.specs.Jumping.{HalfAt, half_at}

module _ {a b c d : End} {t : Bool} where
  lowers_test : Answers (SameEnd a c) t → Answers (LowersAgree (span a b) (span c d)) t
  lowers_test = answers_iff lowers_agree only
    where
      only : LowersAgree (span a b) (span c d) → SameEnd a c
      only (lowers_agree s) = s

  uppers_test : Answers (SameEnd b d) t → Answers (UppersAgree (span a b) (span c d)) t
  uppers_test = answers_iff uppers_agree only
    where
      only : UppersAgree (span a b) (span c d) → SameEnd b d
      only (uppers_agree s) = s

half_when : {a b : End} → HalfAt a ⊎ HalfAt b → HalfEnd (span a b)
half_when (inl (half_at w)) = half_lower w
half_when (inr (half_at w)) = half_upper w

half_only : {a b : End} → HalfEnd (span a b) → HalfAt a ⊎ HalfAt b
half_only (half_lower w) = inl (half_at w)
half_only (half_upper w) = inr (half_at w)

zero_when : {a b : End} {q : Fraction} → q ≈ whole 0 → SameEnd a (at q) → ZeroLower (span a b)
zero_when e (same_number s) = zero_lower (eq_trans s e)

zero_only : {a b : End} {q : Fraction} → q ≈ whole 0 → ZeroLower (span a b) → SameEnd a (at q)
zero_only e (zero_lower s) = same_number (eq_trans s (eq_sym e))

module _ (F : Format) {p q : Pair} (h : Proper F p) (k : Proper F q) {t : Bool} where
  pub answers_lowers : Answers (SameEnd (end_of F p.lower) (end_of F q.lower)) t → Answers (LowersAgree (set_of F p) (set_of F q)) t
  answers_lowers a = subst₂ (λ (X Z : Set). Answers (LowersAgree X Z) t) (sym (set_proper F p h)) (sym (set_proper F q k)) (lowers_test a)

  pub answers_uppers : Answers (SameEnd (end_of F p.upper) (end_of F q.upper)) t → Answers (UppersAgree (set_of F p) (set_of F q)) t
  answers_uppers a = subst₂ (λ (X Z : Set). Answers (UppersAgree X Z) t) (sym (set_proper F p h)) (sym (set_proper F q k)) (uppers_test a)

module _ (F : Format) {p : Pair} (h : Proper F p) where
  -- A span has an end with fractional part one half if its lower or its upper end has it.
  pub half_some : HalfAt (end_of F p.lower) ⊎ HalfAt (end_of F p.upper) → HalfEnd (set_of F p)
  half_some s = subst⁻¹ HalfEnd (set_proper F p h) (half_when s)

  pub some_half : HalfEnd (set_of F p) → HalfAt (end_of F p.lower) ⊎ HalfAt (end_of F p.upper)
  some_half s = half_only (subst HalfEnd (set_proper F p h) s)

  pub answers_zero : {t : Bool} → 0 < infinity F → Answers (SameEnd (end_of F p.lower) (end_of F 0)) t → Answers (ZeroLower (set_of F p)) t
  answers_zero {t} f a =
      subst⁻¹ (λ (X : Set). Answers (ZeroLower X) t) (set_proper F p h)
      (answers_iff (zero_when zero) (zero_only zero)
      (subst (λ (e : End). Answers (SameEnd (end_of F p.lower) e) t) (end_finite F (finite_positive F f)) a))
    where
      zero : worth F 0 ≈ whole 0
      zero = natural F 0 f (value_zero F.frac ∙ omega arith)

module _ (F : Format) {b : ℕ} where
  pub answers_half : {t : Bool} → Finite F b → Answers (Whole (worth F b ⊕ half)) t → Answers (HalfAt (end_of F b)) t
  answers_half {t} f a = subst⁻¹ (λ (e : End). Answers (HalfAt e) t) (end_finite F f) (answers_iff half_at only a)
    where
      only : HalfAt (at (worth F b)) → Whole (worth F b ⊕ half)
      only (half_at w) = w

  -- Only a finite end has a fractional part.
  pub half_finite : b < 2 * sign_bit F → HalfAt (end_of F b) → Finite F b
  unfolding end_of
  half_finite pattern = go (ltb (magnitude F b) (infinity F)) refl
    where
      go : (t : Bool) → ltb (magnitude F b) (infinity F) ≡ t → HalfAt (end_by t (worth F b)) → Finite F b
      go true e s = record { pattern = pattern; finite = ltb-true (magnitude F b) (infinity F) e }
      go false e s = absurd (elim s [ ])

-- What each function allows goes by its steps.
pub allows : (f : Function) (X Z : Set) {d : meant.Decoration} → Stepped (DacTest (operation f) X Z) Z d → Allows₁ (operation f) X Z d
allows Function.Ceil X Z s = s
allows Function.Floor X Z s = s
allows Function.Round X Z s = s
allows Function.RoundTiesEven X Z s = s
allows Function.Sign X Z s = s
allows Function.Trunc X Z s = s

module _ (F : Format) (op : Unary) {p q : Pair} (b : Bare F p) (h : HullOf F (Result₁ op (set_of F p)) q) (n : EmptyPair F q → ⊥) where
  -- Results that are not empty come from an operand that is not.
  pub operand_proper : Proper F p
  operand_proper =
      not_empty_lem F b
      (λ e. n (subst⁻¹ (EmptyPair F) (hull_once F (Result₁ op (set_of F p)) q (empty_pair F) h (empty_hull₁ F op p e)) (record { lower_is = refl; upper_is = refl })))

  pub result_proper : Proper F q
  result_proper = not_empty_lem F h.canonical.bare n

pub proper_some : (F : Format) {q : Pair} → Proper F q → set_of F q ≡ empty → ⊥
proper_some F {q} h e =
    let same : span (end_of F q.lower) (end_of F q.upper) ≡ empty = sym (set_proper F q h) ∙ e in
    let z : ◌≡◌ {A = ℕ} 0 1 = cc in
    omega arith
