-- The greater of two rounded ends is the greater end rounded, and that one is exact as the end is of which it is.
use mathlib.Core.Bool.{Bool, true, false}
use mathlib.Core.Path.{◌≡◌, refl, ap, ◌∙◌, subst, subst⁻¹}
use mathlib.Core.Logic.{◌⊎◌, inl, inr, ⊎_elim}
use Prim.Native.Nat.{ℕ}
use native.Mathlib.Omega.{arith}
use Rattle.truth.specs.Answers.{Answers, affirmed}
use Rattle.truth.proofs.AnswerLaws.{answers_iff, said_yes, said_no}
use Rattle.patterns.specs.Format.{Format, infinity}
use Rattle.patterns.specs.Value.{Finite}
use Rattle.patterns.specs.Rounding.{UpperPattern}
use Rattle.meaning.specs.Fraction.{Fraction, ◌≼◌, ◌≺◌}
use Rattle.meaning.specs.Sets.{End, at, unbounded, SameEnd}
use Rattle.meaning.specs.Pairs.{worth, end_of}
use Rattle.meaning.specs.Supremum.{AtMost, at_most, UpperEnd}
use Rattle.meaning.proofs.ExactEnds.{UpperEndTold}
use Rattle.meaning.proofs.FractionLaws.{le_refl, lt_le, lt_not_le, eq_refl}
use Rattle.meaning.proofs.PairLaws.{end_finite, end_infinity}
use Rattle.meaning.proofs.PatternHull.{upper_pattern, rounded_up}
use Rattle.meaning.proofs.SupremumLaws.{at_most_lem, never_most, raise, same_most, same_sym, same_by}
use Rattle.meaning.proofs.Unique.{upper_unique}
use Rattle.theorem3.specs.Ends.{greater_end}
use Rattle.theorem3.proofs.Bounds.{greater_cases, greater_most, most_first, most_second}
use Rattle.end_pairs.specs.Keys.{key_of}
use Rattle.end_pairs.specs.Order as order
use Rattle.end_pairs.proofs.KeyLaws.{key_lt, finite_keys}

module _ (F : Format) {u v : End} {r s : ℕ} (up : UpperEnd F u r) (vp : UpperEnd F v s) where
  -- What is at most a finite upper end is finite.
  finite_below : worth F r ≼ worth F s → Finite F s → Finite F r
  finite_below h f = ⊎_elim (λ g. g) (λ e. absurd (lt_not_le (beyond e) h)) up.upper.number
    where
      beyond : r ≡ infinity F → worth F s ≺ worth F r
      beyond e = key_lt F f.pattern (upper_pattern F up.upper) (omega (arith, ap (key_of F) e, (finite_keys F f).1))

  -- s is w rounded, where w is the greater of u and v.
  second_greatest : worth F r ≼ worth F s → {w : End} → ((x : Fraction) → AtMost x u → AtMost x v → AtMost x w)
      → ((x : Fraction) → AtMost x w → AtMost x v) → UpperEnd F w s
  second_greatest h both second =
      record {
        upper = vp.upper;
        above = λ f. both (worth F s) (raise h (up.above (finite_below h f))) (vp.above f);
        least = λ c f k. vp.least c f (second (worth F c) k);
      }

-- An end that is a pattern's rounds to that pattern.
rounds_itself : (F : Format) {u : End} {r s : ℕ} → UpperEnd F u r → UpperPattern F s → SameEnd u (end_of F s) → r ≡ s
rounds_itself F {u} {r} {s} up upper same = upper_unique F up.upper upper (same_by (λ w k. same_most same ((rounded_up F up).above w k)) back)
  where
    at_worth : Finite F s → (w : Fraction) → AtMost w (at (worth F s)) → AtMost w (end_of F r)
    at_worth f w k =
        raise (at_most_lem k)
        ((rounded_up F up).least (worth F s) (record { pattern = s; is_finite = f; is = eq_refl (worth F s) })
        (same_most (same_sym same) (subst⁻¹ (AtMost (worth F s)) (end_finite F f) (at_most (le_refl (worth F s))))))

    back : (w : Fraction) → AtMost w (end_of F s) → AtMost w (end_of F r)
    back w k =
        ⊎_elim (λ f. at_worth f w (subst (AtMost w) (end_finite F f) k))
        (λ e. absurd (never_most (subst (AtMost w) (ap (end_of F) e ∙ end_infinity F) k))) upper.number

-- w is the greater of u and v, and it is one of them.
pub record GreaterOf (u v w : End) : Type 0 where
  both : (x : Fraction) → AtMost x u → AtMost x v → AtMost x w
  first : (x : Fraction) → AtMost x w → AtMost x u
  second : (x : Fraction) → AtMost x w → AtMost x v
  one : (w ≡ u) ⊎ (w ≡ v)

pub exchanged : {u v w : End} → GreaterOf u v w → GreaterOf v u w
exchanged g = record { both = λ x k l. g.both x l k; first = g.second; second = g.first; one = ⊎_elim inr inl g.one }

pub greater_of : (u v : End) → GreaterOf u v (greater_end u v)
greater_of u v = record { both = λ x. greater_most x u v; first = λ x. most_first x u v; second = λ x. most_second x u v; one = one_of u v }
  where
    one_of : (u v : End) → (greater_end u v ≡ u) ⊎ (greater_end u v ≡ v)
    one_of (at p) (at q) = ⊎_elim (λ c. inr (ap at c.0)) (λ c. inl (ap at c.0)) (greater_cases p q)
    one_of (at p) unbounded = inr refl
    one_of unbounded v = inl refl

module _ (F : Format) {u v w : End} {r s : ℕ} {x y : Bool} (up : UpperEndTold F u r x) (vp : UpperEndTold F v s y) (g : GreaterOf u v w) where
  rounded_second : worth F r ≼ worth F s → UpperEnd F w s
  rounded_second h = second_greatest F up.rounded vp.rounded h g.both g.second

  -- The second decides, unless the first is the pattern s itself.
  decides : worth F r ≼ worth F s → (SameEnd u (end_of F s) → ⊥) → UpperEndTold F w s y
  decides h other = record { rounded = rounded_second h; told = answers_iff forth back vp.told }
    where
      forth : SameEnd v (end_of F s) → SameEnd w (end_of F s)
      forth same = same_by (λ q k. same_most same (g.second q k)) (rounded_up F (rounded_second h)).above

      back : SameEnd w (end_of F s) → SameEnd v (end_of F s)
      back same =
          ⊎_elim (λ e. absurd (other (subst (λ (w : End). SameEnd w (end_of F s)) e same))) (λ e. subst (λ (w : End). SameEnd w (end_of F s)) e same) g.one

  -- Of two patterns the greater is that of the greater end.
  pub greatest : worth F r ≼ worth F s → (r ≡ s → ⊥) → UpperEndTold F w s y
  greatest h differ = decides h (λ same. differ (rounds_itself F up.rounded vp.rounded.upper same))

  -- On a tie an end that is not exact is not the greater, but where the other is not either.
  pub tied_inexact : r ≡ s → x ≡ false → UpperEndTold F w s y
  tied_inexact tie inexact =
      decides (subst (λ (s : ℕ). worth F r ≼ worth F s) tie (le_refl (worth F r)))
      (subst (λ (s : ℕ). SameEnd u (end_of F s) → ⊥) tie (said_no up.told inexact))

-- On a tie an end that is exact is the greater.
pub tied_exact : (F : Format) {u v w : End} {r s : ℕ} {x y : Bool} → UpperEndTold F u r x → UpperEndTold F v s y → GreaterOf u v w → r ≡ s → x ≡ true → UpperEndTold F w r x
tied_exact F {u} {v} {w} {r} {x = x} up vp g tie exact = record { rounded = rounded; told = subst⁻¹ (Answers (SameEnd w (end_of F r))) exact (affirmed same) }
  where
    rounded : UpperEnd F w r
    rounded = rounded_second F vp up (exchanged g) (subst (λ (s : ℕ). worth F s ≼ worth F r) tie (le_refl (worth F r)))

    same : SameEnd w (end_of F r)
    same = same_by (λ q k. same_most (said_yes up.told exact) (g.first q k)) (rounded_up F rounded).above

-- The rounded ends alone.
pub greater_rounded : (F : Format) {u v : End} {r s t : ℕ} → UpperEnd F u r → UpperEnd F v s → order.GreaterOf F r s t → UpperEnd F (greater_end u v) t
greater_rounded F {u} {v} up vp (order.greater_is_first l) =
    second_greatest F vp up (lt_le l) (λ x k l. greater_most x u v l k) (λ x. most_first x u v)
greater_rounded F {u} {v} up vp (order.greater_is_second h) = second_greatest F up vp h (λ x. greater_most x u v) (λ x. most_second x u v)
