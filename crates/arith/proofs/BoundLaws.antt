-- True bounds rounded upward, the lower ones mirrored, are the right answer.
use mathlib.Core.Bool.{true, false}
use mathlib.Core.Path.{◌≡◌, sym, ◌∙◌, ap, subst, subst⁻¹, subst₂}
use mathlib.Core.Logic.{inl}
use Prim.Native.Nat.{ℕ}
use Rattle.patterns.specs.Format.{Format}
use Rattle.patterns.specs.Value.{opposite}
use Rattle.meaning.specs.Fraction.{Fraction, negated}
use Rattle.meaning.specs.Sets.{End, Set, span, Member, Ordered, mirror_end, mirror}
use Rattle.meaning.specs.Classes.{Class, ClassOf}
use Rattle.meaning.specs.Pairs.{Pair, Proper, Bare, empty_pair, end_of, set_of}
use Rattle.meaning.specs.Points.{neg}
use Rattle.meaning.specs.Results.{Result₁}
use Rattle.meaning.specs.Statement.{HullOf}
use Rattle.meaning.specs.Supremum.{UpperEnd}
use Rattle.meaning.specs.Bytes.{Tidied}
use Rattle.meaning.proofs.FractionLaws.{eq_refl, eq_sym}
use Rattle.meaning.proofs.SetLaws.{member_mirror, mirror_member}
use Rattle.meaning.proofs.PairLaws.{end_opposite, set_proper, set_valid, proper_ordered}
use Rattle.meaning.proofs.PatternHull.{hull_of_ends, hull_of_none}
use Rattle.theorem3.specs.declared.Kind.{Kind}
use Rattle.theorem3.specs.declared.Corner.{Corner}
use Rattle.theorem3.specs.Ends.{sum_end, product_end, quotient_end}
use Rattle.theorem3.specs.Corners.{end_at, Divides}
use Rattle.theorem3.specs.Tables.{kind_of, mirror_kind, product_corner, quotient_corner, product_upper, quotient_upper}
use Rattle.theorem3.specs.Answer.{Arithmetic, adding, multiplying, dividing, Bounds, nothing, between, TrueBounds, no_results, some_results, is_zero, span_bounds}
use Rattle.theorem3.proofs.KindLaws.{kind_of_lem}
use Rattle.theorem3.proofs.ClassLaws.{class_right}
use Rattle.theorem3.proofs.Divisors.{table_divides}
use Rattle.theorem3.proofs.TrueBounds.{Results, sums_right, products_right, quotients_right}
use Rattle.end_pairs.proofs.TestLaws.{lower_pattern, upper_pattern}
use Rattle.end_pairs.specs.Mirror.{outward_pair, mirror_pair}
use Rattle.end_pairs.proofs.MirrorLaws.{mirror_set}
use Rattle.end_pairs.proofs.ExactHull.{member_same, exact_hull}

-- The ends of a proper pair, negated.
module _ (F : Format) (x : Pair) (proper : Proper F x) {r : ℕ} where
  lower_negated : r ≡ opposite F x.lower → end_of F r ≡ mirror_end (end_of F x.lower)
  lower_negated e = ap (end_of F) e ∙ end_opposite F (lower_pattern F proper.lower_end)

  upper_negated : r ≡ opposite F x.upper → end_of F r ≡ mirror_end (end_of F x.upper)
  upper_negated e = ap (end_of F) e ∙ end_opposite F (upper_pattern F proper.upper_end)

-- Operands [a, b] and [c, d].
module _ (F : Format) (x y : Pair) (proper : Proper F x × Proper F y) where
  abbrev a : End
  a = end_of F x.lower

  abbrev b : End
  b = end_of F x.upper

  abbrev c : End
  c = end_of F y.lower

  abbrev d : End
  d = end_of F y.upper

  -- Results on the operands are results on the spans, whose ends are in order.
  on_spans : (op : Arithmetic) {B : Bounds} → (Ordered a b → Ordered c d → TrueBounds (Results op (span a b) (span c d)) B)
      → TrueBounds (Results op (set_of F x) (set_of F y)) B
  on_spans op {B} right =
      subst₂ (λ (X Y : Set). TrueBounds (Results op X Y) B) (sym (set_proper F x proper.0)) (sym (set_proper F y proper.1))
      (right (proper_ordered F x proper.0) (proper_ordered F y proper.1))

  first_class : {j : Class} → ClassOf (set_of F x) j → ClassOf (span a b) j
  first_class {j} = subst (λ (X : Set). ClassOf X j) (set_proper F x proper.0)

  second_class : {k : Class} → ClassOf (set_of F y) k → ClassOf (span c d) k
  second_class {k} = subst (λ (Y : Set). ClassOf Y k) (set_proper F y proper.1)

  by_class : {j k : Class} → ClassOf (set_of F x) j → ClassOf (set_of F y) k → TrueBounds (Results dividing (set_of F x) (set_of F y)) (span_bounds dividing (kind_of j) k a b c d)
  by_class jx ky = on_spans dividing (λ h o. quotients_right h o (kind_of_lem (first_class jx)) (second_class ky))

  -- "Z | ∅"
  pub no_quotient : {k : Class} → ClassOf (set_of F y) k → is_zero k ≡ true → TrueBounds (Results dividing (set_of F x) (set_of F y)) nothing
  no_quotient ky e = rw e at (by_class (class_right (set_of F x) (set_valid F x (inl proper.0))) ky)

  -- The table divides by no end that is 0.
  pub divides : {k : Class} → ClassOf (set_of F y) k → (j : Kind) → Divides (quotient_corner j k) c d
  divides ky j = table_divides j (second_class ky)

  -- p and q are the lower ends a and c negated.
  module _ {p q : ℕ} (isP : p ≡ opposite F x.lower) (isQ : q ≡ opposite F y.lower) where
    pub sum_bounds : TrueBounds (Results adding (set_of F x) (set_of F y)) (between (sum_end (end_of F p) (end_of F q)) (sum_end b d))
    sum_bounds = rw (lower_negated F x proper.0 isP, lower_negated F y proper.1 isQ) (on_spans adding sums_right)

  -- m is the first operand mirrored, and the operands have the classes j and k.
  module _ {m : Pair} (is_m : m ≡ mirror_pair F x) {j k : Class} (jx : ClassOf (set_of F x) j) (ky : ClassOf (set_of F y) k) where
    mirrored_first : {R : Fraction → Type 0} (E : End → End → End) (corner : Corner) {u : End} → TrueBounds R (between (end_at E corner (mirror_end b) (mirror_end a) c d) u)
        → TrueBounds R (between (end_at E corner (end_of F m.lower) (end_of F m.upper) c d) u)
    mirrored_first {R} E corner {u} =
        subst₂ (λ (v w : End). TrueBounds R (between (end_at E corner v w c d) u))
        (sym (upper_negated F x proper.0 (ap (λ (p : Pair). p.lower) is_m)))
        (sym (lower_negated F x proper.0 (ap (λ (p : Pair). p.upper) is_m)))

    pub product_bounds : TrueBounds (Results multiplying (set_of F x) (set_of F y))
        (between (product_upper (mirror_kind (kind_of j)) (kind_of k) (end_of F m.lower) (end_of F m.upper) c d) (product_upper (kind_of j) (kind_of k) a b c d))
    product_bounds =
        mirrored_first product_end (product_corner (mirror_kind (kind_of j)) (kind_of k))
        (on_spans multiplying (λ h o. products_right h o (kind_of_lem (first_class jx)) (kind_of_lem (second_class ky))))

    pub quotient_bounds : is_zero k ≡ false → TrueBounds (Results dividing (set_of F x) (set_of F y))
        (between (quotient_upper (mirror_kind (kind_of j)) k (end_of F m.lower) (end_of F m.upper) c d) (quotient_upper (kind_of j) k a b c d))
    quotient_bounds e = mirrored_first quotient_end (quotient_corner (mirror_kind (kind_of j)) k) (rw e at (by_class jx ky))

-- Where there are no results, the answer is EMPTY; else z, with the lower end -lo and the upper end hi, if the true bounds round to them.
pub hull_nothing : (F : Format) {R : Fraction → Type 0} → TrueBounds R nothing → HullOf F R (empty_pair F)
hull_nothing F {R} (no_results none) = hull_of_none F R none

pub hull_between : (F : Format) {z : Pair} {lo hi : ℕ} → z ≡ outward_pair F lo hi → {R : Fraction → Type 0} {l u : End} → TrueBounds R (between l u)
    → UpperEnd F l lo → UpperEnd F u hi → HullOf F R z
hull_between F is {R} (some_results s m top bottom) down up = subst⁻¹ (HullOf F R) is (hull_of_ends F R top bottom up down s m)

-- The mirrored operand with its zeros tidied.
pub negation_hull : (F : Format) (x z : Pair) → Bare F x → {m : Pair} → m ≡ mirror_pair F x → Tidied F m z → HullOf F (Result₁ neg (set_of F x)) z
negation_hull F x z h {m} e t =
    exact_hull F (Result₁ neg (set_of F x)) z t.canonical
    (λ r i. t.same.0 r (subst⁻¹ (λ (X : Set). Member X r) is (member_same (mirror (set_of F x)) (eq_sym i.makes) (member_mirror (set_of F x) i.x i.in_x))))
    (λ r i. record { x = negated r; in_x = mirror_member (set_of F x) r (subst (λ (X : Set). Member X r) is (t.same.1 r i)); makes = eq_refl r })
  where
    is : set_of F m ≡ mirror (set_of F x)
    is = ap (set_of F) e ∙ mirror_set F x h
