-- A pair whose ends are the true bounds of the results is their hull, and the same pair tidied is the right answer.
use mathlib.Core.Path.{◌≡◌, refl, sym, ◌∙◌, ap, ap₂, subst, subst⁻¹}
use mathlib.Core.Logic.{◌⊎◌, inl, inr}
use Prim.Native.Nat.{ℕ}
use Rattle.patterns.specs.Format.{Format, infinity}
use Rattle.patterns.specs.Value.{Finite, opposite}
use Rattle.patterns.proofs.SignLaws.{finite_opposite}
use Rattle.meaning.specs.Fraction.{Fraction, negated}
use Rattle.meaning.specs.Sets.{End, at, unbounded, Set, empty, span, Member, Inside, Ordered, ordered, no_lower, no_upper, Valid, valid_empty, valid_span, mirror_end}
use Rattle.meaning.specs.Pairs.{Pair, worth, minus_infinity, Proper, end_of, set_of}
use Rattle.meaning.specs.Hull.{EndOfFormat, format_number, format_infinite, Hull}
use Rattle.meaning.specs.Supremum.{at_most}
use Rattle.meaning.specs.Statement.{HullOf}
use Rattle.meaning.specs.Bytes.{Tidied}
use Rattle.meaning.proofs.FractionLaws.{le_refl, le_trans, eq_refl, neg_le}
use Rattle.meaning.proofs.SetLaws.{mirror_end_twice, some_member}
use Rattle.meaning.proofs.PairLaws.{worth_opposite, opposite_minus_infinity, end_finite, end_infinity, end_minus_infinity, lower_not_infinity, set_proper, set_valid}
use Rattle.meaning.proofs.HullLaws.{RoundedUp, hull_of_bounds}
use Rattle.points.specs.Ends.{Bounds}
use Rattle.end_pairs.proofs.Shapes.{LowerShape, lower_finite, lower_infinite, UpperShape, upper_finite, upper_infinite, Shape, shape_empty, shape_span, shape}
use Rattle.end_pairs.proofs.ExactHull.{set_of_format}
use Rattle.set_op.proofs.EndOrder.{patterns_ordered}

-- The ends of the pair are the true bounds of the results.
pub record Exact (F : Format) (R : Fraction → Type 0) (p : Pair) : Type 0 where
  pub lower : End
  pub upper : End
  pub is_lower : LowerShape F p.lower lower
  pub is_upper : UpperShape F p.upper upper
  pub bounds : Bounds R upper (mirror_end lower)

-- A pair with members, seen by its ends.
pub data SpanOf (F : Format) (p : Pair) : Set → Type 0 where
  span_of : {a b : End} → Ordered a b → LowerShape F p.lower a → UpperShape F p.upper b → SpanOf F p (span a b)

pub span_of_lem : (F : Format) (p : Pair) → Proper F p → SpanOf F p (set_of F p)
span_of_lem F p h = go (shape F p (inl h)) (set_valid F p (inl h))
  where
    go : {X : Set} → Shape F p X → Valid X → SpanOf F p X
    go (shape_empty e) v = absurd (lower_not_infinity F p h e.lower_is)
    go (shape_span k l u) (valid_span o) = span_of o l u

module _ (F : Format) {n : ℕ} where
  lower_end_lem : {e : End} → LowerShape F n e → end_of F n ≡ e
  lower_end_lem (lower_finite f) = end_finite F f
  lower_end_lem (lower_infinite h) = ap (end_of F) h ∙ end_minus_infinity F

  upper_end_lem : {e : End} → UpperShape F n e → end_of F n ≡ e
  upper_end_lem (upper_finite f) = end_finite F f
  upper_end_lem (upper_infinite h) = ap (end_of F) h ∙ end_infinity F

  lower_pattern : {e : End} → LowerShape F n e → Finite F n ⊎ (n ≡ minus_infinity F)
  lower_pattern (lower_finite f) = inl f
  lower_pattern (lower_infinite h) = inr h

  upper_pattern : {e : End} → UpperShape F n e → Finite F n ⊎ (n ≡ infinity F)
  upper_pattern (upper_finite f) = inl f
  upper_pattern (upper_infinite h) = inr h

  -- The opposite of a lower end is the mirrored upper end.
  pub lower_opposite : {e : End} → LowerShape F n e → UpperShape F (opposite F n) (mirror_end e)
  lower_opposite (lower_finite f) =
      subst (λ (q : Fraction). UpperShape F (opposite F n) (at q)) (worth_opposite F f.pattern) (upper_finite (finite_opposite F f))
  lower_opposite (lower_infinite h) = upper_infinite (ap (opposite F) h ∙ opposite_minus_infinity F)

  upper_format : {e : End} → UpperShape F n e → EndOfFormat F e
  upper_format (upper_finite f) = format_number (record { pattern = n; is_finite = f; is = eq_refl (worth F n) })
  upper_format (upper_infinite h) = format_infinite

-- An end of the format rounds to itself.
exactly : (F : Format) {n : ℕ} {u : End} → UpperShape F n u → RoundedUp F u u
exactly F s = record { of_format = upper_format F s; above = λ w k. k; least = λ w g k. k }

-- True bounds are in order.
bounds_ordered : {R : Fraction → Type 0} {a b : End} → Bounds R b (mirror_end a) → Ordered a b
bounds_ordered {a = unbounded} h = no_lower
bounds_ordered {a = at a} {b = unbounded} h = no_upper
bounds_ordered {a = at a} {b = at b} h =
    let (r, m) = h.some in
    ordered
    (le_trans (neg_le (h.bottom.bounds (negated a) (at_most (le_refl (negated a))) (negated r) m))
    (h.top.bounds b (at_most (le_refl b)) r m))

module _ (F : Format) {R : Fraction → Type 0} (p : Pair) (x : Exact F R p) where
  pub exact_proper : Proper F p
  exact_proper =
      record {
        lower_end = lower_pattern F x.is_lower;
        upper_end = upper_pattern F x.is_upper;
        in_order = λ f g. patterns_ordered F x.is_lower x.is_upper (bounds_ordered x.bounds);
      }

  exact_hull : Hull F R (set_of F p)
  exact_hull =
      let (r, m) = x.bounds.some in
      let lower : end_of F p.lower ≡ mirror_end (mirror_end x.lower) = lower_end_lem F x.is_lower ∙ sym (mirror_end_twice x.lower) in
      subst⁻¹ (Hull F R) (set_proper F p exact_proper ∙ ap₂ span lower (upper_end_lem F x.is_upper))
      (hull_of_bounds F R x.bounds.top x.bounds.bottom (exactly F x.is_upper) (exactly F (lower_opposite F x.is_lower)) r m)

pub moved : {Z W : Set} → Z ≡ W → Inside Z W
moved e r m = subst (λ (X : Set). Member X r) e m

-- A valid set inside EMPTY is EMPTY.
inside_empty : {Z : Set} → Valid Z → Inside Z empty → Z ≡ empty
inside_empty valid_empty h = refl
inside_empty (valid_span o) h = let (r, m) = some_member o in absurd (h r m)

-- A hull tidied is the right answer.
tidied_hull : (F : Format) {R : Fraction → Type 0} {p q : Pair} → Hull F R (set_of F p) → Tidied F p q → HullOf F R q
tidied_hull F {q = q} h t =
    record {
      canonical = t.canonical;
      hull = record {
        valid = valid;
        of_format = set_of_format F q t.canonical.bare;
        empty_if = (
          λ e r m. moved e r (t.same.0 r (h.holds r m)),
          λ none. inside_empty valid (λ r m. moved (h.empty_if.1 none) r (t.same.1 r m)),
        );
        holds = λ r m. t.same.0 r (h.holds r m);
        narrowest = λ W f all r m. h.narrowest W f all r (t.same.1 r m);
      };
    }
  where
    valid : Valid (set_of F q)
    valid = set_valid F q t.canonical.bare

pub exact_answer_lem : (F : Format) {R : Fraction → Type 0} {p q : Pair} → Exact F R p → Tidied F p q → HullOf F R q
exact_answer_lem F {p = p} x t = tidied_hull F (exact_hull F p x) t
