-- From true bounds and patterns that round them upward to the right bare answer, for any format.
use mathlib.Core.Path.{◌≡◌, refl, sym, ◌∙◌, ap, subst, subst⁻¹, subst₂}
use mathlib.Core.Logic.{◌⊎◌, inl, inr, ⊎_elim}
use Prim.Native.Nat.{ℕ, ◌*◌, ◌<◌}
use native.Mathlib.Omega.{arith}
use Rattle.patterns.proofs.UpLaws.{infinity_positive}
use Rattle.patterns.specs.Format.{Format, infinity, sign_bit}
use Rattle.patterns.specs.Value.{Finite, opposite}
use Rattle.patterns.specs.Rounding.{UpperPattern}
use Rattle.patterns.proofs.SignLaws.{infinity_below, opposite_opposite, finite_opposite}
use Rattle.meaning.specs.Fraction.{Fraction, ◌≼◌}
use Rattle.meaning.specs.Sets.{End, at, unbounded, span, ordered, Valid, valid_span, mirror_end}
use Rattle.meaning.specs.Pairs.{Pair, worth, minus_infinity, Proper, EmptyPair, empty_pair, end_of, set_of}
use Rattle.meaning.specs.Hull.{OfFormat, format_number, format_infinite, Hull}
use Rattle.meaning.specs.Statement.{HullOf}
use Rattle.meaning.specs.Supremum.{AtMost, at_most, Supremum, Mirrored, UpperEnd}
use Rattle.meaning.proofs.FractionLaws.{le_trans, eq_le, eq_ge, eq_refl}
use Rattle.meaning.proofs.HullLaws.{RoundedUp, hull_of_bounds, hull_of_nothing}
use Rattle.meaning.proofs.SupremumLaws.{at_most_lem, never_most, raise}
use Rattle.meaning.proofs.PairLaws.{end_finite, end_infinity, end_opposite, opposite_infinity, opposite_zero, infinity_not_finite, set_proper, set_empty}

-- A pattern that may be an upper end is a pattern of the format.
pub upper_pattern : (F : Format) {r : ℕ} → UpperPattern F r → r < 2 * sign_bit F
upper_pattern F {r} h = ⊎_elim (λ f. f.pattern) (λ e. omega (arith, infinity_below F)) h.number

module _ (F : Format) {u : End} {r : ℕ} (h : UpperEnd F u r) where
  of_finite : (f : Finite F r) → RoundedUp F u (at (worth F r))
  of_finite f =
      record {
        of_format = format_number (record { pattern = r; is_finite = f; is = eq_refl (worth F r) });
        above = λ w k. raise (at_most_lem k) (h.above f);
        least = λ w g k. raised w g (h.least g.pattern g.is_finite (raise (eq_le g.is) k));
      }
    where
      raised : (w : Fraction) (g : OfFormat F w) → Finite F r × (worth F r ≼ worth F g.pattern) → AtMost w (at (worth F r))
      raised w g l = at_most (le_trans l.1 (eq_ge g.is))

  of_infinity : r ≡ infinity F → RoundedUp F u unbounded
  of_infinity e =
      record {
        of_format = format_infinite;
        above = λ w k. absurd (never_most k);
        least = λ w g k. absurd (infinity_not_finite F (subst (Finite F) e (h.least g.pattern g.is_finite (raise (eq_le g.is) k)).0));
      }

  -- The rounded pattern bounds by the rounded end.
  pub rounded_up : RoundedUp F u (end_of F r)
  rounded_up =
      ⊎_elim (λ f. subst⁻¹ (RoundedUp F u) (end_finite F f) (of_finite f))
      (λ e. subst⁻¹ (RoundedUp F u) (ap (end_of F) e ∙ end_infinity F) (of_infinity e)) h.upper.number

-- The pair of two upper ends, the first negated.
abbrev pub pair_by : Format → (lo hi : ℕ) → Pair
pair_by F lo hi = record { lower = opposite F lo; upper = hi }

-- The true bounds of results, of which there are some, rounded outward as patterns are the right answer.
module _ (F : Format) (R : Fraction → Type 0) {u l : End} {lo hi : ℕ}
    (top : Supremum R u) (bottom : Supremum (Mirrored R) l) (up : UpperEnd F u hi) (down : UpperEnd F l lo) (s : Fraction) (some : R s) where
  hull : Hull F R (span (end_of F (opposite F lo)) (end_of F hi))
  hull =
      subst⁻¹ (λ (e : End). Hull F R (span e (end_of F hi))) (end_opposite F (upper_pattern F down.upper))
      (hull_of_bounds F R top bottom (rounded_up F up) (rounded_up F down) s some)

  lower_end_lem : Finite F lo ⊎ (lo ≡ infinity F) → Finite F (opposite F lo) ⊎ (opposite F lo ≡ minus_infinity F)
  lower_end_lem (inl f) = inl (finite_opposite F f)
  lower_end_lem (inr e) = inr (ap (opposite F) e ∙ opposite_infinity F)

  in_order_lem : Finite F (opposite F lo) → Finite F hi → worth F (opposite F lo) ≼ worth F hi
  in_order_lem f g = go (subst₂ (λ (a b : End). Valid (span a b)) (end_finite F f) (end_finite F g) hull.valid)
    where
      go : {a b : Fraction} → Valid (span (at a) (at b)) → a ≼ b
      go (valid_span (ordered h)) = h

  proper : Proper F (pair_by F lo hi)
  proper = record { lower_end = lower_end_lem down.upper.number; upper_end = up.upper.number; in_order = in_order_lem }

  not_zero_lem : opposite F lo ≡ 0 → ⊥
  not_zero_lem e = down.upper.not_minus_zero (sym (opposite_opposite F (upper_pattern F down.upper)) ∙ ap (opposite F) e ∙ opposite_zero F)

  pub set_of_ends : set_of F (pair_by F lo hi) ≡ span (mirror_end (end_of F lo)) (end_of F hi)
  set_of_ends = set_proper F (pair_by F lo hi) proper ∙ ap (λ (e : End). span e (end_of F hi)) (end_opposite F (upper_pattern F down.upper))

  pub hull_of_ends : HullOf F R (pair_by F lo hi)
  hull_of_ends =
      record {
        canonical = record { bare = inl proper; lower_zero = not_zero_lem; upper_zero = up.upper.not_minus_zero };
        hull = subst⁻¹ (Hull F R) (set_proper F (pair_by F lo hi) proper) hull;
      }

-- EMPTY's pair is the right answer where there are no results.
pub hull_of_none : (F : Format) (R : Fraction → Type 0) → ((r : Fraction) → R r → ⊥) → HullOf F R (empty_pair F)
unfolding minus_infinity
hull_of_none F R none =
    record {
      canonical = record { bare = inr is_empty; lower_zero = λ e. omega (arith, infinity_positive F); upper_zero = not_sign_lem };
      hull = subst⁻¹ (Hull F R) (set_empty F (empty_pair F) is_empty) (hull_of_nothing F R none);
    }
  where
    is_empty : EmptyPair F (empty_pair F)
    is_empty = record { lower_is = refl; upper_is = refl }

    not_sign_lem : minus_infinity F ≡ sign_bit F → ⊥
    not_sign_lem e = omega (arith, infinity_positive F)
