-- Hulls are unique as sets, and true bounds rounded outward make a hull. Both hold for any format.
use mathlib.Core.Path.{◌≡◌, refl, subst⁻¹}
use Prim.Native.Nat.{ℕ}
use native.Mathlib.Omega.{arith}
use Rattle.patterns.specs.Format.{Format}
use Rattle.patterns.specs.Value.{opposite}
use Rattle.patterns.proofs.SignLaws.{finite_opposite}
use Rattle.meaning.specs.Fraction.{Fraction, ◌≼◌, ◌≈◌, negated}
use Rattle.meaning.specs.Sets.{End, at, unbounded, Set, empty, span, Under, under, under_none, Over, over, over_none, Between, Member, SameSet, Ordered, ordered, no_lower, no_upper, valid_empty, valid_span, mirror_end}
use Rattle.meaning.specs.Hull.{OfFormat, EndOfFormat, format_number, format_infinite, SetOfFormat, format_empty, format_span, Hull}
use Rattle.meaning.specs.Supremum.{AtMost, at_most, Supremum, Mirrored}
use Rattle.meaning.proofs.FractionLaws.{le_refl, le_trans, neg_le, neg_eq}
use Rattle.meaning.proofs.SetLaws.{over_mirror}
use Rattle.meaning.proofs.PairLaws.{worth_opposite}

-- Two hulls of the same results are the same set.
pub hull_unique : {F : Format} {R : Fraction → Type 0} {Z W : Set} → Hull F R Z → Hull F R W → SameSet Z W
hull_unique {Z = Z} {W} h k = (h.narrowest W k.of_format k.holds, k.narrowest Z h.of_format h.holds)

-- The end e is the upper end u rounded upward to the format.
pub record RoundedUp (F : Format) (u e : End) : Type 0 where
  pub of_format : EndOfFormat F e
  pub above : (w : Fraction) → AtMost w e → AtMost w u
  pub least : (w : Fraction) → OfFormat F w → AtMost w u → AtMost w e

at_most_lem : {q w : Fraction} → AtMost w (at q) → q ≼ w
at_most_lem (at_most h) = h

below : {x y : Fraction} → Under x (at y) → x ≼ y
below (under h) = h

pub negated_of_format : (F : Format) {q : Fraction} → OfFormat F q → OfFormat F (negated q)
negated_of_format F {q} h =
    record {
      pattern = opposite F h.pattern;
      is_finite = finite_opposite F h.is_finite;
      is = subst⁻¹ (λ (w : Fraction). negated q ≈ w) (worth_opposite F h.is_finite.pattern) (neg_eq h.is);
    }

mirror_format : (F : Format) {e : End} → EndOfFormat F e → EndOfFormat F (mirror_end e)
mirror_format F format_infinite = format_infinite
mirror_format F (format_number h) = format_number (negated_of_format F h)

-- All of S are under its true upper bound rounded upward.
results_under : {F : Format} {S : Fraction → Type 0} {u e : End} → Supremum S u → RoundedUp F u e → (r : Fraction) → S r → Under r e
results_under {e = at q} s k r h = under (s.bounds q (k.above q (at_most (le_refl q))) r h)
results_under {e = unbounded} s k r h = under_none

-- Whatever is under that rounded bound is under every end of the format that all of S are under.
under_narrowest : {F : Format} {S : Fraction → Type 0} {u e w : End} → Supremum S u → RoundedUp F u e → EndOfFormat F w
    → ((r : Fraction) → S r → Under r w) → (x : Fraction) → Under x e → Under x w
under_narrowest s k format_infinite all x h = under_none
under_narrowest {w = at q} s k (format_number f) all x h = close (k.least q f (s.least q (λ r m. below (all r m)))) h
  where
    close : {e : End} → AtMost q e → Under x e → Under x (at q)
    close (at_most l) (under m) = under (le_trans m l)

over_mirrored : (f : End) (r : Fraction) → Under (negated r) f → Over r (mirror_end f)
over_mirrored (at q) r (under h) = over (neg_le h)
over_mirrored unbounded r under_none = over_none

under_mirrored : (f : End) (r : Fraction) → Over r (mirror_end f) → Under (negated r) f
under_mirrored (at q) r (over h) = under (neg_le h)
under_mirrored unbounded r over_none = under_none

to_over : (f : End) (r : Fraction) → Under (negated r) (mirror_end f) → Over r f
to_over (at q) r (under h) = over (neg_le h)
to_over unbounded r under_none = over_none

between_ordered : {a b : End} {r : Fraction} → Between a b r → Ordered a b
between_ordered {a = at p} {b = at q} h = go h.low h.high
  where
    go : {r : Fraction} → Over r (at p) → Under r (at q) → Ordered (at p) (at q)
    go (over k) (under l) = ordered (le_trans k l)
between_ordered {a = unbounded} h = no_lower
between_ordered {a = at p} {b = unbounded} h = no_upper

span_not_empty : {a b : End} → span a b ≡ empty → ⊥
span_not_empty h = let z : ◌≡◌ {A = ℕ} 0 1 = cc in omega arith

-- The true bounds of results, of which there are some, rounded outward are their hull.
module _ (F : Format) (R : Fraction → Type 0) {u l e f : End}
    (top : Supremum R u) (bottom : Supremum (Mirrored R) l) (up : RoundedUp F u e) (down : RoundedUp F l f) where
  hull_holds : (r : Fraction) → R r → Between (mirror_end f) e r
  hull_holds r h =
      record { low = over_mirrored f r (results_under bottom down (negated r) h); high = results_under top up r h }

  hull_narrowest : (s : Fraction) → R s → (W : Set) → SetOfFormat F W → ((r : Fraction) → R r → Member W r)
      → (x : Fraction) → Between (mirror_end f) e x → Member W x
  hull_narrowest s m empty format_empty all x h = absurd (all s m)
  hull_narrowest s m (span a b) (format_span k g) all x h =
      record {
        low =
            to_over a x
            (under_narrowest bottom down (mirror_format F k) (λ r n. over_mirror a (all (negated r) n).low) (negated x)
            (under_mirrored f x h.low));
        high = under_narrowest top up g (λ r n. (all r n).high) x h.high;
      }

  pub hull_of_bounds : (s : Fraction) → R s → Hull F R (span (mirror_end f) e)
  hull_of_bounds s m =
      record {
        valid = valid_span (between_ordered (hull_holds s m));
        of_format = format_span (mirror_format F down.of_format) up.of_format;
        empty_if = (λ h. absurd (span_not_empty h), λ none. absurd (none s m));
        holds = hull_holds;
        narrowest = hull_narrowest s m;
      }

-- EMPTY is the hull of no results.
pub hull_of_nothing : (F : Format) (R : Fraction → Type 0) → ((r : Fraction) → R r → ⊥) → Hull F R empty
hull_of_nothing F R none =
    record {
      valid = valid_empty;
      of_format = format_empty;
      empty_if = (λ h. none, λ h. refl);
      holds = none;
      narrowest = λ W k all x h. absurd h;
    }
