-- A bound that results come up to is their true upper bound.
use mathlib.Core.Logic.{◌⊎◌, ⊎_elim}
use Rattle.meaning.specs.Fraction.{Fraction, ◌≼◌, ◌≺◌, whole}
use Rattle.meaning.specs.Sets.{End, at, unbounded, span, Under, under, Member, Ordered, under_none}
use Rattle.meaning.specs.Supremum.{UpperBound, AtMost, at_most, Supremum, Mirrored}
use Rattle.meaning.proofs.FractionLaws.{le_refl, le_trans, lt_le, lt_le_trans, lt_not_le}
use Rattle.meaning.proofs.SetLaws.{upper_member, upper_beyond}
use Rattle.points.specs.Ends.{◌⊑◌, numbers, none_above, Bounds}

-- Some result comes up to the end: to a number, or where there is none above every number.
pub data Reaches (R : Fraction → Type 0) : End → Type 0 where
  reaches : {q : Fraction} (r : Fraction) → R r → q ≼ r → Reaches R (at q)
  exceeds : ((q : Fraction) → (r : Fraction) × R r × (q ≺ r)) → Reaches R unbounded

-- All results are under the end, and some come up to it.
pub record Reached (R : Fraction → Type 0) (u : End) : Type 0 where
  pub bound : (r : Fraction) → R r → Under r u
  pub reach : Reaches R u

under_most : {r w : Fraction} {u : End} → Under r u → AtMost w u → r ≼ w
under_most (under h) (at_most k) = le_trans h k
under_most under_none h = elim h [ ]

reached_least : {R : Fraction → Type 0} {u : End} → Reaches R u → (w : Fraction) → UpperBound R w → AtMost w u
reached_least (reaches r m h) w b = at_most (le_trans h (b r m))
reached_least (exceeds f) w b = let (r, m, h) = f w in absurd (lt_not_le h (b r m))

pub reached_supremum : {R : Fraction → Type 0} {u : End} → Reached R u → Supremum R u
reached_supremum s = record { bounds = λ w k r m. under_most (s.bound r m) k; least = reached_least s.reach }

reached_some : {R : Fraction → Type 0} {u : End} → Reaches R u → (r : Fraction) × R r
reached_some (reaches r m h) = (r, m)
reached_some (exceeds f) = let (r, m, h) = f (whole 0) in (r, m)

pub reach_through : {R S : Fraction → Type 0} {u : End}
    → ((r : Fraction) → R r → (s : Fraction) × S s × (r ≼ s)) → Reaches R u → Reaches S u
reach_through f (reaches r m h) = let (s, n, k) = f r m in reaches s n (le_trans h k)
reach_through f (exceeds g) = exceeds (λ q. let (r, m, h) = g q in let (s, n, k) = f r m in (s, n, lt_le_trans h k))

pub reach_lower : {R : Fraction → Type 0} {u v : End} → u ⊑ v → Reaches R v → Reaches R u
reach_lower (numbers h) (reaches r m k) = reaches r m (le_trans h k)
reach_lower {u = at q} none_above (exceeds f) = let (r, m, k) = f q in reaches r m (lt_le k)
reach_lower {u = unbounded} none_above (exceeds f) = exceeds f

-- Where each result of R and each of S have a result of T that is not below both, T comes up to an end that both do.
pub reach_both : {R S T : Fraction → Type 0} {u : End}
    → ((r s : Fraction) → R r → S s → (t : Fraction) × T t × ((r ≼ t) ⊎ (s ≼ t)))
    → Reaches R u → Reaches S u → Reaches T u
reach_both f (reaches r m h) (reaches s n k) =
    let (t, o, e) = f r s m n in reaches t o (⊎_elim (le_trans h) (le_trans k) e)
reach_both f (exceeds g) (exceeds g') =
    exceeds
    (λ q.
    let (r, m, h) = g q in
    let (s, n, k) = g' q in
    let (t, o, e) = f r s m n in (t, o, ⊎_elim (lt_le_trans h) (lt_le_trans k) e))

-- The members of a valid span come up to its upper end.
pub span_reached : {a b : End} → Ordered a b → Reached (Member (span a b)) b
span_reached {a} {b = at q} h = record { bound = λ r m. m.high; reach = reaches q (upper_member h) (le_refl q) }
span_reached {a} {b = unbounded} h = record { bound = λ r m. m.high; reach = exceeds (upper_beyond a) }

-- The same results come up to the same end.
pub reached_same : {R S : Fraction → Type 0} {u : End}
    → ((r : Fraction) → R r → S r) → ((r : Fraction) → S r → R r) → Reached R u → Reached S u
reached_same forth back s = record {
  bound = λ r m. s.bound r (back r m);
  reach = reach_through (λ r m. (r, forth r m, le_refl r)) s.reach;
}

pub reached_bounds : {R : Fraction → Type 0} {u l : End} → Reached R u → Reached (Mirrored R) l → Bounds R u l
reached_bounds s t = record { some = reached_some s.reach; top = reached_supremum s; bottom = reached_supremum t }
