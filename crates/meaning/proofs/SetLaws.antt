-- Members of sets and of their mirror images.
use mathlib.Core.Path.{◌≡◌, subst}
use mathlib.Core.Logic.{◌⊎◌, inl, inr}
use native.Mathlib.Nat.{mul-pos}
use native.Mathlib.Omega.{arith}
use Rattle.meaning.specs.Fraction.{Fraction, ◌≼◌, ◌≺◌, ◌⊕◌, negated, whole}
use Rattle.meaning.specs.Sets.{End, at, unbounded, Set, empty, span, Under, under, under_none, Over, over, over_none, Member, SameSet, Ordered, ordered, no_lower, no_upper, mirror_end, mirror, SameEnd, same_number, same_none}
use Rattle.meaning.proofs.FractionLaws.{le_refl, le_trans, lt_not_le, lt_le_trans, le_or_le, antisymm, neg_le, neg_lt}

pub under_trans : {x y : Fraction} (e : End) → x ≼ y → Under y e → Under x e
under_trans (at q) h (under k) = under (le_trans h k)
under_trans unbounded h under_none = under_none

pub over_trans : {x y : Fraction} (e : End) → x ≼ y → Over x e → Over y e
over_trans (at q) h (over k) = over (le_trans k h)
over_trans unbounded h over_none = over_none

-- x is under an upper end exactly if -x is over its mirror.
pub under_mirror : (e : End) {x : Fraction} → Under x e → Over (negated x) (mirror_end e)
under_mirror (at q) (under h) = over (neg_le h)
under_mirror unbounded under_none = over_none

pub over_mirror : (e : End) {x : Fraction} → Over x e → Under (negated x) (mirror_end e)
over_mirror (at q) (over h) = under (neg_le h)
over_mirror unbounded over_none = under_none

pub mirror_end_twice : (e : End) → mirror_end (mirror_end e) ≡ e
mirror_end_twice (at q) = λ i. at q
mirror_end_twice unbounded = λ i. unbounded

pub mirror_twice : (X : Set) → mirror (mirror X) ≡ X
mirror_twice empty = λ i. empty
mirror_twice (span a b) = λ i. span (mirror_end_twice a i) (mirror_end_twice b i)

-- x is in X exactly if -x is in its mirror image.
pub member_mirror : (X : Set) (x : Fraction) → Member X x → Member (mirror X) (negated x)
member_mirror empty x h = h
member_mirror (span a b) x h = record { low = under_mirror b h.high; high = over_mirror a h.low }

pub mirror_member : (X : Set) (x : Fraction) → Member (mirror X) x → Member X (negated x)
mirror_member X x h = subst (λ (Y : Set). Member Y (negated x)) (mirror_twice X) (member_mirror (mirror X) x h)

pub mirror_ordered : {a b : End} → Ordered a b → Ordered (mirror_end b) (mirror_end a)
mirror_ordered (ordered h) = ordered (neg_le h)
mirror_ordered {b = b} no_lower = no_upper
mirror_ordered {a = a} no_upper = no_lower

-- The upper end of a valid span is a member, if it is a number.
pub upper_member : {a : End} {q : Fraction} → Ordered a (at q) → Member (span a (at q)) q
upper_member {q = q} (ordered h) = record { low = over h; high = under (le_refl q) }
upper_member {q = q} no_lower = record { low = over_none; high = under (le_refl q) }

pub lower_member : {q : Fraction} {b : End} → Ordered (at q) b → Member (span (at q) b) q
lower_member {q} (ordered h) = record { low = over (le_refl q); high = under h }
lower_member {q} no_upper = record { low = over (le_refl q); high = under_none }

-- One more than q.
pub next : Fraction → Fraction
next q = q ⊕ whole 1

pub below_next : (q : Fraction) → q ≺ next q
unfolding next ◌⊕◌
below_next q = record { lt = omega (arith, mul-pos q.positive q.positive) }

-- A span with no upper end has a member above any number.
pub upper_beyond : (a : End) (q : Fraction) → (x : Fraction) × Member (span a unbounded) x × (q ≺ x)
upper_beyond unbounded q = (next q, record { low = over_none; high = under_none }, below_next q)
upper_beyond (at a) q = go (le_or_le a (next q))
  where
    go : (a ≼ next q) ⊎ (next q ≼ a) → (x : Fraction) × Member (span (at a) unbounded) x × (q ≺ x)
    go (inl h) = (next q, record { low = over h; high = under_none }, below_next q)
    go (inr h) = (a, record { low = over (le_refl a); high = under_none }, lt_le_trans (below_next q) h)

-- A span with no lower end has a member below any number.
pub lower_beyond : (d : End) (q : Fraction) → (x : Fraction) × Member (span unbounded d) x × (x ≺ q)
lower_beyond d q =
    let (x, m, h) = upper_beyond (mirror_end d) (negated q) in
    (negated x, mirror_member (span unbounded d) x m, neg_lt h)

-- A valid span has a member.
pub some_member : {a b : End} → Ordered a b → (x : Fraction) × Member (span a b) x
some_member {b = at q} h = (q, upper_member h)
some_member {a} {b = unbounded} h = let t = upper_beyond a (whole 0) in (t.0, t.1)

-- Two valid spans with the same members have the same upper end.
pub same_upper : {a b c d : End} → Ordered a b → Ordered c d → SameSet (span a b) (span c d) → SameEnd b d
same_upper {b = at p} {d = at q} h k s = same_number (antisymm (below (s.0 p (upper_member h)).high) (below (s.1 q (upper_member k)).high))
  where
    below : {x y : Fraction} → Under x (at y) → x ≼ y
    below (under l) = l
same_upper {b = unbounded} {d = unbounded} h k s = same_none
same_upper {a} {b = unbounded} {d = at q} h k s = absurd (go (upper_beyond a q))
  where
    refute : {x : Fraction} → q ≺ x → Under x (at q) → ⊥
    refute l (under m) = lt_not_le l m

    go : (x : Fraction) × Member (span a unbounded) x × (q ≺ x) → ⊥
    go t = refute t.2 (s.0 t.0 t.1).high
same_upper {b = at q} {c} {d = unbounded} h k s = absurd (go (upper_beyond c q))
  where
    refute : {x : Fraction} → q ≺ x → Under x (at q) → ⊥
    refute l (under m) = lt_not_le l m

    go : (x : Fraction) × Member (span c unbounded) x × (q ≺ x) → ⊥
    go t = refute t.2 (s.1 t.0 t.1).high

pub same_mirror : (X Y : Set) → SameSet X Y → SameSet (mirror X) (mirror Y)
same_mirror X Y s = (
  λ x h. member_mirror Y (negated x) (s.0 (negated x) (mirror_member X x h)),
  λ x h. member_mirror X (negated x) (s.1 (negated x) (mirror_member Y x h)),
)

pub same_lower : {a b c d : End} → Ordered a b → Ordered c d → SameSet (span a b) (span c d) → SameEnd (mirror_end a) (mirror_end c)
same_lower {a} {b} {c} {d} h k s = same_upper (mirror_ordered h) (mirror_ordered k) (same_mirror (span a b) (span c d) s)
