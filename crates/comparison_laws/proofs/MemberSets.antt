-- Comparisons that come to others: by mirror images, and since intervals have no gaps.
use mathlib.Core.Logic.{◌⊎◌, ◌↔◌, inl, inr, ⊎_elim}
use Rattle.meaning.specs.Fraction.{Fraction, ◌≼◌, ◌≺◌, negated}
use Rattle.meaning.specs.Sets.{Set, span, Member, Valid, valid_empty, valid_span, mirror, empty}
use Rattle.meaning.specs.Comparisons.{subset, disjoint, EachSome, EachEach, AtLeast, Differs, Compares}
use Rattle.meaning.proofs.FractionLaws.{lt_le, lt_not_le, le_or_lt, eq_refl, eq_sym, eq_le, eq_ge, antisymm}
use Rattle.meaning.proofs.SetLaws.{over_trans, under_trans, some_member, member_mirror, mirror_member}
use Rattle.comparison_laws.specs.Ends.{Ascending}

-- What is below is above in the mirror.
module _ {R : Fraction → Fraction → Type 0} (order : Ascending R) (X Y : Set) where
  pub from_mirror : EachSome R (mirror X) (mirror Y) → EachSome (λ x y. R y x) X Y
  from_mirror s x m =
      let y = s (negated x) (member_mirror X x m) in
      record { member = negated y.member; inside = mirror_member Y y.member y.inside; holds = order.mirrored y.holds }

  pub to_mirror : EachSome (λ x y. R y x) X Y → EachSome R (mirror X) (mirror Y)
  to_mirror s x m =
      let y = s (negated x) (mirror_member X x m) in
      record { member = negated y.member; inside = member_mirror Y y.member y.inside; holds = order.mirrored y.holds }

-- An interval has no gaps.
pub between : (X : Set) {x y z : Fraction} → Member X x → Member X z → x ≼ y → y ≼ z → Member X y
between (span a b) m n h k = record { low = over_trans a h m.low; high = under_trans b k n.high }
between empty m n h k = elim m [ ]

-- A comparison by one relation is one by a relation that follows from it.
pub weaken : (X Y : Set) {R S : Fraction → Fraction → Type 0} → ((x y : Fraction) → R x y → S x y) → EachSome R X Y → EachSome S X Y
weaken X Y f s x m = let y = s x m in record { member = y.member; inside = y.inside; holds = f x y.member y.holds }

-- A subset has members of the other on both sides of each of its own, and what has them is a subset.
pub subset_halves : (X Y : Set) → (EachSome ◌≼◌ X Y × EachSome AtLeast X Y) ↔ Compares subset X Y
subset_halves X Y = (
  λ h x m. let y = h.0 x m in let z = h.1 x m in
      record { member = x; inside = between Y z.inside y.inside z.holds y.holds; holds = eq_refl x },
  λ s. (weaken X Y (λ x y. eq_le) s, weaken X Y (λ x y. eq_ge) s),
)

-- Intervals without a common member lie one before the other.
apart : (X Y : Set) {x y : Fraction} → Member X x → Member Y y → x ≺ y → EachEach Differs X Y → EachEach ◌≺◌ X Y
apart X Y {x} {y} m n h differ v w i j = ⊎_elim (λ l. absurd (meet l)) (λ l. l) (le_or_lt w v)
  where
    meet : w ≼ v → ⊥
    meet l =
        ⊎_elim (λ k. differ w w (between X m i k l) j (eq_refl w)) (λ k. differ x x m (between Y j n (lt_le k) (lt_le h)) (eq_refl x)) (le_or_lt x w)

turned : (X Y : Set) → EachEach Differs X Y → EachEach Differs Y X
turned X Y differ y x n m e = differ x y m n (eq_sym e)

apart_either : (X Y : Set) (x y : Fraction) → Member X x → Member Y y → EachEach Differs X Y → EachEach ◌≺◌ X Y ⊎ EachEach ◌≺◌ Y X
apart_either X Y x y m n differ = go (le_or_lt y x) (le_or_lt x y)
  where
    go : (y ≼ x) ⊎ (x ≺ y) → (x ≼ y) ⊎ (y ≺ x) → EachEach ◌≺◌ X Y ⊎ EachEach ◌≺◌ Y X
    go (inr h) k = inl (apart X Y m n h differ)
    go (inl h) (inr k) = inr (apart Y X n m k (turned X Y differ))
    go (inl h) (inl k) = absurd (differ x y m n (antisymm k h))

one_before_other : {X Y : Set} → Valid X → Valid Y → EachEach Differs X Y → EachEach ◌≺◌ X Y ⊎ EachEach ◌≺◌ Y X
one_before_other valid_empty k differ = inl (λ x y m n. absurd m)
one_before_other (valid_span h) valid_empty differ = inl (λ x y m n. absurd n)
one_before_other {X} {Y} (valid_span h) (valid_span k) differ =
    let (x, m) = some_member h in
    let (y, n) = some_member k in
    apart_either X Y x y m n differ

pub differ_before : (X Y : Set) → EachEach ◌≺◌ X Y ⊎ EachEach ◌≺◌ Y X → EachEach Differs X Y
differ_before X Y (inl s) x y m n e = lt_not_le (s x y m n) (eq_ge e)
differ_before X Y (inr s) x y m n e = lt_not_le (s y x n m) (eq_le e)

pub disjoint_either : {X Y : Set} → Valid X → Valid Y → (EachEach ◌≺◌ X Y ⊎ EachEach ◌≺◌ Y X) ↔ Compares disjoint X Y
disjoint_either {X} {Y} h k = (differ_before X Y, one_before_other h k)
