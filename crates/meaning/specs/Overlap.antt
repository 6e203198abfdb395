-- The sixteen states of overlap by their endpoint conditions. Document 01: "The endpoint conditions decide, not the quantified ones."
use Rattle.std.specs.Prelude.{◌≡◌, ◌⊎◌, ℕ}
use Rattle.patterns.specs.Format.{Format}
use Rattle.meaning.specs.Fraction.{Fraction, ◌≺◌, ◌≈◌}
use Rattle.meaning.specs.Sets.{End, at, unbounded, Set, empty, span}
use Rattle.meaning.specs.Pairs.{Pair, NaNs, set_of}
use Rattle.meaning.specs.Statement.{DecPair, Outcome, Answered₂, JudgedBare, JudgedDecorated}

-- "states numbered 0 to 15 in the order declared, BothEmpty to After"
pub data State : Type 0 where
  both_empty first_empty second_empty before meets overlaps starts contained_by finishes equals finished_by contains started_by overlapped_by met_by after : State

abbrev pub state_number : State → ℕ
state_number both_empty = 0
state_number first_empty = 1
state_number second_empty = 2
state_number before = 3
state_number meets = 4
state_number overlaps = 5
state_number starts = 6
state_number contained_by = 7
state_number finishes = 8
state_number equals = 9
state_number finished_by = 10
state_number contains = 11
state_number started_by = 12
state_number overlapped_by = 13
state_number met_by = 14
state_number after = 15

-- The conditions on the ends of [a, b] and [c, d], over any order.
abbrev pub Conditions : {A : Type 0} (lt eq : A → A → Type 0) → State → (a b c d : A) → Type 0
Conditions lt eq both_empty a b c d = ⊥
Conditions lt eq first_empty a b c d = ⊥
Conditions lt eq second_empty a b c d = ⊥
Conditions lt eq before a b c d = lt b c
Conditions lt eq meets a b c d = lt a b × eq b c × lt c d
Conditions lt eq overlaps a b c d = lt a c × lt c b × lt b d
Conditions lt eq starts a b c d = eq a c × lt b d
Conditions lt eq contained_by a b c d = lt c a × lt b d
Conditions lt eq finishes a b c d = lt c a × eq b d
Conditions lt eq equals a b c d = eq a c × eq b d
Conditions lt eq finished_by a b c d = lt a c × eq b d
Conditions lt eq contains a b c d = lt a c × lt d b
Conditions lt eq started_by a b c d = eq a c × lt d b
Conditions lt eq overlapped_by a b c d = lt c a × lt a d × lt d b
Conditions lt eq met_by a b c d = lt c d × eq a d × lt a b
Conditions lt eq after a b c d = lt d a

-- The ends as numbers and infinities: an unbounded lower end is -inf, an unbounded upper end +inf.
pub data Extended : Type 0 where
  minus_inf : Extended
  number : Fraction → Extended
  plus_inf : Extended

abbrev pub as_lower : End → Extended
as_lower (at q) = number q
as_lower unbounded = minus_inf

abbrev pub as_upper : End → Extended
as_upper (at q) = number q
as_upper unbounded = plus_inf

pub data Less : Extended → Extended → Type 0 where
  less_numbers : {x y : Fraction} → x ≺ y → Less (number x) (number y)
  from_minus : {y : Fraction} → Less minus_inf (number y)
  to_plus : {x : Fraction} → Less (number x) plus_inf
  across : Less minus_inf plus_inf

pub data Same : Extended → Extended → Type 0 where
  same_numbers : {x y : Fraction} → x ≈ y → Same (number x) (number y)
  minuses : Same minus_inf minus_inf
  pluses : Same plus_inf plus_inf

-- The state of X against Y.
abbrev pub OverlapOf : Set → Set → State → Type 0
OverlapOf empty empty s = s ≡ both_empty
OverlapOf empty (span c d) s = s ≡ first_empty
OverlapOf (span a b) empty s = s ≡ second_empty
OverlapOf (span a b) (span c d) s = Conditions Less Same s (as_lower a) (as_upper b) (as_lower c) (as_upper d)

-- The number that a bare overlap answers.
pub record OverlapNumber (X Y : Set) (n : ℕ) : Type 0 where
  pub state : State
  pub holds : OverlapOf X Y state
  pub is : n ≡ state_number state

-- "NaI gives 16."
pub data DecoratedOverlap (F : Format) (x y : DecPair) : ℕ → Type 0 where
  nai_state : NaNs F x.pair ⊎ NaNs F y.pair → DecoratedOverlap F x y 16
  interval_state : {n : ℕ} → (NaNs F x.pair ⊎ NaNs F y.pair → ⊥) → OverlapNumber (set_of F x.pair) (set_of F y.pair) n → DecoratedOverlap F x y n

abbrev pub BareOverlap : Format → Pair → Pair → Outcome ℕ → Type 0
BareOverlap F x y o = Answered₂ (JudgedBare F) (λ x y n. OverlapNumber (set_of F x) (set_of F y) n) x y o

abbrev pub DecOverlap : Format → DecPair → DecPair → Outcome ℕ → Type 0
DecOverlap F x y o = Answered₂ (JudgedDecorated F) (DecoratedOverlap F) x y o
