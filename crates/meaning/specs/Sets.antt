-- Sets of fractions that intervals stand for: nothing, or everything between two ends.
use Rattle.meaning.specs.Fraction.{Fraction, ◌≼◌, ◌≈◌, negated}

-- An end of a span. Document 01: "An infinite end says that there is no bound".
pub data End : Type 0 where
  at : Fraction → End
  unbounded : End

-- Document 01: "A bare interval is EMPTY, or [a, b]".
pub data Set : Type 0 where
  empty : Set
  span : (lower upper : End) → Set

-- x is not above the upper end.
pub data Under (x : Fraction) : End → Type 0 where
  under : {q : Fraction} → x ≼ q → Under x (at q)
  under_none : Under x unbounded

-- x is not below the lower end.
pub data Over (x : Fraction) : End → Type 0 where
  over : {q : Fraction} → q ≼ x → Over x (at q)
  over_none : Over x unbounded

pub record Between (lower upper : End) (x : Fraction) : Type 0 where
  pub low : Over x lower
  pub high : Under x upper

-- Document 01: "infinity is never a member": members are fractions.
abbrev pub Member : Set → Fraction → Type 0
Member empty x = ⊥
Member (span lower upper) x = Between lower upper x

-- Z is inside W.
abbrev pub Inside : Set → Set → Type 0
Inside Z W = (x : Fraction) → Member Z x → Member W x

-- The same members.
abbrev pub SameSet : Set → Set → Type 0
SameSet Z W = Inside Z W × Inside W Z

-- Two ends of the same side agree.
pub data SameEnd : End → End → Type 0 where
  same_number : {a b : Fraction} → a ≈ b → SameEnd (at a) (at b)
  same_none : SameEnd unbounded unbounded

-- Two ends in order: "a ≤ b".
pub data Ordered : End → End → Type 0 where
  ordered : {a b : Fraction} → a ≼ b → Ordered (at a) (at b)
  no_lower : {upper : End} → Ordered unbounded upper
  no_upper : {lower : End} → Ordered lower unbounded

-- EMPTY, or [a, b] with a ≤ b.
pub data Valid : Set → Type 0 where
  valid_empty : Valid empty
  valid_span : {lower upper : End} → Ordered lower upper → Valid (span lower upper)

-- The set of the negatives.
abbrev pub mirror_end : End → End
mirror_end (at q) = at (negated q)
mirror_end unbounded = unbounded

abbrev pub mirror : Set → Set
mirror empty = empty
mirror (span lower upper) = span (mirror_end upper) (mirror_end lower)
