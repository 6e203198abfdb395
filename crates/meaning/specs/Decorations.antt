-- Decorations, set_dec, and the decoration of each operation's answer, by document 01.
use Rattle.std.specs.Prelude.{Bool, true, false, ◌≡◌, ◌⊎◌, ℕ, leb}
use Rattle.meaning.specs.Fraction.{Fraction, ◌≈◌, ◌⊕◌, whole, half, Whole}
use Rattle.meaning.specs.Sets.{End, at, unbounded, Set, empty, span, Member, SameEnd}
use Rattle.meaning.specs.Points.{Unary, neg, abs, ceil, floor, round, round_ties_even, sign, trunc, add, sub, mul, div, max, min}
use Rattle.meaning.specs.Results.{Operation, point, convex_hull, intersection}

-- "Decorations rise Ill, Trv, Def, Dac, Com."
pub data Decoration : Type 0 where
  Ill Trv Def Dac Com : Decoration

-- "a seventeenth byte, 0 Ill, 4 Trv, 8 Def, 12 Dac, 16 Com"; the numbers rise as the decorations do.
abbrev pub decoration_byte : Decoration → ℕ
decoration_byte Ill = 0
decoration_byte Trv = 4
decoration_byte Def = 8
decoration_byte Dac = 12
decoration_byte Com = 16

abbrev pub decoration_by : Bool → Decoration → Decoration → Decoration
decoration_by true d e = d
decoration_by false d e = e

-- The lower of two decorations.
abbrev pub lower_of : Decoration → Decoration → Decoration
lower_of d e = decoration_by (leb (decoration_byte d) (decoration_byte e)) d e

-- set_dec: "Ill gives NaI; otherwise EMPTY gets Trv; Com with an infinite end becomes Dac; else unchanged."
abbrev pub settled : Set → Decoration → Decoration
settled Z Ill = Ill
settled empty Trv = Trv
settled (span a b) Trv = Trv
settled empty Def = Trv
settled (span a b) Def = Def
settled empty Dac = Trv
settled (span a b) Dac = Dac
settled empty Com = Trv
settled (span unbounded b) Com = Dac
settled (span (at a) unbounded) Com = Dac
settled (span (at a) (at b)) Com = Com

-- Nonempty and bounded.
pub data Common : Set → Type 0 where
  common : {a b : Fraction} → Common (span (at a) (at b))

-- One point.
pub data Point : Set → Type 0 where
  one : {a b : Fraction} → a ≈ b → Point (span (at a) (at b))

pub data LowersAgree : Set → Set → Type 0 where
  lowers_agree : {a b c d : End} → SameEnd a c → LowersAgree (span a b) (span c d)

pub data UppersAgree : Set → Set → Type 0 where
  uppers_agree : {a b c d : End} → SameEnd b d → UppersAgree (span a b) (span c d)

-- "an end has fractional part one half"
pub data HalfEnd : Set → Type 0 where
  half_lower : {a : Fraction} {b : End} → Whole (a ⊕ half) → HalfEnd (span (at a) b)
  half_upper : {a : End} {b : Fraction} → Whole (b ⊕ half) → HalfEnd (span a (at b))

-- "the lower end is 0"
pub data ZeroLower : Set → Type 0 where
  zero_lower : {a : Fraction} {b : End} → a ≈ whole 0 → ZeroLower (span (at a) b)

-- "Tests: ceil, the upper ends agree; floor, the lower ends agree; round and round_ties_even, an end has fractional part
-- one half; sign, the lower end is 0; trunc, either end is left as it was." The operand is X and the result Z.
abbrev pub DacTest : Unary → Set → Set → Type 0
DacTest neg X Z = ⊥
DacTest abs X Z = ⊥
DacTest ceil X Z = UppersAgree X Z
DacTest floor X Z = LowersAgree X Z
DacTest round X Z = HalfEnd X
DacTest round_ties_even X Z = HalfEnd X
DacTest sign X Z = ZeroLower X
DacTest trunc X Z = LowersAgree X Z ⊎ UppersAgree X Z

-- "Trv if the result is empty, Def if it isn't one point, else Dac if the test below holds, else Com"
pub data Stepped (J : Type 0) (Z : Set) : Decoration → Type 0 where
  of_empty : Z ≡ empty → Stepped J Z Trv
  of_many : (Z ≡ empty → ⊥) → (Point Z → ⊥) → Stepped J Z Def
  of_jump : Point Z → J → Stepped J Z Dac
  of_point : Point Z → (J → ⊥) → Stepped J Z Com

-- What an operation of one operand allows at the most. `neg` and `abs` keep the operand's decoration.
abbrev pub Allows₁ : Unary → Set → Set → Decoration → Type 0
Allows₁ neg X Z d = d ≡ Com
Allows₁ abs X Z d = d ≡ Com
Allows₁ ceil X Z d = Stepped (DacTest ceil X Z) Z d
Allows₁ floor X Z d = Stepped (DacTest floor X Z) Z d
Allows₁ round X Z d = Stepped (DacTest round X Z) Z d
Allows₁ round_ties_even X Z d = Stepped (DacTest round_ties_even X Z) Z d
Allows₁ sign X Z d = Stepped (DacTest sign X Z) Z d
Allows₁ trunc X Z d = Stepped (DacTest trunc X Z) Z d

-- "Trv for a quotient whose divisor holds 0"
pub data Divided (Y : Set) : Decoration → Type 0 where
  by_zero : Member Y (whole 0) → Divided Y Trv
  elsewhere : (Member Y (whole 0) → ⊥) → Divided Y Com

-- What an operation of two operands allows at the most. On sets, "decorated results are Trv".
abbrev pub Allows₂ : Operation → Set → Set → Decoration → Type 0
Allows₂ (point add) X Y d = d ≡ Com
Allows₂ (point sub) X Y d = d ≡ Com
Allows₂ (point mul) X Y d = d ≡ Com
Allows₂ (point div) X Y d = Divided Y d
Allows₂ (point max) X Y d = d ≡ Com
Allows₂ (point min) X Y d = d ≡ Com
Allows₂ convex_hull X Y d = d ≡ Trv
Allows₂ intersection X Y d = d ≡ Trv

-- The answer's decoration: the lower of what the operation allows and the operands' own, "through `set_dec`".
pub record Decorated (Allows : Decoration → Type 0) (operands : Decoration) (Z : Set) (d : Decoration) : Type 0 where
  pub allowed : Decoration
  pub allows : Allows allowed
  pub is : d ≡ settled Z (lower_of allowed operands)
