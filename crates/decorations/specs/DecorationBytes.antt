-- The byte of a decoration, and what a byte says of one.
use Rattle.std.specs.Prelude.{◌≡◌, ℕ, Result, Ok, Err}
use Rattle.meaning.specs.Decorations as meant
use Rattle.refusals.specs.declared.Fault.{Fault}
use Rattle.decorations.specs.DecorationMeaning.{decoration_of}
use Rattle.decorations.specs.declared.types.Decoration.{Decoration}

-- "Decorations' bytes: 0 Ill, 4 Trv, 8 Def, 12 Dac, 16 Com".
abbrev pub IsByteOf : Decoration → ℕ → Type 0
IsByteOf d b = b ≡ meant.decoration_byte (decoration_of d)

-- What a decoration's byte says. 4: the byte is none that a decoration has.
pub data SaidBy (b : ℕ) : Result Decoration Fault → Type 0 where
  says : {d : Decoration} → b ≡ meant.decoration_byte (decoration_of d) → SaidBy b (Ok d)
  says_none : ((d : meant.Decoration) → b ≡ meant.decoration_byte d → ⊥) → SaidBy b (Err Fault.BadByte)
