-- Seventeen bytes once their decoration is known.
use Rattle.patterns.specs.Format.{Format}
use Rattle.meaning.specs.Statement.{Verdict, sound, wrong, DecPair, Agrees}
use Rattle.meaning.specs.Bytes.{BytesEnds}

-- 5 is tried before 6.
pub data JudgedRead (F : Format) (x : DecPair) : Verdict → Type 0 where
  read_five : (BytesEnds F x.pair → ⊥) → JudgedRead F x (wrong 5)
  read_six : BytesEnds F x.pair → (Agrees F x → ⊥) → JudgedRead F x (wrong 6)
  read_good : BytesEnds F x.pair → Agrees F x → JudgedRead F x sound
