-- Laws of brackets, of magnitudes and of packing, over any format.
pub mod CutLaws
pub mod DigitLaws
pub mod WordLaws
pub mod PackLaws
pub mod UnpackLaws
pub mod NormalLaws
pub mod BracketLaws
pub mod OneBracket
pub mod OneShift
