-- A decoration of the code is known by what it is.
use mathlib.Core.Path.{◌≡◌, refl}
use Rattle.meaning.specs.Decorations as meant
use Rattle.decorations.specs.DecorationMeaning.{decoration_of}
use Rattle.decorations.specs.declared.types.Decoration.{Decoration}

abbrev pub code_of : meant.Decoration → Decoration
code_of meant.Ill = Decoration.Ill
code_of meant.Trv = Decoration.Trv
code_of meant.Def = Decoration.Def
code_of meant.Dac = Decoration.Dac
code_of meant.Com = Decoration.Com

pub code_back : (d : Decoration) → code_of (decoration_of d) ≡ d
code_back Decoration.Ill = refl
code_back Decoration.Trv = refl
code_back Decoration.Def = refl
code_back Decoration.Dac = refl
code_back Decoration.Com = refl
