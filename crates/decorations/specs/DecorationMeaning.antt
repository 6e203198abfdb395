-- What the code's decorations are in the terms of document 01.
use Rattle.meaning.specs.Decorations as meant
use Rattle.decorations.specs.declared.types.Decoration.{Decoration}

abbrev pub decoration_of : Decoration → meant.Decoration
decoration_of Decoration.Ill = meant.Ill
decoration_of Decoration.Trv = meant.Trv
decoration_of Decoration.Def = meant.Def
decoration_of Decoration.Dac = meant.Dac
decoration_of Decoration.Com = meant.Com
