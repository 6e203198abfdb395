-- Corners: which ends of two operands an upper end is worked out from.
use Rattle.meaning.specs.Fraction.{whole}
use Rattle.meaning.specs.Sets.{End, at, unbounded}
use Rattle.meaning.specs.Classes.{AtZero}
use Rattle.theorem3.specs.declared.Corner.{Corner}
use Rattle.theorem3.specs.Ends.{greater_end}

-- What a corner of [a, b] and [c, d] comes to, where E combines two ends.
abbrev pub end_at : (E : End → End → End) → Corner → (a b c d : End) → End
end_at E Corner.LowerLower a b c d = E a c
end_at E Corner.LowerUpper a b c d = E a d
end_at E Corner.UpperLower a b c d = E b c
end_at E Corner.UpperUpper a b c d = E b d
end_at E Corner.Greater a b c d = greater_end (E a c) (E b d)
end_at E Corner.Zero a b c d = at (whole 0)
end_at E Corner.Unbounded a b c d = unbounded

-- A corner can be worked out as a quotient: the end of [c, d] that it divides by is not 0. No quotient is the greater of two.
abbrev pub Divides : Corner → (c d : End) → Type 0
Divides Corner.LowerLower c d = AtZero c → ⊥
Divides Corner.LowerUpper c d = AtZero d → ⊥
Divides Corner.UpperLower c d = AtZero c → ⊥
Divides Corner.UpperUpper c d = AtZero d → ⊥
Divides Corner.Greater c d = ⊥
Divides Corner.Zero c d = Unit {0}
Divides Corner.Unbounded c d = Unit {0}
