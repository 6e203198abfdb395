-- `significands::bracket::DoubleBracket::round_up` meets its contract: a positive value rounds away from zero, and a negative one toward it.
use mathlib.Core.Path.{refl}
use borrow.Author.Rules.{rules}
use native.Mathlib.Nat.{pos_of_ne-zero}
use Rattle.patterns.specs.Format.{binary64}
use Rattle.significands.proofs.Signs.{rounded_positive, rounded_zero, sign_set}
use Rattle.significands.proofs.bracket.DoubleBracket.round_up.Goals as goal

pub returns-then-b-eq0 : goal.returns-then-b-eq0
returns-then-b-eq0 c n d some b =
    rounded_zero binary64 c.if-negative.true c.if-b-eq0.true (c.pack_down-b.ensures binary64 refl refl n d some (search (rules, b)))

pub returns-then-negative : goal.returns-then-negative
returns-then-negative c n d some b =
    sign_set c.if-negative.true (pos_of_ne-zero c.if-b-eq0.false) (c.pack_down-b.ensures binary64 refl refl n d some (search (rules, b)))

pub returns : goal.returns
returns c n d some b = rounded_positive binary64 c.if-negative.false some (c.pack_up.ensures binary64 refl refl n d some (search (rules, b)))
