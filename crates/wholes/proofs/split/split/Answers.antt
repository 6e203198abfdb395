-- `split::split` meets its contract: 0, the magnitudes below 1, those with digits after the point, and the rest.
use native.Mathlib.Omega.{arith}
use Rattle.std.proofs.lemmas.Cmp.{ranked}
use Rattle.patterns.specs.Format.{binary64}
use Rattle.wholes.proofs.SplitLaws.{zero_whole, small_between, large_whole}
use Rattle.wholes.proofs.split.split.Goals as goal

pub returns-then-b-eq0 : goal.returns-then-b-eq0
returns-then-b-eq0 c = zero_whole binary64 c.requires c.if-b-eq0.true

pub returns-then-b-lt-ONE : goal.returns-then-b-lt-ONE
returns-then-b-lt-ONE c =
    small_between binary64 (omega arith) _ c.requires (omega arith) c.if-b-lt-ONE.true (ranked _ _ _ c.cmp.ensures)

pub returns : goal.returns
returns c = large_whole binary64 c.requires c.if-b-lt-ALL_WHOLE.false
