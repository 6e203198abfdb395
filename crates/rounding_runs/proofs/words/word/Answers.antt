-- `rounding_runs::words::word` meets its contract: it is the number of the eight bytes.
use mathlib.Core.Path.{◌≡◌, ◌∙◌, ap}
use native.Mathlib.Omega.{arith}
use Prim.Native.Nat.{◌+◌, ◌-◌}
use Rattle.std.specs.Int.{w64, from_be_bytes}
use Rattle.rounding_runs.proofs.CaseLaws.{word_of}
use Rattle.rounding_runs.proofs.words.word.Goals as goal

pub returns : goal.returns
returns c =
    let a = c.args in
    let eight : a.at + 8 - a.at ≡ 8 = omega arith in
    c.from_be_bytes.ensures ∙ ap (from_be_bytes w64) (rw eight at c.copy_from_slice.ensures.after) ∙ word_of a.s.now a.at
