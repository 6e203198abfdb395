-- `ends::write_ends` meets its contract: each end is written as its eight bytes, brought into order.
use mathlib.Core.Path.{◌∙◌, ap, ap₂}
use mathlib.Core.List.{List, ◌++◌}
use Prim.Native.Nat.{ℕ}
use borrow.Author.Rules.{rules}
use lib.ListN.{drop}
use Rattle.ends_in_bytes.proofs.EightByteLaws.{placed_both}
use Rattle.ends_in_bytes.proofs.ends.write_ends.Goals as goal

pub returns : goal.returns
returns c =
    let a = c.args in
    placed_both a.s.now c.write_end.result c.write_end-2.result _ _ (search rules)
    c.put_eight.ensures c.put_eight-2.ensures
    ∙ ap (λ (t : List ℕ). t ++ drop 16 a.s.now) (ap₂ ◌++◌ c.write_end.ensures c.write_end-2.ensures)
