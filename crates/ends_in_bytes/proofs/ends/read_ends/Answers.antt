-- `ends::read_ends` meets its contract: each end is its eight bytes.
use mathlib.Core.Path.{◌∙◌, sym, ap}
use mathlib.Core.List.{List}
use Prim.Native.Nat.{ℕ}
use lib.ListN.{take}
use lib.Seq.{drop-drop}
use Rattle.meaning.specs.Bytes.{read_end}
use Rattle.ends_in_bytes.specs.ByteOrderMeaning.{order_of}
use Rattle.ends_in_bytes.proofs.ends.read_ends.Goals as goal

pub returns : goal.returns
returns c =
    let a = c.args in
    let o = order_of a.order in
    let lower = c.read_end.ensures ∙ ap (read_end o) c.eight_at.ensures in
    let upper =
    c.read_end-2.ensures
    ∙ ap (read_end o) (c.eight_at-2.ensures ∙ ap (λ (l : List ℕ). take 8 l) (sym (drop-drop 8 a.start a.s.now))) in
    λ i. record { lower = lower i; upper = upper i }
