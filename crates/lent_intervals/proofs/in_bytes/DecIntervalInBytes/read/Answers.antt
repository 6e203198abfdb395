-- `read` of decorated intervals meets its contract: the byte is judged before the ends and the decoration.
use mathlib.Core.Path.{◌∙◌, subst⁻¹}
use Prim.Native.Nat.{ℕ}
use native.Mathlib.Omega.{arith}
use lib.Dec.{lit≤}
use Rattle.decorations.specs.DecorationBytes.{SaidBy}
use Rattle.dec_interval.specs.DecIntervalMeaning.{dec_pair_of}
use Rattle.ends_in_bytes.specs.ByteOrderMeaning.{order_of}
use Rattle.lent_intervals.proofs.SliceLaws.{read_part, byte_part}
use Rattle.lent_intervals.proofs.ReadLaws.{known, unknown_read, read_known}
use Rattle.lent_intervals.proofs.in_bytes.DecIntervalInBytes.read.Goals as goal

pub returns-in_err-d : goal.returns-in_err-d
returns-in_err-d c =
    let a = c.args in
    unknown_read dec_pair_of c.from_residual.result
    (subst⁻¹ (λ (b : ℕ). SaidBy b c.try_from.result) (byte_part a.start a.s.now) c.try_from.ensures) c.in_err-d.was c.from_residual.ensures.1

pub returns : goal.returns
returns c =
    let a = c.args in
    let whole = read_part (order_of a.order) 9 a.start a.s.now (lit≤ tt) (omega (arith, c.requires)) in
    read_known (record { is = byte_part a.start a.s.now ∙ known c.try_from.ensures c.in_ok-d.was })
    (whole c.read_ends.ensures) c.answer_read.ensures
