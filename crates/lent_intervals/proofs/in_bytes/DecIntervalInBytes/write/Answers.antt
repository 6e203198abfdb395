-- `write` of decorated intervals meets its contract: the ends are written first, and the byte behind them.
use mathlib.Core.Path.{◌∙◌, ap}
use mathlib.Core.List.{[], ◌∷◌, ◌++◌}
use Prim.Native.Nat.{ℕ}
use Rattle.meaning.specs.Bytes.{write_pair}
use Rattle.dec_interval.specs.DecIntervalMeaning.{dec_pair_of}
use Rattle.ends_in_bytes.specs.ByteOrderMeaning.{order_of}
use Rattle.ends_in_bytes.proofs.EightByteLaws.{length_pair}
use Rattle.lent_intervals.proofs.SliceLaws.{last_byte}
use Rattle.lent_intervals.proofs.in_bytes.DecIntervalInBytes.write.Goals as goal

pub returns : goal.returns
returns c =
    let o = order_of c.args.order in
    let x = dec_pair_of c.args.self in
    last_byte 16 (write_pair o x.pair) c.args.output.now c.from.result (length_pair o x.pair) c.requires
    c.write_ends.ensures
    ∙ ap (λ (b : ℕ). write_pair o x.pair ++ (b ∷ [])) c.from.ensures
