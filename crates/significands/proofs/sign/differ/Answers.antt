-- `significands::sign::differ` meets its contract.
use Prim.Native.Nat.{◌^◌}
use lib.Dec.{ltb}
use Rattle.significands.proofs.Signs.{differs}
use Rattle.significands.proofs.sign.differ.Goals as goal

pub returns : goal.returns
returns c = differs (ltb c.args.a (2 ^ 63)) (ltb c.args.b (2 ^ 63))
