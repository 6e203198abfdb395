-- `bytes::write` meets its contract: what is found wrong is refused, and a sound operand written as the bytes have it.
use mathlib.Core.List.{List}
use Prim.Native.Nat.{ℕ}
use Rattle.refusals.proofs.FoundLaws.{given₁, refused₁}
use Rattle.interchange.proofs.bytes.write.Goals as goal

pub returns-in_err-judge : goal.returns-in_err-judge
returns-in_err-judge g c =
    refused₁ c.judge.ensures (λ (bytes : List ℕ). bytes) c.from_residual.result c.in_err-judge.was c.from_residual.ensures.1

pub returns : goal.returns
returns g c = given₁ c.judge.ensures c.in_ok-judge.was (record { answer = _; right = c.tidied.ensures; written = c.write.ensures })
