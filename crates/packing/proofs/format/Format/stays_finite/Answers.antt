-- `packing::format::Format::stays_finite` meets its contract: an exponent as great as infinity's field is too great.
use mathlib.Core.Path.{◌≡◌}
use Prim.Native.Nat.{ℕ, ◌^◌, ◌<◌}
use native.Mathlib.Nat.{mul-le-mul_right}
use native.Mathlib.Omega.{arith}
use lib.Dec.{ltb}
use Rattle.truth.specs.Answers.{Answers, denied}
use Rattle.truth.proofs.AnswerLaws.{answers_lt}
use Rattle.packing.proofs.format.Format.stays_finite.Goals as goal

-- Words are compared as the numbers that they are.
below-told : {v w m n : ℕ} → v ≡ m → w ≡ n → Answers (m < n) (ltb v w)
below-told {v} {w} {m} {n} e f = answers_lt v w (λ less. omega arith) (λ more less. omega arith)

pub returns-then-self-exponent : goal.returns-then-self-exponent
returns-then-self-exponent c =
    let more = mul-le-mul_right (2 ^ c.args.self.frac) c.if-self-exponent.true in
    denied (λ less. omega arith)

pub returns : goal.returns
returns c = below-told c.pattern.ensures c.infinity.ensures
