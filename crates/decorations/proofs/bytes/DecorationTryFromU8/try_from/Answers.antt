-- `Decoration::try_from` meets its contract: each arm is one decoration's byte, and the last is none.
use native.Mathlib.Omega.{arith}
use Rattle.decorations.specs.DecorationBytes.{says}
use Rattle.decorations.proofs.DecorationLaws.{says_none_lem}
use Rattle.decorations.proofs.bytes.DecorationTryFromU8.try_from.Goals as goal

pub returns-in-0 : goal.returns-in-0
returns-in-0 c = says c.in-0.is

pub returns-in-4 : goal.returns-in-4
returns-in-4 c = says c.in-4.is

pub returns-in-8 : goal.returns-in-8
returns-in-8 c = says c.in-8.is

pub returns-in-12 : goal.returns-in-12
returns-in-12 c = says c.in-12.is

pub returns-in-16 : goal.returns-in-16
returns-in-16 c = says c.in-16.is

pub returns-in_default : goal.returns-in_default
returns-in_default c =
    says_none_lem (λ e. omega arith) (λ e. omega arith) (λ e. omega arith) (λ e. omega arith) (λ e. omega arith)
