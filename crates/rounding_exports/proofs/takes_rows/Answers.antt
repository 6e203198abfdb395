-- `rounding_exports::takes_rows` meets its contract. What holds at each turn: the answer is right for the rows before k.
use borrow.Author.Count.{below_more, below_none}
use mathlib.Core.Bool.{Bool, ◌&&◌}
use Prim.Native.Nat.{ℕ, ◌+◌, ◌<◌}
use native.Mathlib.Omega.{arith}
use Rattle.truth.specs.Answers.{Answers, affirmed}
use Rattle.truth.proofs.AnswerLaws.{answers_iff, answers_and}
use Rattle.rounding_exports.proofs.takes_rows.Goals as goal

-- An answer for all before k and one for k make an answer for all before k + 1.
one_more : (P : ℕ → Type 0) (k : ℕ) {t u : Bool} → Answers ((j : ℕ) → j < k → P j) t → Answers (P k) u
    → Answers ((j : ℕ) → j < k + 1 → P j) (t && u)
one_more P k before here =
    answers_iff (λ both. below_more P k both.0 both.1) (λ all. (λ j less. all j (omega arith), all k (omega arith))) (answers_and before here)

pub loop-k-init : goal.loop-k-init
loop-k-init c = affirmed (below_none _)

pub loop-k-preserved : goal.loop-k-preserved
loop-k-preserved c = one_more _ _ c.loop-k.invariant c.takes-all.ensures

pub returns : goal.returns
returns c =
    answers_iff (λ before k less. before k (omega arith)) (λ every k less. every k (omega arith)) c.loop-k.invariant
