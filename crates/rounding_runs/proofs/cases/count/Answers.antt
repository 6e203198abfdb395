-- `rounding_runs::cases::count` meets its contract.
use mathlib.Core.Path.{◌≡◌, sym, ◌∙◌}
use mathlib.Core.List.{[]}
use Prim.Native.Nat.{◌*◌, ◌/◌}
use native.Mathlib.Omega.{arith}
use lib.ListN.{length, get_or}
use Rattle.rounding_runs.specs.Cases.{none}
use Rattle.rounding_runs.proofs.CaseLaws.{chunk_is, number_there, answers_there, taken}
use Rattle.rounding_runs.proofs.Counting.{counted_within, counts, passes}
use Rattle.truth.proofs.AnswerLaws.{said_yes, said_no}
use Rattle.rounding_runs.proofs.cases.count.Goals as goal
use Rattle.rounding_runs.proofs.cases.count.Goals.{then-case-of+then-says, then-case-of+else-says, else-case-of}

pub loop-case-init : goal.loop-case-init
loop-case-init c = (none, none)

pub overflow_add-right : goal.overflow_add-right
overflow_add-right c = omega (arith, counted_within c.loop-case.invariant.0)

pub overflow_add-wrong : goal.overflow_add-wrong
overflow_add-wrong c = omega (arith, counted_within c.loop-case.invariant.1)

pub loop-case-preserved : goal.loop-case-preserved
loop-case-preserved c =
    let s = c.args.s.now in
    let at = c.loop-case.case-index * 25 in
    let of = c.number-of.ensures in
    let (rights, wrongs) = c.loop-case.invariant in
    let here : get_or c.as_chunks.result.0.now c.loop-case.case-index [] ≡ taken s at =
    rw c.as_chunks.ensures.front (chunk_is c.loop-case.case-index (length s / 25) s (omega arith)) in
    let number : get_or (get_or c.as_chunks.result.0.now c.loop-case.case-index []) 0 0 ≡ get_or s at 0 =
    rw here (number_there s at) in
    elim c.if-case-of.branch [
      | then-case-of+then-says w ↦
          let right = said_yes (answers_there s at c.args.o (rw here at w.says.ensures)) w.if-says.true in
          (rw w.right-is (counts (record { of = sym number ∙ w.if-case-of.true ∙ of; says = right }) rights), rw w.wrong-is (passes (λ wrong. wrong.says right) wrongs))
      | then-case-of+else-says w ↦
          let wrong = said_no (answers_there s at c.args.o (rw here at w.says.ensures)) w.if-says.false in
          (rw w.right-is (passes (λ right. wrong right.says) rights), rw w.wrong-is (counts (record { of = sym number ∙ w.if-case-of.true ∙ of; says = wrong }) wrongs))
      | else-case-of w ↦
          (rw w.right-is (passes (λ right. w.if-case-of.false (number ∙ right.of ∙ sym of)) rights), rw w.wrong-is (passes (λ wrong. w.if-case-of.false (number ∙ wrong.of ∙ sym of)) wrongs))
    ]

pub returns : goal.returns
returns c =
    let inv = c.loop-case.invariant in
    let all : c.loop-case.case-index ≡ length c.args.s.now / 25 = omega arith in
    record { right = rw all at inv.0; wrong = rw all at inv.1 }
