-- A run goes on as it should: what a turn on its buffers leaves.
use mathlib.Core.Bool.{Bool, true, false}
use mathlib.Core.Path.{◌≡◌, refl, sym, ◌∙◌, ap, subst, subst₂}
use mathlib.Core.List.{List, ◌∷◌, ◌++◌}
use Prim.Native.Nat.{ℕ, ◌+◌, ◌≤◌}
use native.Mathlib.Omega.{arith}
use borrow.Author.Rules.{rules}
use Rattle.std.proofs.Common.{Continue}
use lib.ListN.{length, take, drop, length-append, length-drop}
use lib.Seq.{length-take-le, take_at}
use Rattle.bench_run.specs.Limit.{most}
use Rattle.bench_run.specs.Turn.{Turn, Turns, next_turn}
use Rattle.bench_run.proofs.RunLaws.{goes_on_lem}
use Rattle.bench_turn.specs.Buffers.{flow, TurnOn}
use Rattle.bench_turn.specs.declared.one_turn.Run.{Run}
use Rattle.bench_turn.specs.declared.one_turn.TurnEnd.{TurnEnd}
use Rattle.bench_program.specs.Runs.{LeftByTurn, Onward}

-- A run goes on only where another turn follows.
flow_on : (more : Bool) {run next : Run} → flow more run ≡ Continue next → (more ≡ true) × (run ≡ next)
flow_on true e = (refl, search rules)
flow_on false e = search rules

module _ {held arrived answered : ℕ} {input output input' output' : List ℕ} {r : TurnEnd} (t : TurnOn held arrived answered input output r input' output') where
  pub onward : {before : List ℕ} {next : Run} → take held input ≡ take held before → answered ≤ most → held + arrived ≤ length input → r.run ≡ Continue next
      → Onward held answered before next.held next.answered input'
  onward {next = next} same few there on =
      let (follows, is) = flow_on t.left.more (sym t.follows ∙ on) in
      let holds : next.held ≡ length t.left.kept = ap (λ (n : Run). n.held) (sym is) in
      let answers : next.answered ≡ t.left.answered = ap (λ (n : Run). n.answered) (sym is) in
      let goes = goes_on_lem few t.turn follows in
      let first = length-take-le held input (omega arith) in
      let second = length-take-le arrived (drop held input) (omega (arith, length-drop held input)) in
      record {
        arrived = take arrived (drop held input);
        left = t.left;
        turn = subst (λ (l : List ℕ). Turn l (take arrived (drop held input)) answered t.left) same t.turn;
        follows = follows;
        keeps = ap (take next.held) t.input_is ∙ take_at t.left.kept (drop (length t.left.kept) input) next.held (sym holds);
        answers = answers;
        few = omega (arith, goes.few, answers);
        short = omega (arith, goes.short, holds);
        full = λ e. holds ∙ goes.full (sym answers ∙ e);
        falls = omega (arith, goes.all, goes.some, goes.within, answers, holds, first, second);
      }

  pub written_fits : r.written ≤ length output'
  written_fits =
      omega (arith, t.writes, ap length t.output_is, length-append t.left.written (drop (length t.left.written) output))

  -- What is written is what the turn left.
  pub left_by_turn : LeftByTurn (take r.written output')
  left_by_turn =
      record {
        held = take held input;
        arrived = take arrived (drop held input);
        answered = answered;
        left = t.left;
        turn = t.turn;
        is = ap (take r.written) t.output_is ∙ take_at t.left.written (drop (length t.left.written) output) r.written (sym t.writes);
      }

-- So the program's turns are those of a run: what is written is what `run_writes` says of all that arrives.
pub joins : {held answered held' answered' : ℕ} {input input' output : List ℕ} {arrivals : List (List ℕ)} (o : Onward held answered input held' answered' input')
    → Turns (take held' input') answered' arrivals output → Turns (take held input) answered (o.arrived ∷ arrivals) (o.left.written ++ output)
joins {output = output} {arrivals = arrivals} o turns =
    next_turn o.turn o.follows (subst₂ (λ (l : List ℕ) (n : ℕ). Turns l n arrivals output) o.keeps o.answers turns)
