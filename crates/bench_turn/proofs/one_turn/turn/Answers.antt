-- `one_turn::turn` meets its contract: what is answered, kept and closed makes one turn.
use mathlib.Core.Path.{◌≡◌, subst}
use Prim.Native.Nat.{ℕ, ◌*◌, ◌/◌}
use native.Mathlib.Omega.{arith}
use borrow.Author.Rules.{rules}
use lib.ListN.{length, take}
use lib.Seq.{length-take-le}
use Rattle.request_laws.specs.Chunk.{request_size, Chunk}
use Rattle.bench_turn.proofs.TurnLaws.{turn_on}
use Rattle.bench_turn.proofs.one_turn.turn.Goals as goal

pub returns : goal.returns
returns c =
    let input = c.args.input.now in
    let output = c.args.output.now in
    let count = c.complete-count.result in
    let middle = c.answer_chunk.new.replies in
    let sized : length middle ≡ length output = search rules in
    let taken : length (take (request_size * count) input) ≡ request_size * count =
    length-take-le (request_size * count) input (omega (arith, c.complete-count.ensures)) in
    let chunk : Chunk count (take (request_size * count) input) output middle =
    subst (λ (n : ℕ). Chunk n (take (request_size * count) input) output middle)
    {x = length (take (request_size * count) input) / request_size} {y = count} (omega (arith, taken)) c.answer_chunk.ensures in
    turn_on c.requires c.complete-count.ensures sized chunk c.keep_rest.ensures c.close.ensures
