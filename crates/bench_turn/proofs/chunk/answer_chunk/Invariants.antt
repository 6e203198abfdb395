-- What holds at each turn of `chunk::answer_chunk`: the first i requests are answered.
use Rattle.request_laws.specs.Chunk.{Chunk}
use Rattle.bench_turn.proofs.chunk.answer_chunk.Given as goal

abbrev pub invariant-loop-i : goal.invariant-loop-i
invariant-loop-i l = Chunk l.i l.fn.requests l.initial.replies l.replies
