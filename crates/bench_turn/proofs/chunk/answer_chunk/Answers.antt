-- `chunk::answer_chunk` meets its contract: one request more is answered.
use mathlib.Core.Path.{◌≡◌, ◌∙◌, ap, subst, subst⁻¹}
use mathlib.Core.List.{List, []}
use Prim.Native.Nat.{ℕ, ◌+◌, ◌*◌, ◌-◌, ◌/◌, ◌<◌}
use native.Mathlib.Omega.{arith}
use borrow.Author.Rules.{rules}
use borrow.Rule.Slice.PartMut.{put_mid}
use lib.ListN.{length, get_or}
use Rattle.request_laws.specs.Chunk.{request_size, reply_size, part, Replied, Chunk}
use Rattle.bench_turn.proofs.ChunkLaws.{request_at, chunk_more}
use Rattle.bench_turn.proofs.chunk.answer_chunk.Goals as goal

pub loop-i-preserved : goal.loop-i-preserved
loop-i-preserved c =
    let input = c.args.requests.now in
    let i = c.loop-i.i in
    let cut = c.as_chunks.ensures in
    let less : i < length input / request_size = omega (arith, cut.front_len) in
    let nineteen : length c.reply.result ≡ reply_size = search rules in
    let replied : Replied (part request_size i input) c.reply.result =
    subst (λ (l : List ℕ). Replied l c.reply.result)
    (ap (λ (l : List (List ℕ)). get_or l i []) cut.front ∙ request_at (length input / request_size) i input less)
    c.reply.ensures in
    subst⁻¹ (λ (l : List ℕ). Chunk (i + 1) input c.args.replies.now (put_mid (reply_size * i) (reply_size * i + reply_size - reply_size * i) c.loop-i.replies l))
    c.copy_from_slice.ensures.after
    (chunk_more i (reply_size * i + reply_size - reply_size * i) c.loop-i.invariant replied nineteen (omega arith) (omega arith))
