-- Document 01's wrong version of a run does not meet the statement: "a bench run that answers the first request and repeats it".
use mathlib.Core.Path.{◌≡◌, sym, ◌∙◌, ap, subst}
use mathlib.Core.List.{List}
use Prim.Native.Nat.{ℕ, ◌<◌}
use native.Mathlib.Omega.{arith}
use lib.Dec.{lit<}
use lib.ListN.{get_or}
use Rattle.request_laws.specs.Chunk.{reply_size, part}
use Rattle.request_laws.proofs.PartLaws.{part_front}
use Rattle.request_laws.proofs.ChunkLaws.{two_requests, first_reply, second_reply}
use Rattle.bench_run.specs.Run.{Replies, EndsWith, whole, piece, excess, Run}

-- A run on two requests answers both.
both_answered : {count : ℕ} {ending : List ℕ} → EndsWith two_requests count ending → count ≡ 2
both_answered (whole e) = omega arith
both_answered (piece few more less) = omega arith
both_answered (excess all more) = omega arith

module _ {output : List ℕ} (h : Run two_requests output) where
  two_replies : Replies 2 two_requests h.replies
  two_replies = subst (λ (n : ℕ). Replies n two_requests h.replies) (both_answered h.ends) h.answers

  reply_at : (i : ℕ) → i < 2 → part reply_size i output ≡ part reply_size i h.replies
  reply_at i less = ap (part reply_size i) h.is ∙ part_front reply_size i h.replies h.ending (omega (arith, two_replies.size))

  not_repeated : part reply_size 1 output ≡ part reply_size 0 output → ⊥
  not_repeated same =
      let numbers = ap (λ (l : List ℕ). get_or l 0 0) (sym (reply_at 1 (lit< tt)) ∙ same ∙ reply_at 0 (lit< tt)) in
      omega (arith, first_reply (two_replies.each 0 (lit< tt)), second_reply (two_replies.each 1 (lit< tt)), numbers)

-- No version whose second reply is the first one again answers every input as it must.
pub no_repeating_run : (run : List ℕ → List ℕ) → ((input : List ℕ) → Run input (run input))
    → ((input : List ℕ) → part reply_size 1 (run input) ≡ part reply_size 0 (run input)) → ⊥
no_repeating_run run answers repeats = not_repeated (answers two_requests) (repeats two_requests)
