-- A chunk with one reply more.
use mathlib.Core.Path.{◌≡◌, refl, sym, ◌∙◌, ap, subst⁻¹}
use mathlib.Core.List.{List, []}
use Prim.Native.Nat.{ℕ, zero, suc, ◌+◌, ◌-◌, ◌*◌, ◌<◌, ◌≤◌}
use native.Mathlib.Omega.{arith}
use borrow.Author.Count.{below_more}
use borrow.Rule.Slice.PartMut.{put_mid}
use lib.ListN.{length, get_or, take, drop}
use lib.Seq.{drop-drop}
use Rattle.std.proofs.lemmas.Slice.{between-put_mid, drop-put_mid, take-put_mid_below, between_is}
use Rattle.std.specs.Simd.{first_chunks}
use Rattle.request_laws.specs.Chunk.{request_size, reply_size, part, Replied, Chunk}

-- A request among those that std cuts off is the part of the input at its place.
pub request_at : (count i : ℕ) (input : List ℕ) → i < count → get_or (first_chunks request_size count input) i [] ≡ part request_size i input
request_at zero i input less = absurd (omega arith)
request_at (suc count) zero input less = refl
request_at (suc count) (suc i) input less =
    request_at count i (drop request_size input) (omega arith)
    ∙ ap (take request_size)
    (drop-drop (request_size * i) request_size input
    ∙ ap (λ (n : ℕ). drop n input) {x = request_size + request_size * i} {y = request_size * suc i} (omega arith))

-- What follows one part more.
drop_part : (i : ℕ) (l : List ℕ) → drop (reply_size * (i + 1)) l ≡ drop reply_size (drop (reply_size * i) l)
drop_part i l =
    ap (λ (n : ℕ). drop n l) {x = reply_size * (i + 1)} {y = reply_size * i + reply_size} (omega arith) ∙ sym (drop-drop reply_size (reply_size * i) l)

-- A part before the one that is written.
earlier_part : (i j k : ℕ) (l d : List ℕ) → j < i → reply_size * i ≤ length l → part reply_size j (put_mid (reply_size * i) k l d) ≡ part reply_size j l
earlier_part i j k l d less within =
    part_is (put_mid (reply_size * i) k l d)
    ∙ ap (drop (reply_size * j)) (take-put_mid_below (reply_size * i) k l d (reply_size * j + reply_size) (omega arith) within)
    ∙ sym (part_is l)
  where
    part_is : (m : List ℕ) → part reply_size j m ≡ drop (reply_size * j) (take (reply_size * j + reply_size) m)
    part_is m =
        ap (λ (n : ℕ). take n (drop (reply_size * j) m)) {x = reply_size} {y = reply_size * j + reply_size - reply_size * j} (omega arith)
        ∙ between_is m (reply_size * j) (reply_size * j + reply_size)

-- One reply more, written at its own place.
pub chunk_more : (i k : ℕ) {input before replies reply : List ℕ} → Chunk i input before replies → Replied (part request_size i input) reply
    → length reply ≡ reply_size → k ≡ reply_size → reply_size * i + reply_size ≤ length replies
    → Chunk (i + 1) input before (put_mid (reply_size * i) k replies reply)
chunk_more i k {input} {before} {replies} {reply} chunk replied sized long fits =
    record {
      each =
          below_more (λ (j : ℕ). Replied (part request_size j input) (part reply_size j (put_mid (reply_size * i) k replies reply))) i
          (λ j less. subst⁻¹ (Replied (part request_size j input)) (earlier_part i j k replies reply less (omega arith)) (chunk.each j less))
          (subst⁻¹ (Replied (part request_size i input)) written replied);
      rest =
          drop-put_mid (reply_size * i) k replies reply (reply_size * (i + 1)) (omega arith) (omega arith) (omega arith)
          ∙ drop_part i replies
          ∙ ap (drop reply_size) chunk.rest
          ∙ sym (drop_part i before);
    }
  where
    written : part reply_size i (put_mid (reply_size * i) k replies reply) ≡ reply
    written =
        ap (λ (n : ℕ). take n (drop (reply_size * i) (put_mid (reply_size * i) k replies reply))) {x = reply_size} {y = reply_size * i + reply_size - reply_size * i} (omega arith)
        ∙ between-put_mid (reply_size * i) k replies reply (reply_size * i + reply_size) (omega arith) (omega arith)
