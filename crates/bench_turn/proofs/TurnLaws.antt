-- A turn on two buffers from its steps: what is answered, what is kept, and how it closes.
use mathlib.Core.Path.{◌≡◌, refl, sym, ◌∙◌, ap, ap₂, subst, subst₂}
use mathlib.Core.List.{List, ◌++◌, append_assoc}
use Prim.Native.Nat.{ℕ, ◌+◌, ◌*◌, ◌-◌, ◌≤◌}
use native.Mathlib.Omega.{arith}
use lib.ListN.{length, take, drop, length-append, length-drop}
use lib.Seq.{length-take-le, take-add, drop-drop}
use Rattle.std.proofs.lemmas.Slice.{between_is}
use Rattle.request_laws.specs.Chunk.{request_size, reply_size, Replied, Chunk}
use Rattle.request_laws.proofs.PartLaws.{part_take}
use Rattle.bench_run.specs.Limit.{complete_in}
use Rattle.bench_run.specs.Run.{Replies}
use Rattle.bench_run.specs.Turn.{Closes, ending_reply, ending_more, Turned}
use Rattle.bench_run.proofs.OneRun.{turn_once}
use Rattle.bench_turn.specs.Buffers.{fronted, flow, TurnRoom, TurnOn, ClosedBy}
use Rattle.bench_turn.specs.declared.one_turn.TurnEnd.{TurnEnd}

-- The replies to a chunk at the front of the input are those at the front of the output.
chunk_replies : (count n : ℕ) (input : List ℕ) {before after : List ℕ} → request_size * count ≤ n → n ≤ length input → reply_size * count ≤ length after
    → Chunk count (take (request_size * count) input) before after → Replies count (take n input) (take (reply_size * count) after)
chunk_replies count n input {before} {after} taken within room chunk =
    record {
      size = length-take-le (reply_size * count) after room;
      each =
          λ i less.
          subst₂ Replied
          (part_take request_size i (request_size * count) input (omega arith) (omega arith) ∙ sym (part_take request_size i n input within (omega arith)))
          (sym (part_take reply_size i (reply_size * count) after room (omega arith)))
          (chunk.each i less);
    }

module _ {held arrived answered count : ℕ} {input output input' middle output' : List ℕ} {r : TurnEnd}
    (room : TurnRoom held arrived answered input output)
    (counts : count ≡ complete_in (held + arrived) answered)
    (sized : length middle ≡ length output)
    (chunk : Chunk count (take (request_size * count) input) output middle)
    (keeps : input' ≡ take (held + arrived - request_size * count) (drop (request_size * count) input) ++ drop (held + arrived - request_size * count) input)
    (closed : ClosedBy arrived (record { held = held + arrived - request_size * count; answered = answered + count }) (reply_size * count) middle r output') where
  abbrev bytes : List ℕ
  bytes = take held input ++ take arrived (drop held input)

  bytes_are : take (held + arrived) input ≡ bytes
  bytes_are = take-add held arrived input

  length_bytes : length bytes ≡ held + arrived
  length_bytes = ap length (sym bytes_are) ∙ length-take-le (held + arrived) input room.there

  length_arrived : length (take arrived (drop held input)) ≡ arrived
  length_arrived = length-take-le arrived (drop held input) (omega (arith, length-drop held input, room.there))

  taken : request_size * count ≤ held + arrived
  taken = omega arith

  fits : reply_size * count ≤ length middle
  fits = omega (arith, room.room)

  abbrev reply : List ℕ
  reply = ending_reply closed.ending

  abbrev kept : List ℕ
  kept = drop (request_size * count) bytes

  kept_is : kept ≡ take (held + arrived - request_size * count) (drop (request_size * count) input)
  kept_is = ap (drop (request_size * count)) (sym bytes_are) ∙ sym (between_is input (request_size * count) (held + arrived))

  length_kept : length kept ≡ held + arrived - request_size * count
  length_kept = length-drop (request_size * count) bytes ∙ ap (λ (n : ℕ). n - request_size * count) length_bytes

  abbrev left : Turned
  left = record { written = take (reply_size * count) middle ++ reply; kept = kept; answered = answered + count; more = ending_more closed.ending }

  length_written : length left.written ≡ reply_size * count + length reply
  length_written = omega (arith, length-append (take (reply_size * count) middle) reply, length-take-le (reply_size * count) middle fits)

  -- Behind the replies the output is as it was.
  behind : drop (reply_size * count + length reply) middle ≡ drop (length left.written) output
  behind =
      sym (drop-drop (length reply) (reply_size * count) middle)
      ∙ ap (drop (length reply)) chunk.rest
      ∙ drop-drop (length reply) (reply_size * count) output
      ∙ ap (λ (n : ℕ). drop n output) (sym length_written)

  pub turn_on : TurnOn held arrived answered input output r input' output'
  turn_on =
      record {
        left = left;
        turn =
            record {
              count = count;
              counts = counts ∙ ap (λ (n : ℕ). complete_in n answered) (sym length_bytes);
              replies = take (reply_size * count) middle;
              answers =
                  subst (λ (l : List ℕ). Replies count l (take (reply_size * count) middle)) bytes_are
                  (chunk_replies count (held + arrived) input taken room.there fits chunk);
              ending = closed.ending;
              closes =
                  subst₂ (λ (n k : ℕ). Closes n k (answered + count) closed.ending) (sym length_arrived) (sym length_kept) closed.closes;
              writes = refl;
              keeps = refl;
              sums = refl;
              follows = refl;
            };
        writes = closed.writes ∙ sym length_written;
        follows = closed.follows ∙ ap (λ (n : ℕ). flow (ending_more closed.ending) (record { held = n; answered = answered + count })) (sym length_kept);
        input_is = keeps ∙ ap₂ ◌++◌ (sym kept_is) (ap (λ (n : ℕ). drop n input) (sym length_kept));
        output_is =
            closed.output_is
            ∙ sym (append_assoc (take (reply_size * count) middle) reply (drop (reply_size * count + length reply) middle))
            ∙ ap (λ (l : List ℕ). (take (reply_size * count) middle ++ reply) ++ l) behind;
      }

-- A turn on two buffers leaves one thing: its numbers, and both buffers whole.
module _ {held arrived answered : ℕ} {input output : List ℕ} {r s : TurnEnd} {input' output' input'' output'' : List ℕ}
    (h : TurnOn held arrived answered input output r input' output') (k : TurnOn held arrived answered input output s input'' output'') where
  same : h.left ≡ k.left
  same = turn_once h.turn k.turn

  pub turn_on_once : (r ≡ s) × (input' ≡ input'') × (output' ≡ output'')
  turn_on_once = (
    λ i.
        record {
          written = (h.writes ∙ ap (λ (l : Turned). length l.written) same ∙ sym k.writes) i;
          run =
              (h.follows
              ∙ ap (λ (l : Turned). flow l.more (record { held = length l.kept; answered = l.answered })) same
              ∙ sym k.follows)
              i;
        },
    h.input_is ∙ ap (λ (l : Turned). fronted l.kept input) same ∙ sym k.input_is,
    h.output_is ∙ ap (λ (l : Turned). fronted l.written output) same ∙ sym k.output_is,
  )
