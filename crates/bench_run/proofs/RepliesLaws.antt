-- Replies to requests that arrive behind others.
use mathlib.Core.Path.{◌≡◌, refl, sym, ◌∙◌, ap, subst, subst⁻¹}
use mathlib.Core.Logic.{⊎_elim}
use mathlib.Core.List.{List, [], ◌++◌}
use Prim.Native.Nat.{ℕ, ◌+◌, ◌-◌, ◌*◌, ◌<◌, ◌≤◌}
use native.Mathlib.Omega.{arith}
use lib.ListN.{length, drop, length-append}
use lib.Seq.{drop_at, take_all}
use Rattle.patterns.proofs.ValueLaws.{le_or_lt}
use Rattle.request_laws.specs.Chunk.{request_size, reply_size, part, Replied}
use Rattle.request_laws.proofs.PartLaws.{parts_agree, part_front, part_behind}
use Rattle.request_laws.proofs.ChunkLaws.{replied_once}
use Rattle.bench_run.specs.Run.{Replies}

-- Nothing is answered yet.
pub replies_none : (input : List ℕ) → Replies 0 input []
replies_none input = record { size = refl; each = λ i less. absurd (omega arith) }

-- Bytes that arrive behind the requests change none of their replies.
pub replies_front : (m : ℕ) {input replies : List ℕ} (more : List ℕ) → request_size * m ≤ length input → Replies m input replies
    → Replies m (input ++ more) replies
replies_front m {input} {replies} more fits h =
    record {
      size = h.size;
      each =
          λ i less.
          subst⁻¹ (λ (r : List ℕ). Replied r (part reply_size i replies)) (part_front request_size i input more (omega arith)) (h.each i less);
    }

-- The replies to n requests behind those to m.
module _ (m n : ℕ) {input a b : List ℕ} (h : Replies m input a) (k : Replies n (drop (request_size * m) input) b) where
  early : (i : ℕ) → i < m → Replied (part request_size i input) (part reply_size i (a ++ b))
  early i less = subst⁻¹ (Replied (part request_size i input)) (part_front reply_size i a b (omega (arith, h.size))) (h.each i less)

  late : (j : ℕ) → j < n → Replied (part request_size (m + j) input) (part reply_size (m + j) (a ++ b))
  late j less =
      subst⁻¹ (λ (r : List ℕ). Replied r (part reply_size (m + j) (a ++ b))) (part_behind request_size m j input)
      (subst⁻¹ (Replied (part request_size j (drop (request_size * m) input)))
      (part_behind reply_size m j (a ++ b) ∙ ap (part reply_size j) (drop_at a b (reply_size * m) h.size)) (k.each j less))

  pub replies_join : Replies (m + n) input (a ++ b)
  replies_join =
      record {
        size = omega (arith, length-append a b, h.size, k.size);
        each =
            λ i less.
            ⊎_elim
            (λ after.
            subst (λ (j : ℕ). Replied (part request_size j input) (part reply_size j (a ++ b))) {x = m + (i - m)} {y = i} (omega arith)
            (late (i - m) (omega arith)))
            (λ before. early i before) (le_or_lt m i);
      }

-- Requests have one list of replies.
pub replies_once : (count : ℕ) {input a b : List ℕ} → Replies count input a → Replies count input b → a ≡ b
replies_once count {a = a} {b = b} h k =
    sym (take_all (reply_size * count) a (omega (arith, h.size)))
    ∙ parts_agree reply_size count a b (λ i less. replied_once (h.each i less) (k.each i less))
    ∙ take_all (reply_size * count) b (omega (arith, k.size))
