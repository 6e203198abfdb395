-- A chunk of requests has one output, and a run that repeats its first reply is none.
use mathlib.Core.Path.{◌≡◌, refl, sym, ◌∙◌, ap, ap₂}
use mathlib.Core.List.{List, ◌∷◌, ◌++◌}
use Prim.Native.Nat.{ℕ, ◌*◌, ◌<◌, ◌≤◌}
use native.Mathlib.Omega.{arith}
use lib.Dec.{lit<, lit≤}
use lib.ListN.{length, get_or, take-append-drop}
use Rattle.patterns.specs.Format.{binary64}
use Rattle.meaning.specs.Bytes.{big_endian, write_decorated}
use Rattle.meaning.specs.Requests.{zeros, decorated_size, DecoratedRequest}
use Rattle.meaning.proofs.OperationNumbers.{not_zero_lem}
use Rattle.cases.specs.Table.{two}
use Rattle.meaning.specs.Statement.{refusal_at, no_refusal}
use Rattle.meaning.specs.Calls.{Left}
use Rattle.request_laws.specs.Calls.{Leaves}
use Rattle.request_laws.specs.Chunk.{request_size, reply_size, part, Replied, Chunk}
use Rattle.request_laws.proofs.PartLaws.{parts_agree}
use Rattle.meaning.proofs.CalledLaws.{pass, stop}
use Rattle.request_laws.proofs.OneOutcome.{decorated_request_once}
use Rattle.request_laws.proofs.Examples.{decorated_sum, decorated_sum_lem, common}

abbrev reply : Left → List ℕ
reply l = l.refusal.number ∷ l.refusal.place ∷ l.after

-- One reply to a request.
replied_as : {request bytes : List ℕ} → Replied request bytes → (l : Left)
    → Leaves (DecoratedRequest binary64) request (zeros decorated_size) l → bytes ≡ reply l
replied_as {request} h l c = h.is ∙ ap reply (decorated_request_once binary64 request (zeros decorated_size) h.left l h.called c)

pub replied_once : {request a b : List ℕ} → Replied request a → Replied request b → a ≡ b
replied_once h k = replied_as h k.left k.called ∙ sym k.is

pub chunk_once : (count : ℕ) {input before a b : List ℕ} → Chunk count input before a → Chunk count input before b → a ≡ b
chunk_once count {a = a} {b = b} h k =
    sym (take-append-drop (reply_size * count) a)
    ∙ ap₂ ◌++◌ (parts_agree reply_size count a b (λ i l. replied_once (h.each i l) (k.each i l))) (h.rest ∙ sym k.rest)
    ∙ take-append-drop (reply_size * count) b

-- A request that is answered, and one with an operation number that is none.
abbrev pub two_requests : List ℕ
two_requests = decorated_sum ++ zeros request_size

pub first_reply : {bytes : List ℕ} → Replied (part request_size 0 two_requests) bytes → get_or bytes 0 0 ≡ 0
first_reply h =
    ap (λ (l : List ℕ). get_or l 0 0)
    (replied_as h (record { refusal = no_refusal; after = write_decorated big_endian (common two) }) decorated_sum_lem)

pub second_reply : {bytes : List ℕ} → Replied (part request_size 1 two_requests) bytes → get_or bytes 0 0 ≡ 3
second_reply h =
    ap (λ (l : List ℕ). get_or l 0 0)
    (replied_as h (record { refusal = refusal_at 3 0; after = zeros decorated_size })
    (pass refl (pass refl (stop (λ k. not_zero_lem k.asked (sym k.asks.is))))))

-- No run that answers the first request and repeats its reply answers every chunk for which there is room.
pub no_repeating : (run : (count : ℕ) (input before : List ℕ) → List ℕ)
    → ((count : ℕ) (input before : List ℕ) → request_size * count ≤ length input → reply_size * count ≤ length before
    → Chunk count input before (run count input before))
    → ((count : ℕ) (input before : List ℕ) (i : ℕ) → i < count
    → part reply_size i (run count input before) ≡ part reply_size 0 (run count input before))
    → ⊥
no_repeating run answers repeats =
    let before = zeros (reply_size * 2) in
    let chunk = answers 2 two_requests before (lit≤ tt) (lit≤ tt) in
    let same = ap (λ (l : List ℕ). get_or l 0 0) (repeats 2 two_requests before 1 (lit< tt)) in
    omega (arith, first_reply (chunk.each 0 (lit< tt)), second_reply (chunk.each 1 (lit< tt)), same)
