-- What the bench program answers. Document 01: "reads decorated requests .. and writes 19 bytes for each: number, place, answer".
use Rattle.std.specs.Prelude.{◌≡◌, List, ◌∷◌, ℕ, ◌+◌, ◌*◌, ◌<◌, take, drop}
use Rattle.patterns.specs.Format.{binary64}
use Rattle.meaning.specs.Requests.{zeros, decorated_size, DecoratedRequest}
use Rattle.meaning.specs.Calls.{Left}
use Rattle.request_laws.specs.Calls.{Leaves}

abbrev pub request_size : ℕ
request_size = 1 + decorated_size + decorated_size

abbrev pub reply_size : ℕ
reply_size = 2 + decorated_size

-- The part of `size` bytes at a place that counts parts.
abbrev pub part : (size i : ℕ) → List ℕ → List ℕ
part size i bs = take size (drop (size * i) bs)

-- The nineteen bytes for one request: "the answer is 17 zero bytes if refused".
pub record Replied (request reply : List ℕ) : Type 0 where
  pub left : Left
  pub called : Leaves (DecoratedRequest binary64) request (zeros decorated_size) left
  pub is : reply ≡ left.refusal.number ∷ left.refusal.place ∷ left.after

-- A chunk of `count` requests: each reply answers its own request, and the rest of the output is as it was.
pub record Chunk (count : ℕ) (input before after : List ℕ) : Type 0 where
  pub each : (i : ℕ) → i < count → Replied (part request_size i input) (part reply_size i after)
  pub rest : drop (reply_size * count) after ≡ drop (reply_size * count) before
