-- A whole run of the bench program. Document 01: it "reads decorated requests from standard input and writes 19 bytes for each".
use Rattle.std.specs.Prelude.{◌≡◌, List, [], ◌∷◌, ◌++◌, ℕ, ◌+◌, ◌*◌, ◌<◌, ◌≤◌, length}
use Rattle.meaning.specs.Requests.{zeros, decorated_size}
use Rattle.request_laws.specs.Chunk.{request_size, reply_size, part, Replied}
use Rattle.bench_run.specs.Limit.{most, too_many, too_short}

-- The first `count` requests have these replies, each its own and in their order, and there are no others.
pub record Replies (count : ℕ) (input replies : List ℕ) : Type 0 where
  pub size : length replies ≡ reply_size * count
  pub each : (i : ℕ) → i < count → Replied (part request_size i input) (part reply_size i replies)

-- The reply to bytes that are no request: "number, place, answer; the answer is 17 zero bytes if refused".
abbrev pub last_reply : (number : ℕ) → List ℕ
last_reply number = number ∷ 0 ∷ zeros decorated_size

-- What a run writes behind the replies to its requests, of which it answered `count`.
pub data EndsWith (input : List ℕ) (count : ℕ) : List ℕ → Type 0 where
  -- All bytes are those of the requests. "Empty input writes nothing."
  whole : length input ≡ request_size * count → EndsWith input count []
  -- "A last piece of 1 to 34 bytes, with fewer than 4,096 requests before it, gets number 1 and ends the run."
  piece : count < most → request_size * count < length input → length input < request_size * count + request_size
      → EndsWith input count (last_reply too_short)
  -- "Any byte after request 4,096 gets one answer with number 7 and ends it."
  excess : count ≡ most → request_size * count < length input → EndsWith input count (last_reply too_many)

-- What a run writes for its whole input: the replies to its requests in order, then 1 or 7 where due.
pub record Run (input output : List ℕ) : Type 0 where
  pub count : ℕ
  pub few : count ≤ most
  pub replies : List ℕ
  pub answers : Replies count input replies
  pub ending : List ℕ
  pub ends : EndsWith input count ending
  pub is : output ≡ replies ++ ending
