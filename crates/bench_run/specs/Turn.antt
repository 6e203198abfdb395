-- One turn of a run, and the turns of a whole run, whose input arrives in pieces of any sizes.
use Rattle.std.specs.Prelude.{Bool, true, false, ◌≡◌, List, [], ◌∷◌, ◌++◌, ℕ, ◌+◌, ◌*◌, ◌<◌, length, drop}
use Rattle.request_laws.specs.Chunk.{request_size}
use Rattle.bench_run.specs.Limit.{most, too_many, too_short, complete_in}
use Rattle.bench_run.specs.Run.{Replies, last_reply}
use Rattle.bench_run.specs.declared.ending.Ending.{Ending}
use Rattle.bench_run.specs.declared.ending.Leftover.{Leftover}

-- How a turn closes, by the bytes that arrived, those that are kept, and the requests that are answered by then. The input has
-- ended where nothing arrived.
pub data Closes (arrived kept answered : ℕ) : Ending → Type 0 where
  goes_on : 0 < arrived → (answered ≡ most → kept ≡ 0) → Closes arrived kept answered Ending.Onward
  is_whole : arrived ≡ 0 → kept ≡ 0 → Closes arrived kept answered Ending.Whole
  has_piece : arrived ≡ 0 → 0 < kept → answered < most → Closes arrived kept answered (Ending.Last Leftover.Piece)
  has_excess : answered ≡ most → 0 < kept → Closes arrived kept answered (Ending.Last Leftover.Excess)

-- The number of the reply to bytes that are no request.
abbrev pub leftover_number : Leftover → ℕ
leftover_number Leftover.Piece = too_short
leftover_number Leftover.Excess = too_many

-- The reply that closes a turn, and whether another turn follows.
abbrev pub ending_reply : Ending → List ℕ
ending_reply Ending.Onward = []
ending_reply Ending.Whole = []
ending_reply (Ending.Last leftover) = last_reply (leftover_number leftover)

abbrev pub ending_more : Ending → Bool
ending_more Ending.Onward = true
ending_more Ending.Whole = false
ending_more (Ending.Last leftover) = false

-- What a turn leaves: the bytes to write, the bytes that are kept for the next turn, the requests that are answered by then, and
-- whether a turn follows.
pub record Turned : Type 0 where
  pub written : List ℕ
  pub kept : List ℕ
  pub answered : ℕ
  pub more : Bool

-- A turn answers all whole requests in the bytes that were held and those that arrived, as far as the run goes, and keeps the rest.
pub record Turn (held arrived : List ℕ) (answered : ℕ) (left : Turned) : Type 0 where
  pub count : ℕ
  pub counts : count ≡ complete_in (length (held ++ arrived)) answered
  pub replies : List ℕ
  pub answers : Replies count (held ++ arrived) replies
  pub ending : Ending
  pub closes : Closes (length arrived) (length left.kept) left.answered ending
  pub writes : left.written ≡ replies ++ ending_reply ending
  pub keeps : left.kept ≡ drop (request_size * count) (held ++ arrived)
  pub sums : left.answered ≡ answered + count
  pub follows : left.more ≡ ending_more ending

-- The turns of a run to its end, and all that they write.
pub data Turns : (held : List ℕ) (answered : ℕ) (arrivals : List (List ℕ)) (output : List ℕ) → Type 0 where
  last_turn : {held arrived : List ℕ} {answered : ℕ} {left : Turned} → Turn held arrived answered left → left.more ≡ false
      → Turns held answered (arrived ∷ []) left.written
  next_turn : {held arrived output : List ℕ} {answered : ℕ} {arrivals : List (List ℕ)} {left : Turned} → Turn held arrived answered left
      → left.more ≡ true → Turns left.kept left.answered arrivals output → Turns held answered (arrived ∷ arrivals) (left.written ++ output)
