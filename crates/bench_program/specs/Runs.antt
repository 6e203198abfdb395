-- A run from turn to turn: it holds less than a request, each turn leaves fewer bytes to take, and only what a turn left is written.
use Rattle.std.specs.Prelude.{true, ◌≡◌, List, ℕ, ◌+◌, ◌*◌, ◌-◌, ◌<◌, ◌≤◌, length, take}
use Rattle.request_laws.specs.Chunk.{request_size, reply_size}
use Rattle.bench_run.specs.Limit.{most}
use Rattle.bench_run.specs.Turn.{Turned, Turn}

-- The requests that the buffers have room for.
abbrev pub room : ℕ
room = 512

-- These are the bytes that some turn leaves to be written.
pub record LeftByTurn (bytes : List ℕ) : Type 0 where
  pub held : List ℕ
  pub arrived : List ℕ
  pub answered : ℕ
  pub left : Turned
  pub turn : Turn held arrived answered left
  pub is : bytes ≡ left.written

-- What a turn needs.
pub record Ready (held answered : ℕ) (input output : List ℕ) : Type 0 where
  pub few : answered ≤ most
  pub short : held < request_size
  pub full : answered ≡ most → held ≡ 0
  pub input_room : length input ≡ request_size * room
  pub output_room : length output ≡ reply_size * room + reply_size

-- The bytes that a run can still take, and one more for the byte that it does not.
abbrev pub bytes_left : (held answered : ℕ) → ℕ
bytes_left held answered = 1 + request_size * most - (request_size * answered + held)

-- What a turn leaves where the run goes on. It was made on the bytes that were held, whatever arrived, and its rest is held.
pub record Onward (held answered : ℕ) (input : List ℕ) (held' answered' : ℕ) (input' : List ℕ) : Type 0 where
  pub arrived : List ℕ
  pub left : Turned
  pub turn : Turn (take held input) arrived answered left
  pub follows : left.more ≡ true
  pub keeps : take held' input' ≡ left.kept
  pub answers : answered' ≡ left.answered
  pub few : answered' ≤ most
  pub short : held' < request_size
  pub full : answered' ≡ most → held' ≡ 0
  pub falls : bytes_left held' answered' < bytes_left held answered
