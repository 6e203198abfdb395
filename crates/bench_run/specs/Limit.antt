-- The bounds of a run, and the numbers that end one.
use Rattle.std.specs.Prelude.{ℕ, ◌-◌, ◌/◌, min}
use Rattle.request_laws.specs.Chunk.{request_size}

-- "Any byte after request 4,096 gets one answer with number 7 and ends it."
abbrev pub most : ℕ
most = 4096

abbrev pub too_many : ℕ
too_many = 7

-- "A last piece of 1 to 34 bytes .. gets number 1 and ends the run."
abbrev pub too_short : ℕ
too_short = 1

-- The requests that `held` bytes have whole, as far as a run goes that has answered some before.
abbrev pub complete_in : (held answered : ℕ) → ℕ
complete_in held answered = min (held / request_size) (most - answered)
