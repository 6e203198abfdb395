-- What the code's states and answers are in the terms of document 01: "states numbered 0 to 15 in the order declared ..
-- NaI gives 16."
use Rattle.std.specs.Prelude.{◌≡◌, ℕ, Option, Some, None}
use Rattle.meaning.specs.Overlap as meant
use Rattle.meaning.specs.Overlap.{State, state_number}
use Rattle.overlap.specs.declared.state.Overlap.{Overlap}

abbrev pub state_of : Overlap → State
state_of Overlap.BothEmpty = meant.both_empty
state_of Overlap.FirstEmpty = meant.first_empty
state_of Overlap.SecondEmpty = meant.second_empty
state_of Overlap.Before = meant.before
state_of Overlap.Meets = meant.meets
state_of Overlap.Overlaps = meant.overlaps
state_of Overlap.Starts = meant.starts
state_of Overlap.ContainedBy = meant.contained_by
state_of Overlap.Finishes = meant.finishes
state_of Overlap.Equals = meant.equals
state_of Overlap.FinishedBy = meant.finished_by
state_of Overlap.Contains = meant.contains
state_of Overlap.StartedBy = meant.started_by
state_of Overlap.OverlappedBy = meant.overlapped_by
state_of Overlap.MetBy = meant.met_by
state_of Overlap.After = meant.after

abbrev pub number_of : Overlap → ℕ
number_of s = state_number (state_of s)

abbrev pub IsNumberOf : Overlap → ℕ → Type 0
IsNumberOf s n = n ≡ number_of s

-- NaI has no state.
abbrev pub dec_number_of : Option Overlap → ℕ
dec_number_of (Some s) = number_of s
dec_number_of None = 16
