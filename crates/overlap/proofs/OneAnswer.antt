-- Two answers that both satisfy the statement of a public function are equal, one theorem for each function.
use mathlib.Core.Path.{◌≡◌, refl, ap}
use lib.ListN.{get_or}
use Rattle.std.specs.Prelude.{ℕ, List, [], ◌∷◌, Option, Some, None, Result}
use Rattle.patterns.specs.Format.{Format}
use Rattle.meaning.specs.Pairs.{Pair}
use Rattle.meaning.specs.Statement.{DecPair}
use Rattle.meaning.specs.Overlap.{BareOverlap, DecOverlap}
use Rattle.uniqueness.proofs.OverlapLaws.{bare_overlap_once, dec_overlap_once}
use Rattle.refusals.specs.RefusalMeaning.{outcome_of}
use Rattle.refusals.specs.declared.Refusal.{Refusal}
use Rattle.refusals.proofs.Known.{result_known}
use Rattle.overlap.specs.OverlapMeaning.{number_of, dec_number_of}
use Rattle.overlap.specs.declared.state.Overlap.{Overlap}

-- The states by their numbers.
numbered : List (Option Overlap)
numbered =
    Some Overlap.BothEmpty
    ∷ Some Overlap.FirstEmpty
    ∷ Some Overlap.SecondEmpty
    ∷ Some Overlap.Before
    ∷ Some Overlap.Meets
    ∷ Some Overlap.Overlaps
    ∷ Some Overlap.Starts
    ∷ Some Overlap.ContainedBy
    ∷ Some Overlap.Finishes
    ∷ Some Overlap.Equals
    ∷ Some Overlap.FinishedBy
    ∷ Some Overlap.Contains
    ∷ Some Overlap.StartedBy
    ∷ Some Overlap.OverlappedBy
    ∷ Some Overlap.MetBy
    ∷ Some Overlap.After
    ∷ []

dec_state_of : ℕ → Option Overlap
dec_state_of n = get_or numbered n None

dec_back : (s : Option Overlap) → dec_state_of (dec_number_of s) ≡ s
unfolding dec_state_of numbered
dec_back (Some Overlap.BothEmpty) = refl
dec_back (Some Overlap.FirstEmpty) = refl
dec_back (Some Overlap.SecondEmpty) = refl
dec_back (Some Overlap.Before) = refl
dec_back (Some Overlap.Meets) = refl
dec_back (Some Overlap.Overlaps) = refl
dec_back (Some Overlap.Starts) = refl
dec_back (Some Overlap.ContainedBy) = refl
dec_back (Some Overlap.Finishes) = refl
dec_back (Some Overlap.Equals) = refl
dec_back (Some Overlap.FinishedBy) = refl
dec_back (Some Overlap.Contains) = refl
dec_back (Some Overlap.StartedBy) = refl
dec_back (Some Overlap.OverlappedBy) = refl
dec_back (Some Overlap.MetBy) = refl
dec_back (Some Overlap.After) = refl
dec_back None = refl

-- The state with a number.
state_or : Option Overlap → Overlap
state_or (Some s) = s
state_or None = Overlap.After

back : (s : Overlap) → state_or (dec_state_of (number_of s)) ≡ s
unfolding state_or
back s = ap state_or (dec_back (Some s))

pub overlap_once : (F : Format) (x y : Pair) (r s : Result Overlap Refusal)
    → BareOverlap F x y (outcome_of number_of r) → BareOverlap F x y (outcome_of number_of s) → r ≡ s
overlap_once F x y r s a b = result_known (λ n. state_or (dec_state_of n)) back (bare_overlap_once F x y a b)

pub overlap_dec_once : (F : Format) (x y : DecPair) (r s : Result (Option Overlap) Refusal)
    → DecOverlap F x y (outcome_of dec_number_of r) → DecOverlap F x y (outcome_of dec_number_of s) → r ≡ s
overlap_dec_once F x y r s a b = result_known dec_state_of dec_back (dec_overlap_once F x y a b)
