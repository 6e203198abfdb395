-- The first case that is not right, found among the cases by themselves.
use mathlib.Core.Path.{◌≡◌, refl, sym, subst}
use mathlib.Core.Bool.{Bool, true, false, not}
use mathlib.Core.List.{List, []}
use Prim.Native.Nat.{ℕ, ◌*◌, ◌/◌, ◌<◌}
use native.Mathlib.Omega.{arith}
use lib.ListN.{length, get_or}
use Rattle.std.specs.Prelude.{Option, Some, None, MatchOption, unwrap_or}
use Rattle.std.specs.List.{AllWithin, HoldsAt}
use Rattle.std.specs.Simd.{first_chunks}
use Rattle.truth.specs.Answers.{Answers}
use Rattle.truth.proofs.AnswerLaws.{said_yes, said_no}
use Rattle.rounding_runs.specs.Cases.{FirstWrong, SomeRightCase}
use Rattle.rounding_runs.proofs.CaseLaws.{chunk_is, right_there, right_back}

-- What a test says whose answer is turned.
pub turned_true : {P : Type 0} → (t : Bool) × Answers P t × (true ≡ not t) → P → ⊥
turned_true (true, said, e) = absurd cc
turned_true (false, said, e) = said_no said refl

pub turned_false : {P : Type 0} → (t : Bool) × Answers P t × (false ≡ not t) → P
turned_false (true, said, e) = said_yes said refl
turned_false (false, said, e) = absurd cc

abbrev pub IsRight : List ℕ → Type 0
IsRight case = SomeRightCase case 0

abbrev pub IsWrong : List ℕ → Type 0
IsWrong case = SomeRightCase case 0 → ⊥

module _ (s : List ℕ) (cases : List (List ℕ)) (are : cases ≡ first_chunks 25 (length s / 25) s) where
  right_case : (k : ℕ) → k < length s / 25 → IsRight (get_or cases k []) → SomeRightCase s (k * 25)
  right_case k less right =
      right_there s (k * 25) (subst IsRight (rw are (chunk_is k (length s / 25) s less)) right)

  wrong_case : (k : ℕ) → k < length s / 25 → IsWrong (get_or cases k []) → SomeRightCase s (k * 25) → ⊥
  wrong_case k less wrong some =
      wrong (subst IsRight (sym (rw are (chunk_is k (length s / 25) s less))) (right_back s (k * 25) some))

  pub first_found : (r : Option ℕ) → length cases ≡ length s / 25
      → MatchOption r (AllWithin IsRight cases 0 (length cases)) (λ i. (i < length cases) × HoldsAt IsWrong cases i × AllWithin IsRight cases 0 i)
      → FirstWrong s (unwrap_or r (length cases))
  first_found None long all =
      record {
        within = omega arith;
        before = λ j less. right_case j (omega arith) (all j [] (omega arith) less);
        here = λ less. absurd (omega arith);
      }
  first_found (Some i) long found =
      record {
        within = omega arith;
        before = λ j less. right_case j (omega arith) (found.2 j [] (omega arith) less);
        here = λ less. wrong_case i less (found.1 []);
      }
