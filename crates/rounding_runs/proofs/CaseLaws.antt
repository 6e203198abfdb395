-- A case by itself says what it says where it stands among the others.
use mathlib.Core.Path.{◌≡◌, refl, sym, ◌∙◌, ap}
use mathlib.Core.Bool.{Bool}
use mathlib.Core.List.{List, []}
use Prim.Native.Nat.{ℕ, zero, suc, ◌+◌, ◌*◌, ◌^◌, ◌<◌, ◌≤◌}
use native.Mathlib.Omega.{arith}
use lib.ListN.{get_or, take, drop}
use lib.Seq.{drop-drop}
use Rattle.std.specs.Int.{w64, from_be_bytes}
use Rattle.std.specs.Simd.{first_chunks}
use Rattle.std.proofs.lemmas.List.{get_or-drop, get_or-take}
use Rattle.truth.specs.Answers.{Answers}
use Rattle.truth.proofs.AnswerLaws.{answers_iff}
use Rattle.rounding_runs.specs.Cases.{Says, SomeRightCase}
use Rattle.rounding_runs.specs.Words.{word_at}
use Rattle.rounding_runs.specs.declared.roundings.Operation.{Operation}

-- The byte j of the n bytes from `at` on is the byte at m of the whole.
part_byte : (n at : ℕ) (s : List ℕ) (j m : ℕ) → j < n → m ≡ at + j → get_or (take n (drop at s)) j 0 ≡ get_or s m 0
part_byte n at s j m less place =
    get_or-take n (drop at s) j 0 less ∙ get_or-drop at s j 0 ∙ ap (λ (i : ℕ). get_or s i 0) (sym place)

-- A word is the big-endian number of its eight bytes.
pub word_of : (s : List ℕ) (at : ℕ) → from_be_bytes w64 (take 8 (drop at s)) ≡ word_at s at
unfolding word_at
word_of s at = summed ∙ same
  where
    l : List ℕ
    l = take 8 (drop at s)

    sum : ℕ
    sum =
        get_or l 0 0 * 2 ^ 56 + get_or l 1 0 * 2 ^ 48 + get_or l 2 0 * 2 ^ 40 + get_or l 3 0 * 2 ^ 32 + get_or l 4 0 * 2 ^ 24 + get_or l 5 0 * 2 ^ 16 + get_or l 6 0 * 2 ^ 8 + get_or l 7 0

    summed : from_be_bytes w64 (take 8 (drop at s)) ≡ sum
    summed = refl

    byte : (j m : ℕ) → j < 8 → m ≡ at + j → get_or l j 0 ≡ get_or s m 0
    byte = part_byte 8 at s

    same : sum ≡ word_at s at
    same =
        omega (arith, byte 0 at (omega arith) (omega arith), byte 1 (at + 1) (omega arith) (omega arith), byte 2 (at + 2) (omega arith) (omega arith), byte 3 (at + 3) (omega arith) (omega arith), byte 4 (at + 4) (omega arith) (omega arith), byte 5 (at + 4 + 1) (omega arith) (omega arith), byte 6 (at + 4 + 2) (omega arith) (omega arith), byte 7 (at + 4 + 3) (omega arith) (omega arith))

-- The case of number k among all.
pub chunk_is : (k n : ℕ) (s : List ℕ) → k < n → get_or (first_chunks 25 n s) k [] ≡ take 25 (drop (k * 25) s)
chunk_is k zero s less = absurd (omega arith)
chunk_is zero (suc n) s less = refl
chunk_is (suc k) (suc n) s less =
    chunk_is k n (drop 25 s) (omega arith) ∙ ap (take 25) (drop-drop (k * 25) 25 s ∙ ap (λ (m : ℕ). drop m s) (omega arith))

-- A case that is taken out.
abbrev pub taken : List ℕ → ℕ → List ℕ
taken s at = take 25 (drop at s)

word_there : (s : List ℕ) (at i : ℕ) → i + 8 ≤ 25 → word_at (taken s at) i ≡ word_at s (at + i)
unfolding word_at
word_there s at i within =
    omega (arith, byte i (at + i) (omega arith) (omega arith), byte (i + 1) (at + i + 1) (omega arith) (omega arith), byte (i + 2) (at + i + 2) (omega arith) (omega arith), byte (i + 3) (at + i + 3) (omega arith) (omega arith), byte (i + 4) (at + i + 4) (omega arith) (omega arith), byte (i + 4 + 1) (at + i + 4 + 1) (omega arith) (omega arith), byte (i + 4 + 2) (at + i + 4 + 2) (omega arith) (omega arith), byte (i + 4 + 3) (at + i + 4 + 3) (omega arith) (omega arith))
  where
    byte : (j m : ℕ) → j < 25 → m ≡ at + j → get_or (taken s at) j 0 ≡ get_or s m 0
    byte = part_byte 25 at s

-- It says there what it says by itself.
module _ (s : List ℕ) (at : ℕ) where
  pub number_there : get_or (taken s at) 0 0 ≡ get_or s at 0
  number_there = part_byte 25 at s 0 at (omega arith) (omega arith)

  says_there : (o : Operation) → Says (taken s at) o 0 → Says s o at
  says_there o says =
      rw (← word_there s at 1 (omega arith), ← word_there s at 9 (omega arith), ← word_there s at 17 (omega arith)) says

  says_back : (o : Operation) → Says s o at → Says (taken s at) o 0
  says_back o says =
      rw (word_there s at 1 (omega arith), word_there s at 9 (omega arith), word_there s at 17 (omega arith)) says

  pub right_there : SomeRightCase (taken s at) 0 → SomeRightCase s at
  right_there some =
      record {
        operation = some.operation;
        right = record { of = sym number_there ∙ some.right.of; says = says_there some.operation some.right.says };
      }

  pub right_back : SomeRightCase s at → SomeRightCase (taken s at) 0
  right_back some =
      record {
        operation = some.operation;
        right = record { of = number_there ∙ some.right.of; says = says_back some.operation some.right.says };
      }

  pub answers_there : (o : Operation) {t : Bool} → Answers (Says (taken s at) o 0) t → Answers (Says s o at) t
  answers_there o = answers_iff (says_there o) (says_back o)
