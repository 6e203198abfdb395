-- Bytes that are copied over a whole list.
use mathlib.Core.Path.{◌≡◌, ◌∙◌, ap, ap₂}
use mathlib.Core.List.{List, ◌++◌, append-nil}
use Prim.Native.Nat.{ℕ, ◌+◌, ◌-◌, ◌≤◌}
use native.Mathlib.Nat.{le_of_eq}
use native.Mathlib.Omega.{arith}
use lib.ListN.{length, take, drop, length-drop, drop_of_length-le}
use lib.Seq.{length-take-le, take_all}

-- What is copied over a list of the same length replaces it.
pub copied_over : (n : ℕ) (s d : List ℕ) → length s ≡ n → length d ≡ n → take n s ++ drop n d ≡ s
copied_over n s d e f =
    ap₂ ◌++◌ (take_all n s (le_of_eq e)) (drop_of_length-le d {i = n} (le_of_eq f)) ∙ append-nil s

-- n bytes from a position on, copied over a list of that length.
pub copied_part : (n : ℕ) (s d : List ℕ) (start : ℕ) → start + n ≤ length s → length d ≡ n
    → (l : List ℕ) → l ≡ take (start + n - start) (drop start s)
    → take (length l) l ++ drop (length l) d ≡ take n (drop start s)
copied_part n s d start fits same l e =
    ap (λ (m : ℕ). take m l ++ drop m d) long ∙ copied_over n l d long same ∙ is_part_lem
  where
    is_part_lem : l ≡ take n (drop start s)
    is_part_lem = e ∙ ap (λ (m : ℕ). take m (drop start s)) {x = start + n - start} {y = n} (omega arith)

    long : length l ≡ n
    long = ap length is_part_lem ∙ length-take-le n (drop start s) (omega (arith, length-drop start s))
