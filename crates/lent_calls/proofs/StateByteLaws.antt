-- Zero bytes over a whole list, and a state before them.
use mathlib.Core.Path.{◌≡◌, refl, ◌∙◌, ap}
use mathlib.Core.List.{List, ◌∷◌}
use Prim.Native.Nat.{ℕ, zero, suc, ◌-◌, ◌<◌, ◌≤◌}
use native.Mathlib.Omega.{arith}
use lib.ListN.{length, take, set}
use Rattle.meaning.specs.Requests.{zeros, write_state}

-- Zero bytes, cut short.
take_zeros : (n m : ℕ) → n ≤ m → take n (zeros m) ≡ zeros n
take_zeros zero m h = refl
take_zeros (suc n) zero h = absurd (omega arith)
take_zeros (suc n) (suc m) h = ap (λ (t : List ℕ). 0 ∷ t) (take_zeros n m (omega arith))

length_zeros : (n : ℕ) → length (zeros n) ≡ n
length_zeros zero = refl
length_zeros (suc n) = ap suc (length_zeros n)

pub zeros_long : (n m : ℕ) → n ≤ m → length (take n (zeros m)) ≡ n
zeros_long n m h = ap length (take_zeros n m h) ∙ length_zeros n

first_set : (n b : ℕ) → 0 < n → set (zeros n) 0 b ≡ write_state n b
first_set zero b h = absurd (omega arith)
first_set (suc n) b h = ap (λ (k : ℕ). b ∷ zeros k) {x = n} {y = suc n - 1} (omega arith)

-- A state's number, set over zero bytes that were copied over a whole list.
pub state_written : (m : ℕ) (d : List ℕ) (b : ℕ) {l : List ℕ} → 0 < length d → length d ≤ m
    → l ≡ take (length d) (zeros m)
    → set l 0 b ≡ write_state (length d) b
state_written m d b some fits e = ap (λ (t : List ℕ). set t 0 b) (e ∙ take_zeros (length d) m fits) ∙ first_set (length d) b some
