-- Two bytes behind what is written.
use mathlib.Core.Path.{◌≡◌, ◌∙◌, ap}
use mathlib.Core.List.{List, [], ◌∷◌, ◌++◌, append_assoc}
use Prim.Native.Nat.{ℕ, suc, ◌<◌}
use native.Mathlib.Omega.{arith}
use lib.ListN.{length, length-append, length-drop, drop, set}
use Rattle.lent_intervals.proofs.SliceLaws.{next_byte, last_byte}

-- There is room for two bytes behind what is written.
pub room_for_two : (n : ℕ) (p s : List ℕ) {l : List ℕ} → length p ≡ n → length s ≡ suc (suc n) → l ≡ p ++ drop n s → suc n < length l
room_for_two n p s short long e = omega (arith, ap length e ∙ length-append p (drop n s), length-drop n s)

-- Two bytes that are left behind what is written are replaced, one after the other.
pub last_two_bytes : (n : ℕ) (p s : List ℕ) (b c : ℕ) {l : List ℕ} → length p ≡ n → length s ≡ suc (suc n) → l ≡ p ++ drop n s
    → set (set l n b) (suc n) c ≡ p ++ b ∷ c ∷ []
last_two_bytes n p s b c short long e =
    last_byte (suc n) (p ++ b ∷ []) s c (length-append p (b ∷ []) ∙ omega arith) long (next_byte n p s b short (omega arith) e)
    ∙ append_assoc p (b ∷ []) (c ∷ [])
