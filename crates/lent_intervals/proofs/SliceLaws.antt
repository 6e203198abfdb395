-- Intervals in a part of a list, and over a whole one.
use mathlib.Core.Path.{◌≡◌, sym, ◌∙◌, ap}
use mathlib.Core.List.{List, [], ◌∷◌, ◌++◌, append_assoc, append-nil}
use Prim.Native.Nat.{ℕ, suc, ◌+◌, ◌<◌, ◌≤◌}
use native.Mathlib.Nat.{le_of_eq}
use native.Mathlib.Omega.{arith}
use lib.Dec.{lit<}
use lib.ListN.{length, get_or, take, drop, set, length-drop, drop_of_length-le}
use lib.Seq.{drop-cons, get_or-drop, get_or-take, set_at}
use Rattle.meaning.specs.Pairs.{Pair}
use Rattle.meaning.specs.Bytes.{ByteOrder, read_pair}
use Rattle.ends_in_bytes.proofs.EightByteLaws.{part_ends}

-- Ends that are read from a position on are those of the part of an interval's size, or of more, that starts there.
pub read_part : (o : ByteOrder) (n start : ℕ) (s : List ℕ) {p : Pair} → 8 ≤ n → start + 16 ≤ length s → p ≡ read_pair o (drop start s)
    → p ≡ read_pair o (take (8 + n) (drop start s))
read_part o n start s long fits e = e ∙ sym (part_ends o n (drop start s) long (omega (arith, length-drop start s)))

-- The last of seventeen bytes.
pub byte_part : (start : ℕ) (s : List ℕ) → get_or (take 17 (drop start s)) 16 0 ≡ get_or s (start + 16) 0
byte_part start s = get_or-take 17 (drop start s) 16 0 (lit< tt) ∙ get_or-drop start s 16 0

-- What is written before nothing is the whole.
whole : (n : ℕ) (s : List ℕ) {l p : List ℕ} → l ≡ p ++ drop n s → length s ≡ n → l ≡ p
whole n s {p = p} e f = e ∙ ap (λ (t : List ℕ). p ++ t) (drop_of_length-le s {i = n} (le_of_eq f)) ∙ append-nil p

-- The byte behind what is written is replaced, and so is written itself.
pub next_byte : (n : ℕ) (p s : List ℕ) (b : ℕ) {l : List ℕ} → length p ≡ n → n < length s → l ≡ p ++ drop n s → set l n b ≡ (p ++ b ∷ []) ++ drop (suc n) s
next_byte n p s b short more e =
    ap (λ (l : List ℕ). set l n b) (e ∙ ap (λ (t : List ℕ). p ++ t) (drop-cons s n 0 more))
    ∙ set_at p (get_or s n 0) (drop (suc n) s) b n short
    ∙ sym (append_assoc p (b ∷ []) (drop (suc n) s))

-- The same where it is the last.
pub last_byte : (n : ℕ) (p s : List ℕ) (b : ℕ) {l : List ℕ} → length p ≡ n → length s ≡ suc n → l ≡ p ++ drop n s → set l n b ≡ p ++ (b ∷ [])
last_byte n p s b short long e = whole (suc n) s (next_byte n p s b short (omega arith) e) long
