-- Two ends put first in a list, and the ends of a part.
use mathlib.Core.Path.{◌≡◌, refl, sym, ◌∙◌, ap, ap₂}
use mathlib.Core.List.{List, ◌++◌, append_assoc}
use Prim.Native.Nat.{ℕ, ◌+◌, ◌≤◌}
use native.Mathlib.Omega.{arith}
use lib.ListN.{length, take, drop}
use lib.Seq.{length-take-le, take-add, take_at, take-take, drop_at, drop-drop}
use Rattle.meaning.specs.Pairs.{Pair}
use Rattle.meaning.specs.Bytes.{ByteOrder, big_endian, little_endian, read_end, read_pair, write_pair}

-- Two times eight bytes put first.
pub placed_both : (s l u first second : List ℕ) → length l ≡ 8
    → first ≡ take 0 s ++ (l ++ drop (0 + 8) s)
    → second ≡ take 8 first ++ (u ++ drop (8 + 8) first)
    → second ≡ (l ++ u) ++ drop 16 s
placed_both s l u first second eight e f =
    f ∙ ap₂ ◌++◌ lower (ap (λ (t : List ℕ). u ++ t) rest) ∙ sym (append_assoc l u (drop 16 s))
  where
    lower : take 8 first ≡ l
    lower = ap (take 8) e ∙ take_at l (drop 8 s) 8 eight

    rest : drop 16 first ≡ drop 16 s
    rest = sym (drop-drop 8 8 first) ∙ ap (drop 8) (ap (drop 8) e ∙ drop_at l (drop 8 s) 8 eight) ∙ drop-drop 8 8 s

-- The ends of a part that starts where a list does are those of the list.
pub part_ends : (o : ByteOrder) (n : ℕ) (l : List ℕ) → 8 ≤ n → 8 ≤ length l → read_pair o (take (8 + n) l) ≡ read_pair o l
part_ends o n l long some =
    λ i. record { lower = read_end o (take-take 8 (8 + n) l (omega arith) i); upper = read_end o (upper i) }
  where
    upper : take 8 (drop 8 (take (8 + n) l)) ≡ take 8 (drop 8 l)
    upper =
        ap (λ (t : List ℕ). take 8 (drop 8 t)) (take-add 8 n l)
        ∙ ap (take 8) (drop_at (take 8 l) (take n (drop 8 l)) 8 (length-take-le 8 l some)) ∙ take-take 8 n (drop 8 l) long

pub length_pair : (o : ByteOrder) (p : Pair) → length (write_pair o p) ≡ 16
length_pair big_endian p = refl
length_pair little_endian p = refl
