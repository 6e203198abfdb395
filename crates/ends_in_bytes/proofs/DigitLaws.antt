-- A number and its bytes: each is had back from the other, in either order.
use mathlib.Core.Path.{◌≡◌, refl, sym, ◌∙◌, ap, ap₂, subst}
use mathlib.Core.List.{List, [], ◌∷◌, ◌++◌, append_assoc, reverse_aux, reverse-reverse}
use Prim.Native.Nat.{ℕ, zero, suc, ◌+◌, ◌*◌, ◌/◌, ◌%◌, ◌^◌, ◌<◌, ◌≤◌}
use native.Mathlib.Nat.{div-lt_iff_lt-mul, pow-suc}
use native.Mathlib.Omega.{arith}
use lib.Dec.{lit<}
use lib.ListN.{length, take, drop, length-drop, length-reverse}
use lib.Seq.{length-take-le, take-add, take_at, drop_at}
use Rattle.meaning.specs.Pairs.{Pair}
use Rattle.meaning.specs.Bytes.{ByteOrder, big_endian, little_endian, from_digits, to_digits, in_order, read_end, write_end, read_pair, write_pair}

-- Every element is a byte.
pub data Bytes : List ℕ → Type 0 where
  none : Bytes []
  byte : {b : ℕ} {bs : List ℕ} → b < 256 → Bytes bs → Bytes (b ∷ bs)

pub bytes_take : (n : ℕ) {bs : List ℕ} → Bytes bs → Bytes (take n bs)
bytes_take zero h = none
bytes_take (suc n) none = none
bytes_take (suc n) (byte b h) = byte b (bytes_take n h)

pub bytes_drop : (n : ℕ) {bs : List ℕ} → Bytes bs → Bytes (drop n bs)
bytes_drop zero h = h
bytes_drop (suc n) none = none
bytes_drop (suc n) (byte b h) = bytes_drop n h

bytes_reversed : {bs cs : List ℕ} → Bytes bs → Bytes cs → Bytes (reverse_aux bs cs)
bytes_reversed none k = k
bytes_reversed (byte b h) k = bytes_reversed h (byte b k)

bytes_in_order : (o : ByteOrder) {bs : List ℕ} → Bytes bs → Bytes (in_order o bs)
bytes_in_order big_endian h = bytes_reversed h none
bytes_in_order little_endian h = h

from_to : (k n : ℕ) → n < 256 ^ k → from_digits (to_digits k n) ≡ n
from_to zero n h = omega arith
from_to (suc k) n h =
    ap (λ (m : ℕ). n % 256 + 256 * m)
    (from_to k (n / 256) ((div-lt_iff_lt-mul (lit< tt)).1 (subst (λ (m : ℕ). n < m) (pow-suc 256 k) h)))
    ∙ omega arith

to_from : {bs : List ℕ} → Bytes bs → to_digits (length bs) (from_digits bs) ≡ bs
to_from none = refl
to_from (byte {b} {bs} h k) =
    let m : ℕ = from_digits bs in
    let low : (b + 256 * m) % 256 ≡ b = omega arith in
    let high : (b + 256 * m) / 256 ≡ m = omega arith in
    ap₂ ◌∷◌ low (ap (to_digits (length bs)) high ∙ to_from k)

order_back : (o : ByteOrder) (bs : List ℕ) → in_order o (in_order o bs) ≡ bs
order_back big_endian bs = reverse-reverse bs
order_back little_endian bs = refl

order_length : (o : ByteOrder) (bs : List ℕ) → length (in_order o bs) ≡ length bs
order_length big_endian bs = length-reverse bs
order_length little_endian bs = refl

end_read : (o : ByteOrder) (n : ℕ) → n < 256 ^ 8 → read_end o (write_end o n) ≡ n
end_read o n h = ap from_digits (order_back o (to_digits 8 n)) ∙ from_to 8 n h

end_written : (o : ByteOrder) (bs : List ℕ) → length bs ≡ 8 → Bytes bs → write_end o (read_end o bs) ≡ bs
end_written o bs e h =
    ap (λ (n : ℕ). in_order o (to_digits n (read_end o bs))) (sym (order_length o bs ∙ e))
    ∙ ap (in_order o) (to_from (bytes_in_order o h)) ∙ order_back o bs

end_length : (o : ByteOrder) (n : ℕ) → length (write_end o n) ≡ 8
end_length o n = order_length o (to_digits 8 n)

-- What is written and read back gives the same ends, whatever follows them.
pub pair_read : (o : ByteOrder) (p : Pair) (rest : List ℕ) → p.lower < 256 ^ 8 → p.upper < 256 ^ 8
    → read_pair o (write_pair o p ++ rest) ≡ p
pair_read o p rest l u = λ i. record { lower = lower i; upper = upper i }
  where
    split : write_pair o p ++ rest ≡ write_end o p.lower ++ (write_end o p.upper ++ rest)
    split = append_assoc (write_end o p.lower) (write_end o p.upper) rest

    lower : read_end o (take 8 (write_pair o p ++ rest)) ≡ p.lower
    lower =
        ap (λ (s : List ℕ). read_end o (take 8 s)) split
        ∙ ap (read_end o) (take_at (write_end o p.lower) (write_end o p.upper ++ rest) 8 (end_length o p.lower))
        ∙ end_read o p.lower l

    upper : read_end o (take 8 (drop 8 (write_pair o p ++ rest))) ≡ p.upper
    upper =
        ap (λ (s : List ℕ). read_end o (take 8 (drop 8 s))) split
        ∙ ap (λ (s : List ℕ). read_end o (take 8 s)) (drop_at (write_end o p.lower) (write_end o p.upper ++ rest) 8 (end_length o p.lower))
        ∙ ap (read_end o) (take_at (write_end o p.upper) rest 8 (end_length o p.upper))
        ∙ end_read o p.upper u

-- What is read and written back gives the same sixteen bytes.
pub pair_written : (o : ByteOrder) (bs : List ℕ) → 16 ≤ length bs → Bytes bs → write_pair o (read_pair o bs) ≡ take 16 bs
pair_written o bs e h =
    ap₂ ◌++◌
    (end_written o (take 8 bs) (length-take-le 8 bs (omega arith)) (bytes_take 8 h))
    (end_written o (take 8 (drop 8 bs)) (length-take-le 8 (drop 8 bs) (omega (arith, length-drop 8 bs))) (bytes_take 8 (bytes_drop 8 h)))
    ∙ sym (take-add 8 8 bs)
