-- Parts of one size, of which a list has one behind the other.
use mathlib.Core.Path.{◌≡◌, sym, ◌∙◌, ap, ap₂}
use mathlib.Core.List.{List, ◌++◌}
use Prim.Native.Nat.{ℕ, zero, suc, ◌+◌, ◌*◌, ◌<◌, ◌≤◌}
use native.Mathlib.Omega.{arith}
use lib.ListN.{length, take, drop, length-drop, take-append-drop}
use lib.Seq.{length-take-le, take-add, take-append-le, drop-append-le, drop-drop}
use Rattle.request_laws.specs.Chunk.{part}

-- Lists whose first parts agree agree that far.
pub parts_agree : (size count : ℕ) (a b : List ℕ) → ((i : ℕ) → i < count → part size i a ≡ part size i b) → take (size * count) a ≡ take (size * count) b
parts_agree size zero a b h = let e : size * 0 ≡ 0 = omega arith in rw e
parts_agree size (suc n) a b h =
    let e : size * suc n ≡ size * n + size = omega arith in
    rw e
    (take-add (size * n) size a ∙ ap₂ ◌++◌ (parts_agree size n a b (λ i l. h i (omega arith))) (h n (omega arith)) ∙ sym (take-add (size * n) size b))

-- A part that lies in the first of two lists.
pub part_front : (size i : ℕ) (a b : List ℕ) → size * i + size ≤ length a → part size i (a ++ b) ≡ part size i a
part_front size i a b fits =
    ap (take size) (drop-append-le (size * i) a b (omega arith))
    ∙ take-append-le size (drop (size * i) a) b (omega (arith, length-drop (size * i) a))

-- A part counted from behind the first m parts.
pub part_behind : (size m j : ℕ) (l : List ℕ) → part size (m + j) l ≡ part size j (drop (size * m) l)
part_behind size m j l =
    ap (take size)
    (ap (λ (n : ℕ). drop n l) {x = size * (m + j)} {y = size * m + size * j} (omega arith) ∙ sym (drop-drop (size * j) (size * m) l))

-- A part of the front of a list.
pub part_take : (size i n : ℕ) (l : List ℕ) → n ≤ length l → size * i + size ≤ n → part size i (take n l) ≡ part size i l
part_take size i n l within fits =
    sym (part_front size i (take n l) (drop n l) (omega (arith, length-take-le n l within)))
    ∙ ap (part size i) (take-append-drop n l)
