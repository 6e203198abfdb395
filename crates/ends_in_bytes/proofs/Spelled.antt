-- Lists of a known length, element by element.
use mathlib.Core.Path.{◌≡◌, sym, ◌∙◌, ap}
use mathlib.Core.List.{List, [], ◌∷◌, reverse}
use Prim.Native.Nat.{ℕ, zero, suc, ◌+◌}
use native.Mathlib.Omega.{arith}
use lib.ListN.{length, get_or, drop, drop_of_length-le}
use lib.Seq.{drop-cons}

-- The count elements from k on.
abbrev pub spell : (count k : ℕ) → List ℕ → List ℕ
spell zero k l = []
spell (suc n) k l = get_or l k 0 ∷ spell n (suc k) l

drop_spelled : (n k : ℕ) (l : List ℕ) → length l ≡ k + n → drop k l ≡ spell n k l
drop_spelled zero k l e = drop_of_length-le l {i = k} (omega arith)
drop_spelled (suc n) k l e =
    drop-cons l k 0 (omega arith) ∙ ap (λ (t : List ℕ). get_or l k 0 ∷ t) (drop_spelled n (suc k) l (omega arith))

pub spelled : (n : ℕ) (l : List ℕ) → length l ≡ n → l ≡ spell n 0 l
spelled n l e = drop_spelled n 0 l (omega arith)

pub spelled_back : (l : List ℕ) → length l ≡ 8
    → get_or l 7 0 ∷ get_or l 6 0 ∷ get_or l 5 0 ∷ get_or l 4 0 ∷ get_or l 3 0 ∷ get_or l 2 0 ∷ get_or l 1 0 ∷ get_or l 0 0 ∷ [] ≡ reverse l
spelled_back l e = sym (ap reverse (spelled 8 l e))
