-- Bytes that are put at a place of a list.
use mathlib.Core.Path.{◌≡◌, ◌∙◌, ap, ap₂}
use mathlib.Core.List.{List, ◌++◌}
use Prim.Native.Nat.{ℕ, ◌+◌}
use lib.ListN.{length, take, drop}
use lib.Seq.{drop-drop}
use borrow.Rule.Slice.PartMut.{put_mid}

-- The list s with d in the place of what stood there.
abbrev pub placed : (s d : List ℕ) (start : ℕ) → List ℕ
placed s d start = take start s ++ (d ++ drop (start + length d) s)

-- What copying d leaves where it is lent as many bytes as d has, from a place on.
pub copied_at : (s d : List ℕ) (start : ℕ) (n : ℕ) → n ≡ length d → (l : List ℕ) → l ≡ d → put_mid start n s l ≡ placed s d start
copied_at s d start n sized l e =
    ap (λ (m : List ℕ). take start s ++ m)
    (ap₂ ◌++◌ e (drop-drop n start s ∙ ap (λ (m : ℕ). drop (start + m) s) sized))
