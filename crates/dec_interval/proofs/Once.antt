-- Each statement of this crate has one right answer.
use mathlib.Core.Path.{◌≡◌, refl, sym, ◌∙◌, ap}
use Prim.Native.Nat.{ℕ}
use Rattle.patterns.specs.Format.{Format}
use Rattle.meaning.specs.Pairs.{Pair}
use Rattle.meaning.specs.Decorations.{Decoration}
use Rattle.meaning.specs.Statement.{DecPair}
use Rattle.meaning.proofs.SpellingLaws.{dec_pair, tidied_once}
use Rattle.dec_interval.specs.Values.{SetDec, set_nai, set_interval, Part, PartOf, is_part, is_missing, DecEndOf, nan_end, part_end}

pub set_dec_once : (F : Format) (d : Decoration) (x : Pair) (z w : DecPair) → SetDec F d x z → SetDec F d x w → z ≡ w
set_dec_once F d x z w (set_nai e) (set_nai f) = refl
set_dec_once F d x z w (set_nai e) (set_interval n t b) = absurd (n e)
set_dec_once F d x z w (set_interval n t b) (set_nai e) = absurd (n e)
set_dec_once F d x z w (set_interval n s a) (set_interval m t b) = dec_pair (tidied_once F x z.pair w.pair s t) (a ∙ sym b)

pub part_once : (F : Format) (x : DecPair) (z w : Part) → PartOf F x z → PartOf F x w → z ≡ w
part_once F x z w (is_missing n) (is_missing m) = refl
part_once F x z w (is_missing n) (is_part m t) = absurd (m n)
part_once F x z w (is_part m t) (is_missing n) = absurd (m n)
part_once F x z w (is_part {p} n s) (is_part {p = q} m t) = ap Part.part (tidied_once F x.pair p q s t)

pub dec_end_once : (F : Format) (EndOf : Pair → ℕ → Type 0) → ((x : Pair) (r s : ℕ) → EndOf x r → EndOf x s → r ≡ s)
    → (x : DecPair) (r s : ℕ) → DecEndOf F EndOf x r → DecEndOf F EndOf x s → r ≡ s
dec_end_once F EndOf once x r s (nan_end n) (nan_end m) = refl
dec_end_once F EndOf once x r s (nan_end n) (part_end m e) = absurd (m n)
dec_end_once F EndOf once x r s (part_end m e) (nan_end n) = absurd (m n)
dec_end_once F EndOf once x r s (part_end n d) (part_end m e) = once x.pair r s d e
