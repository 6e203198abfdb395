-- Each statement of this crate has one right answer.
use mathlib.Core.Path.{◌≡◌, sym, ◌∙◌, ap}
use Prim.Native.Nat.{ℕ}
use Rattle.patterns.specs.Format.{Format}
use Rattle.meaning.specs.Pairs.{Pair}
use Rattle.meaning.proofs.SpellingLaws.{tidied_once}
use Rattle.interval.specs.Values.{LowerOf, UpperOf}

pub lower_once : (F : Format) (x : Pair) (r s : ℕ) → LowerOf F x r → LowerOf F x s → r ≡ s
lower_once F x r s p q = p.lower ∙ ap (λ (z : Pair). z.lower) (tidied_once F x p.tidied q.tidied p.is q.is) ∙ sym q.lower

pub upper_once : (F : Format) (x : Pair) (r s : ℕ) → UpperOf F x r → UpperOf F x s → r ≡ s
upper_once F x r s p q = p.upper ∙ ap (λ (z : Pair). z.upper) (tidied_once F x p.tidied q.tidied p.is q.is) ∙ sym q.upper
