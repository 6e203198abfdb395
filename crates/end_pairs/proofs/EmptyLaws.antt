-- What follows from an operand that is EMPTY, and from none that is.
use mathlib.Core.Path.{subst}
use mathlib.Core.Logic.{◌⊎◌, inl, inr}
use Rattle.patterns.specs.Format.{Format}
use Rattle.meaning.specs.Fraction.{Fraction}
use Rattle.meaning.specs.Sets.{Set, Member}
use Rattle.meaning.specs.Pairs.{Pair, Proper, EmptyPair, Bare, empty_pair, set_of}
use Rattle.meaning.specs.Points.{Unary, Binary}
use Rattle.meaning.specs.Results.{Result₁, Result₂, point}
use Rattle.meaning.specs.Statement.{HullOf}
use Rattle.meaning.proofs.PairLaws.{set_empty}
use Rattle.meaning.proofs.PatternHull.{hull_of_none}

module _ (F : Format) where
  no_member : (x : Pair) → EmptyPair F x → (r : Fraction) → Member (set_of F x) r → ⊥
  no_member x e r m = subst (λ (X : Set). Member X r) (set_empty F x e) m

  pub not_empty_lem : {x : Pair} → Bare F x → (EmptyPair F x → ⊥) → Proper F x
  not_empty_lem (inl h) n = h
  not_empty_lem (inr e) n = absurd (n e)

  pub neither_empty : {x y : Pair} → Bare F x × Bare F y → (EmptyPair F x ⊎ EmptyPair F y → ⊥) → Proper F x × Proper F y
  neither_empty b n = (not_empty_lem b.0 (λ e. n (inl e)), not_empty_lem b.1 (λ e. n (inr e)))

  -- A point function has no results on EMPTY.
  pub empty_hull₁ : (op : Unary) (x : Pair) → EmptyPair F x → HullOf F (Result₁ op (set_of F x)) (empty_pair F)
  empty_hull₁ op x e = hull_of_none F (Result₁ op (set_of F x)) (λ r m. no_member x e m.x m.in_x)

  pub empty_none₂ : (op : Binary) (x y : Pair) → EmptyPair F x ⊎ EmptyPair F y → (r : Fraction) → Result₂ (point op) (set_of F x) (set_of F y) r → ⊥
  empty_none₂ op x y (inl e) r m = no_member x e m.x m.in_x
  empty_none₂ op x y (inr e) r m = no_member y e m.y m.in_y

  pub empty_hull₂ : (op : Binary) (x y : Pair) → EmptyPair F x ⊎ EmptyPair F y
      → HullOf F (Result₂ (point op) (set_of F x) (set_of F y)) (empty_pair F)
  empty_hull₂ op x y e = hull_of_none F (Result₂ (point op) (set_of F x) (set_of F y)) (empty_none₂ op x y e)
