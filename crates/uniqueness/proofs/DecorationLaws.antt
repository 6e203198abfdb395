-- Each rule of decorations allows one decoration, and so the answer has one.
use mathlib.Core.Path.{◌≡◌, refl, sym, ◌∙◌, ap}
use Rattle.meaning.specs.Sets.{Set}
use Rattle.meaning.specs.Points.{Unary, neg, abs, ceil, floor, round, round_ties_even, sign, trunc, add, sub, mul, div, max, min}
use Rattle.meaning.specs.Results.{Operation, point, convex_hull, intersection}
use Rattle.meaning.specs.Decorations.{Decoration, lower_of, settled, one, Stepped, of_empty, of_many, of_jump, of_point, Allows₁, Divided, by_zero, elsewhere, Allows₂, Decorated}

-- "Trv if the result is empty, Def if it isn't one point, else Dac if the test below holds, else Com"
pub stepped_unique : {J : Type 0} {Z : Set} {d e : Decoration} → Stepped J Z d → Stepped J Z e → d ≡ e
stepped_unique (of_empty h) (of_empty k) = refl
stepped_unique (of_empty h) (of_many k _) = absurd (k h)
stepped_unique (of_empty h) (of_jump (one _) _) = cc
stepped_unique (of_empty h) (of_point (one _) _) = cc
stepped_unique (of_many h _) (of_empty k) = absurd (h k)
stepped_unique (of_many _ _) (of_many _ _) = refl
stepped_unique (of_many _ h) (of_jump k _) = absurd (h k)
stepped_unique (of_many _ h) (of_point k _) = absurd (h k)
stepped_unique (of_jump (one _) _) (of_empty k) = cc
stepped_unique (of_jump h _) (of_many _ k) = absurd (k h)
stepped_unique (of_jump _ _) (of_jump _ _) = refl
stepped_unique (of_jump _ h) (of_point _ k) = absurd (k h)
stepped_unique (of_point (one _) _) (of_empty k) = cc
stepped_unique (of_point h _) (of_many _ k) = absurd (k h)
stepped_unique (of_point _ h) (of_jump _ k) = absurd (h k)
stepped_unique (of_point _ _) (of_point _ _) = refl

-- "Trv for a quotient whose divisor holds 0"
pub divided_unique : {Y : Set} {d e : Decoration} → Divided Y d → Divided Y e → d ≡ e
divided_unique (by_zero h) (by_zero k) = refl
divided_unique (by_zero h) (elsewhere k) = absurd (k h)
divided_unique (elsewhere h) (by_zero k) = absurd (h k)
divided_unique (elsewhere h) (elsewhere k) = refl

pub allows₁_unique : (op : Unary) (X Z : Set) {d e : Decoration} → Allows₁ op X Z d → Allows₁ op X Z e → d ≡ e
allows₁_unique neg X Z h k = h ∙ sym k
allows₁_unique abs X Z h k = h ∙ sym k
allows₁_unique ceil X Z h k = stepped_unique h k
allows₁_unique floor X Z h k = stepped_unique h k
allows₁_unique round X Z h k = stepped_unique h k
allows₁_unique round_ties_even X Z h k = stepped_unique h k
allows₁_unique sign X Z h k = stepped_unique h k
allows₁_unique trunc X Z h k = stepped_unique h k

pub allows₂_unique : (op : Operation) (X Y : Set) {d e : Decoration} → Allows₂ op X Y d → Allows₂ op X Y e → d ≡ e
allows₂_unique (point add) X Y h k = h ∙ sym k
allows₂_unique (point sub) X Y h k = h ∙ sym k
allows₂_unique (point mul) X Y h k = h ∙ sym k
allows₂_unique (point div) X Y h k = divided_unique h k
allows₂_unique (point max) X Y h k = h ∙ sym k
allows₂_unique (point min) X Y h k = h ∙ sym k
allows₂_unique convex_hull X Y h k = h ∙ sym k
allows₂_unique intersection X Y h k = h ∙ sym k

-- A rule that allows one decoration gives one decoration to the answer.
pub decorated_unique : {Allows : Decoration → Type 0} {operands : Decoration} {Z : Set} {d e : Decoration}
    → ((d e : Decoration) → Allows d → Allows e → d ≡ e)
    → Decorated Allows operands Z d → Decorated Allows operands Z e → d ≡ e
decorated_unique {operands = operands} {Z = Z} unique h k =
    h.is ∙ ap (λ (a : Decoration). settled Z (lower_of a operands)) (unique _ _ h.allows k.allows) ∙ sym k.is
