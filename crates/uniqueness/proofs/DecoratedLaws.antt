-- The statements of decorated operations have one outcome each.
use mathlib.Core.Path.{◌≡◌, refl, subst}
use Rattle.patterns.specs.Format.{Format}
use Rattle.meaning.specs.Fraction.{Fraction}
use Rattle.meaning.specs.Sets.{Set}
use Rattle.meaning.specs.Points.{Unary}
use Rattle.meaning.specs.Results.{Operation}
use Rattle.meaning.specs.Pairs.{Pair, set_of}
use Rattle.meaning.specs.Decorations.{Decoration, Decorated}
use Rattle.meaning.specs.Statement.{Outcome, DecPair, RightDecorated, right_nai, right_interval, Decorated₁, Decorated₂}
use Rattle.meaning.proofs.Unique.{one_answer₁, one_answer₂, hull_once}
use Rattle.uniqueness.proofs.DecorationLaws.{allows₁_unique, allows₂_unique, decorated_unique}
use Rattle.uniqueness.proofs.VerdictLaws.{judged_decorated_once}

-- One right answer, where the rule allows one decoration.
pub right_decorated_once : (F : Format) {IsNaI : Type 0} {R : Fraction → Type 0} {Allows : Set → Decoration → Type 0} {operands : Decoration}
    → ((Z : Set) (d e : Decoration) → Allows Z d → Allows Z e → d ≡ e)
    → (z w : DecPair) → RightDecorated F IsNaI R Allows operands z → RightDecorated F IsNaI R Allows operands w → z ≡ w
right_decorated_once F unique z w (right_nai h) (right_nai k) = refl
right_decorated_once F unique z w (right_nai h) (right_interval k _ _) = absurd (k h)
right_decorated_once F unique z w (right_interval h _ _) (right_nai k) = absurd (h k)
right_decorated_once F {R = R} {Allows = Allows} {operands = operands} unique z w (right_interval _ h d) (right_interval _ k e) =
    let same : z.pair ≡ w.pair = hull_once F R z.pair w.pair h k in
    let moved = subst (λ (p : Pair). Decorated (Allows (set_of F p)) operands (set_of F p) z.decoration) same d in
    let lowered : z.decoration ≡ w.decoration = decorated_unique (unique (set_of F w.pair)) moved e in
    λ i. record { pair = same i; decoration = lowered i }

pub decorated₁_once : (F : Format) (op : Unary) (x : DecPair) {o p : Outcome DecPair} → Decorated₁ F op x o → Decorated₁ F op x p → o ≡ p
decorated₁_once F op x =
    one_answer₁ (judged_decorated_once F x) (right_decorated_once F (λ Z d e. allows₁_unique op (set_of F x.pair) Z))

pub decorated₂_once : (F : Format) (op : Operation) (x y : DecPair) {o p : Outcome DecPair}
    → Decorated₂ F op x y o → Decorated₂ F op x y p → o ≡ p
decorated₂_once F op x y =
    one_answer₂ (judged_decorated_once F) (right_decorated_once F (λ Z d e. allows₂_unique op (set_of F x.pair) (set_of F y.pair)))
