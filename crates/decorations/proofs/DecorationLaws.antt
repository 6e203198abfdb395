-- Decorations: their order, and which one set_dec gives to a set.
use mathlib.Core.Path.{◌≡◌, refl, ap}
use Prim.Native.Nat.{ℕ}
use Rattle.std.specs.Prelude.{Err}
use Rattle.refusals.specs.declared.Fault.{Fault}
use Rattle.decorations.specs.DecorationBytes.{SaidBy, says_none}
use Rattle.meaning.specs.Sets.{at, unbounded, Set, empty, span}
use Rattle.meaning.specs.Decorations.{Decoration, Ill, Trv, Def, Dac, Com, decoration_byte, lower_of, settled, Common, common}

-- The highest decoration of a set: Trv of EMPTY, Com of a bounded interval, Dac of any other.
pub highest_empty : {Z : Set} → Z ≡ empty → settled Z Com ≡ Trv
highest_empty e = ap (λ (Z : Set). settled Z Com) e

pub highest_bounded : {Z : Set} → Common Z → settled Z Com ≡ Com
highest_bounded common = refl

pub highest_unbounded : (Z : Set) → (Z ≡ empty → ⊥) → (Common Z → ⊥) → settled Z Com ≡ Dac
highest_unbounded empty n m = absurd (n refl)
highest_unbounded (span unbounded b) n m = refl
highest_unbounded (span (at a) unbounded) n m = refl
highest_unbounded (span (at a) (at b)) n m = absurd (m common)

-- set_dec gives the lower of the decoration asked for and the set's highest.
pub settled_lower : (Z : Set) (d : Decoration) → lower_of d (settled Z Com) ≡ settled Z d
settled_lower empty Ill = refl
settled_lower empty Trv = refl
settled_lower empty Def = refl
settled_lower empty Dac = refl
settled_lower empty Com = refl
settled_lower (span unbounded b) Ill = refl
settled_lower (span unbounded b) Trv = refl
settled_lower (span unbounded b) Def = refl
settled_lower (span unbounded b) Dac = refl
settled_lower (span unbounded b) Com = refl
settled_lower (span (at a) unbounded) Ill = refl
settled_lower (span (at a) unbounded) Trv = refl
settled_lower (span (at a) unbounded) Def = refl
settled_lower (span (at a) unbounded) Dac = refl
settled_lower (span (at a) unbounded) Com = refl
settled_lower (span (at a) (at b)) Ill = refl
settled_lower (span (at a) (at b)) Trv = refl
settled_lower (span (at a) (at b)) Def = refl
settled_lower (span (at a) (at b)) Dac = refl
settled_lower (span (at a) (at b)) Com = refl

-- A byte that is none of the five says no decoration.
pub says_none_lem : {b : ℕ} → (b ≡ 0 → ⊥) → (b ≡ 4 → ⊥) → (b ≡ 8 → ⊥) → (b ≡ 12 → ⊥) → (b ≡ 16 → ⊥) → SaidBy b (Err Fault.BadByte)
says_none_lem {b} n₀ n₄ n₈ n₁₂ n₁₆ = says_none go
  where
    go : (d : Decoration) → b ≡ decoration_byte d → ⊥
    go Ill = n₀
    go Trv = n₄
    go Def = n₈
    go Dac = n₁₂
    go Com = n₁₆
