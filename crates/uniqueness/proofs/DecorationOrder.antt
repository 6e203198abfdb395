-- The order of decorations is that of their bytes, and what `set_dec` makes of a decoration.
use mathlib.Core.Bool.{Bool, true, false}
use mathlib.Core.Path.{◌≡◌, refl, sym, ◌∙◌, ap}
use mathlib.Core.Logic.{◌⊎◌, inl, inr, ⊎_elim, ◌↔◌}
use Prim.Native.Nat.{ℕ, min}
use native.Mathlib.Omega.{arith}
use borrow.Author.Tests.{leb-true, leb-false}
use lib.Dec.{leb, eqb}
use Rattle.meaning.specs.Sets.{End, at, unbounded, Set, empty, span}
use Rattle.meaning.specs.Decorations.{Decoration, Ill, Trv, Def, Dac, Com, decoration_byte, decoration_by, lower_of, settled}

-- The decoration that a byte says, if it says one.
unfoldable pub decoration_of : ℕ → Decoration
decoration_of n = decoration_by (eqb n 0) Ill (decoration_by (eqb n 4) Trv (decoration_by (eqb n 8) Def (decoration_by (eqb n 12) Dac Com)))

pub decoration_byte_lem : (d : Decoration) → decoration_of (decoration_byte d) ≡ d
unfolding decoration_of
decoration_byte_lem Ill = refl
decoration_byte_lem Trv = refl
decoration_byte_lem Def = refl
decoration_byte_lem Dac = refl
decoration_byte_lem Com = refl

-- A byte says one decoration at the most.
pub byte_injective : (d e : Decoration) → decoration_byte d ≡ decoration_byte e → d ≡ e
byte_injective d e p = sym (decoration_byte_lem d) ∙ ap decoration_of p ∙ decoration_byte_lem e

-- The lower of two decorations has the lower byte.
pub lower_byte : (d e : Decoration) → decoration_byte (lower_of d e) ≡ min (decoration_byte d) (decoration_byte e)
lower_byte d e = go (leb (decoration_byte d) (decoration_byte e)) refl
  where
    go : (t : Bool) → leb (decoration_byte d) (decoration_byte e) ≡ t → decoration_byte (decoration_by t d e) ≡ min (decoration_byte d) (decoration_byte e)
    go true h = omega (arith, leb-true (decoration_byte d) (decoration_byte e) h)
    go false h = omega (arith, leb-false (decoration_byte d) (decoration_byte e) h)

pub lower_comm : (d e : Decoration) → lower_of d e ≡ lower_of e d
lower_comm d e = byte_injective _ _ (omega (arith, lower_byte d e, lower_byte e d))

pub lower_assoc : (d e f : Decoration) → lower_of (lower_of d e) f ≡ lower_of d (lower_of e f)
lower_assoc d e f = byte_injective _ _ (omega (arith, lower_byte (lower_of d e) f, lower_byte d e, lower_byte d (lower_of e f), lower_byte e f))

pub lower_same : (d : Decoration) → lower_of d d ≡ d
lower_same d = byte_injective _ _ (omega (arith, lower_byte d d))

-- Ill is the least.
pub lower_ill : (d : Decoration) → lower_of Ill d ≡ Ill
lower_ill d = byte_injective _ _ (omega (arith, lower_byte Ill d))

-- Com is the greatest.
pub lower_com : (d : Decoration) → lower_of Com d ≡ d
lower_com Ill = refl
lower_com Trv = refl
lower_com Def = refl
lower_com Dac = refl
lower_com Com = refl

-- "Ill gives NaI", and nothing else does.
pub settled_ill : (Z : Set) (d : Decoration) → settled Z d ≡ Ill → d ≡ Ill
settled_ill Z Ill h = refl
settled_ill empty Trv h = h
settled_ill (span a b) Trv h = h
settled_ill empty Def h = cc
settled_ill (span a b) Def h = h
settled_ill empty Dac h = cc
settled_ill (span a b) Dac h = h
settled_ill empty Com h = cc
settled_ill (span unbounded b) Com h = cc
settled_ill (span (at a) unbounded) Com h = cc
settled_ill (span (at a) (at b)) Com h = h

-- "otherwise EMPTY gets Trv"
pub settled_empty : (d : Decoration) → (d ≡ Ill → ⊥) → settled empty d ≡ Trv
settled_empty Ill h = absurd (h refl)
settled_empty Trv h = refl
settled_empty Def h = refl
settled_empty Dac h = refl
settled_empty Com h = refl

-- "Com with an infinite end becomes Dac"
pub settled_com : (a b : End) → (settled (span a b) Com ≡ Dac) ↔ ((a ≡ unbounded) ⊎ (b ≡ unbounded))
settled_com unbounded b = (λ h. inl refl, λ h. refl)
settled_com (at a) unbounded = (λ h. inr refl, λ h. refl)
settled_com (at a) (at b) = (λ h. inl (cc), ⊎_elim (λ p. cc) (λ p. cc))

-- "else unchanged"
pub settled_span : (a b : End) (d : Decoration) → (d ≡ Com → ⊥) → settled (span a b) d ≡ d
settled_span a b Ill h = refl
settled_span a b Trv h = refl
settled_span a b Def h = refl
settled_span a b Dac h = refl
settled_span a b Com h = absurd (h refl)
