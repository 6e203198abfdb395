-- Quantified texts of the crate that do not say what is answered.
--
-- That of Meets, beside the endpoint conditions: "∀x ∈ self, ∀y ∈ rhs : x ≤ y",
-- "∃x ∈ self, ∀y ∈ rhs : x < y", "∃x ∈ self, ∃y ∈ rhs : x = y".
use Rattle.std.specs.Prelude.{◌≡◌}
use Rattle.meaning.specs.Fraction.{Fraction, ◌≼◌, ◌≺◌, ◌≈◌}
use Rattle.meaning.specs.Sets.{Set, empty, Member}
use Rattle.meaning.specs.Comparisons.{EachSome, More}

pub record QuantifiedMeets (X Y : Set) : Type 0 where
  pub nonempty : (X ≡ empty → ⊥) × (Y ≡ empty → ⊥)
  pub in_order : (x y : Fraction) → Member X x → Member Y y → x ≼ y
  pub below : (x : Fraction) × Member X x × ((y : Fraction) → Member Y y → x ≺ y)
  pub touching : (x : Fraction) × (y : Fraction) × Member X x × Member Y y × (x ≈ y)

-- That of strict_less: "(∀x ∈ self, ∃y ∈ rhs : x < y) ∧ (∀y ∈ self, ∃x ∈ rhs : x < y)", whose second half has self and rhs exchanged.
abbrev pub StrictLessText : Set → Set → Type 0
StrictLessText X Y = EachSome ◌≺◌ X Y × EachSome More X Y
