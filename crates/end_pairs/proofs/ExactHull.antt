-- A pair whose members are the results themselves is the right answer.
use mathlib.Core.Path.{◌≡◌, ◌∙◌, ap, subst, subst⁻¹}
use mathlib.Core.Logic.{◌⊎◌, inl, inr}
use Prim.Native.Nat.{ℕ}
use Rattle.patterns.specs.Format.{Format, infinity}
use Rattle.patterns.specs.Value.{Finite}
use Rattle.meaning.specs.Fraction.{Fraction, ◌≈◌}
use Rattle.meaning.specs.Sets.{Set, empty, span, Member}
use Rattle.meaning.specs.Pairs.{Pair, worth, minus_infinity, Bare, Canonical, end_of, set_of}
use Rattle.meaning.specs.Hull.{EndOfFormat, format_number, format_infinite, SetOfFormat, format_empty, format_span}
use Rattle.meaning.specs.Statement.{HullOf}
use Rattle.meaning.proofs.FractionLaws.{eq_refl, eq_le, eq_ge}
use Rattle.meaning.proofs.SetLaws.{over_trans, under_trans, some_member}
use Rattle.meaning.proofs.PairLaws.{end_finite, end_infinity, end_minus_infinity, set_proper, set_empty, set_valid, proper_ordered}

-- A member is one under every name.
pub member_same : (X : Set) {x y : Fraction} → x ≈ y → Member X x → Member X y
member_same empty e m = m
member_same (span a b) e m = record { low = over_trans a (eq_le e) m.low; high = under_trans b (eq_ge e) m.high }

module _ (F : Format) where
  finite_end : {b : ℕ} → Finite F b → EndOfFormat F (end_of F b)
  finite_end {b} f =
      subst⁻¹ (EndOfFormat F) (end_finite F f) (format_number (record { pattern = b; is_finite = f; is = eq_refl (worth F b) }))

  lower_end_lem : {b : ℕ} → Finite F b ⊎ (b ≡ minus_infinity F) → EndOfFormat F (end_of F b)
  lower_end_lem (inl f) = finite_end f
  lower_end_lem (inr e) = subst⁻¹ (EndOfFormat F) (ap (end_of F) e ∙ end_minus_infinity F) format_infinite

  upper_end_lem : {b : ℕ} → Finite F b ⊎ (b ≡ infinity F) → EndOfFormat F (end_of F b)
  upper_end_lem (inl f) = finite_end f
  upper_end_lem (inr e) = subst⁻¹ (EndOfFormat F) (ap (end_of F) e ∙ end_infinity F) format_infinite

  pub set_of_format : (p : Pair) → Bare F p → SetOfFormat F (set_of F p)
  set_of_format p (inl h) = subst⁻¹ (SetOfFormat F) (set_proper F p h) (format_span (lower_end_lem h.lower_end) (upper_end_lem h.upper_end))
  set_of_format p (inr e) = subst⁻¹ (SetOfFormat F) (set_empty F p e) format_empty

  no_members : (p : Pair) → Bare F p → ((r : Fraction) → Member (set_of F p) r → ⊥) → set_of F p ≡ empty
  no_members p (inl h) n =
      let t = some_member (proper_ordered F p h) in
      absurd (n t.0 (subst⁻¹ (λ (X : Set). Member X t.0) (set_proper F p h) t.1))
  no_members p (inr e) n = set_empty F p e

  pub exact_hull : (R : Fraction → Type 0) (p : Pair) → Canonical F p → ((r : Fraction) → R r → Member (set_of F p) r)
      → ((r : Fraction) → Member (set_of F p) r → R r) → HullOf F R p
  exact_hull R p c into back =
      record {
        canonical = c;
        hull = record {
          valid = set_valid F p c.bare;
          of_format = set_of_format p c.bare;
          empty_if = (λ e r m. subst (λ (X : Set). Member X r) e (into r m), λ n. no_members p c.bare (λ r m. n r (back r m)));
          holds = into;
          narrowest = λ W f h x m. h x (back x m);
        };
      }
