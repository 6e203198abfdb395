-- An interval with its zeros as the bytes have them is the same interval.
use mathlib.Core.Bool.{Bool, true, false}
use mathlib.Core.Path.{◌≡◌, refl, sym, ◌∙◌, ap, ap₂, subst, subst₂}
use mathlib.Core.Logic.{◌⊎◌, inl, inr}
use Prim.Native.Nat.{ℕ, ◌+◌, ◌<◌}
use native.Mathlib.Omega.{arith}
use borrow.Author.Tests.{eqb-true, eqb-false}
use lib.Dec.{eqb}
use Rattle.patterns.specs.Format.{Format, infinity, sign_bit}
use Rattle.patterns.specs.Value.{plus, minus, choose, Finite}
use Rattle.patterns.proofs.ValueLaws.{value_zero}
use Rattle.patterns.proofs.UpLaws.{infinity_positive}
use Rattle.patterns.proofs.SignLaws.{infinity_below, finite_positive, finite_negative, plus_positive, minus_positive, plus_negative, minus_negative}
use Rattle.meaning.specs.Fraction.{◌≼◌}
use Rattle.meaning.specs.Sets.{at, Set, span, Member, SameSet}
use Rattle.meaning.specs.Pairs.{Pair, worth, minus_infinity, Proper, EmptyPair, Bare, end_of, set_of}
use Rattle.meaning.specs.Bytes.{Tidied}
use Rattle.meaning.proofs.PairLaws.{end_finite, set_proper, set_empty}
use Rattle.end_pairs.specs.Zeros.{canonical_lower, canonical_upper, canonical_pair}

choose_cases : (P : ℕ → Type 0) (m n : ℕ) {x y : ℕ} → (m ≡ n → P x) → ((m ≡ n → ⊥) → P y) → P (choose (eqb m n) x y)
choose_cases P m n {x} {y} f g = go (eqb m n) refl
  where
    go : (t : Bool) → eqb m n ≡ t → P (choose t x y)
    go true e = f (eqb-true m n e)
    go false e = g (eqb-false m n e)

module _ (F : Format) where
  sign_positive : 0 < sign_bit F
  sign_positive = omega (arith, infinity_below F)

  finite_zero : Finite F 0
  finite_zero = finite_positive F (infinity_positive F)

  finite_minus_zero : Finite F (sign_bit F)
  finite_minus_zero = subst (Finite F) (omega arith) (finite_negative F (infinity_positive F))

  -- Both zeros are worth the same.
  worth_zeros : worth F (sign_bit F) ≡ worth F 0
  worth_zeros =
      λ i. record { up = ups i; down = downs i; over = (worth F 0).over; positive = (worth F 0).positive }
    where
      is_sign : sign_bit F + 0 ≡ sign_bit F
      is_sign = omega arith

      ups : plus F (sign_bit F) ≡ plus F 0
      ups = sym (ap (plus F) is_sign) ∙ plus_negative F sign_positive ∙ sym (value_zero F.frac) ∙ sym (plus_positive F sign_positive)

      downs : minus F (sign_bit F) ≡ minus F 0
      downs = sym (ap (minus F) is_sign) ∙ minus_negative F sign_positive ∙ value_zero F.frac ∙ sym (minus_positive F sign_positive)

  end_zeros : end_of F (sign_bit F) ≡ end_of F 0
  end_zeros = end_finite F finite_minus_zero ∙ ap at worth_zeros ∙ sym (end_finite F finite_zero)

  -- What is shown of an end holds of it with the other zero.
  by_lower : (P : ℕ → Type 0) (a : ℕ) → (a ≡ 0 → P (sign_bit F)) → ((a ≡ 0 → ⊥) → P a) → P (canonical_lower F a)
  unfolding canonical_lower
  by_lower P a = choose_cases P a 0

  by_upper : (P : ℕ → Type 0) (b : ℕ) → (b ≡ sign_bit F → P 0) → ((b ≡ sign_bit F → ⊥) → P b) → P (canonical_upper F b)
  unfolding canonical_upper
  by_upper P b = choose_cases P b (sign_bit F)

  worth_lower : (a : ℕ) → worth F (canonical_lower F a) ≡ worth F a
  worth_lower a = by_lower (λ (n : ℕ). worth F n ≡ worth F a) a (λ e. worth_zeros ∙ sym (ap (worth F) e)) (λ n. refl)

  worth_upper : (b : ℕ) → worth F (canonical_upper F b) ≡ worth F b
  worth_upper b = by_upper (λ (n : ℕ). worth F n ≡ worth F b) b (λ e. sym (ap (worth F) e ∙ worth_zeros)) (λ n. refl)

  end_lower : (a : ℕ) → end_of F (canonical_lower F a) ≡ end_of F a
  end_lower a = by_lower (λ (n : ℕ). end_of F n ≡ end_of F a) a (λ e. end_zeros ∙ sym (ap (end_of F) e)) (λ n. refl)

  end_upper : (b : ℕ) → end_of F (canonical_upper F b) ≡ end_of F b
  end_upper b = by_upper (λ (n : ℕ). end_of F n ≡ end_of F b) b (λ e. sym (ap (end_of F) e ∙ end_zeros)) (λ n. refl)

  finite_before_lower : (a : ℕ) → Finite F (canonical_lower F a) → Finite F a
  finite_before_lower a = by_lower (λ (n : ℕ). Finite F n → Finite F a) a (λ e f. subst (Finite F) (sym e) finite_zero) (λ n f. f)

  finite_before_upper : (b : ℕ) → Finite F (canonical_upper F b) → Finite F b
  finite_before_upper b = by_upper (λ (n : ℕ). Finite F n → Finite F b) b (λ e f. subst (Finite F) (sym e) finite_minus_zero) (λ n f. f)

  pub finite_lower : {a : ℕ} → Finite F a → Finite F (canonical_lower F a)
  finite_lower {a} f = by_lower (Finite F) a (λ z. finite_minus_zero) (λ n. f)

  pub finite_upper : {b : ℕ} → Finite F b → Finite F (canonical_upper F b)
  finite_upper {b} f = by_upper (Finite F) b (λ z. finite_zero) (λ n. f)

  pub canonical_proper : (p : Pair) → Proper F p → Proper F (canonical_pair F p)
  canonical_proper p h =
      record {
        lower_end = by_lower (λ (n : ℕ). Finite F n ⊎ (n ≡ minus_infinity F)) p.lower (λ e. inl finite_minus_zero) (λ n. h.lower_end);
        upper_end = by_upper (λ (n : ℕ). Finite F n ⊎ (n ≡ infinity F)) p.upper (λ e. inl finite_zero) (λ n. h.upper_end);
        in_order = λ f g.
            subst₂ ◌≼◌ (sym (worth_lower p.lower)) (sym (worth_upper p.upper))
            (h.in_order (finite_before_lower p.lower f) (finite_before_upper p.upper g));
      }

  pub canonical_empty : (p : Pair) → EmptyPair F p → EmptyPair F (canonical_pair F p)
  unfolding minus_infinity
  canonical_empty p h =
      record {
        lower_is = by_lower (λ (n : ℕ). n ≡ infinity F) p.lower (λ e. absurd (omega (arith, infinity_positive F, h.lower_is))) (λ n. h.lower_is);
        upper_is = by_upper (λ (n : ℕ). n ≡ sign_bit F + infinity F) p.upper
            (λ e. absurd (omega (arith, infinity_positive F, h.upper_is))) (λ n. h.upper_is);
      }

  canonical_bare : (p : Pair) → Bare F p → Bare F (canonical_pair F p)
  canonical_bare p (inl h) = inl (canonical_proper p h)
  canonical_bare p (inr h) = inr (canonical_empty p h)

  -- The set is the same.
  pub canonical_set : (p : Pair) → Bare F p → set_of F p ≡ set_of F (canonical_pair F p)
  canonical_set p (inl h) =
      set_proper F p h ∙ sym (ap₂ span (end_lower p.lower) (end_upper p.upper)) ∙ sym (set_proper F (canonical_pair F p) (canonical_proper p h))
  canonical_set p (inr h) = set_empty F p h ∙ sym (set_empty F (canonical_pair F p) (canonical_empty p h))

  same_of : {X Y : Set} → X ≡ Y → SameSet X Y
  same_of e = (λ x m. subst (λ (Z : Set). Member Z x) e m, λ x m. subst (λ (Z : Set). Member Z x) (sym e) m)

  pub tidied : (p : Pair) → Bare F p → Tidied F p (canonical_pair F p)
  tidied p h =
      record {
        canonical = record {
          bare = canonical_bare p h;
          lower_zero = by_lower (λ (n : ℕ). n ≡ 0 → ⊥) p.lower (λ e z. omega (arith, sign_positive)) (λ n. n);
          upper_zero = by_upper (λ (n : ℕ). n ≡ sign_bit F → ⊥) p.upper (λ e z. omega (arith, sign_positive)) (λ n. n);
        };
        same = same_of (canonical_set p h);
      }

  pub tidied_trans : {p q r : Pair} → Tidied F p q → Tidied F q r → Tidied F p r
  tidied_trans s t =
      record {
        canonical = t.canonical;
        same = (λ x m. t.same.0 x (s.same.0 x m), λ x m. s.same.1 x (t.same.1 x m));
      }
