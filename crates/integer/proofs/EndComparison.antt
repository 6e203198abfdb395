-- Ends of one side agree exactly if their keys do.
use mathlib.Core.Path.{◌≡◌, sym, ◌∙◌, ap, subst₂}
use mathlib.Core.Logic.{◌⊎◌, inl, inr, ⊎_elim}
use Prim.Native.Nat.{ℕ}
use native.Mathlib.Nat.{le_of_eq}
use native.Mathlib.Omega.{arith}
use lib.Dec.{eqb}
use Rattle.patterns.specs.Format.{Format}
use Rattle.patterns.specs.Value.{Finite}
use Rattle.patterns.proofs.ValueLaws.{le_or_lt}
use Rattle.meaning.specs.Fraction.{Fraction, ◌≈◌}
use Rattle.meaning.specs.Sets.{at, unbounded, SameEnd, same_number, same_none}
use Rattle.meaning.specs.Pairs.{worth, end_of}
use Rattle.meaning.proofs.FractionLaws.{lt_not_le, eq_le, eq_ge, antisymm}
use Rattle.meaning.proofs.PairLaws.{end_finite, end_infinity, end_minus_infinity}
use Rattle.truth.specs.Answers.{Answers}
use Rattle.end_pairs.specs.Keys.{key_of}
use Rattle.truth.proofs.AnswerLaws.{answers_eq}
use Rattle.end_pairs.proofs.KeyLaws.{key_le, key_lt, finite_keys}
use Rattle.integer.specs.Jumping.{OneSide, lowers, uppers}

module _ (F : Format) {a b : ℕ} (f : Finite F a) (g : Finite F b) where
  keys_equal : worth F a ≈ worth F b → key_of F a ≡ key_of F b
  keys_equal e =
      ⊎_elim
      (λ le. ⊎_elim (λ ge. omega arith) (λ less. absurd (lt_not_le (key_lt F f.pattern g.pattern less) (eq_ge e))) (le_or_lt (key_of F b) (key_of F a)))
      (λ less. absurd (lt_not_le (key_lt F g.pattern f.pattern less) (eq_le e)))
      (le_or_lt (key_of F a) (key_of F b))

  equal_keys : key_of F a ≡ key_of F b → worth F a ≈ worth F b
  equal_keys e =
      antisymm (key_le F f.pattern g.pattern (le_of_eq e)) (key_le F g.pattern f.pattern (le_of_eq (sym e)))

-- `none` is the infinite end of one side, whose key no finite pattern has.
module _ (F : Format) {none : ℕ} (is_none : end_of F none ≡ unbounded) (far : (b : ℕ) → Finite F b → key_of F b ≡ key_of F none → ⊥)
    {a b : ℕ} where
  same_when : Finite F a ⊎ (a ≡ none) → Finite F b ⊎ (b ≡ none) → key_of F a ≡ key_of F b → SameEnd (end_of F a) (end_of F b)
  same_when (inl f) (inl g) e = subst₂ SameEnd (sym (end_finite F f)) (sym (end_finite F g)) (same_number (equal_keys F f g e))
  same_when (inl f) (inr n) e = absurd (far a f (e ∙ ap (key_of F) n))
  same_when (inr n) (inl g) e = absurd (far b g (sym e ∙ ap (key_of F) n))
  same_when (inr n) (inr m) e = subst₂ SameEnd (sym (ap (end_of F) n ∙ is_none)) (sym (ap (end_of F) m ∙ is_none)) same_none

  same_only : Finite F a ⊎ (a ≡ none) → Finite F b ⊎ (b ≡ none) → SameEnd (end_of F a) (end_of F b) → key_of F a ≡ key_of F b
  same_only (inl f) (inl g) s = keys_equal F f g (number (subst₂ SameEnd (end_finite F f) (end_finite F g) s))
    where
      number : {p q : Fraction} → SameEnd (at p) (at q) → p ≈ q
      number (same_number e) = e
  same_only (inl f) (inr n) s = absurd (never (subst₂ SameEnd (end_finite F f) (ap (end_of F) n ∙ is_none) s))
    where
      never : {p : Fraction} → SameEnd (at p) unbounded → ⊥
      never e = elim e [ ]
  same_only (inr n) (inl g) s = absurd (never (subst₂ SameEnd (ap (end_of F) n ∙ is_none) (end_finite F g) s))
    where
      never : {p : Fraction} → SameEnd unbounded (at p) → ⊥
      never e = elim e [ ]
  same_only (inr n) (inr m) s = ap (key_of F) (n ∙ sym m)

  answers_side : Finite F a ⊎ (a ≡ none) → Finite F b ⊎ (b ≡ none) → Answers (SameEnd (end_of F a) (end_of F b)) (eqb (key_of F a) (key_of F b))
  answers_side p q = answers_eq (key_of F a) (key_of F b) (same_when p q) (λ n s. n (same_only p q s))

pub answers_same : (F : Format) {a b : ℕ} → OneSide F a b → Answers (SameEnd (end_of F a) (end_of F b)) (eqb (key_of F a) (key_of F b))
answers_same F (lowers p q) = answers_side F (end_minus_infinity F) (λ c f e. omega (arith, (finite_keys F f).0)) p q
answers_same F (uppers p q) = answers_side F (end_infinity F) (λ c f e. omega (arith, (finite_keys F f).1)) p q
