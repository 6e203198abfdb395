-- A magnitude between two whole numbers, from its value in units of the format's smallest positive number.
use mathlib.Core.Path.{◌≡◌, sym, ◌∙◌, ap, subst, subst₂}
use Prim.Native.Nat.{ℕ, ◌+◌, ◌*◌, ◌/◌, ◌%◌, ◌^◌, ◌<◌}
use native.Mathlib.Nat.{lt_trans, mul-lt-mul_of_pos_right, eq_of_mul-eq-mul_right}
use native.Mathlib.Omega.{arith}
use lib.Dec.{eqb}
use lib.Pow.{pow_pos}
use Rattle.std.proofs.Common.{Ordering, Less, Equal, Greater}
use Rattle.patterns.specs.Format.{Format, infinity, sign_bit}
use Rattle.patterns.specs.Value.{value}
use Rattle.patterns.proofs.SignLaws.{infinity_below, plus_positive, minus_positive}
use Rattle.meaning.specs.Fraction.{Fraction, ◌≺◌, ◌≈◌, ◌⊕◌, whole, Even}
use Rattle.meaning.specs.Pairs.{worth}
use Rattle.truth.specs.Answers.{Answers}
use Rattle.truth.proofs.AnswerLaws.{answers_eq}
use Rattle.wholes.specs.Enclosure.{OnSide, Encloses}
use Rattle.wholes.proofs.DigitLaws.{Lies}

module _ (o : ℕ) (positive : 0 < o) where
  -- The fraction v / o.
  abbrev pub parts : ℕ → Fraction
  parts v = record { up = v; down = 0; over = o; positive = positive }

  parts_lt : {v w : ℕ} → v < w → parts v ≺ parts w
  parts_lt l = record { lt = omega (arith, mul-lt-mul_of_pos_right l positive) }

  parts_whole : (n : ℕ) → parts (n * o) ≈ whole n
  parts_whole n = record { eq = omega arith }

  parts_side : (n v : ℕ) (z : Ordering) → Lies (2 * v) ((2 * n + 1) * o) z → OnSide (parts v) (parts (n * o)) z
  unfolding ◌⊕◌
  parts_side n v Less l = record { lt = omega (arith, mul-lt-mul_of_pos_right l positive) }
  parts_side n v Equal e = record { eq = omega (arith, ap (λ (t : ℕ). t * o) e) }
  parts_side n v Greater l = record { lt = omega (arith, mul-lt-mul_of_pos_right l positive) }

  parts_even : (n : ℕ) → Answers (Even (parts (n * o))) (eqb (n % 2) 0)
  parts_even n =
      answers_eq (n % 2) 0
      (λ e. record { plus = n / 2; minus = 0; is = omega (arith, ap (λ (t : ℕ). t * o) {x = n} {y = 2 * (n / 2)} (omega arith)) })
      (λ odd e.
      let same : n + 2 * e.minus ≡ 2 * e.plus = eq_of_mul-eq-mul_right o positive _ _ (omega (arith, e.is)) in
      omega arith)

module _ (F : Format) where
  -- A magnitude is worth its value.
  pub worth_magnitude : {b : ℕ} → b < infinity F → worth F b ≡ parts (2 ^ F.point) (pow_pos F.point) (value F.frac b)
  worth_magnitude {b} f =
      let small : b < sign_bit F = lt_trans f (infinity_below F) in
      λ i. record { up = plus_positive F small i; down = minus_positive F small i; over = 2 ^ F.point; positive = pow_pos F.point }

  abbrev units : ℕ → Fraction
  units = parts (2 ^ F.point) (pow_pos F.point)

  pub natural : {b : ℕ} (n : ℕ) → b < infinity F → value F.frac b ≡ n * 2 ^ F.point → worth F b ≈ whole n
  natural n f e =
      subst (λ (x : Fraction). x ≈ whole n) (sym (worth_magnitude f ∙ ap units e)) (parts_whole (2 ^ F.point) (pow_pos F.point) n)

  -- The magnitude b between the whole numbers n and n + 1.
  module _ {b low high : ℕ} (n : ℕ) (here : b < infinity F)
      (low_finite : low < infinity F) (lowIs : value F.frac low ≡ n * 2 ^ F.point)
      (high_finite : high < infinity F) (highIs : value F.frac high ≡ (n + 1) * 2 ^ F.point) where
    worth_low : worth F low ≡ units (n * 2 ^ F.point)
    worth_low = worth_magnitude low_finite ∙ ap units lowIs

    worth_high : worth F high ≡ units ((n + 1) * 2 ^ F.point)
    worth_high = worth_magnitude high_finite ∙ ap units highIs

    pub encloses : (z : Ordering) → n * 2 ^ F.point < value F.frac b → value F.frac b < (n + 1) * 2 ^ F.point
        → Lies (2 * value F.frac b) ((2 * n + 1) * 2 ^ F.point) z
        → Encloses F b (record { low = low; high = high; side = z; even = eqb (n % 2) 0 })
    encloses z less more lies = record {
      low_finite = low_finite;
      high_finite = high_finite;
      between = record {
        number = n;
        lower = natural n low_finite lowIs;
        upper = natural (n + 1) high_finite highIs;
        above = subst₂ ◌≺◌ (sym worth_low) (sym (worth_magnitude here)) (parts_lt _ _ less);
        below = subst₂ ◌≺◌ (sym (worth_magnitude here)) (sym worth_high) (parts_lt _ _ more);
      };
      on_side = subst₂ (λ (x l : Fraction). OnSide x l z) (sym (worth_magnitude here)) (sym worth_low) (parts_side _ _ n _ z lies);
      parity = subst (λ (l : Fraction). Answers (Even l) (eqb (n % 2) 0)) (sym worth_low) (parts_even _ _ n);
    }
