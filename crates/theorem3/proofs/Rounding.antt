-- Every end can be rounded upward: the rounded pattern exists for any format.
use mathlib.Core.Bool.{Bool, true, false}
use mathlib.Core.Path.{◌≡◌, refl, sym, ap, ◌∙◌}
use mathlib.Core.Logic.{inr, ⊎_elim}
use Prim.Native.Nat.{ℕ, zero, suc, ◌+◌, ◌-◌, ◌*◌, ◌^◌, ◌<◌, ◌≤◌}
use native.Mathlib.Nat.{le_refl, le_step, eq-or-lt_of_le, le_of_lt, lt_of_lt_of_le, lt_of_le_of_lt, mul-le-mul_right, sub-add_cancel, eq-zero-or-pos}
use native.Mathlib.Omega.{arith}
use borrow.Author.Tests.{leb-true, leb-false, ltb-true, ltb-false, le-ltb}
use lib.Dec.{leb, ltb}
use Rattle.patterns.specs.Format.{Format, infinity, sign_bit}
use Rattle.patterns.specs.Value.{value, choose}
use Rattle.patterns.specs.Rounding.{RoundsUp, RoundsDown}
use Rattle.patterns.proofs.ValueLaws.{le_or_lt, value_zero, value_mono}
use Rattle.patterns.proofs.UpLaws.{up_positive, up_negative, up_negative_zero, infinity_positive}
use Rattle.patterns.proofs.SignLaws.{infinity_below}
use Rattle.meaning.specs.Fraction.{Fraction}
use Rattle.meaning.specs.Sets.{End, at, unbounded}
use Rattle.meaning.specs.Supremum.{UpperEnd}
use Rattle.meaning.proofs.PairLaws.{infinity_not_finite}
use Rattle.meaning.proofs.SupremumLaws.{never_most}
use Rattle.theorem3.proofs.UpEnd.{Units, up_end}

-- The least number below n at which the test holds, or n.
first : (ℕ → Bool) → ℕ → ℕ
first test zero = zero
first test (suc n) = choose (test (first test n)) (first test n) (suc n)

record First (test : ℕ → Bool) (n b : ℕ) : Type 0 where
  within : b ≤ n
  holds : b < n → test b ≡ true
  least : (c : ℕ) → c < b → test c ≡ false

true_not_false : true ≡ false → ⊥
true_not_false e = let n : ◌≡◌ {A = ℕ} 0 1 = cc in omega arith

sub_times : (s : ℕ) {a b : ℕ} → a ≤ b → (b - a) * s + a * s ≡ b * s + 0
sub_times s {a} {b} h = omega (arith, ap (λ (t : ℕ). t * s) (sub-add_cancel h))

-- The law over variables: t is 2 ^ point.
same_units : (u d o t n m : ℕ) → n + d * t ≡ u * t + m → u * (o * t) + m * o ≡ n * o + d * (o * t)
same_units u d o t n m h = omega (arith, ap (λ (k : ℕ). k * o) h)

first_step : (test : ℕ → Bool) (n b : ℕ) (t : Bool) → test b ≡ t → First test n b → First test (suc n) (choose t b (suc n))
first_step test n b true e h = record { within = le_step h.within; holds = λ k. e; least = h.least }
first_step test n b false e h =
    record { within = le_refl (suc n); holds = λ k. absurd (omega arith); least = λ c k. ⊎_elim (at_b c) (h.least c) (eq-or-lt_of_le (below c k)) }
  where
    at_n : b ≡ n
    at_n = ⊎_elim (λ i. i) (λ l. absurd (true_not_false (sym (h.holds l) ∙ e))) (eq-or-lt_of_le h.within)

    below : (c : ℕ) → c < suc n → c ≤ b
    below c k = omega (arith, at_n)

    at_b : (c : ℕ) → c ≡ b → test c ≡ false
    at_b c i = ap test i ∙ e

first_right : (test : ℕ → Bool) (n : ℕ) → First test n (first test n)
unfolding first
first_right test zero = record { within = le_refl 0; holds = λ h. absurd (omega arith); least = λ c h. absurd (omega arith) }
first_right test (suc n) = first_step test n (first test n) (test (first test n)) refl (first_right test n)

-- The magnitude rounded upward, and downward.
pub rounds_up : (F : Format) (n d : ℕ) → (b : ℕ) × RoundsUp F n d b
rounds_up F n d =
    let test : ℕ → Bool = λ b. leb n (value F.frac b * d) in
    let f = first_right test (infinity F) in (
      first test (infinity F),
      record { within = f.within; above = λ h. leb-true n _ (f.holds h); least = λ c h. leb-false n _ (f.least c h) },
    )

pub rounds_down : (F : Format) (n d : ℕ) → (b : ℕ) × RoundsDown F n d b
rounds_down F n d = go (first test (infinity F)) (first_right test (infinity F))
  where
    test : ℕ → Bool
    test b = ltb n (value F.frac b * d)

    zero_fails : test 0 ≡ false
    zero_fails = le-ltb n (value F.frac 0 * d) (omega (arith, ap (λ (v : ℕ). v * d) (value_zero F.frac)))

    go : (b : ℕ) → First test (infinity F) b → (b : ℕ) × RoundsDown F n d b
    go zero f = absurd (true_not_false (sym (f.holds (infinity_positive F)) ∙ zero_fails))
    go (suc b) f = (
      b,
      record {
        within = f.within;
        below = ltb-false n _ (f.least b (omega arith));
        greatest = λ c h k.
            lt_of_lt_of_le (ltb-true n _ (f.holds (lt_of_le_of_lt h k))) (mul-le-mul_right d (value_mono F.frac h));
      },
    )

-- The end q rounded upward, from the rounding of its magnitude in units of the format.
module _ (F : Format) (q : Fraction) where
  in_units : {n m : ℕ} → n + q.down * 2 ^ F.point ≡ q.up * 2 ^ F.point + m → Units F (record { positive = n; negative = m; over = q.over }) q
  in_units {n} {m} h = record { some = q.positive; same = same_units q.up q.down q.over (2 ^ F.point) n m h }

  pub end_not_negative : {b : ℕ} → q.down ≤ q.up → RoundsUp F ((q.up - q.down) * 2 ^ F.point) q.over b → UpperEnd F (at q) b
  end_not_negative h r = up_end F (in_units (sub_times (2 ^ F.point) h)) (up_positive F q.positive r)

  pub end_negative : {b : ℕ} → q.up ≤ q.down → 0 < b → RoundsDown F ((q.down - q.up) * 2 ^ F.point) q.over b → UpperEnd F (at q) (sign_bit F + b)
  end_negative h p r = up_end F (in_units (omega (arith, sub_times (2 ^ F.point) h))) (up_negative F r p)

  pub end_vanishing : {b : ℕ} → q.up ≤ q.down → b ≡ 0 → RoundsDown F ((q.down - q.up) * 2 ^ F.point) q.over b → UpperEnd F (at q) 0
  end_vanishing h e r = up_end F (in_units (omega (arith, sub_times (2 ^ F.point) h))) (up_negative_zero F r e)

-- An unbounded end is rounded to +inf.
pub end_infinite : (F : Format) → UpperEnd F unbounded (infinity F)
end_infinite F =
    record {
      upper = record { number = inr refl; not_minus_zero = λ e. omega (arith, infinity_below F) };
      above = λ f. absurd (infinity_not_finite F f);
      least = λ c f k. absurd (never_most k);
    }

-- The end rounded upward.
pub rounded : (F : Format) (u : End) → (r : ℕ) × UpperEnd F u r
rounded F (at q) = ⊎_elim not_negative negative (le_or_lt q.down q.up)
  where
    not_negative : q.down ≤ q.up → (r : ℕ) × UpperEnd F (at q) r
    not_negative h =
        let t = rounds_up F ((q.up - q.down) * 2 ^ F.point) q.over in
        (t.0, end_not_negative F q h t.1)

    negative : q.up < q.down → (r : ℕ) × UpperEnd F (at q) r
    negative h =
        let t = rounds_down F ((q.down - q.up) * 2 ^ F.point) q.over in
        ⊎_elim (λ z. (0, end_vanishing F q (le_of_lt h) z t.1)) (λ p. (sign_bit F + t.0, end_negative F q (le_of_lt h) p t.1)) (eq-zero-or-pos t.0)
rounded F unbounded = (infinity F, end_infinite F)
