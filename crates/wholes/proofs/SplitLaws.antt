-- The whole numbers next to a magnitude of a format.
use mathlib.Core.Path.{◌≡◌, refl, sym, ◌∙◌, ap, subst}
use mathlib.Core.Logic.{inr, ⊎_elim}
use Prim.Native.Nat.{ℕ, suc, ◌+◌, ◌-◌, ◌*◌, ◌/◌, ◌%◌, ◌^◌, ◌<◌, ◌≤◌}
use native.Mathlib.Nat.{le_refl, mod-lt, mul-le-mul_right, lt_of_mul-lt-mul_right, mul-pos, two-pow-succ}
use native.Mathlib.Omega.{arith}
use lib.Dec.{eqb}
use lib.Pow.{pow_pos, pow-add, split}
use Rattle.std.proofs.Common.{Ordering, Less, Equal, Greater}
use Rattle.patterns.specs.Format.{Format, infinity}
use Rattle.patterns.specs.Value.{value}
use Rattle.patterns.proofs.ValueLaws.{packed, pow_next, value_zero, value_positive, value_strict, value_mono}
use Rattle.meaning.specs.Fraction.{◌≈◌, whole, Whole}
use Rattle.meaning.specs.Pairs.{worth}
use Rattle.points.proofs.WholeLaws.{is_whole_lem}
use Rattle.points.proofs.Naturals.{multiple_or_small}
use Rattle.wholes.specs.Enclosure.{Encloses, HasDigits}
use Rattle.wholes.proofs.DigitLaws.{Lies, Cuts, low_value, high_value, here_value, rest_value, side_value, high_pattern}
use Rattle.wholes.proofs.EnclosureLaws.{natural, encloses}

-- A magnitude that is worth n.
pub whole_magnitude : (F : Format) {b : ℕ} (n : ℕ) → b < infinity F → value F.frac b ≡ n * 2 ^ F.point → Whole (worth F b)
whole_magnitude F n f e = is_whole_lem n 0 (natural F n f e)

pub zero_whole : (F : Format) {b : ℕ} → b < infinity F → b ≡ 0 → Whole (worth F b)
zero_whole F f e = whole_magnitude F 0 f (ap (value F.frac) e ∙ value_zero F.frac ∙ omega arith)

-- A magnitude with digits after the point, in terms of its significand.
module _ (F : Format) {b k s q : ℕ} (c : Cuts F.frac F.point b k s q) where
  near : (k + 2) * 2 ^ F.frac < infinity F
  unfolding infinity
  near =
      let p = c.point in
      let i = c.some in
      omega (
        arith,
        mul-le-mul_right {m = k + 3} {n = F.codes} (2 ^ F.frac) (let w = F.wide in omega arith),
        pow_pos F.frac,
      )

  here : b < infinity F
  here = omega (arith, near, c.pattern, c.short, pow_next F.frac)

  cut_whole : q % 2 ^ s ≡ 0 → Whole (worth F b)
  cut_whole e = whole_magnitude F (q / 2 ^ s) here (here_value c ∙ omega (arith, ap (λ (t : ℕ). t * 2 ^ k) e))

  cut_between : (z : Ordering) → (q % 2 ^ s ≡ 0 → ⊥) → Lies (q % 2 ^ s) (2 ^ s / 2) z
      → Encloses F b (record { low = b - q % 2 ^ s; high = b - q % 2 ^ s + 2 ^ s; side = z; even = eqb (q / 2 ^ s % 2) 0 })
  cut_between z some lies =
      encloses F (q / 2 ^ s) here
      (omega (arith, here)) (low_value c)
      (omega (arith, high_pattern c, near)) (high_value c) z
      (omega (arith, here_value c, mul-pos {m = q % 2 ^ s} {n = 2 ^ k} (omega arith) (pow_pos k)))
      (omega (arith, here_value c, rest_value c))
      (side_value c z lies)

module _ (F : Format) {b : ℕ} (d : HasDigits F b) where
  field_most : b / 2 ^ F.frac < F.point + 1
  field_most = let l = d.below in lt_of_mul-lt-mul_right (2 ^ F.frac) (omega (arith, split b F.frac))

  field_least : F.point - F.frac + 1 < b / 2 ^ F.frac + 1
  field_least =
      let l = d.from_one in
      lt_of_mul-lt-mul_right (2 ^ F.frac) (omega (arith, split b F.frac, mod-lt b (pow_pos F.frac)))

  digits_cut : Cuts F.frac F.point b (b / 2 ^ F.frac - 1) (F.point + 1 - b / 2 ^ F.frac) (b % 2 ^ F.frac + 2 ^ F.frac)
  digits_cut = record {
    pattern = omega (arith, split b F.frac, ap (λ (t : ℕ). t * 2 ^ F.frac) {x = b / 2 ^ F.frac} {y = b / 2 ^ F.frac - 1 + 1} (omega (arith, field_least)));
    wide = omega arith;
    short = omega (arith, pow_next F.frac, mod-lt b (pow_pos F.frac));
    point = omega (arith, field_most, field_least);
    some = omega (arith, field_most, field_least);
    inside = omega (arith, field_most, field_least);
  }

  -- The digits after the point stand in the fraction.
  pub unit_inside : F.point + 1 - b / 2 ^ F.frac ≤ F.frac
  unit_inside = digits_cut.inside

  -- u is the unit, a significand's digit that is worth 1.
  module _ {u : ℕ} (e : u ≡ 2 ^ (F.point + 1 - b / 2 ^ F.frac)) where
    pub digits_whole : (b % 2 ^ F.frac + 2 ^ F.frac) % u ≡ 0 → Whole (worth F b)
    digits_whole = subst (λ (u : ℕ). (b % 2 ^ F.frac + 2 ^ F.frac) % u ≡ 0 → Whole (worth F b)) (sym e) (cut_whole F digits_cut)

    pub digits_between : (z : Ordering) → ((b % 2 ^ F.frac + 2 ^ F.frac) % u ≡ 0 → ⊥) → Lies ((b % 2 ^ F.frac + 2 ^ F.frac) % u) (u / 2) z
        → Encloses F b (record {
          low = b - (b % 2 ^ F.frac + 2 ^ F.frac) % u;
          high = b - (b % 2 ^ F.frac + 2 ^ F.frac) % u + u;
          side = z;
          even = eqb ((b % 2 ^ F.frac + 2 ^ F.frac) / u % 2) 0;
        })
    digits_between z =
        subst (λ (u : ℕ).
        ((b % 2 ^ F.frac + 2 ^ F.frac) % u ≡ 0 → ⊥) → Lies ((b % 2 ^ F.frac + 2 ^ F.frac) % u) (u / 2) z
        → Encloses F b (record {
          low = b - (b % 2 ^ F.frac + 2 ^ F.frac) % u;
          high = b - (b % 2 ^ F.frac + 2 ^ F.frac) % u + u;
          side = z;
          even = eqb ((b % 2 ^ F.frac + 2 ^ F.frac) / u % 2) 0;
        })) (sym e) (cut_between F digits_cut z)

pub one_finite : (F : Format) → (F.point - F.frac + 1) * 2 ^ F.frac < infinity F
unfolding infinity
one_finite F =
    omega (arith, mul-le-mul_right {m = F.point - F.frac + 2} {n = F.codes} (2 ^ F.frac) (let w = F.wide in omega arith), pow_pos F.frac)

-- The pattern of 2 ^ (h + k), where 1 is worth 2 ^ p.
power_value : (h k p : ℕ) → h + k ≡ p → value h ((k + 1) * 2 ^ h) ≡ 2 ^ p
power_value h k p e =
    ap (value h) (omega arith) ∙ packed h k (2 ^ h) (inr (le_refl (2 ^ h))) (omega (arith, pow_next h))
    ∙ sym (pow-add 2 h k) ∙ ap (λ (j : ℕ). 2 ^ j) e

-- From 2 ^ frac on every magnitude is a whole number.
pub large_whole : (F : Format) {b : ℕ} → b < infinity F → (F.point + 1) * 2 ^ F.frac ≤ b → Whole (worth F b)
large_whole F {b} f l =
    ⊎_elim
    (λ (n, e). whole_magnitude F n f e)
    (λ small. absurd (omega (arith, small, value_mono F.frac l, power_value F.frac F.point _ refl, pow-add 2 F.frac F.point)))
    (multiple_or_small F.frac F.point b)

-- A format that has 1/2.
module _ (F : Format) (fine : F.frac + 1 ≤ F.point) where
  pub one_value : value F.frac ((F.point - F.frac + 1) * 2 ^ F.frac) ≡ 2 ^ F.point
  one_value = power_value F.frac (F.point - F.frac) F.point (omega arith)

  pub one_worth : worth F ((F.point - F.frac + 1) * 2 ^ F.frac) ≈ whole 1
  one_worth = natural F 1 (one_finite F) (one_value ∙ omega arith)

  half_value : 2 * value F.frac ((F.point - F.frac) * 2 ^ F.frac) ≡ 2 ^ F.point
  half_value =
      let last : F.frac + (F.point - F.frac - 1) ≡ F.point - 1 = omega arith in
      omega (
        arith,
        ap (λ (k : ℕ). value F.frac (k * 2 ^ F.frac)) {x = F.point - F.frac} {y = F.point - F.frac - 1 + 1} (omega arith),
        power_value F.frac (F.point - F.frac - 1) (F.point - 1) last,
        ap (λ (j : ℕ). 2 ^ j) {x = F.point} {y = suc (F.point - 1)} (omega arith),
        two-pow-succ (F.point - 1),
      )

  side_half : (b : ℕ) (z : Ordering) → Lies b ((F.point - F.frac) * 2 ^ F.frac) z
      → Lies (2 * value F.frac b) ((2 * 0 + 1) * 2 ^ F.point) z
  side_half b Less l = omega (arith, value_strict F.frac l, half_value)
  side_half b Equal e = omega (arith, ap (value F.frac) e, half_value)
  side_half b Greater l = omega (arith, value_strict F.frac l, half_value)

  -- The neighbours of a magnitude below 1 are 0 and 1.
  pub small_between : {b : ℕ} (z : Ordering) → b < infinity F → 0 < b → b < (F.point - F.frac + 1) * 2 ^ F.frac
      → Lies b ((F.point - F.frac) * 2 ^ F.frac) z
      → Encloses F b (record { low = 0; high = (F.point - F.frac + 1) * 2 ^ F.frac; side = z; even = eqb (0 % 2) 0 })
  small_between z f some less lies =
      encloses F 0 f (omega arith) (value_zero F.frac ∙ omega arith) (one_finite F) (one_value ∙ omega arith) z
      (omega (arith, value_positive F.frac some)) (omega (arith, value_strict F.frac less, one_value)) (side_half _ z lies)
