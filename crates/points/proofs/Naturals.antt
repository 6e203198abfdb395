-- Natural numbers as values of patterns: those up to 2 ^ frac are of the format, for any format.
use mathlib.Core.Path.{◌≡◌, sym, ◌∙◌, ap, subst⁻¹}
use mathlib.Core.Logic.{◌⊎◌, inl, inr, ⊎_elim}
use Prim.Native.Nat.{ℕ, ◌+◌, ◌*◌, ◌^◌, ◌<◌, ◌≤◌}
use native.Mathlib.Nat.{le_refl, le_dest, mul-le-mul_right, mul-le-mul_left, mul-lt-mul_of_pos_right, two-pow-succ}
use native.Mathlib.Omega.{arith}
use lib.Pow.{pow_pos, pow_mono, pow-add}
use Rattle.patterns.specs.Format.{Format, infinity}
use Rattle.patterns.specs.Value.{value}
use Rattle.patterns.proofs.ValueLaws.{le_or_lt, pow_next, packed, unpacks, value_unpacks, value_reflects}

shifted : (q p j k : ℕ) → p + j ≡ k → q * 2 ^ k ≡ q * 2 ^ j * 2 ^ p
shifted q p j k e = ap (λ (i : ℕ). q * 2 ^ i) (sym e) ∙ rw (pow-add 2 p j) (omega arith)

short_small : (h k q p : ℕ) → q < 2 ^ (h + 1) → k < p → q * 2 ^ k < 2 ^ h * 2 ^ p
short_small h k q p short less =
    omega (
      arith,
      mul-lt-mul_of_pos_right short (pow_pos k),
      ap (λ (t : ℕ). t * 2 ^ k) (pow_next h),
      ap (λ (t : ℕ). 2 ^ h * t) (two-pow-succ k),
      mul-le-mul_left (2 ^ h) (pow_mono less),
    )

-- A value is a multiple of 2 ^ p, or small.
pub multiple_or_small : (h p b : ℕ) → ((n : ℕ) × (value h b ≡ n * 2 ^ p)) ⊎ (value h b < 2 ^ h * 2 ^ p)
multiple_or_small h p b =
    let (k, q, u) = unpacks h b in
    ⊎_elim
    (λ le. let (j, e) = le_dest le in inl (q * 2 ^ j, value_unpacks h b k q u ∙ shifted q p j k e))
    (λ less. inr (subst⁻¹ (λ (v : ℕ). v < 2 ^ h * 2 ^ p) (value_unpacks h b k q u) (short_small h k q p u.short less)))
    (le_or_lt p k)

-- A pattern worth at most 2 ^ frac is finite: that needs the largest finite number to be a whole number.
below_infinity : (F : Format) (n b : ℕ) → value F.frac b ≡ n * 2 ^ F.point → n ≤ 2 ^ F.frac → b < infinity F
unfolding infinity
below_infinity F n b e s =
    omega
    (arith, value_reflects F.frac most, pow_pos F.frac, mul-le-mul_right (2 ^ F.frac) F.wide)
  where
    most : value F.frac b ≤ value F.frac (F.point * 2 ^ F.frac + 2 ^ F.frac)
    most =
        omega (
          arith,
          packed F.frac F.point (2 ^ F.frac) (inr (le_refl (2 ^ F.frac))) (omega (arith, pow_next F.frac)),
          mul-le-mul_right (2 ^ F.point) s,
        )
