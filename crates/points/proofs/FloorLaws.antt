-- The laws of floor and ceil, each the mirror of the other.
use mathlib.Core.Path.{◌≡◌, ap}
use Prim.Native.Nat.{ℕ, ◌+◌, ◌*◌, ◌-◌, ◌/◌, ◌%◌}
use native.Mathlib.Nat.{div-add-mod', mod-lt}
use native.Mathlib.Omega.{arith}
use Rattle.meaning.specs.Fraction.{Fraction, ◌≈◌, ◌⊕◌, negated, whole, Whole}
use Rattle.meaning.specs.Points.{Ceil, Floor}
use Rattle.meaning.proofs.FractionLaws.{eq_refl, le_refl, le_trans, le_lt_trans, lt_le_trans, eq_le, eq_ge, add_right, neg_le}
use Rattle.points.specs.Functions.{Monotone, Total}
use Rattle.points.proofs.SumLaws.{lt_mirror, lt_one}
use Rattle.points.proofs.WholeLaws.{apart, difference, is_whole_lem, whole_same, whole_negated}

pub floor_ceil_lem : {x r : Fraction} → Floor x r → Ceil (negated x) (negated r)
floor_ceil_lem f = record {
  is_whole = whole_negated f.is_whole;
  not_below = neg_le f.not_above;
  near = lt_mirror (whole 1) f.near;
}

pub ceil_floor_lem : {x r : Fraction} → Ceil x r → Floor (negated x) (negated r)
ceil_floor_lem c = record {
  is_whole = whole_negated c.is_whole;
  not_above = neg_le c.not_below;
  near = lt_mirror (whole 1) c.near;
}

pub floor_monotone : Monotone Floor
floor_monotone = record {
  rises = λ f g h. apart f.is_whole g.is_whole (le_lt_trans f.not_above (le_lt_trans h g.near));
}

pub ceil_monotone : Monotone Ceil
ceil_monotone = record {
  rises = λ f g h. apart f.is_whole g.is_whole (lt_le_trans f.near (add_right (whole 1) (le_trans h g.not_below)));
}

pub floor_same : {x r s : Fraction} → Floor x r → r ≈ s → Floor x s
floor_same f e = record {
  is_whole = whole_same f.is_whole e;
  not_above = le_trans (eq_ge e) f.not_above;
  near = lt_le_trans f.near (add_right (whole 1) (eq_le e));
}

pub ceil_same : {x r s : Fraction} → Ceil x r → r ≈ s → Ceil x s
ceil_same c e = record {
  is_whole = whole_same c.is_whole e;
  not_below = le_trans c.not_below (eq_le e);
  near = le_lt_trans (eq_ge e) c.near;
}

-- A whole number is its own floor and its own ceil.
pub floor_whole : {x : Fraction} → Whole x → Floor x x
floor_whole {x} w = record { is_whole = w; not_above = le_refl x; near = lt_one x }

pub ceil_whole : {x : Fraction} → Whole x → Ceil x x
ceil_whole {x} w = record { is_whole = w; not_below = le_refl x; near = lt_one x }

-- The floor of (u - d) / o is (u + d * (o - 1)) / o - d.
pub floor_total : Total Floor
unfolding ◌⊕◌
floor_total x = (
  difference q x.down,
  record {
    is_whole = is_whole_lem q x.down (eq_refl _);
    not_above = record { le = omega (arith, grown, divided) };
    near = record { lt = omega (arith, grown, divided, mod-lt n x.positive) };
  },
)
  where
    n : ℕ
    n = x.up + x.down * (x.over - 1)

    q : ℕ
    q = n / x.over

    divided : q * x.over + n % x.over ≡ n
    divided = div-add-mod' n x.over

    whole_over : x.over - 1 + 1 ≡ x.over
    whole_over = omega arith

    grown : x.down * (x.over - 1) + x.down ≡ x.down * x.over
    grown = omega (arith, ap (λ (o : ℕ). x.down * o) whole_over)

pub ceil_total : Total Ceil
ceil_total x = let (r, f) = floor_total (negated x) in (negated r, floor_ceil_lem f)
