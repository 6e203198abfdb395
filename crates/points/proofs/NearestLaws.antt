-- The laws of round and round_ties_even, which differ only at ties.
use mathlib.Core.Logic.{⊎_elim}
use Rattle.meaning.specs.Fraction.{Fraction, ◌≼◌, ◌≺◌, ◌≈◌, ◌⊕◌, negated, whole, half, Whole, Even}
use Rattle.meaning.specs.Points.{Floor, Nearest, Round, RoundTiesEven}
use Rattle.meaning.proofs.FractionLaws.{le_trans, lt_le, le_or_lt, lt_not_le, eq_le, eq_ge, eq_sym, eq_trans, antisymm, add_right, neg_lt}
use Rattle.points.specs.Functions.{Monotone, Total}
use Rattle.points.proofs.SumLaws.{add_eq_right, le_mirror, eq_mirror, lt_half, two_halves, half_less, half_cancel, half_below, below_le}
use Rattle.points.proofs.WholeLaws.{apart, is_whole_lem, even_whole, whole_same, even_same, whole_negated, even_negated, not_both_even, even_or_below}
use Rattle.points.proofs.FloorLaws.{floor_total}

nearest_mirror : {x r : Fraction} → Nearest x r → Nearest (negated x) (negated r)
nearest_mirror n = record {
  is_whole = whole_negated n.is_whole;
  not_far_below = le_mirror half n.not_far_above;
  not_far_above = le_mirror half n.not_far_below;
}

nearest_same : {x r s : Fraction} → Nearest x r → r ≈ s → Nearest x s
nearest_same n e = record {
  is_whole = whole_same n.is_whole e;
  not_far_below = le_trans n.not_far_below (add_right half (eq_le e));
  not_far_above = le_trans (eq_ge e) n.not_far_above;
}

nearest_whole : {x : Fraction} → Whole x → Nearest x x
nearest_whole {x} w = record { is_whole = w; not_far_below = lt_le (lt_half x); not_far_above = lt_le (lt_half x) }

no_tie : {A : Type 0} {x y : Fraction} → x ≺ y → x ≈ y → A
no_tie h e = absurd (lt_not_le h (eq_ge e))

-- Whole numbers nearest to x ≤ y stand in order, unless x and y are one tie and its two numbers are taken crosswise.
nearest_rises : {x y r s : Fraction} → Nearest x r → Nearest y s → x ≼ y
    → (r ≈ x ⊕ half → y ≈ s ⊕ half → r ≈ s ⊕ whole 1 → ⊥) → r ≼ s
nearest_rises {x} {y} {r} {s} n m h crossed = ⊎_elim far (apart n.is_whole m.is_whole) (le_or_lt (s ⊕ whole 1) r)
  where
    down : y ⊕ half ≼ s ⊕ whole 1
    down = le_trans (add_right half m.not_far_below) (eq_le (two_halves s))

    up : r ≼ y ⊕ half
    up = le_trans n.not_far_above (add_right half h)

    far : s ⊕ whole 1 ≼ r → r ≼ s
    far k =
        absurd
        (crossed (antisymm n.not_far_above (le_trans (add_right half h) (le_trans down k)))
        (antisymm m.not_far_below (half_cancel s y (le_trans k up)))
        (antisymm (le_trans up down) k))

pub round_monotone : Monotone Round
round_monotone = record {
  rises = λ n m h. nearest_rises n.nearest m.nearest h (λ up down next. lt_not_le (n.tie_up up) (le_trans h (lt_le (m.tie_down down))));
}

pub ties_even_monotone : Monotone RoundTiesEven
ties_even_monotone = record {
  rises = λ n m h. nearest_rises n.nearest m.nearest h (λ up down next. not_both_even (n.tie_up up) (m.tie_down down) next);
}

pub round_mirror : {x r : Fraction} → Round x r → Round (negated x) (negated r)
round_mirror n = record {
  nearest = nearest_mirror n.nearest;
  tie_down = λ e. neg_lt (n.tie_up (eq_mirror half e));
  tie_up = λ e. neg_lt (n.tie_down (eq_mirror half e));
}

pub ties_even_mirror : {x r : Fraction} → RoundTiesEven x r → RoundTiesEven (negated x) (negated r)
ties_even_mirror n = record {
  nearest = nearest_mirror n.nearest;
  tie_down = λ e. even_negated (n.tie_up (eq_mirror half e));
  tie_up = λ e. even_negated (n.tie_down (eq_mirror half e));
}

pub round_same : {x r s : Fraction} → Round x r → r ≈ s → Round x s
round_same n e = record {
  nearest = nearest_same n.nearest e;
  tie_down = λ d. n.tie_down (eq_trans d (add_eq_right half (eq_sym e)));
  tie_up = λ u. n.tie_up (eq_trans e u);
}

pub ties_even_same : {x r s : Fraction} → RoundTiesEven x r → r ≈ s → RoundTiesEven x s
ties_even_same n e = record {
  nearest = nearest_same n.nearest e;
  tie_down = λ d. even_same (n.tie_down (eq_trans d (add_eq_right half (eq_sym e)))) e;
  tie_up = λ u. even_same (n.tie_up (eq_trans e u)) e;
}

pub round_whole : {x : Fraction} → Whole x → Round x x
round_whole {x} w = record {
  nearest = nearest_whole w;
  tie_down = no_tie (lt_half x);
  tie_up = no_tie (lt_half x);
}

pub ties_even_whole : {x : Fraction} → Whole x → RoundTiesEven x x
ties_even_whole {x} w = record {
  nearest = nearest_whole w;
  tie_down = no_tie (lt_half x);
  tie_up = no_tie (lt_half x);
}

-- The floor of x + 1/2 is nearest to x, and no tie goes down to it.
module _ {x r : Fraction} (f : Floor (x ⊕ half) r) where
  floor_above : x ≺ r ⊕ half
  floor_above = half_less x r f.near

  floor_nearest : Nearest x r
  floor_nearest = record { is_whole = f.is_whole; not_far_below = lt_le floor_above; not_far_above = f.not_above }

round_above : (x : Fraction) → whole 0 ≺ x → (r : Fraction) × Round x r
round_above x h = let (r, f) = floor_total (x ⊕ half) in (
  r,
  record {
    nearest = floor_nearest f;
    tie_down = no_tie (floor_above f);
    tie_up = λ e. h;
  },
)

pub round_total : Total Round
round_total x = ⊎_elim below (round_above x) (le_or_lt x (whole 0))
  where
    below : x ≼ whole 0 → (r : Fraction) × Round x r
    below h =
        ⊎_elim
        (λ k. (x, round_whole (is_whole_lem 0 0 (antisymm h k))))
        (λ k. let (r, n) = round_above (negated x) (neg_lt k) in (negated r, round_mirror n))
        (le_or_lt (whole 0) x)

-- Where the floor r of x + 1/2 is odd, a tie goes to r - 1 and anything else to r.
module _ {x r : Fraction} (f : Floor (x ⊕ half) r) where
  to_even : Even r → RoundTiesEven x r
  to_even v = record { nearest = floor_nearest f; tie_down = λ e. v; tie_up = λ e. v }

  to_below : Even (r ⊕ negated (whole 1)) → x ⊕ half ≼ r → RoundTiesEven x (r ⊕ negated (whole 1))
  to_below v tie = record {
    nearest = record {
      is_whole = even_whole v;
      not_far_below = half_below x r tie;
      not_far_above = le_trans (below_le r) f.not_above;
    };
    tie_down = λ e. v;
    tie_up = λ e. v;
  }

  to_nearest : r ≺ x ⊕ half → RoundTiesEven x r
  to_nearest less = record {
    nearest = floor_nearest f;
    tie_down = no_tie (floor_above f);
    tie_up = no_tie less;
  }

pub ties_even_total : Total RoundTiesEven
ties_even_total x =
    let (r, f) = floor_total (x ⊕ half) in
    ⊎_elim (λ v. (r, to_even f v))
    (λ v. ⊎_elim (λ tie. (r ⊕ negated (whole 1), to_below f v tie)) (λ less. (r, to_nearest f less)) (le_or_lt (x ⊕ half) r))
    (even_or_below f.is_whole)
