-- What each function makes of a number x between the whole numbers l and u.
use mathlib.Core.Logic.{⊎_elim}
use Prim.Native.Nat.{ℕ, ◌+◌}
use native.Mathlib.Nat.{mul-pos, mul-lt-mul_of_pos_right}
use native.Mathlib.Omega.{arith}
use Rattle.meaning.specs.Fraction.{Fraction, ◌≼◌, ◌≺◌, ◌≈◌, ◌⊕◌, whole, half, Whole, Even}
use Rattle.meaning.specs.Points.{floor, Floor, Ceil, Nearest, Round, RoundTiesEven, Trunc}
use Rattle.meaning.proofs.FractionLaws.{le_trans, lt_le, le_lt_trans, lt_le_trans, lt_not_le, eq_le, eq_ge, eq_sym, eq_trans, antisymm, add_right}
use Rattle.points.proofs.SumLaws.{add_eq_right, lt_half, half_lt_one, two_halves, sub_is}
use Rattle.points.proofs.WholeLaws.{apart, is_whole_lem, whole_same, even_same, even_or_below}
use Rattle.points.proofs.ZeroLaws.{trunc_total, trunc_same}
use Rattle.points.proofs.PointLaws.{single₁}
use Rattle.wholes.specs.Enclosure.{Straddles}

add_lt : (y : Fraction) {x z : Fraction} → x ≺ z → x ⊕ y ≺ z ⊕ y
unfolding ◌⊕◌
add_lt y h = record { lt = omega (arith, mul-lt-mul_of_pos_right h.lt (mul-pos y.positive y.positive)) }

successor : (n : ℕ) → whole (n + 1) ≈ whole n ⊕ whole 1
unfolding ◌⊕◌
successor n = record { eq = omega arith }

not_negative : (n : ℕ) → whole 0 ≼ whole n
not_negative n = record { le = omega arith }

-- Where a number that is not negative has its floor, it has its trunc.
pub floor_trunc : {x r : Fraction} → whole 0 ≼ x → Floor x r → Trunc x r
floor_trunc {x} {r} h f = let (s, t) = trunc_total x in trunc_same t (single₁ floor x s r (t.of_positive h) f)

-- A whole number has no fractional part one half.
pub whole_no_half : {x : Fraction} → Whole x → Whole (x ⊕ half) → ⊥
whole_no_half {x} w v = lt_not_le (lt_half x) (apart v w (half_lt_one x))

module _ {l u x : Fraction} (s : Straddles l u x) where
  low_whole : Whole l
  low_whole = is_whole_lem s.number 0 s.lower

  high_whole : Whole u
  high_whole = is_whole_lem (s.number + 1) 0 s.upper

  next : u ≈ l ⊕ whole 1
  next = eq_trans s.upper (eq_trans (successor s.number) (add_eq_right (whole 1) (eq_sym s.lower)))

  next_halves : u ≈ l ⊕ half ⊕ half
  next_halves = eq_trans next (eq_sym (two_halves l))

  next_below : u ≺ x ⊕ whole 1
  next_below = le_lt_trans (eq_le next) (add_lt (whole 1) s.above)

  pub positive : whole 0 ≺ x
  positive = le_lt_trans (not_negative s.number) (le_lt_trans (eq_ge s.lower) s.above)

  pub low_floor : Floor x l
  low_floor = record { is_whole = low_whole; not_above = lt_le s.above; near = lt_le_trans s.below (eq_le next) }

  pub high_ceil : Ceil x u
  high_ceil = record { is_whole = high_whole; not_below = lt_le s.below; near = next_below }

  no_tie_up : l ≈ x ⊕ half → ⊥
  no_tie_up e = lt_not_le s.above (le_trans (lt_le (lt_half x)) (eq_ge e))

  no_tie_down : x ≈ u ⊕ half → ⊥
  no_tie_down e = lt_not_le s.below (le_trans (lt_le (lt_half u)) (eq_ge e))

  low_nearest : x ≼ l ⊕ half → Nearest x l
  low_nearest h = record { is_whole = low_whole; not_far_below = h; not_far_above = lt_le (le_lt_trans (lt_le s.above) (lt_half x)) }

  high_nearest : l ⊕ half ≼ x → Nearest x u
  high_nearest h = record {
    is_whole = high_whole;
    not_far_below = lt_le (le_lt_trans (lt_le s.below) (lt_half u));
    not_far_above = le_trans (eq_le next_halves) (add_right half h);
  }

  pub low_round : x ≺ l ⊕ half → Round x l
  low_round h = record {
    nearest = low_nearest (lt_le h);
    tie_down = λ e. absurd (lt_not_le h (eq_ge e));
    tie_up = λ e. absurd (no_tie_up e);
  }

  pub high_round : l ⊕ half ≼ x → Round x u
  high_round h = record { nearest = high_nearest h; tie_down = λ e. absurd (no_tie_down e); tie_up = λ e. positive }

  pub low_nearer : x ≺ l ⊕ half → RoundTiesEven x l
  low_nearer h = record {
    nearest = low_nearest (lt_le h);
    tie_down = λ e. absurd (lt_not_le h (eq_ge e));
    tie_up = λ e. absurd (no_tie_up e);
  }

  pub high_nearer : l ⊕ half ≺ x → RoundTiesEven x u
  high_nearer h = record {
    nearest = high_nearest (lt_le h);
    tie_down = λ e. absurd (no_tie_down e);
    tie_up = λ e. absurd (lt_not_le (add_lt half h) (le_trans (eq_ge e) (eq_le next_halves)));
  }

  pub low_even : x ≈ l ⊕ half → Even l → RoundTiesEven x l
  low_even h v = record { nearest = low_nearest (eq_le h); tie_down = λ e. v; tie_up = λ e. v }

  pub high_even : x ≈ l ⊕ half → (Even l → ⊥) → RoundTiesEven x u
  high_even h odd = record { nearest = high_nearest (eq_ge h); tie_down = λ e. even; tie_up = λ e. even }
    where
      even : Even u
      even = ⊎_elim (λ v. v) (λ v. absurd (odd (even_same v (eq_sym (sub_is u (whole 1) (eq_sym next)))))) (even_or_below high_whole)

  -- In the middle between l and u, and there alone, one half more is a whole number.
  pub middle_half : x ≈ l ⊕ half → Whole (x ⊕ half)
  middle_half h = whole_same high_whole (eq_trans next_halves (add_eq_right half (eq_sym h)))

  half_next : Whole (x ⊕ half) → x ⊕ half ≈ u
  half_next w =
      antisymm (apart w high_whole (le_lt_trans (add_right half (lt_le s.below)) (half_lt_one u)))
      (apart high_whole w (lt_le_trans next_below (add_right (whole 1) (lt_le (lt_half x)))))

  pub low_no_half : x ≺ l ⊕ half → Whole (x ⊕ half) → ⊥
  low_no_half h w = lt_not_le (add_lt half h) (le_trans (eq_ge next_halves) (eq_ge (half_next w)))

  pub high_no_half : l ⊕ half ≺ x → Whole (x ⊕ half) → ⊥
  high_no_half h w = lt_not_le (add_lt half h) (le_trans (eq_le (half_next w)) (eq_le next_halves))
