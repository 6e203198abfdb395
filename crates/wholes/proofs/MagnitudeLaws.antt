-- What each function makes of a magnitude, from its neighbours.
use mathlib.Core.Bool.{Bool, true, false, cond, ◌&&◌, ◌||◌}
use mathlib.Core.Path.{◌≡◌, subst⁻¹}
use Prim.Native.Nat.{ℕ, ◌<◌}
use Rattle.std.proofs.Common.{Option, Some, None, MatchOption, Ordering, Less, Equal, Greater}
use Rattle.std.specs.Ordering.{is_lt, is_eq}
use Rattle.patterns.specs.Format.{Format, infinity}
use Rattle.meaning.specs.Fraction.{◌⊕◌, half, Whole, Even}
use Rattle.meaning.specs.Points.{Unary, ceil, floor, round, round_ties_even, Makes₁}
use Rattle.meaning.specs.Pairs.{worth}
use Rattle.meaning.proofs.FractionLaws.{lt_le, eq_ge}
use Rattle.points.specs.Functions.{Keeps}
use Rattle.points.proofs.PointLaws.{whole_kept}
use Rattle.truth.specs.Answers.{Answers, affirmed, denied}
use Rattle.wholes.specs.Enclosure.{OnSide, Encloses, SplitOf}
use Rattle.wholes.specs.Made.{MadeMagnitude}
use Rattle.wholes.specs.declared.split.Neighbours.{Neighbours}
use Rattle.wholes.proofs.PickLaws.{low_floor, high_ceil, low_round, high_round, low_nearer, high_nearer, low_even, high_even, whole_no_half, middle_half, low_no_half, high_no_half}

-- A whole number is left as it is, and between two the choice P is made.
pub made : (F : Format) {op : Unary} {b r : ℕ} (P : Neighbours → Type 0) (o : Option Neighbours)
    → Keeps op → b < infinity F → SplitOf F b o → MatchOption o (r ≡ b) P
    → ((x : Neighbours) → Encloses F b x → P x → MadeMagnitude F op b r) → MadeMagnitude F op b r
made F {op} {b} P None k f w e choice = subst⁻¹ (MadeMagnitude F op b) e (record { finite = f; makes = whole_kept k (worth F b) w })
made F P (Some x) k f e p choice = choice x e p

module _ {F : Format} {b : ℕ} {x : Neighbours} (e : Encloses F b x) where
  made_low : {op : Unary} → Makes₁ op (worth F b) (worth F x.low) → MadeMagnitude F op b x.low
  made_low m = record { finite = e.low_finite; makes = m }

  made_high : {op : Unary} → Makes₁ op (worth F b) (worth F x.high) → MadeMagnitude F op b x.high
  made_high m = record { finite = e.high_finite; makes = m }

  round_side : (z : Ordering) → OnSide (worth F b) (worth F x.low) z → MadeMagnitude F round b (cond (is_lt z) x.low x.high)
  round_side Less h = made_low (low_round e.between h)
  round_side Equal h = made_high (high_round e.between (eq_ge h))
  round_side Greater h = made_high (high_round e.between (lt_le h))

  even_side : (z : Ordering) → OnSide (worth F b) (worth F x.low) z → MadeMagnitude F round_ties_even b (cond (is_lt z || (is_eq z && x.even)) x.low x.high)
  even_side Less h = made_low (low_nearer e.between h)
  even_side Equal h = tie x.even e.parity
    where
      tie : (t : Bool) → Answers (Even (worth F x.low)) t → MadeMagnitude F round_ties_even b (cond t x.low x.high)
      tie true (affirmed v) = made_low (low_even e.between h v)
      tie false (denied n) = made_high (high_even e.between h n)
  even_side Greater h = made_high (high_nearer e.between h)

  half_side : (z : Ordering) → OnSide (worth F b) (worth F x.low) z → Answers (Whole (worth F b ⊕ half)) (is_eq z)
  half_side Less h = denied (low_no_half e.between h)
  half_side Equal h = affirmed (middle_half e.between h)
  half_side Greater h = denied (high_no_half e.between h)

  -- What is chosen between two whole numbers.
  module _ {r : ℕ} where
    pub floor_made : r ≡ x.low → MadeMagnitude F floor b r
    floor_made c = subst⁻¹ (MadeMagnitude F floor b) c (made_low (low_floor e.between))

    pub ceil_made : r ≡ x.high → MadeMagnitude F ceil b r
    ceil_made c = subst⁻¹ (MadeMagnitude F ceil b) c (made_high (high_ceil e.between))

    pub round_made : r ≡ cond (is_lt x.side) x.low x.high → MadeMagnitude F round b r
    round_made c = subst⁻¹ (MadeMagnitude F round b) c (round_side x.side e.on_side)

    pub even_made : r ≡ cond (is_lt x.side || (is_eq x.side && x.even)) x.low x.high → MadeMagnitude F round_ties_even b r
    even_made c = subst⁻¹ (MadeMagnitude F round_ties_even b) c (even_side x.side e.on_side)

  half_between : {t : Bool} → t ≡ is_eq x.side → Answers (Whole (worth F b ⊕ half)) t
  half_between c = subst⁻¹ (Answers (Whole (worth F b ⊕ half))) c (half_side x.side e.on_side)

-- A whole number has no fractional part one half, and between two the side says it.
pub half_split : (F : Format) (b : ℕ) {t : Bool} (P : Neighbours → Type 0) (o : Option Neighbours)
    → SplitOf F b o → MatchOption o (t ≡ false) P
    → ((x : Neighbours) → P x → t ≡ is_eq x.side) → Answers (Whole (worth F b ⊕ half)) t
half_split F b P None w e side = subst⁻¹ (Answers (Whole (worth F b ⊕ half))) e (denied (whole_no_half w))
half_split F b P (Some x) e p side = half_between e (side x p)
