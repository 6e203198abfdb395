-- Each point function has one result at each operand where it is defined, told up to equality of numbers.
use mathlib.Core.Path.{◌≡◌, refl}
use Rattle.meaning.specs.Fraction.{Fraction, ◌≈◌, ◌⊕◌, ◌⊗◌, negated, whole, Whole}
use Rattle.meaning.specs.Points.{Unary, neg, abs, ceil, floor, round, round_ties_even, sign, trunc, Binary, add, sub, mul, div, max, min, Makes₁, Makes₂}
use Rattle.meaning.proofs.FractionLaws.{le_refl, eq_refl, eq_sym, eq_trans, antisymm, mul_eq_right}
use Rattle.points.specs.Functions.{Monotone, Total, Mirrors, ceil_floor, floor_ceil, round_round, even_even, sign_sign, trunc_trunc, Keeps, keeps_ceil, keeps_floor, keeps_round, keeps_even, keeps_trunc}
use Rattle.points.proofs.SumLaws.{add_eq_right, sub_is, is_sub}
use Rattle.points.proofs.FloorLaws.{floor_ceil_lem, ceil_floor_lem, floor_monotone, ceil_monotone, floor_same, ceil_same, floor_whole, ceil_whole, floor_total, ceil_total}
use Rattle.points.proofs.NearestLaws.{round_monotone, ties_even_monotone, round_mirror, ties_even_mirror, round_same, ties_even_same, round_whole, ties_even_whole, round_total, ties_even_total}
use Rattle.points.proofs.ZeroLaws.{sign_mirror, sign_same, sign_total, sign_monotone, trunc_mirror, trunc_same, trunc_whole, trunc_total, trunc_monotone, abs_same, abs_total, abs_single}
use Rattle.points.proofs.BinaryLaws.{max_rises, min_rises, max_total, min_total, max_same, min_same, quotient_total, quotient_single}

-- A monotone operation, as its point function.
pub monotone : {op other : Unary} → Mirrors op other → Monotone (Makes₁ op)
monotone ceil_floor = ceil_monotone
monotone floor_ceil = floor_monotone
monotone round_round = round_monotone
monotone even_even = ties_even_monotone
monotone sign_sign = sign_monotone
monotone trunc_trunc = trunc_monotone

pub mirror_back : {op other : Unary} → Mirrors op other → Mirrors other op
mirror_back ceil_floor = floor_ceil
mirror_back floor_ceil = ceil_floor
mirror_back round_round = round_round
mirror_back even_even = even_even
mirror_back sign_sign = sign_sign
mirror_back trunc_trunc = trunc_trunc

-- The mirror operation makes -r from -x where the operation makes r from x.
pub mirror_makes : {op other : Unary} → Mirrors op other → (x r : Fraction) → Makes₁ op x r → Makes₁ other (negated x) (negated r)
mirror_makes ceil_floor x r m = ceil_floor_lem m
mirror_makes floor_ceil x r m = floor_ceil_lem m
mirror_makes round_round x r m = round_mirror m
mirror_makes even_even x r m = ties_even_mirror m
mirror_makes sign_sign x r m = sign_mirror m
mirror_makes trunc_trunc x r m = trunc_mirror m

pub whole_kept : {op : Unary} → Keeps op → (x : Fraction) → Whole x → Makes₁ op x x
whole_kept keeps_ceil x w = ceil_whole w
whole_kept keeps_floor x w = floor_whole w
whole_kept keeps_round x w = round_whole w
whole_kept keeps_even x w = ties_even_whole w
whole_kept keeps_trunc x w = trunc_whole w

pub total₁ : (op : Unary) → Total (Makes₁ op)
total₁ neg x = (negated x, eq_refl (negated x))
total₁ abs x = abs_total x
total₁ ceil x = ceil_total x
total₁ floor x = floor_total x
total₁ round x = round_total x
total₁ round_ties_even x = ties_even_total x
total₁ sign x = sign_total x
total₁ trunc x = trunc_total x

pub same₁ : (op : Unary) (x : Fraction) {r s : Fraction} → Makes₁ op x r → r ≈ s → Makes₁ op x s
same₁ neg x m e = eq_trans (eq_sym e) m
same₁ abs x m e = abs_same m e
same₁ ceil x m e = ceil_same m e
same₁ floor x m e = floor_same m e
same₁ round x m e = round_same m e
same₁ round_ties_even x m e = ties_even_same m e
same₁ sign x m e = sign_same m e
same₁ trunc x m e = trunc_same m e

rising_single : {M : Fraction → Fraction → Type 0} → Monotone M → (x r s : Fraction) → M x r → M x s → r ≈ s
rising_single h x r s m n = antisymm (h.rises m n (le_refl x)) (h.rises n m (le_refl x))

pub single₁ : (op : Unary) (x r s : Fraction) → Makes₁ op x r → Makes₁ op x s → r ≈ s
single₁ neg x r s m n = eq_trans m (eq_sym n)
single₁ abs x r s m n = abs_single m n
single₁ ceil x r s m n = rising_single ceil_monotone x r s m n
single₁ floor x r s m n = rising_single floor_monotone x r s m n
single₁ round x r s m n = rising_single round_monotone x r s m n
single₁ round_ties_even x r s m n = rising_single ties_even_monotone x r s m n
single₁ sign x r s m n = rising_single sign_monotone x r s m n
single₁ trunc x r s m n = rising_single trunc_monotone x r s m n

-- Only a quotient by 0 is not defined.
pub total₂ : (op : Binary) (x y : Fraction) → (op ≡ div → y ≈ whole 0 → ⊥) → (r : Fraction) × Makes₂ op x y r
total₂ add x y h = (x ⊕ y, eq_refl (x ⊕ y))
total₂ sub x y h = (x ⊕ negated y, is_sub x y (eq_refl (x ⊕ negated y)))
total₂ mul x y h = (x ⊗ y, eq_refl (x ⊗ y))
total₂ div x y h = quotient_total x y (h refl)
total₂ max x y h = max_total x y
total₂ min x y h = min_total x y

pub same₂ : (op : Binary) (x y : Fraction) {r s : Fraction} → Makes₂ op x y r → r ≈ s → Makes₂ op x y s
same₂ add x y m e = eq_trans (eq_sym e) m
same₂ sub x y m e = eq_trans (add_eq_right y (eq_sym e)) m
same₂ mul x y m e = eq_trans (eq_sym e) m
same₂ div x y m e = record { not_zero = m.not_zero; makes = eq_trans (mul_eq_right y (eq_sym e)) m.makes }
same₂ max x y m e = max_same m e
same₂ min x y m e = min_same m e

pub single₂ : (op : Binary) (x y r s : Fraction) → Makes₂ op x y r → Makes₂ op x y s → r ≈ s
single₂ add x y r s m n = eq_trans m (eq_sym n)
single₂ sub x y r s m n = eq_trans (sub_is x y m) (eq_sym (sub_is x y n))
single₂ mul x y r s m n = eq_trans m (eq_sym n)
single₂ div x y r s m n = quotient_single m n
single₂ max x y r s m n = antisymm (max_rises m n (le_refl x) (le_refl y)) (max_rises n m (le_refl x) (le_refl y))
single₂ min x y r s m n = antisymm (min_rises m n (le_refl x) (le_refl y)) (min_rises n m (le_refl x) (le_refl y))
