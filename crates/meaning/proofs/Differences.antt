-- Integers as differences of natural numbers: their order, and their negatives, sums and products.
use mathlib.Core.Path.{◌≡◌, refl, ap}
use mathlib.Core.Logic.{◌↔◌}
use mathlib.Core.Bool.{Bool, true, false, cond}
use Prim.Native.Nat.{ℕ, zero, suc, ◌+◌, ◌*◌, ◌-◌, ◌<◌, ◌≤◌}
use native.Mathlib.Omega.{arith}
use borrow.Author.Tests.{ltb-true, ltb-false}
use lib.Dec.{ltb, leb→le, le→leb, ltb→lt, lt→ltb}
use lib.IntN.{ℤ, pos, negsuc, neg_ℤ, sub_ℕ, ◌+ℤ◌, ◌*ℤ◌}
use lib.Signed.{◌≤ℤ◌, ◌<ℤ◌}

-- An integer is its part above zero less its part below.
abbrev pub above : ℤ → ℕ
above (pos n) = n
above (negsuc n) = 0

abbrev pub below : ℤ → ℕ
below (pos n) = 0
below (negsuc n) = suc n

-- The integer z is a - b.
pub record Difference (z : ℤ) (a b : ℕ) : Type 0 where
  pub is : a + below z ≡ b + above z

pub of_self : (z : ℤ) → Difference z (above z) (below z)
of_self z = record { is = omega arith }

-- Equal differences are one integer.
pub other : {z : ℤ} {a b c d : ℕ} → Difference z a b → a + d ≡ c + b → Difference z c d
other h e = record { is = omega arith }

-- The order of integers, and their negatives, sums and products, by their parts.
one_integer : (z w : ℤ) → above z + below w ≡ above w + below z → z ≡ w
one_integer (pos m) (pos n) h = ap pos (omega arith)
one_integer (pos m) (negsuc n) h = absurd (omega arith)
one_integer (negsuc m) (pos n) h = absurd (omega arith)
one_integer (negsuc m) (negsuc n) h = ap negsuc (omega arith)

le_parts : (z w : ℤ) → (z ≤ℤ w) ↔ (above z + below w ≤ above w + below z)
le_parts (pos m) (pos n) = (λ h. omega (arith, leb→le m n h.le), λ h. record { le = le→leb m n (omega arith) })
le_parts (pos m) (negsuc n) = (λ h. absurd h.le, λ h. absurd (omega arith))
le_parts (negsuc m) (pos n) = (λ h. omega arith, λ h. record { le = tt })
le_parts (negsuc m) (negsuc n) = (λ h. omega (arith, leb→le n m h.le), λ h. record { le = le→leb n m (omega arith) })

lt_parts : (z w : ℤ) → (z <ℤ w) ↔ (above z + below w < above w + below z)
lt_parts (pos m) (pos n) = (λ h. omega (arith, ltb→lt m n h.lt), λ h. record { lt = lt→ltb m n (omega arith) })
lt_parts (pos m) (negsuc n) = (λ h. absurd h.lt, λ h. absurd (omega arith))
lt_parts (negsuc m) (pos n) = (λ h. omega arith, λ h. record { lt = tt })
lt_parts (negsuc m) (negsuc n) = (λ h. omega (arith, ltb→lt n m h.lt), λ h. record { lt = lt→ltb n m (omega arith) })

sub_parts : (a b : ℕ) → Difference (sub_ℕ a b) a b
sub_parts a b = go (ltb a b) refl
  where
    go : (t : Bool) → ltb a b ≡ t → Difference (cond t (negsuc (b - suc a)) (pos (a - b))) a b
    go true h = record { is = omega (arith, ltb-true a b h) }
    go false h = record { is = omega (arith, ltb-false a b h) }

neg_parts : (z : ℤ) → Difference (neg_ℤ z) (below z) (above z)
neg_parts (pos zero) = record { is = refl }
neg_parts (pos (suc n)) = record { is = omega arith }
neg_parts (negsuc n) = record { is = omega arith }

add_parts : (z w : ℤ) → Difference (z +ℤ w) (above z + above w) (below z + below w)
add_parts (pos m) (pos n) = record { is = omega arith }
add_parts (pos m) (negsuc n) = other (sub_parts m (suc n)) (omega arith)
add_parts (negsuc m) (pos n) = other (sub_parts n (suc m)) (omega arith)
add_parts (negsuc m) (negsuc n) = record { is = omega arith }

mul_parts : (z w : ℤ) → Difference (z *ℤ w) (above z * above w + below z * below w) (above z * below w + below z * above w)
mul_parts (pos m) (pos n) = record { is = omega arith }
mul_parts (pos m) (negsuc n) = other (neg_parts (pos (m * suc n))) (omega arith)
mul_parts (negsuc m) (pos n) = other (neg_parts (pos (suc m * n))) (omega arith)
mul_parts (negsuc m) (negsuc n) = record { is = omega arith }

pub of_neg : (z : ℤ) {a b : ℕ} → Difference z a b → Difference (neg_ℤ z) b a
of_neg z h = other (neg_parts z) (omega arith)

pub of_add : (z w : ℤ) {a b c d : ℕ} → Difference z a b → Difference w c d → Difference (z +ℤ w) (a + c) (b + d)
of_add z w h k = other (add_parts z w) (omega arith)

pub of_mul : (z w : ℤ) {a b c d : ℕ} → Difference z a b → Difference w c d → Difference (z *ℤ w) (a * c + b * d) (a * d + b * c)
of_mul z w {a} {b} {c} {d} h k =
    other (mul_parts z w)
    (omega (
      arith,
      ap (λ (t : ℕ). t * c) h.is,
      ap (λ (t : ℕ). t * d) h.is,
      ap (λ (t : ℕ). above z * t) k.is,
      ap (λ (t : ℕ). below z * t) k.is,
    ))

-- Differences compare as integers do, crosswise.
module _ {z w : ℤ} {a b c d : ℕ} (h : Difference z a b) (k : Difference w c d) where
  pub le_difference : (z ≤ℤ w) ↔ (a + d ≤ c + b)
  le_difference = (λ p. omega (arith, (le_parts z w).0 p), λ p. (le_parts z w).1 (omega arith))

  pub lt_difference : (z <ℤ w) ↔ (a + d < c + b)
  lt_difference = (λ p. omega (arith, (lt_parts z w).0 p), λ p. (lt_parts z w).1 (omega arith))

  pub eq_difference : (z ≡ w) ↔ (a + d ≡ c + b)
  eq_difference = (λ p. omega (arith, ap above p, ap below p), λ p. one_integer z w (omega arith))
