-- What patterns are worth: the one equation that packs a significand and an exponent, and the order of values.
use mathlib.Core.Path.{◌≡◌, refl, sym, ◌∙◌, ap, subst, subst₂}
use mathlib.Core.Logic.{◌⊎◌, inl, inr, ⊎_elim}
use Prim.Native.Nat.{ℕ, zero, suc, ◌+◌, ◌*◌, ◌-◌, ◌/◌, ◌%◌, ◌^◌, ◌<◌, ◌≤◌}
use native.Mathlib.Omega.{arith}
use native.Mathlib.Decide.{dec_le}
use native.Mathlib.Nat.{eq-or-lt_of_le, le_antisymm, le_dest, le_of_eq, le_of_lt, lt_irrefl, lt_of_lt_of_le, lt_of_not-le, lt_trans, mod-lt, mul-lt-mul_of_pos_right, two-pow-succ}
use native.Mathlib.Numerals.{add-one}
use lib.Pow.{pow_pos, split, high, low}
use Rattle.patterns.specs.Value.{value, scaled}

pub le_or_lt : (a b : ℕ) → (a ≤ b) ⊎ (b < a)
le_or_lt a b = elim (dec_le a b) [ yes p ↦ inl p | no n ↦ inr (lt_of_not-le n) ]

pub pow_next : (h : ℕ) → 2 ^ (h + 1) ≡ 2 ^ h + 2 ^ h
pow_next h = ap (λ (j : ℕ). 2 ^ j) (add-one h) ∙ two-pow-succ h

-- The two fields of a pattern that is put together from them.
fields : (h e f : ℕ) → f < 2 ^ h → value h (e * 2 ^ h + f) ≡ scaled h e f
unfolding value
fields h e f small = rw (high e h small, low e h small)

subnormal : (h q : ℕ) → q < 2 ^ h → value h (0 * 2 ^ h + q) ≡ q * 2 ^ 0
subnormal h q small = fields h 0 q small ∙ omega arith

normal : (h k f : ℕ) → f < 2 ^ h → value h (k * 2 ^ h + (2 ^ h + f)) ≡ (2 ^ h + f) * 2 ^ k
normal h k f small = ap (value h) (omega arith) ∙ fields h (suc k) f small

doubled : (h k : ℕ) → (2 ^ h + 0) * 2 ^ suc k ≡ 2 ^ (h + 1) * 2 ^ k
doubled h k =
    let up : 2 ^ suc k ≡ 2 ^ k + 2 ^ k = omega arith in
    rw (up, pow_next h) (omega arith)

carried : (h k : ℕ) → value h (k * 2 ^ h + 2 ^ (h + 1)) ≡ 2 ^ (h + 1) * 2 ^ k
carried h k = ap (value h) (omega (arith, pow_next h)) ∙ fields h (suc (suc k)) 0 (pow_pos h) ∙ doubled h k

-- A significand q of h + 1 bits at the exponent k is the pattern k * 2 ^ h + q.
-- It holds of subnormal numbers, of normal ones, and where q has carried into the next exponent.
pub packed : (h k q : ℕ) → (k ≡ 0) ⊎ (2 ^ h ≤ q) → q ≤ 2 ^ (h + 1) → value h (k * 2 ^ h + q) ≡ q * 2 ^ k
packed h k q fine short = ⊎_elim above below (le_or_lt (2 ^ h) q)
  where
    Packed : ℕ → ℕ → Type 0
    Packed k q = value h (k * 2 ^ h + q) ≡ q * 2 ^ k

    below : q < 2 ^ h → Packed k q
    below small = ⊎_elim (λ e. subst (λ (j : ℕ). Packed j q) (sym e) (subnormal h q small)) (λ wide. absurd (lt_irrefl q (lt_of_lt_of_le small wide))) fine

    above : 2 ^ h ≤ q → Packed k q
    above wide = ⊎_elim full part (eq-or-lt_of_le short)
      where
        full : q ≡ 2 ^ (h + 1) → Packed k q
        full e = subst (Packed k) (sym e) (carried h k)

        part : q < 2 ^ (h + 1) → Packed k q
        part less = subst (Packed k) (omega arith) (normal h k (q - 2 ^ h) (omega (arith, pow_next h)))

pub value_zero : (h : ℕ) → value h 0 ≡ 0
value_zero h = ap (value h) (omega arith) ∙ fields h 0 0 (pow_pos h)

-- Every pattern is a significand that is short of the next exponent, packed at an exponent.
pub record Unpacks (h b k q : ℕ) : Type 0 where
  pub pattern : b ≡ k * 2 ^ h + q
  pub fine : (k ≡ 0) ⊎ (2 ^ h ≤ q)
  pub short : q < 2 ^ (h + 1)

unpacks_fields : (h b e f : ℕ) → b ≡ e * 2 ^ h + f → f < 2 ^ h → (k q : ℕ) × Unpacks h b k q
unpacks_fields h b zero f e small = (0, f, record { pattern = e; fine = inl refl; short = omega (arith, pow_next h, pow_pos h) })
unpacks_fields h b (suc k) f e small =
    (k, 2 ^ h + f, record { pattern = omega arith; fine = inr (omega arith); short = omega (arith, pow_next h) })

pub unpacks : (h b : ℕ) → (k q : ℕ) × Unpacks h b k q
unpacks h b = unpacks_fields h b (b / 2 ^ h) (b % 2 ^ h) (sym (split b h)) (mod-lt b (pow_pos h))

pub value_unpacks : (h b k q : ℕ) → Unpacks h b k q → value h b ≡ q * 2 ^ k
value_unpacks h b k q u = ap (value h) u.pattern ∙ packed h k q u.fine (le_of_lt u.short)

value_next : (h b k q : ℕ) → Unpacks h b k q → value h b < value h (suc b)
value_next h b k q u =
    subst₂ ◌<◌ (sym (value_unpacks h b k q u)) (sym next) (mul-lt-mul_of_pos_right (omega arith) (pow_pos k))
  where
    fine_next : (k ≡ 0) ⊎ (2 ^ h ≤ q + 1)
    fine_next = ⊎_elim inl (λ wide. inr (omega arith)) u.fine

    next : value h (suc b) ≡ (q + 1) * 2 ^ k
    next = ap (value h) (omega arith) ∙ packed h k (q + 1) fine_next (omega arith)

value_later : (h a n : ℕ) → value h a < value h (suc a + n)
value_later h a zero = let (k, q, u) = unpacks h a in subst (λ (b : ℕ). value h a < value h b) (omega arith) (value_next h a k q u)
value_later h a (suc n) =
    let b : ℕ = suc a + n in
    let (k, q, u) = unpacks h b in
    subst (λ (b : ℕ). value h a < value h b) (omega arith) (lt_trans (value_later h a n) (value_next h b k q u))

pub value_strict : (h : ℕ) {a b : ℕ} → a < b → value h a < value h b
value_strict h {a} {b} less =
    let (n, e) = le_dest less in
    subst (λ (b : ℕ). value h a < value h b) e (value_later h a n)

pub value_mono : (h : ℕ) {a b : ℕ} → a ≤ b → value h a ≤ value h b
value_mono h le = ⊎_elim (λ e. le_of_eq (ap (value h) e)) (λ less. le_of_lt (value_strict h less)) (eq-or-lt_of_le le)

pub value_reflects : (h : ℕ) {a b : ℕ} → value h a ≤ value h b → a ≤ b
value_reflects h {a} {b} le =
    ⊎_elim (λ p. p) (λ less. absurd (lt_irrefl (value h b) (lt_of_lt_of_le (value_strict h less) le))) (le_or_lt a b)

pub value_injective : (h : ℕ) {a b : ℕ} → value h a ≡ value h b → a ≡ b
value_injective h e = le_antisymm (value_reflects h (le_of_eq e)) (value_reflects h (le_of_eq (sym e)))

pub value_positive : (h : ℕ) {b : ℕ} → 0 < b → 0 < value h b
value_positive h {b} less = subst (λ (v : ℕ). v < value h b) (value_zero h) (value_strict h less)
