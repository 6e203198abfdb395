-- Laws of counts.
use mathlib.Core.Path.{◌≡◌, refl, ap}
use mathlib.Core.List.{List}
use mathlib.Core.Logic.{⊎_elim}
use Prim.Native.Nat.{ℕ, suc, ◌+◌, ◌≤◌}
use native.Mathlib.Nat.{eq-or-lt_of_le, lt_of_lt_of_le}
use native.Mathlib.Numerals.{add-one}
use native.Mathlib.Omega.{arith}
use Rattle.patterns.proofs.ValueLaws.{le_or_lt}
use Rattle.rounding_runs.specs.Cases.{Counted, FirstWrong, none, more, same}

-- A count is the only one.
pub counted_unique : {P : ℕ → Type 0} {n k k' : ℕ} → Counted P n k → Counted P n k' → k ≡ k'
counted_unique none none = refl
counted_unique (more p c) (more p' c') = ap suc (counted_unique c c')
counted_unique (more p c) (same never c') = absurd (never p)
counted_unique (same never c) (more p c') = absurd (never p)
counted_unique (same never c) (same never' c') = counted_unique c c'

-- A first wrong case is the only one.
pub first_unique : {s : List ℕ} {k k' : ℕ} → FirstWrong s k → FirstWrong s k' → k ≡ k'
first_unique {s} {k} {k'} f f' =
    ⊎_elim
    (λ le. ⊎_elim (λ e. e) (λ less. absurd (f.here (lt_of_lt_of_le less f'.within) (f'.before k less))) (eq-or-lt_of_le le))
    (λ less. absurd (f'.here (lt_of_lt_of_le less f.within) (f.before k' less)))
    (le_or_lt k k')

-- No more are counted than there are.
pub counted_within : {P : ℕ → Type 0} {n k : ℕ} → Counted P n k → k ≤ n
counted_within none = omega arith
counted_within (more p c) = let le = counted_within c in omega arith
counted_within (same never c) = let le = counted_within c in omega arith

-- One number further.
pub counts : {P : ℕ → Type 0} {n k : ℕ} → P n → Counted P n k → Counted P (n + 1) (k + 1)
counts {P} {n} {k} p c = rw (add-one n, add-one k) (more p c)

pub passes : {P : ℕ → Type 0} {n k : ℕ} → (P n → ⊥) → Counted P n k → Counted P (n + 1) k
passes {P} {n} never c = rw (add-one n) (same never c)
