-- Truth values that answer a question: made by a test, and read by a branch.
use mathlib.Core.Bool.{Bool, true, false, not, ◌&&◌, ◌||◌}
use mathlib.Core.Logic.{◌⊎◌, inl, inr, ⊎_elim}
use mathlib.Core.Path.{◌≡◌, refl, sym, subst}
use Prim.Native.Nat.{ℕ, ◌<◌, ◌≤◌}
use borrow.Author.Tests.{ltb-true, ltb-false, leb-true, leb-false, eqb-true, eqb-false}
use lib.Dec.{ltb, leb, eqb, T}
use Rattle.truth.specs.Answers.{Answers, affirmed, denied}

by_test : {P : Type 0} (t : Bool) → (t ≡ true → P) → (t ≡ false → P → ⊥) → Answers P t
by_test true p n = affirmed (p refl)
by_test false p n = denied (n refl)

pub answers_le : {P : Type 0} (a b : ℕ) → (a ≤ b → P) → (b < a → P → ⊥) → Answers P (leb a b)
answers_le a b p n = by_test (leb a b) (λ e. p (leb-true a b e)) (λ e. n (leb-false a b e))

pub answers_lt : {P : Type 0} (a b : ℕ) → (a < b → P) → (b ≤ a → P → ⊥) → Answers P (ltb a b)
answers_lt a b p n = by_test (ltb a b) (λ e. p (ltb-true a b e)) (λ e. n (ltb-false a b e))

pub answers_eq : {P : Type 0} (a b : ℕ) → (a ≡ b → P) → ((a ≡ b → ⊥) → P → ⊥) → Answers P (eqb a b)
answers_eq a b p n = by_test (eqb a b) (λ e. p (eqb-true a b e)) (λ e. n (eqb-false a b e))

-- The same answer serves a question that comes to the same.
pub answers_iff : {P Q : Type 0} {t : Bool} → (P → Q) → (Q → P) → Answers P t → Answers Q t
answers_iff f g (affirmed p) = affirmed (f p)
answers_iff f g (denied n) = denied (λ q. n (g q))

pub said_yes : {P : Type 0} {t : Bool} → Answers P t → t ≡ true → P
said_yes (affirmed p) e = p
said_yes (denied n) e = absurd (subst T (sym e) tt)

pub said_no : {P : Type 0} {t : Bool} → Answers P t → t ≡ false → P → ⊥
said_no (affirmed p) e = absurd (subst T e tt)
said_no (denied n) e = n

-- The first part of an `or` that holds, and of an `and` that fails, settles the whole.
pub yes_so : {P Q : Type 0} {t : Bool} → (P → Q) → Answers P t → t ≡ true → Answers Q t
yes_so f (affirmed p) e = affirmed (f p)
yes_so f (denied n) e = absurd (subst T (sym e) tt)

pub no_so : {P Q : Type 0} {t : Bool} → (Q → P) → Answers P t → t ≡ false → Answers Q t
no_so f (affirmed p) e = absurd (subst T e tt)
no_so f (denied n) e = denied (λ q. n (f q))

-- The second part of an `or` whose first fails settles the whole.
pub or_else : {P Q : Type 0} {t : Bool} → (P → ⊥) → Answers Q t → Answers (P ⊎ Q) t
or_else n = answers_iff inr (⊎_elim (λ p. absurd (n p)) (λ q. q))

-- The second part of an `and` whose first holds settles the whole.
pub and_then : {P Q : Type 0} {t : Bool} → P → Answers Q t → Answers (P × Q) t
and_then p = answers_iff (λ q. (p, q)) (λ s. s.1)

-- The other truth value answers the denial.
pub answers_not : {P : Type 0} {t : Bool} → Answers P t → Answers (P → ⊥) (not t)
answers_not (affirmed p) = denied (λ n. n p)
answers_not (denied n) = affirmed n

-- A question has one answer.
pub answers_once : (P : Type 0) (b c : Bool) → Answers P b → Answers P c → b ≡ c
answers_once P b c (affirmed p) (affirmed q) = refl
answers_once P b c (affirmed p) (denied n) = absurd (n p)
answers_once P b c (denied n) (affirmed p) = absurd (n p)
answers_once P b c (denied n) (denied m) = refl

-- A truth value answers whether it is true, and two of them whether both questions, or either, are answered with yes.
pub answers_itself : (t : Bool) → Answers (t ≡ true) t
answers_itself true = affirmed refl
answers_itself false = denied (λ e. subst T (sym e) tt)

pub answers_and : {P Q : Type 0} {t u : Bool} → Answers P t → Answers Q u → Answers (P × Q) (t && u)
answers_and (affirmed p) (affirmed q) = affirmed (p, q)
answers_and (affirmed p) (denied n) = denied (λ h. n h.1)
answers_and (denied n) q = denied (λ h. n h.0)

pub answers_or : {P Q : Type 0} {t u : Bool} → Answers P t → Answers Q u → Answers (P ⊎ Q) (t || u)
answers_or (affirmed p) q = affirmed (inl p)
answers_or (denied n) (affirmed q) = affirmed (inr q)
answers_or (denied n) (denied m) = denied (⊎_elim n m)
