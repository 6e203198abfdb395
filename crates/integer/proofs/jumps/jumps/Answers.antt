-- `jumps::jumps` meets its contract: each function has its test, and of two ends the lower one is asked first.
use mathlib.Core.Bool.{Bool}
use mathlib.Core.Path.{◌≡◌}
use mathlib.Core.Logic.{◌⊎◌, inl, inr}
use native.Mathlib.Omega.{arith}
use Rattle.patterns.specs.Format.{binary64, infinity}
use Rattle.patterns.proofs.SignLaws.{finite_positive}
use Rattle.meaning.specs.Sets.{Set}
use Rattle.meaning.specs.Decorations.{HalfEnd, DacTest}
use Rattle.truth.specs.Answers.{Answers}
use Rattle.truth.proofs.AnswerLaws.{said_no, yes_so, answers_iff, or_else}
use Rattle.wholes.specs.Made.{operation}
use Rattle.wholes.specs.declared.functions.Function.{Function}
use Rattle.integer.specs.Jumping.{lowers}
use Rattle.integer.proofs.JumpLaws.{answers_lowers, answers_uppers, half_some, some_half, answers_zero}
use Rattle.integer.proofs.jumps.jumps.Goals as goal

by_name : (X Z : Set) {f g : Function} {t : Bool} → f ≡ g → Answers (DacTest (operation g) X Z) t → Answers (DacTest (operation f) X Z) t
by_name X Z e a = rw e a

half_named : (X Z : Set) {f : Function} {t : Bool} → (f ≡ Function.Round) ⊎ (f ≡ Function.RoundTiesEven) → Answers (HalfEnd X) t
    → Answers (DacTest (operation f) X Z) t
half_named X Z (inl e) a = by_name X Z e a
half_named X Z (inr e) a = by_name X Z e a

pub same_end-requires-in-Sign : goal.same_end-requires-in-Sign
unfolding infinity
same_end-requires-in-Sign c = lowers c.requires.0.lower_end (inl (finite_positive binary64 (omega arith)))

pub returns-in-Ceil : goal.returns-in-Ceil
returns-in-Ceil c =
    let (h, k) = c.requires in
    by_name _ _ c.in-Ceil.is (answers_uppers binary64 h k c.same_end.ensures)

pub returns-in-Floor : goal.returns-in-Floor
returns-in-Floor c =
    let (h, k) = c.requires in
    by_name _ _ c.in-Floor.is (answers_lowers binary64 h k c.same_end-in-Floor.ensures)

pub returns-then-half_at : goal.returns-then-half_at
returns-then-half_at c =
    half_named _ _ c.in-Round.is
    (yes_so (λ h. half_some binary64 c.requires.0 (inl h)) c.half_at.ensures c.if-half_at.true)

pub returns-else-half_at : goal.returns-else-half_at
returns-else-half_at c =
    let (h, k) = c.requires in
    half_named _ _ c.in-Round.is
    (answers_iff (half_some binary64 h) (some_half binary64 h)
    (or_else (said_no c.half_at.ensures c.if-half_at.false) c.half_at-else-half_at.ensures))

pub returns-in-Sign : goal.returns-in-Sign
unfolding infinity
returns-in-Sign c =
    by_name _ _ c.in-Sign.is (answers_zero binary64 c.requires.0 (omega arith) c.same_end-in-Sign.ensures)

pub returns-then-same_end : goal.returns-then-same_end
returns-then-same_end c =
    let (h, k) = c.requires in
    by_name _ _ c.in-Trunc.is (yes_so inl (answers_lowers binary64 h k c.same_end-in-Trunc.ensures) c.if-same_end.true)

pub returns-else-same_end : goal.returns-else-same_end
returns-else-same_end c =
    let (h, k) = c.requires in
    by_name _ _ c.in-Trunc.is
    (or_else (said_no (answers_lowers binary64 h k c.same_end-in-Trunc.ensures) c.if-same_end.false)
    (answers_uppers binary64 h k c.same_end-else-same_end.ensures))
