-- `ends::end_of_none` meets its contract: a function that keeps whole numbers has no end, and a sign is at most 1.
use mathlib.Core.Path.{◌≡◌}
use mathlib.Core.Logic.{◌⊎◌, inl, inr}
use native.Mathlib.Omega.{arith}
use Rattle.patterns.specs.Format.{binary64, infinity}
use Rattle.points.specs.Functions.{Keeps, keeps_ceil, keeps_floor, keeps_round, keeps_even, keeps_trunc}
use Rattle.wholes.specs.Made.{operation}
use Rattle.wholes.specs.declared.functions.Function.{Function}
use Rattle.integer.proofs.RisingLaws.{made_none, made_sign}
use Rattle.integer.proofs.ends.end_of_none.Goals as goal

keeps : {f : Function}
    → (f ≡ Function.Ceil) ⊎ ((f ≡ Function.Floor) ⊎ ((f ≡ Function.Round) ⊎ ((f ≡ Function.RoundTiesEven) ⊎ (f ≡ Function.Trunc))))
    → Keeps (operation f)
keeps (inl e) = rw e keeps_ceil
keeps (inr (inl e)) = rw e keeps_floor
keeps (inr (inr (inl e))) = rw e keeps_round
keeps (inr (inr (inr (inl e)))) = rw e keeps_even
keeps (inr (inr (inr (inr e)))) = rw e keeps_trunc

pub returns-in-Sign : goal.returns-in-Sign
unfolding infinity
returns-in-Sign c = rw c.in-Sign.is (made_sign binary64 (omega arith))

pub returns-in-Ceil : goal.returns-in-Ceil
unfolding infinity
returns-in-Ceil c = made_none binary64 (keeps c.in-Ceil.is)
