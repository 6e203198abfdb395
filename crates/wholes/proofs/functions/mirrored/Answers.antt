-- `functions::mirrored` meets its contract: ceil and floor are each other's mirror, and the others their own.
use mathlib.Core.Path.{◌≡◌}
use mathlib.Core.Logic.{◌⊎◌, inl, inr}
use Rattle.points.specs.Functions.{Mirrors, ceil_floor, floor_ceil, round_round, even_even, sign_sign, trunc_trunc}
use Rattle.wholes.specs.Made.{operation}
use Rattle.wholes.specs.declared.functions.Function.{Function}
use Rattle.wholes.proofs.functions.mirrored.Goals as goal

own_mirror : {f : Function}
    → (f ≡ Function.Round) ⊎ ((f ≡ Function.RoundTiesEven) ⊎ ((f ≡ Function.Sign) ⊎ (f ≡ Function.Trunc)))
    → Mirrors (operation f) (operation f)
own_mirror (inl e) = rw e round_round
own_mirror (inr (inl e)) = rw e even_even
own_mirror (inr (inr (inl e))) = rw e sign_sign
own_mirror (inr (inr (inr e))) = rw e trunc_trunc

pub returns-in-Ceil : goal.returns-in-Ceil
returns-in-Ceil c = rw c.in-Ceil.is ceil_floor

pub returns-in-Floor : goal.returns-in-Floor
returns-in-Floor c = rw c.in-Floor.is floor_ceil

pub returns-in-Round : goal.returns-in-Round
returns-in-Round c = own_mirror c.in-Round.is
