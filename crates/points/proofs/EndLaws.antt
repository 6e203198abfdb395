-- The greater and the lesser of two upper ends.
use Rattle.meaning.specs.Fraction.{Fraction, ◌≼◌}
use Rattle.meaning.specs.Sets.{End, at, unbounded, Under, under, under_none, Over, over}
use Rattle.meaning.proofs.FractionLaws.{le_refl, le_trans}
use Rattle.points.specs.Ends.{◌⊑◌, numbers, none_above, Greater, greater_first, greater_second, Lesser, lesser_first, lesser_second}

pub under_number : {x q : Fraction} → Under x (at q) → x ≼ q
under_number (under h) = h

pub over_number : {x q : Fraction} → Over x (at q) → q ≼ x
over_number (over h) = h

end_refl : (u : End) → u ⊑ u
end_refl (at q) = numbers (le_refl q)
end_refl unbounded = none_above

pub under_raise : {x : Fraction} {u v : End} → u ⊑ v → Under x u → Under x v
under_raise (numbers h) (under k) = under (le_trans k h)
under_raise none_above k = under_none

pub greater_first_lem : {u v w : End} → Greater u v w → u ⊑ w
greater_first_lem {u = u} (greater_first h) = end_refl u
greater_first_lem (greater_second h) = h

pub greater_second_lem : {u v w : End} → Greater u v w → v ⊑ w
greater_second_lem (greater_first h) = h
greater_second_lem {v = v} (greater_second h) = end_refl v

-- What holds of both ends holds of the greater.
pub greater_is : (P : End → Type 0) {u v w : End} → Greater u v w → P u → P v → P w
greater_is P (greater_first h) p q = p
greater_is P (greater_second h) p q = q

pub lesser_first_lem : {u v w : End} → Lesser u v w → w ⊑ u
lesser_first_lem {u = u} (lesser_first h) = end_refl u
lesser_first_lem (lesser_second h) = h

pub lesser_second_lem : {u v w : End} → Lesser u v w → w ⊑ v
lesser_second_lem (lesser_first h) = h
lesser_second_lem {v = v} (lesser_second h) = end_refl v

-- What holds of both ends holds of the lesser.
pub lesser_is : (P : End → Type 0) {u v w : End} → Lesser u v w → P u → P v → P w
lesser_is P (lesser_first h) p q = p
lesser_is P (lesser_second h) p q = q
