-- "with no division by zero".
use Rattle.meaning.specs.Fraction.{Fraction, whole}
use Rattle.meaning.specs.Points.{Quotient}
use Rattle.meaning.proofs.FractionLaws.{eq_refl}

-- Nothing is a quotient by zero.
pub no_quotient_by_zero : (x r : Fraction) → Quotient x (whole 0) r → ⊥
no_quotient_by_zero x r h = h.not_zero (eq_refl (whole 0))
