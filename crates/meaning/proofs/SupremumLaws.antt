-- True upper bounds: what is at most an end, and that results have one true bound.
use Rattle.meaning.specs.Fraction.{Fraction, ◌≼◌}
use Rattle.meaning.specs.Sets.{End, at, unbounded, SameEnd, same_number, same_none}
use Rattle.meaning.specs.Supremum.{AtMost, at_most, Supremum}
use Rattle.meaning.proofs.FractionLaws.{le_refl, le_trans, eq_ge, eq_sym, antisymm}

pub at_most_lem : {q w : Fraction} → AtMost w (at q) → q ≼ w
at_most_lem (at_most h) = h

pub never_most : {w : Fraction} → AtMost w unbounded → ⊥
never_most h = elim h [ ]

pub raise : {v w : Fraction} {u : End} → v ≼ w → AtMost v u → AtMost w u
raise k (at_most l) = at_most (le_trans l k)

-- The same end is a true bound of the same sets.
pub same_most : {w : Fraction} {u v : End} → SameEnd u v → AtMost w u → AtMost w v
same_most (same_number e) (at_most h) = at_most (le_trans (eq_ge e) h)
same_most same_none h = h

pub same_sym : {u v : End} → SameEnd u v → SameEnd v u
same_sym (same_number e) = same_number (eq_sym e)
same_sym same_none = same_none

pub sup_same : {R : Fraction → Type 0} {u v : End} → SameEnd u v → Supremum R u → Supremum R v
sup_same e s = record { bounds = λ w h. s.bounds w (same_most (same_sym e) h); least = λ w h. same_most e (s.least w h) }

-- Ends that the same fractions are not below are the same.
pub same_by : {u v : End} → ((w : Fraction) → AtMost w u → AtMost w v) → ((w : Fraction) → AtMost w v → AtMost w u) → SameEnd u v
same_by {u = at p} {v = at q} h k = same_number (antisymm (at_most_lem (k q (at_most (le_refl q)))) (at_most_lem (h p (at_most (le_refl p)))))
same_by {u = at p} {v = unbounded} h k = absurd (never_most (h p (at_most (le_refl p))))
same_by {u = unbounded} {v = at q} h k = absurd (never_most (k q (at_most (le_refl q))))
same_by {u = unbounded} {v = unbounded} h k = same_none

-- Two true bounds of the same results are the same end.
pub supremum_once : {R : Fraction → Type 0} {u v : End} → Supremum R u → Supremum R v → SameEnd u v
supremum_once h k = same_by (λ w m. k.least w (h.bounds w m)) (λ w m. h.least w (k.bounds w m))
