-- The hull of a rising function's results, from what the function makes of the ends.
use mathlib.Core.Path.{◌≡◌, sym, ◌∙◌, ap, subst, subst₂, subst⁻¹}
use mathlib.Core.Logic.{inl, inr}
use Prim.Native.Nat.{ℕ, ◌+◌, ◌-◌, ◌*◌, ◌^◌, ◌≤◌}
use native.Mathlib.Omega.{arith}
use Rattle.patterns.specs.Format.{Format, infinity}
use Rattle.patterns.specs.Value.{Finite, opposite}
use Rattle.patterns.proofs.SignLaws.{infinity_below, finite_positive}
use Rattle.meaning.specs.Sets.{End, Set}
use Rattle.meaning.specs.Points.{Unary, sign}
use Rattle.meaning.specs.Results.{Result₁}
use Rattle.meaning.specs.Pairs.{Pair, worth, Proper, end_of, set_of}
use Rattle.meaning.specs.Statement.{HullOf}
use Rattle.meaning.specs.Supremum.{UpperEnd}
use Rattle.meaning.proofs.FractionLaws.{eq_refl}
use Rattle.meaning.proofs.PairLaws.{end_finite, end_infinity, end_opposite, proper_ordered, set_proper}
use Rattle.meaning.proofs.PatternHull.{pair_by}
use Rattle.points.specs.Functions.{Mirrors, Keeps}
use Rattle.points.specs.Ends.{EndMakes, of_number, of_none, sign_of_none}
use Rattle.points.proofs.Images.{rising_bounds}
use Rattle.points.proofs.Exactly.{exact_number, exact_infinity}
use Rattle.points.proofs.Answers.{answer}
use Rattle.end_pairs.proofs.TestLaws.{lower_pattern}
use Rattle.wholes.specs.Made.{Made}
use Rattle.wholes.proofs.SplitLaws.{one_finite, one_worth}
use Rattle.integer.specs.Rising.{Upper, UpperMade}

module _ (F : Format) where
  from_end : {op : Unary} {b r : ℕ} {e u : End} → end_of F b ≡ e → EndMakes op e u → UpperEnd F u r → UpperMade F op b r
  from_end {op} {u = u} is m h = record { end = u; makes = subst⁻¹ (λ (e : End). EndMakes op e u) is m; rounded = h }

  -- At an end that is a number.
  pub made_number : {op : Unary} {b r : ℕ} → Finite F b → Made F op b r → UpperMade F op b r
  made_number {r = r} f m =
      from_end (end_finite F f) (of_number m.makes) (exact_number F m.number.finite m.number.not_minus_zero (eq_refl (worth F r)))

  -- At no end: a function that keeps whole numbers has no end either, and a sign is at most 1.
  pub made_none : {op : Unary} → Keeps op → UpperMade F op (infinity F) (infinity F)
  made_none k = from_end (end_infinity F) (of_none k) (exact_infinity F)

  pub made_sign : F.frac + 1 ≤ F.point → UpperMade F sign (infinity F) ((F.point - F.frac + 1) * 2 ^ F.frac)
  made_sign fine =
      from_end (end_infinity F) sign_of_none
      (exact_number F (finite_positive F (one_finite F)) (λ e. omega (arith, one_finite F, infinity_below F)) (one_worth F fine))

  pub upper_number_lem : {b : ℕ} → Upper F b → (b ≡ infinity F → ⊥) → Finite F b
  upper_number_lem (inl f) n = f
  upper_number_lem (inr e) n = absurd (n e)

  -- The lower end is the upper end of the mirrored function's results of the opposite end.
  pub image_hull : {op other : Unary} {p z : Pair} {a lo hi : ℕ} → Mirrors op other → Proper F p → a ≡ opposite F p.lower
      → UpperMade F other a lo → UpperMade F op p.upper hi → z ≡ pair_by F lo hi → HullOf F (Result₁ op (set_of F p)) z
  image_hull {op} {other} {p} {lo = lo} {hi} k h opposed down up is =
      subst₂ (λ (X : Set) (z : Pair). HullOf F (Result₁ op X) z) (sym (set_proper F p h)) (sym is)
      (answer F _
      (rising_bounds k (proper_ordered F p h) up.makes
      (subst (λ (e : End). EndMakes other e down.end) (ap (end_of F) opposed ∙ end_opposite F (lower_pattern F h.lower_end)) down.makes))
      up.rounded down.rounded)
