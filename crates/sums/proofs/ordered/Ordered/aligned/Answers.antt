-- `sums::ordered::Ordered::aligned` meets its contract: of two patterns the greater one has no smaller exponent.
use mathlib.Core.Path.{◌≡◌, sym, ap₂, subst₂, ◌∙◌}
use mathlib.Core.Bool.{Bool}
use mathlib.Core.Logic.{⊎_elim}
use Prim.Native.Nat.{ℕ, max, ◌-◌, ◌*◌, ◌^◌, ◌<◌, ◌≤◌}
use native.Mathlib.Omega.{arith}
use Rattle.patterns.specs.Format.{binary64, infinity, sign_bit}
use Rattle.patterns.specs.Value.{value, magnitude}
use Rattle.packing.specs.Magnitude.{Unpacks}
use Rattle.sums.specs.Alignment.{Aligns, Alignable, exponent_of}
use Rattle.sums.proofs.ordered.Ordered.aligned.Goals as goal

alignable : {x y m e m' e' : ℕ} → y ≤ x → x < infinity binary64 → Unpacks 52 x m e → Unpacks 52 y m' e' → Alignable m e m' e'
unfolding infinity
alignable {e = e} {e' = e'} ordered finite u u' = record {
  ordered = ⊎_elim (λ none. omega arith) (λ full. omega (arith, u.pattern, u.short, u'.pattern)) u'.fine;
  near = omega (arith, u.pattern);
  short = u.short;
  short' = u'.short;
  fine = u.fine;
}

worth : {x y m e m' e' high low exponent : ℕ} {exact : Bool} → Unpacks 52 x m e → Unpacks 52 y m' e'
    → Aligns (m * 2 ^ e) (m' * 2 ^ e') high low exponent exact → Aligns (value 52 x) (value 52 y) high low exponent exact
worth {high = high} {low = low} {exponent = exponent} {exact = exact} u u' =
    subst₂ (λ (n m : ℕ). Aligns n m high low exponent exact) (sym u.worth) (sym u'.worth)

-- Of 2047 fields the first two have the exponent 0.
exponent : {x m e : ℕ} → Unpacks 52 x m e → e ≡ exponent_of x
exponent u = ⊎_elim (λ none. omega (arith, u.pattern, u.short)) (λ full. omega (arith, u.pattern, u.short)) u.fine

pub align-requires : goal.align-requires
unfolding magnitude sign_bit
align-requires c = alignable c.args.self.ordered c.args.self.finite.finite c.unpack.ensures c.unpack-2.ensures

pub returns-clause-exponent : goal.returns-clause-exponent
unfolding magnitude sign_bit
returns-clause-exponent c = c.align.ensures.exponent ∙ ap₂ (λ (e' e : ℕ). max e' (e - 10)) (exponent c.unpack-2.ensures) (exponent c.unpack.ensures)

pub returns-clause-aligns : goal.returns-clause-aligns
unfolding magnitude sign_bit
returns-clause-aligns c = worth c.unpack.ensures c.unpack-2.ensures c.align.ensures.aligns
