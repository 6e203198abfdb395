-- `packing::bracket::Approx::cut` meets its contract: digits that are shifted back make the significand again exactly if none was dropped.
-- A shift by a word's width drops them all.
use mathlib.Core.Bool.{Bool, true, false}
use mathlib.Core.Logic.{◌↔◌}
use mathlib.Core.Path.{◌≡◌, refl, sym, ◌∙◌, ap}
use Prim.Native.Nat.{ℕ, ◌*◌, ◌/◌, ◌%◌, ◌^◌, ◌<◌, ◌≤◌}
use native.Mathlib.Nat.{div-eq_of_lt, div-mul-le_self, lt_of_le_of_lt, lt_of_lt_of_le, mod-eq_of_lt}
use native.Mathlib.Omega.{arith}
use borrow.Author.Rules.{rules}
use borrow.Author.Tests.{eq-eqb, eqb-true, ltb-false}
use lib.Dec.{eqb, ltb}
use lib.Pow.{pow_mono}
use Rattle.std.specs.Prelude.{if◌then◌else◌}
use Rattle.packing.proofs.CutLaws.{cut_brackets}
use Rattle.packing.proofs.bracket.Approx.cut.Goals as goal

module _ (m s : ℕ) (short : m < 2 ^ 64) where
  nothing_left : 64 ≤ s → m / 2 ^ s ≡ 0
  nothing_left wide = div-eq_of_lt (lt_of_lt_of_le short (pow_mono wide))

  -- A shift to the right, and the one back.
  kept : (t : Bool) → ltb s 64 ≡ t → (if t then m / 2 ^ s else 0) ≡ m / 2 ^ s
  kept true near = refl
  kept false far = sym (nothing_left (ltb-false s 64 far))

  back : (t : Bool) → ltb s 64 ≡ t → (if t then (m / 2 ^ s * 2 ^ s) % 2 ^ 64 else 0) ≡ m / 2 ^ s * 2 ^ s
  back true near = mod-eq_of_lt (lt_of_le_of_lt (div-mul-le_self m (2 ^ s)) short)
  back false far = sym (ap (λ (q : ℕ). q * 2 ^ s) (nothing_left (ltb-false s 64 far)) ∙ omega arith)

  same : (b : ℕ) → b ≡ m / 2 ^ s * 2 ^ s → (eqb b m ≡ true) ↔ (m / 2 ^ s * 2 ^ s ≡ m)
  same b is = (λ test. sym is ∙ eqb-true b m test, λ whole. eq-eqb b m (is ∙ whole))

pub returns : goal.returns
returns c =
    let a = c.args.self in
    let s = c.args.shift in
    let short : a.significand < 2 ^ 64 = search rules in
    let right : c.unbounded_shr-kept.result ≡ a.significand / 2 ^ s = c.unbounded_shr-kept.ensures ∙ kept a.significand s short (ltb s 64) refl in
    let left : c.unbounded_shl.result ≡ a.significand / 2 ^ s * 2 ^ s =
    c.unbounded_shl.ensures ∙ ap (λ (q : ℕ). if ltb s 64 then (q * 2 ^ s) % 2 ^ 64 else 0) right ∙ back a.significand s short (ltb s 64) refl in
    record {
      cuts = (right, refl);
      brackets = rw right (cut_brackets a.significand a.exponent s a.exact _ (same a.significand s short _ left));
    }
