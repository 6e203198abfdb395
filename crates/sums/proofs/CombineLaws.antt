-- The difference of two aligned magnitudes, bracketed.
use mathlib.Core.Bool.{Bool, true, false, false≢true}
use mathlib.Core.Path.{◌≡◌, refl, sym, ◌∙◌, ap}
use Prim.Native.Nat.{ℕ, ◌+◌, ◌*◌, ◌-◌, ◌^◌, ◌<◌, ◌≤◌}
use native.Mathlib.Nat.{le_of_mul-le-mul_right, lt_of_mul-lt-mul_right, mul-one}
use native.Mathlib.Omega.{arith}
use lib.Arith.{lt_of_le-ne}
use lib.Dec.{lit<}
use lib.Pow.{pow_pos}
use Rattle.packing.specs.Bracket.{Brackets}
use Rattle.packing.specs.Magnitude.{Normalised}
use Rattle.packing.proofs.BracketLaws.{exact_brackets}
use Rattle.sums.specs.Alignment.{Aligns}

module _ {n m high low e : ℕ} {x : Bool} (a : Aligns n m high low e x) where
  module _ (ordered : m ≤ n) where
    pub low_le : low ≤ high
    low_le =
        let whole = a.whole in
        let under = a.cut.low in
        le_of_mul-le-mul_right {k = 2 ^ e} (omega arith) (pow_pos e)

    module _ (exact : x ≡ true) where
      gap : (high - low) * 2 ^ e ≡ n - m
      gap =
          let whole = a.whole in
          let is = a.cut.told.0 exact in
          let parts : (high - low + low) * 2 ^ e ≡ high * 2 ^ e = ap (λ (k : ℕ). k * 2 ^ e) (omega (arith, low_le)) in
          omega arith

      module _ {m' e' : ℕ} (normal : Normalised 52 (high - low) e m' e') where
        pub exact_difference : Brackets (n - m) 1 m' e' true
        exact_difference = exact_brackets (n - m) 1 m' e' (lit< tt) refl (mul-one (m' * 2 ^ e') ∙ normal.worth ∙ gap)

    module _ (cut : x ≡ false) where
      above : low * 2 ^ e < m
      above = lt_of_le-ne (let under = a.cut.low in omega arith) (λ is. false≢true (sym cut ∙ a.cut.told.1 (omega arith)))

      low_less : low < high
      low_less =
          let whole = a.whole in
          lt_of_mul-lt-mul_right (2 ^ e) (omega (arith, above))

      pub cut_difference : Brackets (n - m) 1 (high - low - 1) e false
      cut_difference =
          let whole = a.whole in
          let over = a.cut.high in
          let parts : (high - low - 1 + (low + 1)) * 2 ^ e ≡ high * 2 ^ e = ap (λ (k : ℕ). k * 2 ^ e) (omega (arith, low_less)) in
          record {
            low = omega arith;
            high = omega (arith, above);
            told = (λ never. absurd (false≢true never), λ is. absurd (omega arith));
          }
