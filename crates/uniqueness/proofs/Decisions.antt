-- Whether a pair is valid, and whether a decoration agrees with it, is decidable.
use mathlib.Core.Path.{◌≡◌, sym, ◌∙◌, ap}
use mathlib.Core.Logic.Dec
use mathlib.Core.Logic.{◌⊎◌, inl, inr}
use mathlib.Core.List.{List}
use Prim.Native.Nat.{ℕ, ◌*◌}
use native.Mathlib.Decide.{map_dec, ℕ_discrete, dec_lt}
use lib.ListN.{get_or}
use Rattle.patterns.specs.Format.{Format, infinity, sign_bit, quiet_nan}
use Rattle.patterns.specs.Value.{Finite, magnitude}
use Rattle.meaning.specs.Fraction.{Fraction, ◌≼◌}
use Rattle.meaning.specs.Pairs.{Pair, worth, minus_infinity, Proper, EmptyPair, Bare, Canonical, NaNs}
use Rattle.meaning.specs.Decorations.{Decoration, Ill, Trv, Com, decoration_byte}
use Rattle.meaning.specs.Statement.{DecPair, Ends, Agrees}
use Rattle.meaning.specs.Bytes.{SaysDecoration, BytesEnds, canonical_ends, nan_ends}
use Rattle.meaning.proofs.FractionLaws.{le_or_lt, lt_not_le}
use Rattle.uniqueness.proofs.DecorationOrder.{decoration_of, decoration_byte_lem, byte_injective}

dec_or : {A B : Type 0} → Dec A → Dec B → Dec (A ⊎ B)
dec_or (yes a) b = yes (inl a)
dec_or (no a) (yes b) = yes (inr b)
dec_or (no a) (no b) = no (λ h. elim h [ inl k ↦ a k | inr k ↦ b k ])

dec_implies : {A B : Type 0} → Dec A → Dec B → Dec (A → B)
dec_implies (no a) b = yes (λ h. absurd (a h))
dec_implies (yes a) (yes b) = yes (λ h. b)
dec_implies (yes a) (no b) = no (λ h. b (h a))

pub dec_le : (x y : Fraction) → Dec (x ≼ y)
dec_le x y = elim (le_or_lt x y) [ inl h ↦ yes h | inr h ↦ no (lt_not_le h) ]

pub dec_finite : (F : Format) (b : ℕ) → Dec (Finite F b)
dec_finite F b =
    map_dec (λ h. record { pattern = h.0; finite = h.1 }) (λ h. (h.pattern, h.finite))
    (Dec.and (dec_lt b (2 * sign_bit F)) (dec_lt (magnitude F b) (infinity F)))

module _ (F : Format) (p : Pair) where
  pub dec_proper : Dec (Proper F p)
  dec_proper =
      let low = dec_finite F p.lower in
      let high = dec_finite F p.upper in
      let ends = Dec.and (dec_or low (ℕ_discrete p.lower (minus_infinity F))) (dec_or high (ℕ_discrete p.upper (infinity F))) in
      let ordered = dec_implies low (dec_implies high (dec_le (worth F p.lower) (worth F p.upper))) in
      map_dec (λ h. record { lower_end = h.0.0; upper_end = h.0.1; in_order = h.1 }) (λ h. ((h.lower_end, h.upper_end), h.in_order))
      (Dec.and ends ordered)

  pub dec_empty : Dec (EmptyPair F p)
  dec_empty =
      map_dec (λ h. record { lower_is = h.0; upper_is = h.1 }) (λ h. (h.lower_is, h.upper_is))
      (Dec.and (ℕ_discrete p.lower (infinity F)) (ℕ_discrete p.upper (minus_infinity F)))

  pub dec_bare : Dec (Bare F p)
  dec_bare = dec_or dec_proper dec_empty

  pub dec_nans : Dec (NaNs F p)
  dec_nans =
      map_dec (λ h. record { lower_is = h.0; upper_is = h.1 }) (λ h. (h.lower_is, h.upper_is))
      (Dec.and (ℕ_discrete p.lower (quiet_nan F)) (ℕ_discrete p.upper (quiet_nan F)))

  pub dec_ends : Dec (Ends F p)
  dec_ends = dec_or dec_bare dec_nans

  pub dec_canonical : Dec (Canonical F p)
  dec_canonical =
      map_dec (λ h. record { bare = h.0.0; lower_zero = h.0.1; upper_zero = h.1 }) (λ h. ((h.bare, h.lower_zero), h.upper_zero))
      (Dec.and (Dec.and dec_bare (Dec.not (ℕ_discrete p.lower 0))) (Dec.not (ℕ_discrete p.upper (sign_bit F))))

  pub dec_bytes_ends : Dec (BytesEnds F p)
  dec_bytes_ends =
      map_dec (λ h. elim h [ inl c ↦ canonical_ends c | inr n ↦ nan_ends n ])
      (λ h. elim h [ canonical_ends c ↦ inl c | nan_ends n ↦ inr n ])
      (dec_or dec_canonical dec_nans)

pub dec_decoration : (d e : Decoration) → Dec (d ≡ e)
dec_decoration d e = map_dec (byte_injective d e) (ap decoration_byte) (ℕ_discrete (decoration_byte d) (decoration_byte e))

pub dec_agrees : (F : Format) (x : DecPair) → Dec (Agrees F x)
dec_agrees F x =
    let p = x.pair in
    let is = dec_decoration x.decoration in
    let finite = Dec.and (dec_finite F p.lower) (dec_finite F p.upper) in
    let proper = Dec.and (dec_implies (dec_proper F p) (Dec.not (is Ill))) (dec_implies (dec_proper F p) (dec_implies (is Com) finite)) in
    let others = Dec.and (dec_implies (dec_empty F p) (is Trv)) (dec_implies (dec_nans F p) (is Ill)) in
    map_dec
    (λ h. record { not_ill = h.0.0; bounded = h.0.1; empty_trv = h.1.0; nans_ill = h.1.1 })
    (λ h. ((h.not_ill, h.bounded), (h.empty_trv, h.nans_ill)))
    (Dec.and proper others)

-- The seventeenth byte says a decoration, or none.
pub dec_says : (bs : List ℕ) → Dec ((d : Decoration) × SaysDecoration bs d)
dec_says bs =
    map_dec (λ h. (decoration_of (get_or bs 16 0), record { is = h })) said
    (ℕ_discrete (get_or bs 16 0) (decoration_byte (decoration_of (get_or bs 16 0))))
  where
    said : (d : Decoration) × SaysDecoration bs d → get_or bs 16 0 ≡ decoration_byte (decoration_of (get_or bs 16 0))
    said h = let e = h.1.is in e ∙ ap decoration_byte (sym (decoration_byte_lem h.0) ∙ ap decoration_of (sym e))
