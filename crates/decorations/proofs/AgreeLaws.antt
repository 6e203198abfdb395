-- Which decorations go with which ends.
use mathlib.Core.Bool.{Bool, not}
use mathlib.Core.Path.{◌≡◌, refl, ap, subst, subst⁻¹}
use mathlib.Core.Logic.{inl, inr}
use Prim.Native.Nat.{ℕ}
use lib.Dec.{T, T_not, eqb, eqb_refl}
use Rattle.patterns.specs.Format.{Format}
use Rattle.patterns.specs.Value.{Finite}
use Rattle.meaning.specs.Pairs.{Pair, Proper, EmptyPair, Bare, NaNs}
use Rattle.meaning.specs.Decorations.{Decoration, Ill, Trv, Def, Dac, Com, decoration_byte}
use Rattle.meaning.specs.Statement.{sound, DecPair, Ends, Agrees, JudgedDecorated, decorated_good}
use Rattle.meaning.proofs.PairLaws.{infinity_not_finite}
use Rattle.truth.specs.Answers.{Answers}
use Rattle.truth.proofs.AnswerLaws.{answers_iff}
use Rattle.end_pairs.specs.Zeros.{canonical_pair}
use Rattle.meaning.proofs.KindLaws.{finite_not_nan, nans_lower, proper_not_empty, bare_not_nans}
use Rattle.end_pairs.proofs.ZeroLaws.{canonical_proper, canonical_empty, finite_lower, finite_upper}

-- Decorations with different bytes differ.
pub apart : (d e : Decoration) → T (not (eqb (decoration_byte d) (decoration_byte e))) → d ≡ e → ⊥
apart d e t q =
    T_not (eqb (decoration_byte d) (decoration_byte e)) t
    (subst (λ (n : ℕ). T (eqb (decoration_byte d) n)) (ap decoration_byte q) (eqb_refl (decoration_byte d)))

module _ (F : Format) {p : Pair} where
  -- "[a, b] with Trv, Def, Dac, or with Com if both ends are finite"
  pub agrees_proper : {d : Decoration} → Proper F p → (d ≡ Ill → ⊥) → (d ≡ Com → Finite F p.lower × Finite F p.upper)
      → Agrees F (record { pair = p; decoration = d })
  agrees_proper h n b =
      record {
        not_ill = λ g. n;
        bounded = λ g. b;
        empty_trv = λ e. absurd (proper_not_empty F h e);
        nans_ill = λ m. absurd (bare_not_nans F (inl h) m);
      }

  -- "EMPTY with Trv"
  pub agrees_empty : EmptyPair F p → Agrees F (record { pair = p; decoration = Trv })
  agrees_empty e =
      record {
        not_ill = λ h. absurd (proper_not_empty F h e);
        bounded = λ h. absurd (proper_not_empty F h e);
        empty_trv = λ g. refl;
        nans_ill = λ m. absurd (bare_not_nans F (inr e) m);
      }

  -- "NaI (Ill)"
  pub agrees_nans : NaNs F p → Agrees F (record { pair = p; decoration = Ill })
  agrees_nans n =
      record {
        not_ill = λ h. absurd (bare_not_nans F (inl h) n);
        bounded = λ h. absurd (bare_not_nans F (inl h) n);
        empty_trv = λ e. absurd (bare_not_nans F (inr e) n);
        nans_ill = λ m. refl;
      }

-- What each decoration asks of ends that are those of an interval or of NaI.
abbrev pub Asks : Format → Pair → Decoration → Type 0
Asks F p Ill = NaNs F p
Asks F p Trv = Bare F p
Asks F p Def = Proper F p
Asks F p Dac = Proper F p
Asks F p Com = Finite F p.lower × Finite F p.upper

module _ (F : Format) {p : Pair} where
  bounded_proper : Ends F p → Finite F p.lower × Finite F p.upper → Proper F p
  bounded_proper (inl (inl h)) f = h
  bounded_proper (inl (inr e)) f = absurd (infinity_not_finite F (subst (Finite F) e.lower_is f.0))
  bounded_proper (inr n) f = absurd (finite_not_nan F f.0 (nans_lower F n))

  allows : Ends F p → (d : Decoration) → Asks F p d → Agrees F (record { pair = p; decoration = d })
  allows ends Ill n = agrees_nans F n
  allows ends Trv (inl h) = agrees_proper F h (apart Trv Ill tt) (λ e. absurd (apart Trv Com tt e))
  allows ends Trv (inr e) = agrees_empty F e
  allows ends Def h = agrees_proper F h (apart Def Ill tt) (λ e. absurd (apart Def Com tt e))
  allows ends Dac h = agrees_proper F h (apart Dac Ill tt) (λ e. absurd (apart Dac Com tt e))
  allows ends Com f = agrees_proper F (bounded_proper ends f) (apart Com Ill tt) (λ e. f)

  only_proper : Ends F p → {d : Decoration} → (d ≡ Ill → ⊥) → (d ≡ Trv → ⊥) → Agrees F (record { pair = p; decoration = d }) → Proper F p
  only_proper (inl (inl h)) i t g = h
  only_proper (inl (inr e)) i t g = absurd (t (g.empty_trv e))
  only_proper (inr n) i t g = absurd (i (g.nans_ill n))

  asks : Ends F p → (d : Decoration) → Agrees F (record { pair = p; decoration = d }) → Asks F p d
  asks (inl (inl h)) Ill g = absurd (g.not_ill h refl)
  asks (inl (inr e)) Ill g = absurd (apart Ill Trv tt (g.empty_trv e))
  asks (inr n) Ill g = n
  asks (inl b) Trv g = b
  asks (inr n) Trv g = absurd (apart Trv Ill tt (g.nans_ill n))
  asks ends Def g = only_proper ends (apart Def Ill tt) (apart Def Trv tt) g
  asks ends Dac g = only_proper ends (apart Dac Ill tt) (apart Dac Trv tt) g
  asks ends Com g = g.bounded (only_proper ends (apart Com Ill tt) (apart Com Trv tt) g) refl

  pub answers_agree : Ends F p → {d : Decoration} {t : Bool} (e : Decoration) → d ≡ e → Answers (Asks F p e) t
      → Answers (Agrees F (record { pair = p; decoration = d })) t
  answers_agree ends {d} {t} e q a =
      subst⁻¹ (λ (d : Decoration). Answers (Agrees F (record { pair = p; decoration = d })) t) q
      (answers_iff (allows ends e) (asks ends e) a)

-- The decoration still goes with the interval once its zeros are as the bytes have them.
pub canonical_agrees : (F : Format) (x : DecPair) → Bare F x.pair → Agrees F x
    → Agrees F (record { pair = canonical_pair F x.pair; decoration = x.decoration })
canonical_agrees F x (inl h) g =
    agrees_proper F (canonical_proper F x.pair h) (g.not_ill h)
    (λ e. let f = g.bounded h e in (finite_lower F f.0, finite_upper F f.1))
canonical_agrees F x (inr h) g =
    subst⁻¹ (λ (d : Decoration). Agrees F (record { pair = canonical_pair F x.pair; decoration = d })) (g.empty_trv h)
    (agrees_empty F (canonical_empty F x.pair h))

-- What a sound decorated operand is.
pub sound_ends : {F : Format} {x : DecPair} → JudgedDecorated F x sound → Ends F x.pair
sound_ends (decorated_good e a) = e

pub sound_agrees : {F : Format} {x : DecPair} → JudgedDecorated F x sound → Agrees F x
sound_agrees (decorated_good e a) = a
