-- From sound decorated operands to the right decorated answer, for any operation.
use mathlib.Core.Bool.{Bool, true, false}
use mathlib.Core.Path.{◌≡◌, sym, ◌∙◌, ap, subst, subst⁻¹}
use mathlib.Core.Logic.{inl, inr}
use lib.Dec.{leb}
use Rattle.std.specs.Prelude.{Option, Some, None}
use Rattle.patterns.specs.Format.{Format}
use Rattle.meaning.specs.Fraction.{Fraction}
use Rattle.meaning.specs.Sets.{Set}
use Rattle.meaning.specs.Pairs.{Pair, Bare, NaNs, set_of}
use Rattle.meaning.specs.Decorations as meant
use Rattle.meaning.specs.Decorations.{Ill, Trv, decoration_byte, decoration_by, lower_of, settled}
use Rattle.meaning.specs.Statement.{sound, HullOf, DecPair, nai, JudgedDecorated, decorated_good, RightDecorated, right_nai, right_interval}
use Rattle.meaning.proofs.KindLaws.{only_bare}
use Rattle.decorations.specs.DecorationMeaning.{decoration_of}
use Rattle.decorations.specs.declared.types.Decoration.{Decoration}
use Rattle.decorations.proofs.AgreeLaws.{apart, sound_ends}
use Rattle.operation_steps.specs.Sorted.{AreIntervals, Sorted, sorted_nai, sorted_intervals, DecoratedBy}

module _ (F : Format) {x : DecPair} (j : JudgedDecorated F x sound) (n : NaNs F x.pair → ⊥) where
  -- A sound operand is NaI or an interval.
  pub sound_bare : Bare F x.pair
  sound_bare = only_bare F (sound_ends j) n

  pub sound_not_ill : x.decoration ≡ Ill → ⊥
  sound_not_ill e = go j sound_bare
    where
      go : JudgedDecorated F x sound → Bare F x.pair → ⊥
      go (decorated_good ends a) (inl h) = a.not_ill h e
      go (decorated_good ends a) (inr h) = apart Trv Ill tt (sym (a.empty_trv h) ∙ e)

pub lower_not_ill : (d e : meant.Decoration) → (d ≡ Ill → ⊥) → (e ≡ Ill → ⊥) → lower_of d e ≡ Ill → ⊥
lower_not_ill d e m n = go (leb (decoration_byte d) (decoration_byte e))
  where
    go : (t : Bool) → decoration_by t d e ≡ Ill → ⊥
    go true = m
    go false = n

module _ {IsNaI Bares : Type 0} {lowest : meant.Decoration} {t : Option Decoration} (s : Sorted IsNaI Bares lowest t) where
  pub nai_lem : t ≡ None → IsNaI
  nai_lem e = go (subst (Sorted IsNaI Bares lowest) e s)
    where
      go : Sorted IsNaI Bares lowest None → IsNaI
      go (sorted_nai n) = n

  pub intervals : {d : Decoration} → t ≡ Some d → AreIntervals IsNaI Bares lowest d
  intervals e = go (subst (Sorted IsNaI Bares lowest) e s)
    where
      go : {d : Decoration} → Sorted IsNaI Bares lowest (Some d) → AreIntervals IsNaI Bares lowest d
      go (sorted_intervals i) = i

  pub right_nai_lem : (F : Format) {R : Fraction → Type 0} {Allows : Set → meant.Decoration → Type 0} → t ≡ None
      → RightDecorated F IsNaI R Allows lowest (nai F)
  right_nai_lem F e = right_nai (nai_lem e)

  -- The bare answer with its decoration is the right answer for intervals.
  pub right_interval_lem : {F : Format} {R : Fraction → Type 0} {Allows : Set → meant.Decoration → Type 0} {d : Decoration} {z : Pair} {allowed : meant.Decoration} {r : DecPair}
      → t ≡ Some d → HullOf F R z → Allows (set_of F z) allowed → DecoratedBy F z allowed (decoration_of d) r
      → RightDecorated F IsNaI R Allows lowest r
  right_interval_lem {F} {R} {Allows} {d} {z} {allowed} {r} e h a by =
      right_interval (intervals e).not_nai (subst⁻¹ (HullOf F R) by.same h)
      (record {
        allowed = allowed;
        allows = subst⁻¹ (λ (p : Pair). Allows (set_of F p) allowed) by.same a;
        is = by.is ∙ ap (λ (p : Pair). settled (set_of F p) (lower_of allowed (decoration_of d))) (sym by.same)
            ∙ ap (λ (l : meant.Decoration). settled (set_of F r.pair) (lower_of allowed l)) (intervals e).is;
      })
