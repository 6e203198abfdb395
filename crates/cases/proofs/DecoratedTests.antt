-- A test of decorated arithmetic on bounded operands, where the operation keeps the operands' decorations.
use mathlib.Core.Bool.{Bool, true, false}
use mathlib.Core.Path.{refl, ap}
use mathlib.Core.Logic.{inl, ⊎_elim}
use native.Mathlib.Omega.{arith}
use lib.Dec.{T, eqb, ltb, eqb→eq, ltb→lt}
use Rattle.patterns.specs.Format.{Format}
use Rattle.meaning.specs.Results.{point}
use Rattle.meaning.specs.Pairs.{both, set_of, NaNs}
use Rattle.meaning.specs.Decorations.{Com, decoration_byte, lower_of, settled, Allows₂}
use Rattle.meaning.specs.Sets.{Set}
use Rattle.meaning.specs.Statement.{DecPair, given, Agrees, Decorated₂, right₂, decorated_good, right_interval}
use Rattle.meaning.proofs.PairLaws.{split}
use Rattle.meaning.proofs.KindLaws.{proper_not_empty, bare_not_nans}
use Rattle.uniqueness.proofs.DecorationOrder.{byte_injective}
use Rattle.theorem3.specs.Answer.{Arithmetic, adding, subtracting, multiplying, dividing, binary}
use Rattle.cases.proofs.Tests.{proper_test, proper_tested}
use Rattle.cases.proofs.RowTests.{bounded_test, bounded_tested, arithmetic_test, arithmetic_hull}

abbrev sound_test : Format → DecPair → Bool
sound_test F x = both (proper_test F x.pair) (both (bounded_test F x.pair) (ltb 0 (decoration_byte x.decoration)))

sound_tested : (F : Format) (x : DecPair) → T (sound_test F x) → Agrees F x × (NaNs F x.pair → ⊥)
sound_tested F x t =
    let a = split (proper_test F x.pair) (both (bounded_test F x.pair) (ltb 0 (decoration_byte x.decoration))) t in
    let b = split (bounded_test F x.pair) (ltb 0 (decoration_byte x.decoration)) a.1 in
    let h = proper_tested F x.pair a.0 in (
      record {
        not_ill = λ p e. let l = ltb→lt 0 (decoration_byte x.decoration) b.1 in omega (arith, ap decoration_byte e);
        bounded = λ p e. bounded_tested F x.pair b.0;
        empty_trv = λ k. absurd (proper_not_empty F h k);
        nans_ill = λ k. absurd (bare_not_nans F (inl h) k);
      },
      bare_not_nans F (inl h),
    )

-- The operations that allow any decoration.
abbrev keeps_test : Arithmetic → Bool
keeps_test adding = true
keeps_test subtracting = true
keeps_test multiplying = true
keeps_test dividing = false

keeps_tested : (op : Arithmetic) (X Y : Set) → T (keeps_test op) → Allows₂ (point (binary op)) X Y Com
keeps_tested adding X Y t = refl
keeps_tested subtracting X Y t = refl
keeps_tested multiplying X Y t = refl
keeps_tested dividing X Y t = absurd t

abbrev decoration_test : Format → (x y z : DecPair) → Bool
decoration_test F x y z = eqb (decoration_byte z.decoration) (decoration_byte (settled (set_of F z.pair) (lower_of Com (lower_of x.decoration y.decoration))))

abbrev pub decorated_test : Format → Arithmetic → (x y z : DecPair) → Bool
decorated_test F op x y z =
    both (sound_test F x)
    (both (sound_test F y) (both (keeps_test op) (both (arithmetic_test F op x.pair y.pair z.pair) (decoration_test F x y z))))

pub decorated_tested : (F : Format) (op : Arithmetic) (x y z : DecPair) → T (decorated_test F op x y z) → Decorated₂ F (point (binary op)) x y (given z)
decorated_tested F op x y z t =
    let fourth = arithmetic_test F op x.pair y.pair z.pair in
    let a = split (sound_test F x) (both (sound_test F y) (both (keeps_test op) (both fourth (decoration_test F x y z)))) t in
    let b = split (sound_test F y) (both (keeps_test op) (both fourth (decoration_test F x y z))) a.1 in
    let c = split (keeps_test op) (both fourth (decoration_test F x y z)) b.1 in
    let d = split fourth (decoration_test F x y z) c.1 in
    let h = arithmetic_hull F op x.pair y.pair z.pair d.0 in
    let k = sound_tested F x a.0 in
    let l = sound_tested F y b.0 in
    right₂ (decorated_good (inl h.0) k.0) (decorated_good (inl h.1) l.0)
    (right_interval (⊎_elim k.1 l.1) h.2
    (record {
      allowed = Com;
      allows = keeps_tested op (set_of F x.pair) (set_of F y.pair) c.0;
      is = byte_injective z.decoration (settled (set_of F z.pair) (lower_of Com (lower_of x.decoration y.decoration))) (eqb→eq _ _ d.1);
    }))
