-- From what a part answers by itself to what the whole answers with it: an interval that was made is decorated, and the interval
-- part of a decorated interval is asked in turn.
use mathlib.Core.Bool.{Bool, false}
use mathlib.Core.Path.{◌≡◌, ◌∙◌, sym, ap, subst, subst⁻¹}
use Prim.Native.Nat.{ℕ}
use Rattle.patterns.specs.Format.{Format, quiet_nan}
use Rattle.meaning.specs.Sets.{Set}
use Rattle.meaning.specs.Pairs.{Pair, Bare, Canonical, set_of}
use Rattle.meaning.specs.Decorations.{Decoration, settled}
use Rattle.meaning.specs.Statement.{Verdict, sound, Outcome, given, Answered₁, first₁, right₁, JudgedBare, bare_five, DecPair, JudgedDecorated}
use Rattle.meaning.specs.Bytes.{Tidied}
use Rattle.truth.specs.Answers.{Answers, denied}
use Rattle.truth.proofs.AnswerLaws.{answers_iff}
use Rattle.meaning.proofs.SpellingLaws.{tidied_once}
use Rattle.end_pairs.specs.Zeros.{canonical_pair}
use Rattle.meaning.proofs.KindLaws.{only_bare}
use Rattle.end_pairs.proofs.ZeroLaws.{canonical_set, tidied, tidied_trans}
use Rattle.std.specs.Prelude.{Option, Some, None, Result, Ok}
use Rattle.refusals.specs.RefusalMeaning.{outcome_of}
use Rattle.refusals.specs.declared.Refusal as code
use Rattle.refusals.proofs.FoundLaws.{sound_bare}
use Rattle.interval.specs.IntervalMeaning.{pair_of}
use Rattle.interval.specs.Values.{LowerOf, UpperOf}
use Rattle.interval.specs.declared.types.Interval.{Interval}
use Rattle.dec_interval.specs.DecIntervalMeaning.{part_of}
use Rattle.dec_interval.specs.Values.{SetDec, set_nai, set_interval, part, no_part, PartOf, is_part, is_missing, DecEndOf, nan_end, part_end, OfPart}
use Rattle.decorations.proofs.AgreeLaws.{sound_ends}

-- What was worked out of x on the way is handed on as the pair y, which is a sound operand.
handed_on : (F : Format) {A B C : Type 0} {Judged : A → Verdict → Type 0} {Worked : A → C → Type 0} {Asked : Pair → B → Type 0}
    {Right : A → B → Type 0} {x : A} {w : C} {y : Pair} {o : Outcome B}
    → (Judged x sound → Worked x w → Canonical F y × ((z : B) → Asked y z → Right x z))
    → Answered₁ Judged Worked x (given w) → Answered₁ (JudgedBare F) Asked y o → Answered₁ Judged Right x o
handed_on F f (right₁ j w) (first₁ (bare_five n)) = absurd (n (f j w).0.bare)
handed_on F f (right₁ j w) (right₁ k r) = right₁ j ((f j w).1 _ r)

-- What an answer says of the tidied pair, it says of the pair.
tidied_set : (F : Format) {p q : Pair} → Bare F p → Tidied F p q → set_of F p ≡ set_of F q
tidied_set F {p} {q} b t = canonical_set F p b ∙ ap (set_of F) (tidied_once F p (canonical_pair F p) q (tidied F p b) t)

module _ (F : Format) {p q : Pair} (t : Tidied F p q) where
  lower_tidied : (r : ℕ) → LowerOf F q r → LowerOf F p r
  lower_tidied r l = record { tidied = l.tidied; is = tidied_trans F t l.is; lower = l.lower }

  upper_tidied : (r : ℕ) → UpperOf F q r → UpperOf F p r
  upper_tidied r u = record { tidied = u.tidied; is = tidied_trans F t u.is; upper = u.upper }

  set_dec_tidied : Bare F p → {d : Decoration} (z : DecPair) → SetDec F d q z → SetDec F d p z
  set_dec_tidied b z (set_nai e) = set_nai e
  set_dec_tidied b {d} z (set_interval n s e) =
      set_interval n (tidied_trans F t s) (e ∙ ap (λ (Z : Set). settled Z d) (sym (tidied_set F b t)))

-- An interval that was made is decorated.
module _ (F : Format) {x : Pair} {v : Result Interval code.Refusal} (a : Answered₁ (JudgedBare F) (Tidied F) x (outcome_of pair_of v)) where
  pub made_decorated : {d : Decoration} {y : Interval} {o : Outcome DecPair} → v ≡ Ok y
      → Answered₁ (JudgedBare F) (SetDec F d) (pair_of y) o → Answered₁ (JudgedBare F) (SetDec F d) x o
  made_decorated e =
      handed_on F (λ j t. (t.canonical, set_dec_tidied F t (sound_bare j)))
      (subst (λ (w : Result Interval code.Refusal). Answered₁ (JudgedBare F) (Tidied F) x (outcome_of pair_of w)) e a)

-- The interval part of a decorated interval is asked.
module _ (F : Format) {x : DecPair} {v : Result (Option Interval) code.Refusal} (a : Answered₁ (JudgedDecorated F) (PartOf F) x (outcome_of part_of v)) where
  found : {w : Result (Option Interval) code.Refusal} → v ≡ w → Answered₁ (JudgedDecorated F) (PartOf F) x (outcome_of part_of w)
  found e = subst (λ (w : Result (Option Interval) code.Refusal). Answered₁ (JudgedDecorated F) (PartOf F) x (outcome_of part_of w)) e a

  pub part_asked : (P : Set → Type 0) {y : Interval} {o : Outcome Bool} → v ≡ Ok (Some y)
      → Answered₁ (JudgedBare F) (λ p. Answers (P (set_of F p))) (pair_of y) o
      → Answered₁ (JudgedDecorated F) (λ x. Answers (OfPart F P x)) x o
  part_asked P {y} e = handed_on F asked (found e)
    where
      asked : JudgedDecorated F x sound → PartOf F x (part (pair_of y))
          → Canonical F (pair_of y) × ((t : Bool) → Answers (P (set_of F (pair_of y))) t → Answers (OfPart F P x) t)
      asked j (is_part n t) = (
        t.canonical,
        λ b. answers_iff (λ h. record { part = n; holds = subst⁻¹ P (tidied_set F (only_bare F (sound_ends j) n) t) h })
            (λ o. subst P (tidied_set F (only_bare F (sound_ends j) n) t) o.holds),
      )

  pub nai_asked : (P : Set → Type 0) → v ≡ Ok None → Answered₁ (JudgedDecorated F) (λ x. Answers (OfPart F P x)) x (given false)
  nai_asked P e = go (found e)
    where
      go : Answered₁ (JudgedDecorated F) (PartOf F) x (given no_part) → Answered₁ (JudgedDecorated F) (λ x. Answers (OfPart F P x)) x (given false)
      go (right₁ j (is_missing n)) = right₁ j (denied (λ o. o.part n))

  part_end_lem : (EndOf : Pair → ℕ → Type 0) → ((p q : Pair) → Tidied F p q → (r : ℕ) → EndOf q r → EndOf p r)
      → {y : Interval} {o : Outcome ℕ} → v ≡ Ok (Some y) → Answered₁ (JudgedBare F) EndOf (pair_of y) o
      → Answered₁ (JudgedDecorated F) (DecEndOf F EndOf) x o
  part_end_lem EndOf back {y} e = handed_on F asked (found e)
    where
      asked : JudgedDecorated F x sound → PartOf F x (part (pair_of y))
          → Canonical F (pair_of y) × ((r : ℕ) → EndOf (pair_of y) r → DecEndOf F EndOf x r)
      asked j (is_part n t) = (t.canonical, λ r l. part_end n (back x.pair (pair_of y) t r l))

  pub part_lower : {y : Interval} {o : Outcome ℕ} → v ≡ Ok (Some y) → Answered₁ (JudgedBare F) (LowerOf F) (pair_of y) o
      → Answered₁ (JudgedDecorated F) (DecEndOf F (LowerOf F)) x o
  part_lower = part_end_lem (LowerOf F) (λ p q. lower_tidied F)

  pub part_upper : {y : Interval} {o : Outcome ℕ} → v ≡ Ok (Some y) → Answered₁ (JudgedBare F) (UpperOf F) (pair_of y) o
      → Answered₁ (JudgedDecorated F) (DecEndOf F (UpperOf F)) x o
  part_upper = part_end_lem (UpperOf F) (λ p q. upper_tidied F)

  pub nai_end : {EndOf : Pair → ℕ → Type 0} → v ≡ Ok None → Answered₁ (JudgedDecorated F) (DecEndOf F EndOf) x (given (quiet_nan F))
  nai_end {EndOf} e = go (found e)
    where
      go : Answered₁ (JudgedDecorated F) (PartOf F) x (given no_part) → Answered₁ (JudgedDecorated F) (DecEndOf F EndOf) x (given (quiet_nan F))
      go (right₁ j (is_missing n)) = right₁ j (nan_end n)
