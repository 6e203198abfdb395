-- The bytes of a request's operands have one outcome for each operation.
use mathlib.Core.Path.{◌≡◌, subst}
use mathlib.Core.List.{List}
use Prim.Native.Nat.{ℕ}
use Rattle.truth.proofs.AnswerLaws.{answers_once}
use Rattle.patterns.specs.Format.{Format}
use Rattle.meaning.specs.Sets.{Valid}
use Rattle.meaning.specs.Pairs.{set_of}
use Rattle.meaning.specs.Results.{Result₁, Result₂}
use Rattle.meaning.specs.Statement.{sound, Outcome, DecPair}
use Rattle.meaning.specs.Comparisons.{Comparison, PairsCompare}
use Rattle.meaning.specs.Bytes.{big_endian, read_pair, JudgedBytes, bytes_good, ReadDecorated}
use Rattle.meaning.specs.Requests.{Asked, unary, binary, overlap, comparison, ComparisonOutcome, BareOutcome, Read₁, Read₂, DecoratedOutcome, Requested, first_operand, second_operand}
use Rattle.meaning.specs.Forms.{Form, bare_form, decorated_form}
use Rattle.meaning.specs.ExactRequests.{ExactOutcome}
use Rattle.meaning.proofs.PairLaws.{set_valid}
use Rattle.meaning.proofs.KindLaws.{bytes_ends}
use Rattle.meaning.proofs.ExactLaws.{exact_once}
use Rattle.meaning.proofs.Unique.{One, one_answer₁, one_answer₂, one_sound_answer, written_once, hull_once}
use Rattle.uniqueness.proofs.VerdictLaws.{judged_bytes_once, judged_dec_bytes_once, judged_in_once}
use Rattle.uniqueness.proofs.DecoratedLaws.{right_decorated_once}
use Rattle.uniqueness.proofs.DecorationLaws.{allows₁_unique, allows₂_unique}
use Rattle.uniqueness.proofs.OverlapLaws.{number_unique, decorated_number_unique}
use Rattle.uniqueness.proofs.ReadingLaws.{read_once, read_ends}
use Rattle.meaning.proofs.OperationNumbers.{asks_once}

module _ (F : Format) where
  -- A comparison, in either form.
  comparison_outcome_once : (c : Comparison) (f : Form) {first second : List ℕ} {o p : Outcome (List ℕ)}
      → ComparisonOutcome F f c first second o → ComparisonOutcome F f c first second p → o ≡ p
  comparison_outcome_once c f {first} {second} =
      one_answer₂ (λ x. judged_in_once F big_endian x f)
      (written_once (answers_once (PairsCompare F c (read_pair big_endian first) (read_pair big_endian second))))

  sound_valid : {bs : List ℕ} → JudgedBytes F big_endian bs sound → Valid (set_of F (read_pair big_endian bs))
  sound_valid {bs} (bytes_good h) = set_valid F (read_pair big_endian bs) h.bare

  pub bare_outcome_once : (q : Asked) (first second : List ℕ) → One (BareOutcome F q first second)
  bare_outcome_once (unary op) first second o p =
      one_answer₁ (judged_bytes_once F big_endian first)
      (written_once (hull_once F (Result₁ op (set_of F (read_pair big_endian first)))))
  bare_outcome_once (binary op) first second o p =
      one_answer₂ (judged_bytes_once F big_endian)
      (written_once (hull_once F (Result₂ op (set_of F (read_pair big_endian first)) (set_of F (read_pair big_endian second)))))
  bare_outcome_once overlap first second o p =
      one_sound_answer (judged_bytes_once F big_endian) (λ h k. written_once (λ m n. number_unique (sound_valid h) (sound_valid k)))
  bare_outcome_once (comparison c) first second o p = comparison_outcome_once c bare_form

  pub exact_outcome_once : (q : Asked) (first second : List ℕ) → One (ExactOutcome F q first second)
  exact_outcome_once (unary op) first second o p =
      one_answer₁ (judged_bytes_once F big_endian first)
      (written_once (exact_once F (Result₁ op (set_of F (read_pair big_endian first)))))
  exact_outcome_once (binary op) first second o p =
      one_answer₂ (judged_bytes_once F big_endian)
      (written_once (exact_once F (Result₂ op (set_of F (read_pair big_endian first)) (set_of F (read_pair big_endian second)))))
  exact_outcome_once overlap first second o p = λ h k. absurd h
  exact_outcome_once (comparison c) first second o p = λ h k. absurd h

  read₁_once : {Right : DecPair → List ℕ → Type 0} {first : List ℕ} → ((x : DecPair) → One (Right x)) → One (Read₁ Right first)
  read₁_once {Right} {first} one z w h k =
      one k.x z w (subst (λ (x : DecPair). Right x z) (read_once big_endian first h.x k.x h.read_x k.read_x) h.right) k.right

  read₂_once : {Right : DecPair → DecPair → List ℕ → Type 0} {first second : List ℕ}
      → ((x y : DecPair) → ReadDecorated big_endian first x → ReadDecorated big_endian second y → One (Right x y))
      → One (Read₂ Right first second)
  read₂_once {Right} {first} {second} one z w h k =
      let sameX = read_once big_endian first h.x k.x h.read_x k.read_x in
      let sameY = read_once big_endian second h.y k.y h.read_y k.read_y in
      one k.x k.y k.read_x k.read_y z w
      (subst (λ (y : DecPair). Right k.x y z) sameY (subst (λ (x : DecPair). Right x h.y z) sameX h.right))
      k.right

  pub decorated_outcome_once : (q : Asked) (first second : List ℕ) → One (DecoratedOutcome F q first second)
  decorated_outcome_once (unary op) first second o p =
      one_answer₁ (judged_dec_bytes_once F big_endian first)
      (read₁_once (λ x. written_once (right_decorated_once F (λ Z d e. allows₁_unique op (set_of F x.pair) Z))))
  decorated_outcome_once (binary op) first second o p =
      one_answer₂ (judged_dec_bytes_once F big_endian)
      (read₂_once
      (λ x y _ _. written_once (right_decorated_once F (λ Z d e. allows₂_unique op (set_of F x.pair) (set_of F y.pair)))))
  decorated_outcome_once overlap first second o p =
      one_sound_answer (judged_dec_bytes_once F big_endian)
      (λ h k. read₂_once
      (λ x y read_x read_y. written_once (λ m n. decorated_number_unique F x y (bytes_ends (read_ends F h read_x)) (bytes_ends (read_ends F k read_y)))))
  decorated_outcome_once (comparison c) first second o p = comparison_outcome_once c decorated_form

-- A request asks for one operation, and so has one outcome.
pub requested_once : {size : ℕ} {Outcomes : Asked → (first second : List ℕ) → Outcome (List ℕ) → Type 0} {input : List ℕ}
    → ((q : Asked) (first second : List ℕ) → One (Outcomes q first second)) → One (Requested size Outcomes input)
requested_once {size} {Outcomes} {input} single o p h k =
    single k.asked (first_operand size input) (second_operand size input) o p
    (subst (λ (q : Asked). Outcomes q (first_operand size input) (second_operand size input) o) (asks_once h.asks k.asks) h.outcome)
    k.outcome
