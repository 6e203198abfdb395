-- Two answers that both satisfy the statement of a public function are equal, for either byte order.
use mathlib.Core.Path.{◌≡◌}
use mathlib.Core.List.{List}
use Prim.Native.Nat.{ℕ}
use Rattle.std.specs.Prelude.{Result}
use Rattle.patterns.specs.Format.{Format}
use Rattle.meaning.specs.Pairs.{Pair}
use Rattle.meaning.specs.Statement.{DecPair}
use Rattle.meaning.specs.Bytes.{ByteOrder}
use Rattle.meaning.specs.Forms.{Form, bare_form, decorated_form, Value, Reading, Writing}
use Rattle.meaning.proofs.Unique.{one_answer₁, written_once}
use Rattle.meaning.proofs.SpellingLaws.{tidied_as_once}
use Rattle.uniqueness.proofs.VerdictLaws.{judged_value_once}
use Rattle.uniqueness.proofs.ReadingLaws.{reading_once}
use Rattle.refusals.specs.RefusalMeaning.{outcome, outcome_of}
use Rattle.refusals.specs.declared.Refusal.{Refusal}
use Rattle.refusals.proofs.Known.{same_known}
use Rattle.interval.specs.IntervalMeaning.{pair_of}
use Rattle.interval.specs.declared.types.Interval.{Interval}
use Rattle.interval.proofs.Codes.{interval_known}
use Rattle.dec_interval.specs.DecIntervalMeaning.{dec_pair_of}
use Rattle.dec_interval.specs.declared.types.DecInterval.{DecInterval}
use Rattle.dec_interval.proofs.Codes.{dec_interval_known}

-- What a function that writes answers.
abbrev pub BytesAnswer : Type 0
BytesAnswer = Result (List ℕ) Refusal

module _ (F : Format) (o : ByteOrder) where
  pub try_from_bytes_once : (bs : List ℕ) (r s : Result Interval Refusal) → Reading F bare_form o bs (outcome_of pair_of r)
      → Reading F bare_form o bs (outcome_of pair_of s) → r ≡ s
  try_from_bytes_once bs r s a b = interval_known (reading_once F bare_form o bs a b)

  pub dec_try_from_bytes_once : (bs : List ℕ) (r s : Result DecInterval Refusal) → Reading F decorated_form o bs (outcome_of dec_pair_of r)
      → Reading F decorated_form o bs (outcome_of dec_pair_of s) → r ≡ s
  dec_try_from_bytes_once bs r s a b = dec_interval_known (reading_once F decorated_form o bs a b)

  writing_once : (f : Form) (x : Value f) (r s : BytesAnswer) → Writing F f o x (outcome r) → Writing F f o x (outcome s) → r ≡ s
  writing_once f x r s a b = same_known (one_answer₁ (judged_value_once F f x) (written_once (tidied_as_once F f x)) a b)

  pub to_bytes_once : (x : Pair) (r s : BytesAnswer) → Writing F bare_form o x (outcome r) → Writing F bare_form o x (outcome s) → r ≡ s
  to_bytes_once = writing_once bare_form

  pub dec_to_bytes_once : (x : DecPair) (r s : BytesAnswer) → Writing F decorated_form o x (outcome r) → Writing F decorated_form o x (outcome s) → r ≡ s
  dec_to_bytes_once = writing_once decorated_form
