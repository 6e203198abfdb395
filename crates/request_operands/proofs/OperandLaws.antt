-- From operands that were read of bytes, in either form, and what is right for them to the outcome of a request on these bytes.
use mathlib.Core.Bool.{Bool}
use mathlib.Core.Path.{◌≡◌, refl, subst, subst₂}
use mathlib.Core.List.{List}
use Prim.Native.Nat.{ℕ, ◌+◌}
use lib.ListN.{take, drop}
use Rattle.truth.specs.Answers.{Answers}
use Rattle.meaning.specs.Refusals.{Refusal}
use Rattle.patterns.specs.Format.{binary64}
use Rattle.meaning.specs.Pairs.{Pair}
use Rattle.meaning.specs.Points.{Unary}
use Rattle.meaning.specs.Results.{Operation}
use Rattle.meaning.specs.Statement.{Outcome, refused, given, sound, right₁, Answered₂, right₂}
use Rattle.meaning.specs.Bytes.{big_endian, read_pair, Written}
use Rattle.meaning.specs.Forms.{Form, bare_form, decorated_form, size_of, Value, JudgedValue, JudgedIn, ReadsAs, Reading, write}
use Rattle.meaning.specs.FormStatements.{Right₁, Right₂, FormsCompare, StateNumber}
use Rattle.meaning.specs.Comparisons.{Comparison, PairsCompare}
use Rattle.meaning.specs.Requests.{unary, binary, overlap, comparison, second_operand, write_state, write_truth, Read₁, Read₂, OutcomeIn}
use Rattle.refusals.proofs.FoundLaws.{sound_bare}
use Rattle.uniqueness.proofs.ReadingLaws.{read_valid}
use Rattle.comparison_laws.proofs.NaIComparisons.{bares_compared}
use Rattle.request_laws.specs.Reads.{BothRead}
use Rattle.request_laws.proofs.ReadLaws.{after₁, refused₁, after₂, refused₂}

-- One operand, and two, as they are read of a request.
abbrev pub ReadOne : (f : Form) → List ℕ → Outcome (Value f) → Type 0
ReadOne f first o = Reading binary64 f big_endian first o

abbrev pub ReadTwo : (f : Form) → (first second : List ℕ) → Outcome (Value f × Value f) → Type 0
ReadTwo f first second o = Answered₂ (JudgedIn binary64 f big_endian) (BothRead (ReadsAs f big_endian)) first second o

-- The second operand stands behind the first.
pub second_at : (f : Form) (input : List ℕ) {size : ℕ} {o : Outcome (Value f)} → size ≡ size_of f → ReadOne f (take (size_of f) (drop (1 + size) input)) o
    → ReadOne f (second_operand (size_of f) input) o
second_at f input {o = o} is = subst (λ (size : ℕ). ReadOne f (take (size_of f) (drop (1 + size) input)) o) is

-- What was read of sound bytes is sound.
pub one_sound : (f : Form) {first : List ℕ} {x : Value f} → ReadOne f first (given x) → JudgedValue binary64 f x sound
one_sound f {first} {x} (right₁ j r) = read_valid binary64 f big_endian first x j r

pub two_sound : (f : Form) {first second : List ℕ} {x y : Value f} → ReadTwo f first second (given (x, y)) → JudgedValue binary64 f x sound × JudgedValue binary64 f y sound
two_sound f {first} {second} {x} {y} (right₂ j k r) =
    (read_valid binary64 f big_endian first x j r.0, read_valid binary64 f big_endian second y k r.1)

-- A right answer, written, in the bare and in the decorated form.
module _ {A : Type 0} (write : A → List ℕ) where
  pub bare₁ : (first : List ℕ) (Right : Value bare_form → A → Type 0) {x : Value bare_form} {z : A} → Right x z → ReadsAs bare_form big_endian first x
      → Written write (Right (read_pair big_endian first)) (write z)
  bare₁ first Right {z = z} right e = record { answer = z; right = subst (λ (x : Pair). Right x z) e right; written = refl }

  pub bare₂ : (first second : List ℕ) (Right : (x y : Value bare_form) → A → Type 0) {x y : Value bare_form} {z : A} → Right x y z
      → BothRead (ReadsAs bare_form big_endian) first second (x, y) → Written write (Right (read_pair big_endian first) (read_pair big_endian second)) (write z)
  bare₂ first second Right {z = z} right (e, f) = record { answer = z; right = subst₂ (λ (x y : Pair). Right x y z) e f right; written = refl }

  decorated₁ : (Right : Value decorated_form → A → Type 0) {first : List ℕ} {x : Value decorated_form} {z : A} → Right x z
      → ReadsAs decorated_form big_endian first x → Read₁ (λ x. Written write (Right x)) first (write z)
  decorated₁ Right {x = x} {z = z} right read = record { x = x; read_x = read; right = record { answer = z; right = right; written = refl } }

  decorated₂ : (Right : (x y : Value decorated_form) → A → Type 0) {first second : List ℕ} {x y : Value decorated_form} {z : A} → Right x y z
      → BothRead (ReadsAs decorated_form big_endian) first second (x, y) → Read₂ (λ x y. Written write (Right x y)) first second (write z)
  decorated₂ Right {x = x} {y = y} {z = z} right (read_x, read_y) =
      record { x = x; y = y; read_x = read_x; read_y = read_y; right = record { answer = z; right = right; written = refl } }

-- Whether two intervals compare, of which NaI compares with none.
compared : (c : Comparison) (f : Form) {first second : List ℕ} {x y : Value f} {t : Bool} → ReadTwo f first second (given (x, y))
    → Answers (FormsCompare binary64 f c x y) t → Answers (PairsCompare binary64 c (read_pair big_endian first) (read_pair big_endian second)) t
compared c bare_form {t = t} (right₂ j k r) a =
    let s = two_sound bare_form (right₂ j k r) in
    subst₂ (λ (p q : Pair). Answers (PairsCompare binary64 c p q) t) r.0 r.1 (bares_compared binary64 c (sound_bare s.0, sound_bare s.1) a)
compared c decorated_form {t = t} (right₂ j k r) a = subst₂ (λ (p q : Pair). Answers (PairsCompare binary64 c p q) t) r.0.ends r.1.ends a

-- What is right for the operands that were read, written, is the outcome of each request, and a refusal of the operands is its outcome too.
module _ (first second : List ℕ) where
  pub unary_outcome : (f : Form) (op : Unary) {x : Value f} (z : Value f) → ReadOne f first (given x) → Right₁ binary64 f op x z
      → OutcomeIn binary64 f (unary op) first second (given (write f big_endian z))
  unary_outcome bare_form op z h right = after₁ h (bare₁ (write bare_form big_endian) first (Right₁ binary64 bare_form op) right)
  unary_outcome decorated_form op z h right = after₁ h (decorated₁ (write decorated_form big_endian) (Right₁ binary64 decorated_form op) right)

  pub unary_refused : (f : Form) (op : Unary) {r : Refusal} → ReadOne f first (refused r) → OutcomeIn binary64 f (unary op) first second (refused r)
  unary_refused bare_form op h = refused₁ h
  unary_refused decorated_form op h = refused₁ h

  pub binary_outcome : (f : Form) (op : Operation) {x y : Value f} (z : Value f) → ReadTwo f first second (given (x, y)) → Right₂ binary64 f op x y z
      → OutcomeIn binary64 f (binary op) first second (given (write f big_endian z))
  binary_outcome bare_form op z h right = after₂ h (bare₂ (write bare_form big_endian) first second (Right₂ binary64 bare_form op) right)
  binary_outcome decorated_form op z h right = after₂ h (decorated₂ (write decorated_form big_endian) (Right₂ binary64 decorated_form op) right)

  pub binary_refused : (f : Form) (op : Operation) {r : Refusal} → ReadTwo f first second (refused r) → OutcomeIn binary64 f (binary op) first second (refused r)
  binary_refused bare_form op h = refused₂ h
  binary_refused decorated_form op h = refused₂ h

  pub overlap_outcome : (f : Form) {x y : Value f} (n : ℕ) → ReadTwo f first second (given (x, y)) → StateNumber binary64 f x y n
      → OutcomeIn binary64 f overlap first second (given (write_state (size_of f) n))
  overlap_outcome bare_form n h right = after₂ h (bare₂ (write_state (size_of bare_form)) first second (StateNumber binary64 bare_form) right)
  overlap_outcome decorated_form n h right = after₂ h (decorated₂ (write_state (size_of decorated_form)) (StateNumber binary64 decorated_form) right)

  pub overlap_refused : (f : Form) {r : Refusal} → ReadTwo f first second (refused r) → OutcomeIn binary64 f overlap first second (refused r)
  overlap_refused bare_form h = refused₂ h
  overlap_refused decorated_form h = refused₂ h

  pub comparison_outcome : (f : Form) (c : Comparison) {x y : Value f} {t : Bool} → ReadTwo f first second (given (x, y))
      → Answers (FormsCompare binary64 f c x y) t → OutcomeIn binary64 f (comparison c) first second (given (write_truth (size_of f) t))
  comparison_outcome bare_form c {t = t} h a = after₂ h (λ r. record { answer = t; right = compared c bare_form h a; written = refl })
  comparison_outcome decorated_form c {t = t} h a = after₂ h (λ r. record { answer = t; right = compared c decorated_form h a; written = refl })

  pub comparison_refused : (f : Form) (c : Comparison) {r : Refusal} → ReadTwo f first second (refused r)
      → OutcomeIn binary64 f (comparison c) first second (refused r)
  comparison_refused bare_form c h = refused₂ h
  comparison_refused decorated_form c h = refused₂ h
