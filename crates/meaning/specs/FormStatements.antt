-- The statements of functions on intervals by value, over the form: those of the bare and of the decorated form are its two cases.
use Rattle.std.specs.Prelude.{Bool, ℕ}
use Rattle.truth.specs.Answers.{Answers}
use Rattle.patterns.specs.Format.{Format}
use Rattle.meaning.specs.Pairs.{set_of}
use Rattle.meaning.specs.Points.{Unary}
use Rattle.meaning.specs.Results.{Operation, Result₁, Result₂}
use Rattle.meaning.specs.Statement.{Outcome, Answered₁, Answered₂, HullOf, RightDec₁, RightDec₂}
use Rattle.meaning.specs.Comparisons.{Comparison, Compares, PairsCompare}
use Rattle.meaning.specs.Overlap.{OverlapNumber, DecoratedOverlap}
use Rattle.meaning.specs.Forms.{Form, bare_form, decorated_form, Value, JudgedValue}

-- The right answer of an operation of one and of two operands: the hull of the results, and in the decorated form with its decoration.
abbrev pub Right₁ : Format → (f : Form) → Unary → (x z : Value f) → Type 0
Right₁ F bare_form op x z = HullOf F (Result₁ op (set_of F x)) z
Right₁ F decorated_form op x z = RightDec₁ F op x z

abbrev pub Right₂ : Format → (f : Form) → Operation → (x y z : Value f) → Type 0
Right₂ F bare_form op x y z = HullOf F (Result₂ op (set_of F x) (set_of F y)) z
Right₂ F decorated_form op x y z = RightDec₂ F op x y z

-- Whether two intervals compare. "NaI answers no to all".
abbrev pub FormsCompare : Format → (f : Form) → Comparison → (x y : Value f) → Type 0
FormsCompare F bare_form c x y = Compares c (set_of F x) (set_of F y)
FormsCompare F decorated_form c x y = PairsCompare F c x.pair y.pair

-- The number of the overlapping state. "NaI gives 16."
abbrev pub StateNumber : Format → (f : Form) → (x y : Value f) → ℕ → Type 0
StateNumber F bare_form x y n = OverlapNumber (set_of F x) (set_of F y) n
StateNumber F decorated_form x y n = DecoratedOverlap F x y n

-- The statement of each operation of one and of two operands, and of each comparison. Any values are judged first.
abbrev pub Answer₁ : Format → (f : Form) → Unary → Value f → Outcome (Value f) → Type 0
Answer₁ F f op x o = Answered₁ (JudgedValue F f) (Right₁ F f op) x o

abbrev pub Answer₂ : Format → (f : Form) → Operation → (x y : Value f) → Outcome (Value f) → Type 0
Answer₂ F f op x y o = Answered₂ (JudgedValue F f) (Right₂ F f op) x y o

abbrev pub Compared : Format → (f : Form) → Comparison → (x y : Value f) → Outcome Bool → Type 0
Compared F f c x y o = Answered₂ (JudgedValue F f) (λ x y. Answers (FormsCompare F f c x y)) x y o
