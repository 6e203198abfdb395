-- The statements that public functions make: for every input, the whole outcome.
use Rattle.std.specs.Prelude.{◌≡◌, ◌⊎◌, ℕ}
use Rattle.meaning.specs.Refusals.{Refusal}
use Rattle.patterns.specs.Format.{Format, quiet_nan}
use Rattle.patterns.specs.Value.{Finite}
use Rattle.meaning.specs.Fraction.{Fraction}
use Rattle.meaning.specs.Sets.{Set}
use Rattle.meaning.specs.Pairs.{Pair, Proper, EmptyPair, Bare, Canonical, NaNs, set_of}
use Rattle.meaning.specs.Points.{Unary}
use Rattle.meaning.specs.Results.{Operation, Result₁, Result₂}
use Rattle.meaning.specs.Hull.{Hull}
use Rattle.meaning.specs.Decorations.{Decoration, Ill, Trv, Com, Decorated, lower_of, Allows₁, Allows₂}

-- A call is refused, "the answer is then the number and the place alone", or an answer is given.
pub data Outcome (B : Type 0) : Type 0 where
  refused : Refusal → Outcome B
  given : B → Outcome B

-- The refusal with a number and a place, of a call in which nothing has an index.
abbrev pub refusal_at : (number place : ℕ) → Refusal
refusal_at number place = record { number = number; place = place; index = 0 }

-- "0: accepted". What a call says that refuses nothing.
abbrev pub no_refusal : Refusal
no_refusal = refusal_at 0 0

-- What is found of one operand: nothing wrong, or the number of what is.
pub data Verdict : Type 0 where
  sound : Verdict
  wrong : (number : ℕ) → Verdict

-- The outcome of a call with one operand, and with two: the first operand is judged before the second.
-- `Judged` says what is found of an operand, and `Right` which answer is right for sound operands.
pub data Answered₁ {A B : Type 0} (Judged : A → Verdict → Type 0) (Right : A → B → Type 0) (x : A) : Outcome B → Type 0 where
  first₁ : {n : ℕ} → Judged x (wrong n) → Answered₁ Judged Right x (refused (refusal_at n 1))
  right₁ : {z : B} → Judged x sound → Right x z → Answered₁ Judged Right x (given z)

pub data Answered₂ {A B : Type 0} (Judged : A → Verdict → Type 0) (Right : A → A → B → Type 0) (x y : A) : Outcome B → Type 0 where
  first₂ : {n : ℕ} → Judged x (wrong n) → Answered₂ Judged Right x y (refused (refusal_at n 1))
  second₂ : {n : ℕ} → Judged x sound → Judged y (wrong n) → Answered₂ Judged Right x y (refused (refusal_at n 2))
  right₂ : {z : B} → Judged x sound → Judged y sound → Right x y z → Answered₂ Judged Right x y (given z)

-- What is found of operands before anything is done with them: a refusal as every call refuses, and nothing yet of sound ones.
abbrev pub Found₁ : {A : Type 0} (Judged : A → Verdict → Type 0) → A → Outcome (Unit {0}) → Type 0
Found₁ Judged x o = Answered₁ Judged (λ x u. Unit {0}) x o

abbrev pub Found₂ : {A : Type 0} (Judged : A → Verdict → Type 0) → (x y : A) → Outcome (Unit {0}) → Type 0
Found₂ Judged x y o = Answered₂ Judged (λ x y u. Unit {0}) x y o

-- Bare operands. 5: "the ends are neither a proper pair, nor EMPTY's".
-- "An interval passed by value is refused .. in the same way, except that a zero end of either sign is taken".
pub data JudgedBare (F : Format) (x : Pair) : Verdict → Type 0 where
  bare_five : (Bare F x → ⊥) → JudgedBare F x (wrong 5)
  bare_good : Bare F x → JudgedBare F x sound

-- The right bare answer for the results R: their hull. "Every interval handed back has its zeros .. as the bytes have them."
pub record HullOf (F : Format) (R : Fraction → Type 0) (z : Pair) : Type 0 where
  pub canonical : Canonical F z
  pub hull : Hull F R (set_of F z)

-- A decorated interval as its ends and its decoration.
pub record DecPair : Type 0 where
  pub pair : Pair
  pub decoration : Decoration

-- "NaI is two NaNs with byte 0", and these are its only spelling.
abbrev pub nai : Format → DecPair
nai F = record { pair = record { lower = quiet_nan F; upper = quiet_nan F }; decoration = Ill }

-- "a proper pair, .. EMPTY's, .. two NaNs"
abbrev pub Ends : Format → Pair → Type 0
Ends F p = Bare F p ⊎ NaNs F p

-- 6, "decoration against ends: Ill on a proper pair; Com with an infinite end; EMPTY's pair without Trv; two NaNs
-- without Ill", does not apply.
pub record Agrees (F : Format) (x : DecPair) : Type 0 where
  pub not_ill : Proper F x.pair → x.decoration ≡ Ill → ⊥
  pub bounded : Proper F x.pair → x.decoration ≡ Com → Finite F x.pair.lower × Finite F x.pair.upper
  pub empty_trv : EmptyPair F x.pair → x.decoration ≡ Trv
  pub nans_ill : NaNs F x.pair → x.decoration ≡ Ill

pub data JudgedDecorated (F : Format) (x : DecPair) : Verdict → Type 0 where
  decorated_five : (Ends F x.pair → ⊥) → JudgedDecorated F x (wrong 5)
  decorated_six : Ends F x.pair → (Agrees F x → ⊥) → JudgedDecorated F x (wrong 6)
  decorated_good : Ends F x.pair → Agrees F x → JudgedDecorated F x sound

-- The right decorated answer. "NaI if either operand is"; else the bare answer with its decoration.
pub data RightDecorated (F : Format) (IsNaI : Type 0) (R : Fraction → Type 0) (Allows : Set → Decoration → Type 0) (operands : Decoration) : DecPair → Type 0 where
  right_nai : IsNaI → RightDecorated F IsNaI R Allows operands (nai F)
  right_interval : {z : DecPair} → (IsNaI → ⊥) → HullOf F R z.pair → Decorated (Allows (set_of F z.pair)) operands (set_of F z.pair) z.decoration → RightDecorated F IsNaI R Allows operands z

-- The statement of each bare operation of one and of two operands.
abbrev pub Bare₁ : Format → Unary → Pair → Outcome Pair → Type 0
Bare₁ F op x o = Answered₁ (JudgedBare F) (λ x z. HullOf F (Result₁ op (set_of F x)) z) x o

abbrev pub Bare₂ : Format → Operation → Pair → Pair → Outcome Pair → Type 0
Bare₂ F op x y o = Answered₂ (JudgedBare F) (λ x y z. HullOf F (Result₂ op (set_of F x) (set_of F y)) z) x y o

-- The right decorated answer of each operation of one and of two operands.
abbrev pub RightDec₁ : Format → Unary → DecPair → DecPair → Type 0
RightDec₁ F op x z =
    RightDecorated F (NaNs F x.pair) (Result₁ op (set_of F x.pair)) (Allows₁ op (set_of F x.pair)) x.decoration z

abbrev pub RightDec₂ : Format → Operation → DecPair → DecPair → DecPair → Type 0
RightDec₂ F op x y z =
    RightDecorated F (NaNs F x.pair ⊎ NaNs F y.pair) (Result₂ op (set_of F x.pair) (set_of F y.pair))
    (λ Z. Allows₂ op (set_of F x.pair) (set_of F y.pair)) (lower_of x.decoration y.decoration) z

-- The statement of each decorated operation of one and of two operands.
abbrev pub Decorated₁ : Format → Unary → DecPair → Outcome DecPair → Type 0
Decorated₁ F op x o = Answered₁ (JudgedDecorated F) (RightDec₁ F op) x o

abbrev pub Decorated₂ : Format → Operation → DecPair → DecPair → Outcome DecPair → Type 0
Decorated₂ F op x y o = Answered₂ (JudgedDecorated F) (RightDec₂ F op) x y o
