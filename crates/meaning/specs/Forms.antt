-- The forms in which an interval comes, by value and in bytes, and when two intervals of a form are the same value.
use Rattle.std.specs.Prelude.{◌≡◌, List, ℕ}
use Rattle.patterns.specs.Format.{Format}
use Rattle.meaning.specs.Sets.{SameSet}
use Rattle.meaning.specs.Pairs.{Pair, NaNs, set_of}
use Rattle.meaning.specs.Statement.{Outcome, Verdict, Answered₁, DecPair, JudgedBare, JudgedDecorated}
use Rattle.meaning.specs.Bytes.{ByteOrder, read_pair, write_pair, write_decorated, Written, JudgedBytes, JudgedDecBytes, ReadDecorated, Tidied, TidiedDec}

-- "the bare and the decorated interval"
pub data Form : Type 0 where
  bare_form decorated_form : Form

-- "Lower end, upper end, eight bytes each. Decorated: a seventeenth byte"
abbrev pub size_of : Form → ℕ
size_of bare_form = 16
size_of decorated_form = 17

-- An interval by value.
abbrev pub Value : Form → Type 0
Value bare_form = Pair
Value decorated_form = DecPair

-- What is found of an interval by value, and of bytes.
abbrev pub JudgedValue : Format → (f : Form) → Value f → Verdict → Type 0
JudgedValue F bare_form x v = JudgedBare F x v
JudgedValue F decorated_form x v = JudgedDecorated F x v

abbrev pub JudgedIn : Format → Form → ByteOrder → List ℕ → Verdict → Type 0
JudgedIn F bare_form o bs v = JudgedBytes F o bs v
JudgedIn F decorated_form o bs v = JudgedDecBytes F o bs v

-- What sound bytes are read as.
abbrev pub ReadsAs : (f : Form) → ByteOrder → List ℕ → Value f → Type 0
ReadsAs bare_form o bs z = z ≡ read_pair o bs
ReadsAs decorated_form o bs z = ReadDecorated o bs z

-- The statement of reading.
abbrev pub Reading : Format → (f : Form) → ByteOrder → List ℕ → Outcome (Value f) → Type 0
Reading F f o bs out = Answered₁ (JudgedIn F f o) (ReadsAs f o) bs out

-- "Every interval handed back has its zeros, and NaI its ends, as the bytes have them."
abbrev pub TidiedAs : Format → (f : Form) → (x z : Value f) → Type 0
TidiedAs F bare_form x z = Tidied F x z
TidiedAs F decorated_form x z = TidiedDec F x z

abbrev pub write : (f : Form) → ByteOrder → Value f → List ℕ
write bare_form o x = write_pair o x
write decorated_form o x = write_decorated o x

-- The bytes of an interval, and the statement of writing one that is passed by value.
abbrev pub BytesOf : Format → (f : Form) → ByteOrder → Value f → List ℕ → Type 0
BytesOf F f o x bs = Written (write f o) (TidiedAs F f x) bs

abbrev pub Writing : Format → (f : Form) → ByteOrder → Value f → Outcome (List ℕ) → Type 0
Writing F f o x out = Answered₁ (JudgedValue F f) (BytesOf F f o) x out

-- The ends of an interval, whether it is NaI, and whether two have the same decoration. Bare intervals are never NaI, and have none.
abbrev pub ends_of : (f : Form) → Value f → Pair
ends_of bare_form x = x
ends_of decorated_form x = x.pair

abbrev pub IsNaI : Format → (f : Form) → Value f → Type 0
IsNaI F bare_form x = ⊥
IsNaI F decorated_form x = NaNs F x.pair

abbrev pub SameDecoration : (f : Form) → (x y : Value f) → Type 0
SameDecoration bare_form x y = Unit {0}
SameDecoration decorated_form x y = x.decoration ≡ y.decoration

-- The same value: the same set and the same decoration, or both NaI.
pub data SameValue (F : Format) (f : Form) (x y : Value f) : Type 0 where
  same_interval : (IsNaI F f x → ⊥) → (IsNaI F f y → ⊥) → SameSet (set_of F (ends_of f x)) (set_of F (ends_of f y)) → SameDecoration f x y → SameValue F f x y
  both_nai : IsNaI F f x → IsNaI F f y → SameValue F f x y
