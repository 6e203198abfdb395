-- Interchange bytes, by document 01: "Lower end, upper end, eight bytes each. Decorated: a seventeenth byte".
use Rattle.std.specs.Prelude.{◌≡◌, List, [], ◌∷◌, ◌++◌, reverse, ℕ, zero, suc, ◌+◌, ◌*◌, ◌/◌, ◌%◌, take, drop, get_or}
use Rattle.patterns.specs.Format.{Format}
use Rattle.meaning.specs.Sets.{SameSet}
use Rattle.meaning.specs.Pairs.{Pair, Canonical, NaNs, set_of}
use Rattle.meaning.specs.Decorations.{Decoration, decoration_byte}
use Rattle.meaning.specs.Statement.{Verdict, sound, wrong, DecPair, nai, Agrees}

pub data ByteOrder : Type 0 where
  big_endian little_endian : ByteOrder

-- The number that bytes stand for, the first byte weighing least.
abbrev pub from_digits : List ℕ → ℕ
from_digits [] = 0
from_digits (b ∷ bs) = b + 256 * from_digits bs

-- The first count bytes of a number, the first weighing least.
abbrev pub to_digits : (count : ℕ) → ℕ → List ℕ
to_digits zero n = []
to_digits (suc count) n = n % 256 ∷ to_digits count (n / 256)

abbrev pub in_order : ByteOrder → List ℕ → List ℕ
in_order big_endian bs = reverse bs
in_order little_endian bs = bs

-- Eight bytes as a pattern, and a pattern as eight bytes.
abbrev pub read_end : ByteOrder → List ℕ → ℕ
read_end o bs = from_digits (in_order o bs)

abbrev pub write_end : ByteOrder → ℕ → List ℕ
write_end o n = in_order o (to_digits 8 n)

-- "Lower end, upper end, eight bytes each."
abbrev pub read_pair : ByteOrder → List ℕ → Pair
read_pair o bs = record { lower = read_end o (take 8 bs); upper = read_end o (take 8 (drop 8 bs)) }

abbrev pub write_pair : ByteOrder → Pair → List ℕ
write_pair o p = write_end o p.lower ++ write_end o p.upper

-- "Decorated: a seventeenth byte"
abbrev pub write_decorated : ByteOrder → DecPair → List ℕ
write_decorated o x = write_pair o x.pair ++ (decoration_byte x.decoration ∷ [])

-- The bytes of a right answer.
pub record Written {A : Type 0} (write : A → List ℕ) (Right : A → Type 0) (bytes : List ℕ) : Type 0 where
  pub answer : A
  pub right : Right answer
  pub written : bytes ≡ write answer

-- Sixteen bytes. 5 also where a zero has the other sign: "the other zero is refused".
pub data JudgedBytes (F : Format) (o : ByteOrder) (bs : List ℕ) : Verdict → Type 0 where
  bytes_five : (Canonical F (read_pair o bs) → ⊥) → JudgedBytes F o bs (wrong 5)
  bytes_good : Canonical F (read_pair o bs) → JudgedBytes F o bs sound

-- The seventeenth byte says the decoration d.
pub record SaysDecoration (bs : List ℕ) (d : Decoration) : Type 0 where
  pub is : get_or bs 16 0 ≡ decoration_byte d

-- A decorated interval as its bytes have it: its ends are canonical, or two NaNs.
pub data BytesEnds (F : Format) (p : Pair) : Type 0 where
  canonical_ends : Canonical F p → BytesEnds F p
  nan_ends : NaNs F p → BytesEnds F p

-- Seventeen bytes. "Numbers are tried in the order .. 4, 5, 6".
pub data JudgedDecBytes (F : Format) (o : ByteOrder) (bs : List ℕ) : Verdict → Type 0 where
  bytes_four : ((d : Decoration) → SaysDecoration bs d → ⊥) → JudgedDecBytes F o bs (wrong 4)
  dec_bytes_five : (d : Decoration) → SaysDecoration bs d → (BytesEnds F (read_pair o bs) → ⊥) → JudgedDecBytes F o bs (wrong 5)
  dec_bytes_six : (d : Decoration) → SaysDecoration bs d → BytesEnds F (read_pair o bs)
      → (Agrees F (record { pair = read_pair o bs; decoration = d }) → ⊥) → JudgedDecBytes F o bs (wrong 6)
  dec_bytes_good : (d : Decoration) → SaysDecoration bs d → BytesEnds F (read_pair o bs)
      → Agrees F (record { pair = read_pair o bs; decoration = d }) → JudgedDecBytes F o bs sound

-- What sound decorated bytes are read as: their ends, and the decoration that the seventeenth says.
pub record ReadDecorated (o : ByteOrder) (bs : List ℕ) (x : DecPair) : Type 0 where
  pub ends : x.pair ≡ read_pair o bs
  pub byte : SaysDecoration bs x.decoration

-- The same interval with its zeros as the bytes have them.
pub record Tidied (F : Format) (p q : Pair) : Type 0 where
  pub canonical : Canonical F q
  pub same : SameSet (set_of F p) (set_of F q)

-- "Every interval handed back has its zeros, and NaI its ends, as the bytes have them."
pub data TidiedDec (F : Format) (x : DecPair) : DecPair → Type 0 where
  tidied_nai : NaNs F x.pair → TidiedDec F x (nai F)
  tidied_interval : {z : DecPair} → (NaNs F x.pair → ⊥) → Tidied F x.pair z.pair → z.decoration ≡ x.decoration → TidiedDec F x z
