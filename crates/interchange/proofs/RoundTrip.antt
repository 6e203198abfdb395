-- Round trips, in either form and either byte order: bytes that are read and written again, and intervals that are written and read again.
use mathlib.Core.Path.{◌≡◌, refl, sym, ◌∙◌, ap, ap₂, subst, subst⁻¹}
use mathlib.Core.List.{List, [], ◌∷◌, ◌++◌, append-nil}
use mathlib.Core.Logic.{inl, inr}
use Prim.Native.Nat.{ℕ, ◌*◌, ◌^◌, ◌<◌, ◌≤◌}
use native.Mathlib.Nat.{le_of_eq, lt_of_lt_of_le}
use native.Mathlib.Omega.{arith}
use lib.Dec.{lit≤}
use lib.ListN.{length}
use lib.Seq.{get_or_at, take_all, take-suc}
use Rattle.patterns.specs.Format.{Format, binary64, sign_bit}
use Rattle.meaning.specs.Pairs.{Pair, Bare, Canonical}
use Rattle.meaning.specs.Decorations.{decoration_byte}
use Rattle.meaning.specs.Statement.{sound, given, right₁, DecPair, nai, Agrees}
use Rattle.meaning.specs.Bytes.{ByteOrder, read_pair, write_pair, bytes_good, BytesEnds, canonical_ends, nan_ends, JudgedDecBytes, dec_bytes_good, ReadDecorated, Tidied, TidiedDec, tidied_nai, tidied_interval}
use Rattle.meaning.specs.Forms.{Form, bare_form, decorated_form, size_of, Value, JudgedValue, ReadsAs, Reading, TidiedAs, write, BytesOf, ends_of}
use Rattle.meaning.specs.Requests.{Recoded}
use Rattle.meaning.proofs.KindLaws.{quiet_nan_lem, nai_nans, bare_not_nans, only_bare, nans_spelt}
use Rattle.meaning.proofs.SpellingLaws.{dec_pair, tidied_once, tidied_as_once}
use Rattle.meaning.proofs.Unique.{written_once}
use Rattle.uniqueness.proofs.ReadingLaws.{read_ends, read_agrees, read_valid}
use Rattle.end_pairs.specs.Zeros.{canonical_pair}
use Rattle.end_pairs.proofs.TestLaws.{lower_pattern, upper_pattern}
use Rattle.end_pairs.proofs.ZeroLaws.{tidied}
use Rattle.decorations.proofs.AgreeLaws.{agrees_nans, canonical_agrees, sound_ends, sound_agrees}
use Rattle.ends_in_bytes.proofs.EightByteLaws.{length_pair}
use Rattle.ends_in_bytes.proofs.DigitLaws.{Bytes, pair_read, pair_written}

-- A string of bytes as long as an interval in a form is.
pub record Long (f : Form) (bs : List ℕ) : Type 0 where
  pub long : length bs ≡ size_of f
  pub bytes : Bytes bs

-- The bytes of what was read are those that were read.
read_writes : (f : Form) (o : ByteOrder) {bs : List ℕ} (x : Value f) → Long f bs → ReadsAs f o bs x → bs ≡ write f o x
read_writes bare_form o {bs} x l e =
    sym (ap (write_pair o) e ∙ pair_written o bs (le_of_eq (sym l.long)) l.bytes ∙ take_all 16 bs (le_of_eq l.long))
read_writes decorated_form o {bs} x l r =
    sym
    (ap₂ (λ (s : List ℕ) (b : ℕ). s ++ (b ∷ [])) (ap (write_pair o) r.ends ∙ pair_written o bs (let n = l.long in omega arith) l.bytes) (sym r.byte.is)
    ∙ sym (take-suc bs 16 0 (let n = l.long in omega arith)) ∙ take_all 17 bs (le_of_eq l.long))

module _ (F : Format) where
  self_tidied : {p : Pair} → Canonical F p → Tidied F p p
  self_tidied k = record { canonical = k; same = (λ x m. m, λ x m. m) }

  dec_self_tidied : {x : DecPair} → BytesEnds F x.pair → Agrees F x → TidiedDec F x x
  dec_self_tidied (canonical_ends k) a = tidied_interval (bare_not_nans F k.bare) (self_tidied k) refl
  dec_self_tidied {x} (nan_ends n) a = subst⁻¹ (TidiedDec F x) (dec_pair (nans_spelt F n) (a.nans_ill n)) (tidied_nai n)

  -- What is read is tidied already.
  read_tidied : (f : Form) (o : ByteOrder) {bs : List ℕ} {x : Value f} → Reading F f o bs (given x) → TidiedAs F f x x
  read_tidied bare_form o (right₁ (bytes_good k) e) = self_tidied (subst⁻¹ (Canonical F) e k)
  read_tidied decorated_form o (right₁ j r) = dec_self_tidied (read_ends F j r) (read_agrees F j r)

  -- Accepted bytes are those of what they are read as: reading and writing again gives the same bytes.
  pub read_bytes : (f : Form) (o : ByteOrder) {bs : List ℕ} {x : Value f} → Long f bs → Reading F f o bs (given x) → BytesOf F f o x bs
  read_bytes f o {x = x} l (right₁ j r) = record { answer = x; right = read_tidied f o (right₁ j r); written = read_writes f o x l r }

  pub read_written : (f : Form) (o : ByteOrder) {bs w : List ℕ} {x : Value f} → Long f bs → Reading F f o bs (given x) → BytesOf F f o x w → w ≡ bs
  read_written f o {bs} {w} {x} l a t = written_once (tidied_as_once F f x) w bs t (read_bytes f o l a)

-- A format whose patterns have eight bytes.
module _ (F : Format) (eight : 2 * sign_bit F ≤ 256 ^ 8) where
  record Fits (p : Pair) : Type 0 where
    lower : p.lower < 256 ^ 8
    upper : p.upper < 256 ^ 8

  bare_fits : {p : Pair} → Bare F p → Fits p
  bare_fits (inl h) =
      record { lower = lt_of_lt_of_le (lower_pattern F h.lower_end) eight; upper = lt_of_lt_of_le (upper_pattern F h.upper_end) eight }
  bare_fits (inr e) =
      record { lower = lt_of_lt_of_le (upper_pattern F (inr e.lower_is)) eight; upper = lt_of_lt_of_le (lower_pattern F (inr e.upper_is)) eight }

  nai_fits : Fits (nai F).pair
  nai_fits = let quiet = lt_of_lt_of_le (quiet_nan_lem F).pattern eight in record { lower = quiet; upper = quiet }

  tidied_fits : (f : Form) (x z : Value f) → TidiedAs F f x z → Fits (ends_of f z)
  tidied_fits bare_form x z t = bare_fits t.canonical.bare
  tidied_fits decorated_form x z (tidied_nai n) = nai_fits
  tidied_fits decorated_form x z (tidied_interval n t d) = bare_fits t.canonical.bare

  -- What is written is read back.
  reads_back : (f : Form) (o : ByteOrder) (z : Value f) → Fits (ends_of f z) → ReadsAs f o (write f o z) z
  reads_back bare_form o z h = sym (ap (read_pair o) (sym (append-nil (write_pair o z))) ∙ pair_read o z [] h.lower h.upper)
  reads_back decorated_form o z h =
      let b = decoration_byte z.decoration in
      record {
        ends = sym (pair_read o z.pair (b ∷ []) h.lower h.upper);
        byte = record { is = get_or_at (write_pair o z.pair) b [] 0 16 (length_pair o z.pair) };
      }

  pub bytes_read : (f : Form) (o : ByteOrder) (x : Value f) {bs : List ℕ} (t : BytesOf F f o x bs) → ReadsAs f o bs t.answer
  bytes_read f o x t = subst⁻¹ (λ (bs : List ℕ). ReadsAs f o bs t.answer) t.written (reads_back f o t.answer (tidied_fits f x t.answer t.right))

  -- An interval that agrees with its decoration does so when it is tidied.
  tidied_agrees : {x z : DecPair} → JudgedValue F decorated_form x sound → TidiedDec F x z → BytesEnds F z.pair × Agrees F z
  tidied_agrees j (tidied_nai n) = (nan_ends (nai_nans F), agrees_nans F (nai_nans F))
  tidied_agrees {x} {z} j (tidied_interval n t d) =
      let bare = only_bare F (sound_ends j) n in
      let same = tidied_once F x.pair z.pair (canonical_pair F x.pair) t (tidied F x.pair bare) in
      (canonical_ends t.canonical, subst⁻¹ (λ (y : DecPair). Agrees F y) (dec_pair same d) (canonical_agrees F x bare (sound_agrees j)))

  sound_bytes : {o : ByteOrder} {bs : List ℕ} {z : DecPair} → ReadDecorated o bs z → BytesEnds F z.pair × Agrees F z → JudgedDecBytes F o bs sound
  sound_bytes {z = z} r (ends, agrees) =
      dec_bytes_good z.decoration r.byte (subst (BytesEnds F) r.ends ends)
      (subst (λ (y : DecPair). Agrees F y) (dec_pair r.ends refl) agrees)

  -- The bytes of a valid interval are accepted, and read as the interval that was written.
  pub written_read : (f : Form) (o : ByteOrder) (x : Value f) {bs : List ℕ} → JudgedValue F f x sound → (t : BytesOf F f o x bs) → Reading F f o bs (given t.answer)
  written_read bare_form o x j t =
      let r = bytes_read bare_form o x t in right₁ (bytes_good (subst (Canonical F) r t.right.canonical)) r
  written_read decorated_form o x j t = let r = bytes_read decorated_form o x t in right₁ (sound_bytes r (tidied_agrees j t.right)) r

  -- What a codec makes of accepted bytes is turned back into them by the codec that goes back.
  pub recoded_back : (f : Form) (from to : ByteOrder) {bs cs : List ℕ} → Long f bs → Recoded F f from to bs (given cs) → Recoded F f to from cs (given bs)
  recoded_back f from to {bs} {cs} l (right₁ j w) =
      let x = w.answer in
      let accepted : Reading F f from bs (given x) = right₁ j w.right in
      let t : BytesOf F f to x cs = record { answer = x; right = read_tidied F f from accepted; written = w.written } in
      back (written_read f to x (read_valid F f from bs x j w.right) t)
    where
      back : Reading F f to cs (given w.answer) → Recoded F f to from cs (given bs)
      back (right₁ k r) = right₁ k (record { answer = w.answer; right = r; written = read_writes f from w.answer l w.right })

-- Patterns of binary64 have eight bytes.
pub eight_binary64 : 2 * sign_bit binary64 ≤ 256 ^ 8
unfolding sign_bit
eight_binary64 = lit≤ tt
