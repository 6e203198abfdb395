-- Sound bytes are read as one interval, which is valid, in either form.
use mathlib.Core.Path.{◌≡◌, sym, ◌∙◌, subst, subst⁻¹}
use mathlib.Core.List.{List}
use Prim.Native.Nat.{ℕ}
use Rattle.patterns.specs.Format.{Format}
use Rattle.meaning.specs.Pairs.{Bare}
use Rattle.meaning.specs.Statement.{Outcome, sound, DecPair, Agrees, bare_good, decorated_good}
use Rattle.meaning.specs.Bytes.{ByteOrder, BytesEnds, bytes_good, JudgedDecBytes, dec_bytes_good, ReadDecorated}
use Rattle.meaning.specs.Forms.{Form, bare_form, decorated_form, Value, JudgedValue, JudgedIn, ReadsAs, Reading}
use Rattle.meaning.proofs.Unique.{one_answer₁}
use Rattle.meaning.proofs.SpellingLaws.{dec_pair}
use Rattle.meaning.proofs.KindLaws.{bytes_ends}
use Rattle.uniqueness.proofs.VerdictLaws.{says_once, judged_in_once}

pub read_once : (o : ByteOrder) (bs : List ℕ) (x y : DecPair) → ReadDecorated o bs x → ReadDecorated o bs y → x ≡ y
read_once o bs x y h k = dec_pair (h.ends ∙ sym k.ends) (says_once bs h.byte k.byte)

pub reads_once : (f : Form) (o : ByteOrder) (bs : List ℕ) (x y : Value f) → ReadsAs f o bs x → ReadsAs f o bs y → x ≡ y
reads_once bare_form o bs x y h k = h ∙ sym k
reads_once decorated_form o bs x y h k = read_once o bs x y h k

pub reading_once : (F : Format) (f : Form) (o : ByteOrder) (bs : List ℕ) {v w : Outcome (Value f)} → Reading F f o bs v → Reading F f o bs w → v ≡ w
reading_once F f o bs = one_answer₁ (judged_in_once F o bs f) (reads_once f o bs)

module _ (F : Format) {o : ByteOrder} {bs : List ℕ} where
  -- What is read has the ends that bytes may have, and a decoration that agrees with them.
  pub read_ends : {x : DecPair} → JudgedDecBytes F o bs sound → ReadDecorated o bs x → BytesEnds F x.pair
  read_ends (dec_bytes_good _ _ ends _) r = subst⁻¹ (BytesEnds F) r.ends ends

  pub read_agrees : {x : DecPair} → JudgedDecBytes F o bs sound → ReadDecorated o bs x → Agrees F x
  read_agrees (dec_bytes_good d s _ agrees) r = subst (λ (y : DecPair). Agrees F y) (dec_pair (sym r.ends) (says_once bs s r.byte)) agrees

pub read_valid : (F : Format) (f : Form) (o : ByteOrder) (bs : List ℕ) (x : Value f) → JudgedIn F f o bs sound → ReadsAs f o bs x → JudgedValue F f x sound
read_valid F bare_form o bs x (bytes_good k) e = bare_good (subst⁻¹ (Bare F) e k.bare)
read_valid F decorated_form o bs x j r = decorated_good (bytes_ends (read_ends F j r)) (read_agrees F j r)
