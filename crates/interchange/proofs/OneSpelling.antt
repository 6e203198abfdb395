-- Ticket 4: "two valid intervals are the same value exactly if their bytes are equal, once for bare and decorated and for either byte order".
use mathlib.Core.Path.{◌≡◌, sym, ◌∙◌, ap, subst⁻¹}
use mathlib.Core.List.{List}
use mathlib.Core.Logic.{◌↔◌}
use Prim.Native.Nat.{ℕ, ◌*◌, ◌^◌, ◌≤◌}
use Rattle.patterns.specs.Format.{Format, sign_bit}
use Rattle.meaning.specs.Statement.{given, right₁}
use Rattle.meaning.specs.Bytes.{ByteOrder}
use Rattle.meaning.specs.Forms.{Form, Value, ReadsAs, Reading, write, BytesOf, Writing, SameValue}
use Rattle.meaning.proofs.SpellingLaws.{same_spelling, spelling_same}
use Rattle.uniqueness.proofs.ReadingLaws.{reads_once}
use Rattle.interchange.proofs.RoundTrip.{Long, read_bytes, bytes_read}

module _ (F : Format) (eight : 2 * sign_bit F ≤ 256 ^ 8) (f : Form) (o : ByteOrder) where
  same_bytes : {x y : Value f} {bs cs : List ℕ} → BytesOf F f o x bs → BytesOf F f o y cs → SameValue F f x y ↔ (bs ≡ cs)
  same_bytes {x} {y} {bs} s t = (
    λ same. s.written ∙ ap (write f o) (same_spelling F f s.right t.right same) ∙ sym t.written,
    λ e. spelling_same F f s.right t.right
        (reads_once f o bs s.answer t.answer (bytes_read F eight f o x s)
        (subst⁻¹ (λ (b : List ℕ). ReadsAs f o b t.answer) e (bytes_read F eight f o y t))),
  )

  -- Of two valid intervals, by the bytes that they are written as.
  pub written_same : {x y : Value f} {bs cs : List ℕ} → Writing F f o x (given bs) → Writing F f o y (given cs) → SameValue F f x y ↔ (bs ≡ cs)
  written_same (right₁ _ s) (right₁ _ t) = same_bytes s t

  -- Of two accepted strings of bytes, by the intervals that they are read as.
  pub read_same : {x y : Value f} {bs cs : List ℕ} → Long f bs → Long f cs → Reading F f o bs (given x) → Reading F f o cs (given y) → SameValue F f x y ↔ (bs ≡ cs)
  read_same l m a b = same_bytes (read_bytes F f o l a) (read_bytes F f o m b)
