-- One verdict on each operand: the refusals 4, 5 and 6 of document 01 never overlap.
use mathlib.Core.Path.{◌≡◌, refl, sym, ◌∙◌, subst}
use mathlib.Core.List.{List}
use Prim.Native.Nat.{ℕ}
use Rattle.patterns.specs.Format.{Format}
use Rattle.meaning.specs.Decorations.{Decoration}
use Rattle.meaning.specs.Statement.{Verdict, wrong, DecPair, Agrees, JudgedDecorated, decorated_five, decorated_six, decorated_good}
use Rattle.meaning.specs.Bytes.{ByteOrder, read_pair, JudgedBytes, bytes_five, bytes_good, SaysDecoration, JudgedDecBytes, bytes_four, dec_bytes_five, dec_bytes_six, dec_bytes_good}
use Rattle.meaning.specs.Forms.{Form, bare_form, decorated_form, Value, JudgedValue, JudgedIn}
use Rattle.meaning.proofs.Unique.{judged_bare_once}
use Rattle.uniqueness.proofs.DecorationOrder.{byte_injective}

pub judged_decorated_once : (F : Format) (x : DecPair) (v w : Verdict) → JudgedDecorated F x v → JudgedDecorated F x w → v ≡ w
judged_decorated_once F x v w (decorated_five h) (decorated_five k) = refl
judged_decorated_once F x v w (decorated_five h) (decorated_six k _) = absurd (h k)
judged_decorated_once F x v w (decorated_five h) (decorated_good k _) = absurd (h k)
judged_decorated_once F x v w (decorated_six h _) (decorated_five k) = absurd (k h)
judged_decorated_once F x v w (decorated_six _ _) (decorated_six _ _) = refl
judged_decorated_once F x v w (decorated_six _ h) (decorated_good _ k) = absurd (h k)
judged_decorated_once F x v w (decorated_good h _) (decorated_five k) = absurd (k h)
judged_decorated_once F x v w (decorated_good _ h) (decorated_six _ k) = absurd (k h)
judged_decorated_once F x v w (decorated_good _ _) (decorated_good _ _) = refl

pub judged_value_once : (F : Format) (f : Form) (x : Value f) (v w : Verdict) → JudgedValue F f x v → JudgedValue F f x w → v ≡ w
judged_value_once F bare_form = judged_bare_once F
judged_value_once F decorated_form = judged_decorated_once F

-- The seventeenth byte says one decoration.
pub says_once : (bs : List ℕ) {d e : Decoration} → SaysDecoration bs d → SaysDecoration bs e → d ≡ e
says_once bs {d} {e} h k = byte_injective d e (sym h.is ∙ k.is)

module _ (F : Format) (o : ByteOrder) (bs : List ℕ) where
  pub judged_bytes_once : (v w : Verdict) → JudgedBytes F o bs v → JudgedBytes F o bs w → v ≡ w
  judged_bytes_once v w (bytes_five h) (bytes_five k) = refl
  judged_bytes_once v w (bytes_five h) (bytes_good k) = absurd (h k)
  judged_bytes_once v w (bytes_good h) (bytes_five k) = absurd (k h)
  judged_bytes_once v w (bytes_good h) (bytes_good k) = refl

  agrees_once : (d e : Decoration) → SaysDecoration bs d → SaysDecoration bs e
      → Agrees F (record { pair = read_pair o bs; decoration = d }) → Agrees F (record { pair = read_pair o bs; decoration = e })
  agrees_once d e h k = subst (λ (d : Decoration). Agrees F (record { pair = read_pair o bs; decoration = d })) (says_once bs h k)

  pub judged_dec_bytes_once : (v w : Verdict) → JudgedDecBytes F o bs v → JudgedDecBytes F o bs w → v ≡ w
  judged_dec_bytes_once v w (bytes_four h) (bytes_four k) = refl
  judged_dec_bytes_once v w (bytes_four h) (dec_bytes_five e k _) = absurd (h e k)
  judged_dec_bytes_once v w (bytes_four h) (dec_bytes_six e k _ _) = absurd (h e k)
  judged_dec_bytes_once v w (bytes_four h) (dec_bytes_good e k _ _) = absurd (h e k)
  judged_dec_bytes_once v w (dec_bytes_five d h _) (bytes_four k) = absurd (k d h)
  judged_dec_bytes_once v w (dec_bytes_five _ _ _) (dec_bytes_five _ _ _) = refl
  judged_dec_bytes_once v w (dec_bytes_five _ _ h) (dec_bytes_six _ _ k _) = absurd (h k)
  judged_dec_bytes_once v w (dec_bytes_five _ _ h) (dec_bytes_good _ _ k _) = absurd (h k)
  judged_dec_bytes_once v w (dec_bytes_six d h _ _) (bytes_four k) = absurd (k d h)
  judged_dec_bytes_once v w (dec_bytes_six _ _ h _) (dec_bytes_five _ _ k) = absurd (k h)
  judged_dec_bytes_once v w (dec_bytes_six _ _ _ _) (dec_bytes_six _ _ _ _) = refl
  judged_dec_bytes_once v w (dec_bytes_six d h _ against) (dec_bytes_good e k _ agrees) = absurd (against (agrees_once e d k h agrees))
  judged_dec_bytes_once v w (dec_bytes_good d h _ _) (bytes_four k) = absurd (k d h)
  judged_dec_bytes_once v w (dec_bytes_good _ _ h _) (dec_bytes_five _ _ k) = absurd (k h)
  judged_dec_bytes_once v w (dec_bytes_good d h _ agrees) (dec_bytes_six e k _ against) = absurd (against (agrees_once d e h k agrees))
  judged_dec_bytes_once v w (dec_bytes_good _ _ _ _) (dec_bytes_good _ _ _ _) = refl

  pub judged_in_once : (f : Form) (v w : Verdict) → JudgedIn F f o bs v → JudgedIn F f o bs w → v ≡ w
  judged_in_once bare_form = judged_bytes_once
  judged_in_once decorated_form = judged_dec_bytes_once

  -- At most one of 4, 5 and 6 is given.
  pub one_refusal : (m n : ℕ) → JudgedDecBytes F o bs (wrong m) → JudgedDecBytes F o bs (wrong n) → m ≡ n
  one_refusal m n h k = let same : wrong m ≡ wrong n = judged_dec_bytes_once (wrong m) (wrong n) h k in cc
