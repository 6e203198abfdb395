-- From the steps of reading to the statements of what is read.
use mathlib.Core.Path.{◌≡◌, ap, subst, subst⁻¹}
use mathlib.Core.List.{List}
use Prim.Native.Nat.{ℕ}
use lib.ListN.{get_or}
use Rattle.std.specs.Prelude.{Result, Ok, Err, IsErrAnd}
use Rattle.meaning.specs.Refusals.{Refusal}
use Rattle.patterns.specs.Format.{Format}
use Rattle.meaning.specs.Pairs.{Pair, Canonical, NaNs}
use Rattle.meaning.specs.Decorations as meant
use Rattle.meaning.specs.Statement.{Outcome, refused, refusal_at, Found₁, Answered₁, first₁, right₁, DecPair, sound, Agrees, JudgedDecorated, decorated_five, decorated_six}
use Rattle.meaning.specs.Bytes.{ByteOrder, read_pair, SaysDecoration, BytesEnds, canonical_ends, nan_ends, bytes_four, dec_bytes_five, dec_bytes_six, dec_bytes_good}
use Rattle.meaning.specs.Forms.{decorated_form, Reading}
use Rattle.meaning.proofs.KindLaws.{bytes_ends}
use Rattle.refusals.specs.RefusalMeaning.{number_of, first_outcome, verdict_of}
use Rattle.refusals.specs.declared.Fault.{Fault}
use Rattle.decorations.specs.DecorationMeaning.{decoration_of}
use Rattle.decorations.specs.DecorationBytes.{SaidBy, says, says_none}
use Rattle.decorations.specs.declared.types.Decoration.{Decoration}
use Rattle.refusals.proofs.FoundLaws.{passed_on}
use Rattle.lent_intervals.specs.Reading.{JudgedRead, read_five, read_six, read_good}

-- The decoration that a byte says.
pub known : {b : ℕ} {r : Result Decoration Fault} {d : Decoration} → SaidBy b r → r ≡ Ok d → b ≡ meant.decoration_byte (decoration_of d)
known {b} s e = go (subst (SaidBy b) e s)
  where
    go : {b : ℕ} {d : Decoration} → SaidBy b (Ok d) → b ≡ meant.decoration_byte (decoration_of d)
    go (says e) = e

module _ {F : Format} where
  pub only_nans : {p : Pair} → (Canonical F p → ⊥) → BytesEnds F p → NaNs F p
  only_nans n (canonical_ends k) = absurd (n k)
  only_nans n (nan_ends m) = m

  pub good_agrees : {x : DecPair} → JudgedRead F x sound → Agrees F x
  good_agrees (read_good b a) = a

  -- What is wrong with ends that bytes may have is their decoration.
  pub wrong_read : {A : Type 0} (meaning : A → DecPair) {x : DecPair} {r : Result (Unit {0}) Fault} {fault : Fault} (s : Result A Fault) → BytesEnds F x.pair
      → Found₁ (JudgedDecorated F) x (verdict_of r) → r ≡ Err fault → IsErrAnd s (λ e. e ≡ fault)
      → Answered₁ (JudgedRead F) (λ x z. z ≡ x) x (first_outcome meaning s)
  wrong_read {A} meaning {x} {fault = fault} s b found e h =
      subst⁻¹ (λ (t : Result A Fault). Answered₁ (JudgedRead F) (λ x z. z ≡ x) x (first_outcome meaning t)) (passed_on s h)
      (go (subst (λ (v : Result (Unit {0}) Fault). Found₁ (JudgedDecorated F) x (verdict_of v)) e found))
    where
      go : {r : Refusal} → Found₁ (JudgedDecorated F) x (refused r) → Answered₁ (JudgedRead F) (λ x z. z ≡ x) x (refused r)
      go (first₁ (decorated_five n)) = absurd (n (bytes_ends b))
      go (first₁ (decorated_six e a)) = first₁ (read_six b a)

  -- What is read of the ends and a decoration that the bytes say is read of the bytes.
  pub read_known : {o : ByteOrder} {bs : List ℕ} {p : Pair} {d : meant.Decoration} {out : Outcome DecPair} → SaysDecoration bs d
      → p ≡ read_pair o bs → Answered₁ (JudgedRead F) (λ x z. z ≡ x) (record { pair = p; decoration = d }) out
      → Reading F decorated_form o bs out
  read_known {o} {bs} {p} {d} {out} s e a =
      go (subst (λ (q : Pair). Answered₁ (JudgedRead F) (λ x z. z ≡ x) (record { pair = q; decoration = d }) out) e a)
    where
      go : {out : Outcome DecPair} → Answered₁ (JudgedRead F) (λ x z. z ≡ x) (record { pair = read_pair o bs; decoration = d }) out
          → Reading F decorated_form o bs out
      go (first₁ (read_five n)) = first₁ (dec_bytes_five d s n)
      go (first₁ (read_six b a)) = first₁ (dec_bytes_six d s b a)
      go (right₁ (read_good b a) e) =
          right₁ (dec_bytes_good d s b a)
          (record { ends = ap (λ (x : DecPair). x.pair) e; byte = subst⁻¹ (SaysDecoration bs) (ap (λ (x : DecPair). x.decoration) e) s })

  -- A byte that says no decoration is refused.
  pub unknown_read : {A : Type 0} (meaning : A → DecPair) {o : ByteOrder} {bs : List ℕ} {r : Result Decoration Fault} {fault : Fault} (s : Result A Fault)
      → SaidBy (get_or bs 16 0) r → r ≡ Err fault → IsErrAnd s (λ e. e ≡ fault) → Reading F decorated_form o bs (first_outcome meaning s)
  unknown_read {A} meaning {o} {bs} s said e h =
      subst⁻¹ (λ (t : Result A Fault). Reading F decorated_form o bs (first_outcome meaning t)) (passed_on s h) (go (subst (SaidBy (get_or bs 16 0)) e said))
    where
      go : {fault : Fault} → SaidBy (get_or bs 16 0) (Err fault) → Reading F decorated_form o bs (refused (refusal_at (number_of fault) 1))
      go (says_none n) = first₁ (bytes_four (λ d t. n d t.is))
