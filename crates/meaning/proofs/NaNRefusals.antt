-- Ticket 4: "any other NaN in either end gets 5", by value and in bytes. In a bare interval every NaN is another.
use mathlib.Core.Path.{subst⁻¹}
use mathlib.Core.List.{List}
use mathlib.Core.Logic.{◌⊎◌}
use Prim.Native.Nat.{ℕ}
use Rattle.patterns.specs.Format.{Format}
use Rattle.meaning.specs.Pairs.{NaN, Bare}
use Rattle.meaning.specs.Statement.{wrong, bare_five, decorated_five, Ends}
use Rattle.meaning.specs.Bytes.{ByteOrder, bytes_five, dec_bytes_five}
use Rattle.meaning.specs.Forms.{Form, bare_form, decorated_form, Value, JudgedValue, JudgedIn, ReadsAs, ends_of, IsNaI}
use Rattle.meaning.proofs.KindLaws.{bytes_ends, bare_no_nan, other_nan_no_ends}

module _ (F : Format) where
  pub other_nan_by_value : (f : Form) (x : Value f) → NaN F (ends_of f x).lower ⊎ NaN F (ends_of f x).upper → (IsNaI F f x → ⊥)
      → JudgedValue F f x (wrong 5)
  other_nan_by_value bare_form x n other = bare_five (λ b. bare_no_nan F b n)
  other_nan_by_value decorated_form x n other = decorated_five (other_nan_no_ends F n other)

  -- Bytes that say no decoration are read as nothing, and get 4.
  pub other_nan_in_bytes : (f : Form) (o : ByteOrder) (bs : List ℕ) (x : Value f) → ReadsAs f o bs x
      → NaN F (ends_of f x).lower ⊎ NaN F (ends_of f x).upper → (IsNaI F f x → ⊥) → JudgedIn F f o bs (wrong 5)
  other_nan_in_bytes bare_form o bs x e n other = bytes_five (λ k. bare_no_nan F (subst⁻¹ (Bare F) e k.bare) n)
  other_nan_in_bytes decorated_form o bs x r n other =
      dec_bytes_five x.decoration r.byte (λ b. other_nan_no_ends F n other (subst⁻¹ (Ends F) r.ends (bytes_ends b)))
