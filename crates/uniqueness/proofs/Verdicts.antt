-- Every operand has a verdict.
use mathlib.Core.List.{List}
use Prim.Native.Nat.{ℕ}
use Rattle.patterns.specs.Format.{Format}
use Rattle.meaning.specs.Pairs.{Pair}
use Rattle.meaning.specs.Decorations.{Decoration}
use Rattle.meaning.specs.Statement.{Verdict, sound, wrong, JudgedBare, bare_five, bare_good, DecPair, JudgedDecorated, decorated_five, decorated_six, decorated_good}
use Rattle.meaning.specs.Bytes.{ByteOrder, read_pair, SaysDecoration, JudgedBytes, bytes_five, bytes_good, JudgedDecBytes, bytes_four, dec_bytes_five, dec_bytes_six, dec_bytes_good}
use Rattle.uniqueness.proofs.Decisions.{dec_bare, dec_ends, dec_canonical, dec_bytes_ends, dec_agrees, dec_says}

pub judged_bare : (F : Format) (x : Pair) → (v : Verdict) × JudgedBare F x v
judged_bare F x = elim (dec_bare F x) [ yes h ↦ (sound, bare_good h) | no h ↦ (wrong 5, bare_five h) ]

pub judged_decorated : (F : Format) (x : DecPair) → (v : Verdict) × JudgedDecorated F x v
judged_decorated F x =
    elim (dec_ends F x.pair) [
      | yes h ↦ elim (dec_agrees F x) [ yes k ↦ (sound, decorated_good h k) | no k ↦ (wrong 6, decorated_six h k) ]
      | no h ↦ (wrong 5, decorated_five h)
    ]

pub judged_bytes : (F : Format) (o : ByteOrder) (bs : List ℕ) → (v : Verdict) × JudgedBytes F o bs v
judged_bytes F o bs = elim (dec_canonical F (read_pair o bs)) [ yes h ↦ (sound, bytes_good h) | no h ↦ (wrong 5, bytes_five h) ]

module _ (F : Format) (o : ByteOrder) (bs : List ℕ) where
  -- The seventeenth byte says a decoration.
  judged_saying : (d : Decoration) → SaysDecoration bs d → (v : Verdict) × JudgedDecBytes F o bs v
  judged_saying d says =
      elim (dec_bytes_ends F (read_pair o bs)) [
        | yes h ↦ elim (dec_agrees F (record { pair = read_pair o bs; decoration = d })) [
          | yes k ↦ (sound, dec_bytes_good d says h k)
          | no k ↦ (wrong 6, dec_bytes_six d says h k)
        ]
        | no h ↦ (wrong 5, dec_bytes_five d says h)
      ]

  pub judged_dec_bytes : (v : Verdict) × JudgedDecBytes F o bs v
  judged_dec_bytes =
      elim (dec_says bs) [ yes h ↦ judged_saying h.0 h.1 | no h ↦ (wrong 4, bytes_four (λ d says. h (d, says))) ]
