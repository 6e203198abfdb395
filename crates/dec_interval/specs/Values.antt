-- The right answers of the functions that make decorated intervals and take them apart.
use Rattle.std.specs.Prelude.{◌≡◌, ℕ}
use Rattle.patterns.specs.Format.{Format, quiet_nan}
use Rattle.meaning.specs.Sets.{Set}
use Rattle.meaning.specs.Pairs.{Pair, NaNs, set_of}
use Rattle.meaning.specs.Decorations.{Decoration, Ill, settled}
use Rattle.meaning.specs.Statement.{DecPair, nai}
use Rattle.meaning.specs.Bytes.{Tidied}

-- set_dec: "Ill gives NaI; otherwise EMPTY gets Trv; Com with an infinite end becomes Dac; else unchanged."
pub data SetDec (F : Format) (d : Decoration) (x : Pair) : DecPair → Type 0 where
  set_nai : d ≡ Ill → SetDec F d x (nai F)
  set_interval : {z : DecPair} → (d ≡ Ill → ⊥) → Tidied F x z.pair → z.decoration ≡ settled (set_of F x) d → SetDec F d x z

-- The interval part of a decorated interval.
pub data Part : Type 0 where
  part : Pair → Part
  no_part : Part

-- NaI has no interval part.
pub data PartOf (F : Format) (x : DecPair) : Part → Type 0 where
  is_part : {p : Pair} → (NaNs F x.pair → ⊥) → Tidied F x.pair p → PartOf F x (part p)
  is_missing : NaNs F x.pair → PartOf F x no_part

-- An end of a decorated interval as the bytes have it. The crate: "A NaN is returned if `self` is NaI."
pub data DecEndOf (F : Format) (EndOf : Pair → ℕ → Type 0) (x : DecPair) : ℕ → Type 0 where
  nan_end : NaNs F x.pair → DecEndOf F EndOf x (quiet_nan F)
  part_end : {r : ℕ} → (NaNs F x.pair → ⊥) → EndOf x.pair r → DecEndOf F EndOf x r

-- What is asked of the interval part. The crate: "`false` is returned if `self` is NaI."
pub record OfPart (F : Format) (P : Set → Type 0) (x : DecPair) : Type 0 where
  pub part : NaNs F x.pair → ⊥
  pub holds : P (set_of F x.pair)
