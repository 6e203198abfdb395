-- The right answers of the functions that take intervals apart.
use Rattle.std.specs.Prelude.{◌≡◌, ℕ}
use Rattle.patterns.specs.Format.{Format}
use Rattle.meaning.specs.Pairs.{Pair}
use Rattle.meaning.specs.Bytes.{Tidied}

-- The lower end as the bytes have it: +inf of EMPTY, and -0.0 for a zero.
pub record LowerOf (F : Format) (x : Pair) (r : ℕ) : Type 0 where
  pub tidied : Pair
  pub is : Tidied F x tidied
  pub lower : r ≡ tidied.lower

-- The upper end as the bytes have it: -inf of EMPTY, and +0.0 for a zero.
pub record UpperOf (F : Format) (x : Pair) (r : ℕ) : Type 0 where
  pub tidied : Pair
  pub is : Tidied F x tidied
  pub upper : r ≡ tidied.upper
