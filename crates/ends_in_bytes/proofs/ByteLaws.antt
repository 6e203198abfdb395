-- The library's words on eight bytes are those of meaning.
use mathlib.Core.Path.{◌≡◌, refl, ◌∙◌, ap}
use mathlib.Core.List.{List, reverse}
use Prim.Native.Nat.{ℕ, ◌+◌, ◌*◌, ◌^◌, ◌/◌, ◌%◌}
use native.Mathlib.Omega.{arith}
use lib.ListN.{length, get_or}
use Rattle.std.specs.Int.{w64, from_le_bytes, from_be_bytes, to_le_bytes, to_be_bytes}
use Rattle.meaning.specs.Bytes.{from_digits, to_digits}
use Rattle.ends_in_bytes.proofs.Spelled.{spelled, spelled_back}

pub from_little : (d : List ℕ) → length d ≡ 8 → from_le_bytes w64 d ≡ from_digits d
from_little d eight = summed ∙ omega (arith, ap from_digits (spelled 8 d eight))
  where
    summed : from_le_bytes w64 d ≡ get_or d 0 0 + get_or d 1 0 * 2 ^ 8 + get_or d 2 0 * 2 ^ 16 + get_or d 3 0 * 2 ^ 24 + get_or d 4 0 * 2 ^ 32 + get_or d 5 0 * 2 ^ 40 + get_or d 6 0 * 2 ^ 48 + get_or d 7 0 * 2 ^ 56
    summed = refl

pub from_big : (d : List ℕ) → length d ≡ 8 → from_be_bytes w64 d ≡ from_digits (reverse d)
from_big d eight = summed ∙ omega (arith, ap from_digits (spelled_back d eight))
  where
    summed : from_be_bytes w64 d ≡ get_or d 0 0 * 2 ^ 56 + get_or d 1 0 * 2 ^ 48 + get_or d 2 0 * 2 ^ 40 + get_or d 3 0 * 2 ^ 32 + get_or d 4 0 * 2 ^ 24 + get_or d 5 0 * 2 ^ 16 + get_or d 6 0 * 2 ^ 8 + get_or d 7 0
    summed = refl

-- A byte is what is left of the number once the lower ones are taken off.
pub to_little : (n : ℕ) → to_le_bytes w64 n ≡ to_digits 8 n
to_little n =
    let second : n / 256 ^ 2 % 256 ≡ n / 256 / 256 % 256 = omega arith in
    let third : n / 256 ^ 3 % 256 ≡ n / 256 / 256 / 256 % 256 = omega arith in
    let fourth : n / 256 ^ 4 % 256 ≡ n / 256 / 256 / 256 / 256 % 256 = omega arith in
    let fifth : n / 256 ^ 5 % 256 ≡ n / 256 / 256 / 256 / 256 / 256 % 256 = omega arith in
    let sixth : n / 256 ^ 6 % 256 ≡ n / 256 / 256 / 256 / 256 / 256 / 256 % 256 = omega arith in
    let seventh : n / 256 ^ 7 % 256 ≡ n / 256 / 256 / 256 / 256 / 256 / 256 / 256 % 256 = omega arith in
    cc

pub to_big : (n : ℕ) → to_be_bytes w64 n ≡ reverse (to_digits 8 n)
to_big n = ap reverse (to_little n)
