-- Big-endian words of a list of bytes.
use Rattle.std.specs.Prelude.{List, ℕ, ◌+◌, ◌*◌, ◌^◌, get_or}

-- The four bytes from `at` on.
abbrev pub half_at : List ℕ → ℕ → ℕ
half_at s at = (get_or s at 0 * 2 ^ 8 + get_or s (at + 1) 0) * 2 ^ 16 + (get_or s (at + 2) 0 * 2 ^ 8 + get_or s (at + 3) 0)

-- The eight bytes from `at` on.
unfoldable pub word_at : List ℕ → ℕ → ℕ
word_at s at = half_at s at * 2 ^ 32 + half_at s (at + 4)
