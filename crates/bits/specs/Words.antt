-- Bits and fields of a number, in plain arithmetic, what masks make of it, and whether it lies in a range.
use Rattle.std.specs.Prelude.{ℕ, ◌-◌, ◌/◌, ◌%◌, ◌^◌, Bool, ◌&&◌, leb}
use Rattle.std.specs.Int.Bits.{bit_and, bit_or}

-- bit n of x: 0 or 1
abbrev pub bit_at : ℕ → ℕ → ℕ
bit_at x n = x / 2 ^ n % 2

-- the k bits of x from bit n up
abbrev pub field_at : ℕ → ℕ → ℕ → ℕ
field_at x n k = x / 2 ^ n % 2 ^ k

-- the bits of x that are also in m: Rust's `x & m`. Bit by bit it is the law `bit_keep`
unfoldable pub keep : ℕ → ℕ → ℕ
keep m x = bit_and x m

-- the bits of x and those of y: Rust's `x | y`. Bit by bit it is the law `bit_joined`
unfoldable pub joined : ℕ → ℕ → ℕ
joined x y = bit_or x y

-- the bits of x that are not in y, of 64-bit words: Rust's `x & !y`
unfoldable pub without : ℕ → ℕ → ℕ
without x y = bit_and x (2 ^ 64 - 1 - y)

-- a number from the first to the last
abbrev pub is_from_to : ℕ → ℕ → ℕ → Bool
is_from_to first last n = leb first n && leb n last
