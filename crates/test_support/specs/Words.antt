-- Words for test programs, in plain arithmetic: a pseudo-random sequence, and a digest of the words that a test saw.
use Rattle.std.specs.Prelude.{ℕ, ◌+◌, ◌*◌, ◌/◌, ◌%◌, ◌^◌, bit_xor, List, [], ◌∷◌}

-- x, exclusive or x shifted up by k bits
abbrev pub xor_up : ℕ → ℕ → ℕ
xor_up k x = bit_xor x (x * 2 ^ k % 2 ^ 64)

-- x, exclusive or x shifted down by k bits
abbrev pub xor_down : ℕ → ℕ → ℕ
xor_down k x = bit_xor x (x / 2 ^ k)

-- the word after x: Marsaglia's xorshift of 64 bits, with the shifts 13, 7 and 17
unfoldable pub xorshift : ℕ → ℕ
xorshift x = xor_up 17 (xor_down 7 (xor_up 13 x))

-- the word h rotated five bits to the left
unfoldable pub rotated : ℕ → ℕ
rotated h = h * 2 ^ 5 % 2 ^ 64 + h / 2 ^ 59

-- the digest h with the word w taken in
unfoldable pub digested : ℕ → ℕ → ℕ
digested h w = (bit_xor (rotated h) w + 0x9E3779B97F4A7C15) % 2 ^ 64

-- and with words taken in, the first one first
abbrev pub digested_all : ℕ → List ℕ → ℕ
digested_all h [] = h
digested_all h (w ∷ ws) = digested_all (digested h w) ws

-- where every sequence of words starts
abbrev pub seed : ℕ
seed = 88172645463325252
