-- Bytes as 64-bit words.
use Rattle.std.specs.Prelude.{ℕ, List, map}
use Rattle.std.specs.Int.{w64, from_le_bytes}
use Rattle.std.specs.Simd.{first_chunks}

-- the first n words of some bytes: eight bytes each, the least significant first
unfoldable pub words_of : ℕ → List ℕ → List ℕ
words_of n bytes = map (from_le_bytes w64) (first_chunks 8 n bytes)
