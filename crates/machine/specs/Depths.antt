-- The depth of a depth code, and where logical entries lie.
use Rattle.std.specs.Prelude.{ℕ, ◌+◌, ◌-◌, ◌%◌, ◌^◌, min}

-- the largest depth code
abbrev pub top_code : ℕ
top_code = 4

-- the depth of a depth code: 16, 32, 64, 128, 256; all codes above the largest count as it
unfoldable pub depth_of : ℕ → ℕ
depth_of code = 2 ^ (4 + min code top_code)

-- the physical entry of logical entry i: (WRPTR - 1 - i) modulo the depth
unfoldable pub physical_of : ℕ → ℕ → ℕ → ℕ
physical_of code wrptr i = (wrptr % depth_of code + (depth_of code - 1 - i % depth_of code)) % depth_of code
