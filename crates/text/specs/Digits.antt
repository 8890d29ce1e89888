-- Numbers as ASCII digits, and the value of such digits.
use Rattle.std.specs.Prelude.{ℕ, zero, suc, ◌+◌, ◌-◌, ◌*◌, ◌/◌, ◌%◌, List, [], ◌∷◌, ◌++◌, ltb}
use Rattle.std.specs.Prelude.{if◌then◌else◌}

-- the ASCII code of a digit below 16: 0 to 9, then a to f
unfoldable pub glyph : ℕ → ℕ
glyph d = if ltb d 10 then 48 + d else 87 + d

-- the last k digits of n in base b, the most significant first
unfoldable pub digits : ℕ → ℕ → ℕ → List ℕ
digits b zero n = []
digits b (suc k) n = digits b k (n / b) ++ (glyph (n % b) ∷ [])

-- n in base b with no zeros in front, of at most k digits; 0 is one digit
unfoldable pub number : ℕ → ℕ → ℕ → List ℕ
number b zero n = []
number b (suc k) n = if ltb n b then glyph n ∷ [] else number b k (n / b) ++ (glyph (n % b) ∷ [])

-- 0x, which stands before a number in hexadecimal
abbrev pub prefix : List ℕ
prefix = 48 ∷ 120 ∷ []

-- the digit with this ASCII code
unfoldable pub digit_of : ℕ → ℕ
digit_of g = if ltb g 58 then g - 48 else g - 87

-- the number that begins with the digits of v and goes on with these, in base b
unfoldable pub value_from : ℕ → ℕ → List ℕ → ℕ
value_from b v [] = v
value_from b v (g ∷ s) = value_from b (v * b + digit_of g) s

-- the number with these digits in base b
abbrev pub value_of : ℕ → List ℕ → ℕ
value_of b s = value_from b 0 s
