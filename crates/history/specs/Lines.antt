-- One of several lines, and how an entry of a history is written.
use Rattle.std.specs.Prelude.{ℕ, ◌+◌, ◌*◌, ◌/◌, ◌%◌, ◌^◌, List, [], ◌∷◌, eqb}
use Rattle.std.specs.Prelude.{if◌then◌else◌}
use Rattle.text.specs.Page.{Page, with_byte, written}
use Rattle.text.specs.Digits.{number, prefix}

-- what ends a line
abbrev pub newline : ℕ
newline = 10

-- line n of lines of which the first is line k
unfoldable pub line_from : ℕ → ℕ → List ℕ → List ℕ
line_from k n [] = []
line_from k n (b ∷ s) =
    if eqb b newline then line_from (k + 1) n s else (if eqb k n then b ∷ line_from k n s else line_from k n s)

-- the names of the transfer types, in ASCII, a line each: a type's number is the number of its line
abbrev pub type_names : List ℕ
type_names =
    -- 0, none
    110 ∷ 111 ∷ 110 ∷ 101 ∷ newline ∷
    -- 1, exception
    101 ∷ 120 ∷ 99 ∷ 101 ∷ 112 ∷ 116 ∷ 105 ∷ 111 ∷ 110 ∷ newline ∷
    -- 2, interrupt
    105 ∷ 110 ∷ 116 ∷ 101 ∷ 114 ∷ 114 ∷ 117 ∷ 112 ∷ 116 ∷ newline ∷
    -- 3, trap return
    116 ∷ 114 ∷ 97 ∷ 112 ∷ 32 ∷ 114 ∷ 101 ∷ 116 ∷ 117 ∷ 114 ∷ 110 ∷ newline ∷
    -- 4, branch not taken
    98 ∷ 114 ∷ 97 ∷ 110 ∷ 99 ∷ 104 ∷ 32 ∷ 110 ∷ 111 ∷ 116 ∷ 32 ∷ 116 ∷ 97 ∷ 107 ∷ 101 ∷ 110 ∷ newline ∷
    -- 5, branch taken
    98 ∷ 114 ∷ 97 ∷ 110 ∷ 99 ∷ 104 ∷ 32 ∷ 116 ∷ 97 ∷ 107 ∷ 101 ∷ 110 ∷ newline ∷
    -- 6, reserved
    114 ∷ 101 ∷ 115 ∷ 101 ∷ 114 ∷ 118 ∷ 101 ∷ 100 ∷ newline ∷
    -- 7, reserved
    114 ∷ 101 ∷ 115 ∷ 101 ∷ 114 ∷ 118 ∷ 101 ∷ 100 ∷ newline ∷
    -- 8, indirect call
    105 ∷ 110 ∷ 100 ∷ 105 ∷ 114 ∷ 101 ∷ 99 ∷ 116 ∷ 32 ∷ 99 ∷ 97 ∷ 108 ∷ 108 ∷ newline ∷
    -- 9, direct call
    100 ∷ 105 ∷ 114 ∷ 101 ∷ 99 ∷ 116 ∷ 32 ∷ 99 ∷ 97 ∷ 108 ∷ 108 ∷ newline ∷
    -- 10, indirect jump
    105 ∷ 110 ∷ 100 ∷ 105 ∷ 114 ∷ 101 ∷ 99 ∷ 116 ∷ 32 ∷ 106 ∷ 117 ∷ 109 ∷ 112 ∷ newline ∷
    -- 11, direct jump
    100 ∷ 105 ∷ 114 ∷ 101 ∷ 99 ∷ 116 ∷ 32 ∷ 106 ∷ 117 ∷ 109 ∷ 112 ∷ newline ∷
    -- 12, co-routine swap
    99 ∷ 111 ∷ 45 ∷ 114 ∷ 111 ∷ 117 ∷ 116 ∷ 105 ∷ 110 ∷ 101 ∷ 32 ∷ 115 ∷ 119 ∷ 97 ∷ 112 ∷ newline ∷
    -- 13, function return
    102 ∷ 117 ∷ 110 ∷ 99 ∷ 116 ∷ 105 ∷ 111 ∷ 110 ∷ 32 ∷ 114 ∷ 101 ∷ 116 ∷ 117 ∷ 114 ∷ 110 ∷ newline ∷
    -- 14, other indirect jump
    111 ∷ 116 ∷ 104 ∷ 101 ∷ 114 ∷ 32 ∷ 105 ∷ 110 ∷ 100 ∷ 105 ∷ 114 ∷ 101 ∷ 99 ∷ 116 ∷ 32 ∷ 106 ∷ 117 ∷ 109 ∷ 112 ∷ newline ∷
    -- 15, other direct jump
    111 ∷ 116 ∷ 104 ∷ 101 ∷ 114 ∷ 32 ∷ 100 ∷ 105 ∷ 114 ∷ 101 ∷ 99 ∷ 116 ∷ 32 ∷ 106 ∷ 117 ∷ 109 ∷ 112 ∷ []

-- a number in hexadecimal, with 0x and no zeros in front
abbrev pub hex : Page → ℕ → Page
hex p n = written (written p prefix) (number 16 16 n)

-- what stands between the addresses and the type, and between source and target: an arrow between spaces
abbrev pub space : ℕ
space = 32

abbrev pub arrow : List ℕ
arrow = space ∷ 45 ∷ 62 ∷ space ∷ []

-- an entry without its count: source and target, bit 0 apart, and the type
unfoldable pub path_line : Page → ℕ → ℕ → ℕ → Page
path_line p source target «data» =
    let path = hex (written (hex p (source / 2 * 2)) arrow) (target / 2 * 2) in
    written (with_byte path space) (line_from 0 («data» % 2 ^ 4) type_names)
