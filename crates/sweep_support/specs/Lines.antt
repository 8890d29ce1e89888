-- Lines of a name and a number, written on a page.
use Rattle.std.specs.Prelude.{ℕ, zero, suc, List, [], ◌∷◌, length, get_or}
use Rattle.text.specs.Page.{Page, with_byte, written}
use Rattle.text.specs.Digits.{digits, number}

-- a space, and what ends a line
abbrev pub space : ℕ
space = 32

abbrev pub newline : ℕ
newline = 10

-- a name, and a word in hexadecimal
unfoldable pub word_line : Page → List ℕ → ℕ → Page
word_line p name w = with_byte (written (written p name) (digits 16 16 w)) newline

-- a name, and a count in decimal
unfoldable pub count_line : Page → List ℕ → ℕ → Page
count_line p name count = with_byte (written (written p name) (number 10 20 count)) newline

-- a name with a number, and a count
unfoldable pub numbered_line : Page → List ℕ → ℕ → ℕ → Page
numbered_line p name k count = count_line (written (written p name) (number 10 20 k)) (space ∷ []) count

-- such lines for the first n counts
unfoldable pub numbered_lines : Page → List ℕ → List ℕ → ℕ → Page
numbered_lines p name counts zero = p
numbered_lines p name counts (suc n) = numbered_line (numbered_lines p name counts n) name n (get_or counts n 0)

-- how often each number was answered: those from 0 up, then 8
unfoldable pub number_lines : Page → List ℕ → List ℕ → ℕ → Page
number_lines p name counts eights = numbered_line (numbered_lines p name counts (length counts)) name 8 eights

-- a count behind a space, and the first n counts so
unfoldable pub cell : Page → ℕ → Page
cell p count = written (with_byte p space) (number 10 20 count)

unfoldable pub cells : Page → List ℕ → ℕ → Page
cells p counts zero = p
cells p counts (suc n) = cell (cells p counts n) (get_or counts n 0)

-- counts in a row
unfoldable pub row_line : Page → List ℕ → Page
row_line p counts = with_byte (cells p counts (length counts)) newline
