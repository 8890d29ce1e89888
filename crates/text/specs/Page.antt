-- A buffer that text is written into, one byte after the other. A byte past the end is dropped.
use Rattle.std.specs.Prelude.{ℕ, ◌+◌, List, [], ◌∷◌, length, set, ltb, ◌≡◌}
use Rattle.std.specs.Prelude.{if◌then◌else◌}
use Rattle.text.specs.declared.Page as declared

-- the buffer's bytes, and the place of the next one
pub record Page : Type 0 where
  pub bytes : List ℕ
  pub at : ℕ

-- the page with these bytes, and n the place of the next one
abbrev pub page : ℕ → List ℕ → Page
page n bs = record { bytes = bs; at = n }

-- nothing written yet on a buffer with these bytes
abbrev pub empty : List ℕ → Page
empty bs = page 0 bs

-- what is on a page of the code
abbrev pub shown : declared.Page → Page
shown p = page p.at p.bytes.now

-- two pages of the code over one lent buffer: its lender learns from the last of them what the buffer holds
abbrev pub OneBuffer : declared.Page → declared.Page → Type 0
OneBuffer p q = p.bytes.ghost_name ≡ q.bytes.ghost_name

-- one more byte, where there is room for it
unfoldable pub with_byte : Page → ℕ → Page
with_byte p b = if ltb p.at (length p.bytes) then page (p.at + 1) (set p.bytes p.at b) else p

-- bytes one after the other
unfoldable pub written : Page → List ℕ → Page
written p [] = p
written p (b ∷ s) = written (with_byte p b) s
