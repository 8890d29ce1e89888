-- Counts of what happened.
use Rattle.std.specs.Prelude.{ℕ, ◌+◌, ◌%◌, ◌^◌, Bool, true, List, length, get_or, set, ltb}
use Rattle.std.specs.Prelude.{if◌then◌else◌}

-- one more where it happened, in 64 bits
abbrev pub counted : ℕ → Bool → ℕ
counted n happened = if happened then (n + 1) % 2 ^ 64 else n

-- one more at a place, if it is there
abbrev pub counted_at : List ℕ → ℕ → List ℕ
counted_at counts place = if ltb place (length counts) then set counts place (counted (get_or counts place 0) true) else counts
