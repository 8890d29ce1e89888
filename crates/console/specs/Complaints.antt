-- The line that says why something failed.
use Rattle.std.specs.Prelude.{ℕ, List, [], ◌∷◌, ◌++◌, Option}
use Rattle.std.specs.Io.KnownBytes.{Appends}

-- what a writer holds grows by what failed, a colon and a space, some words, and the end of the line
abbrev pub AppendsComplaint : Option (List ℕ) → Option (List ℕ) → List ℕ → Type 0
AppendsComplaint old new what = (words : List ℕ) × Appends old new (what ++ (58 ∷ 32 ∷ (words ++ (10 ∷ []))))
