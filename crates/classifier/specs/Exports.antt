-- What the functions for other languages do to lent slices.
use Rattle.std.specs.Prelude.{ℕ, Bool, true, List, [], ◌∷◌}
use Rattle.classifier.specs.Transfers.{transfer_of, type_of}

-- the type of each word, with the switch zc and a branch as taken, for as many words as there are places; further places stay
unfoldable pub classified : Bool → List ℕ → List ℕ → List ℕ
classified zc (w ∷ ws) (t ∷ ts) = type_of (transfer_of zc w) true ∷ classified zc ws ts
classified zc [] ts = ts
classified zc (w ∷ ws) [] = []
