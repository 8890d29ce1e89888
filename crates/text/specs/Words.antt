-- Whether two texts are the same.
use Rattle.std.specs.Prelude.{ℕ, zero, suc, Bool, true, ◌&&◌, List, eqb, length, get_or}

-- in the first n bytes
unfoldable pub same_to : List ℕ → List ℕ → ℕ → Bool
same_to a b zero = true
same_to a b (suc n) = same_to a b n && eqb (get_or a n 0) (get_or b n 0)

-- as long, and the same in all
unfoldable pub is_same : List ℕ → List ℕ → Bool
is_same a b = eqb (length a) (length b) && same_to a b (length a)
