-- What a run over two slices puts into the second. Assumes nothing.
use Rattle.std.proofs.Common.{◌≡◌, ℕ, suc, ◌<◌, min, Bool, true, List, [], ◌∷◌, length, slice_index, arith}
use Rattle.std.proofs.lemmas.Grind.{same_number_lists}
use Rattle.std.specs.List.{SameFrom}
use Rattle.classifier.specs.Transfers.{transfer_of, type_of}
use Rattle.classifier.specs.Exports.{classified}

-- place by place: the type of the word at the place, and from the last word on what was there
pub filled : (zc : Bool) (ws ts us : List ℕ) → length us ≡ length ts
    → ((k : ℕ) → k < min (length ws) (length ts) → slice_index us k ≡ type_of (transfer_of zc (slice_index ws k)) true)
    → SameFrom ts us (min (length ws) (length ts)) → us ≡ classified zc ws ts
unfolding classified
filled zc [] ts us e h s = same_number_lists us ts e (λ k l. s k 0 (omega arith))
filled zc (w ∷ ws) [] us e h s = same_number_lists us [] e (λ k l. absurd (omega arith))
filled zc (w ∷ ws) (t ∷ ts) [] e h s = absurd (omega arith)
filled zc (w ∷ ws) (t ∷ ts) (u ∷ us) e h s =
    let first = h 0 (omega arith) in
    let rest = filled zc ws ts us (omega arith) (λ k l. h (suc k) (omega arith)) (λ k d l. s (suc k) d (omega arith)) in
    cc
