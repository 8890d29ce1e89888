-- The published words have their types, by computation. Assumes nothing.
use mathlib.Core.Path.{refl}
use Rattle.classifier.specs.Transfers.{plain_transfer, transfer_of}
use Rattle.classifier.specs.Vectors.{Vectors}

pub vectors : Vectors
unfolding plain_transfer transfer_of
vectors = (
  (refl, refl),
  (refl, refl),
  (refl, refl),
  (refl, refl),
  (refl, refl),
  (refl, refl),
  (refl, refl),
  (refl, refl),
  (refl, refl),
  (refl, refl),
  (refl, refl),
  (refl, refl),
  (refl, refl),
  (refl, refl),
  (refl, refl),
  (refl, refl),
  (refl, refl),
  (refl, refl),
  (refl, refl),
  (refl, refl),
  (refl, refl),
  (refl, refl),
  (refl, refl),
  (refl, refl),
  (refl, refl),
  (refl, refl),
  (refl, refl),
  (refl, refl),
  (refl, refl),
)
