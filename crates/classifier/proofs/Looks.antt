-- What a filled table shows: the type of a word by three looks. Assumes nothing.
use Rattle.std.proofs.Common.{◌≡◌, ap, ◌∙◌, Bool, true, ℕ, ◌+◌, ◌*◌, ◌<◌, List, slice_index, arith}
use borrow.Author.Tests.{lt-ltb, le-ltb}
use Rattle.bits.specs.Words.{field_at}
use Rattle.classifier.specs.Transfers.{transfer_of, type_of}
use Rattle.classifier.specs.Tables.{row_of, column_of, key_of, specimen_of, cell_of, Table}
use Rattle.classifier.specs.declared.Transfer.{Transfer}
use Rattle.classifier.proofs.Specimens.{key_bound}
use Rattle.classifier.proofs.Switch.{specimen_transfer}

-- a cell, by the part of the table that it is in
row_cell : (zc : Bool) (i : ℕ) → i < 4096 → cell_of zc i ≡ row_of i
unfolding cell_of
row_cell zc i h = simp (lt-ltb i 4096 h)

column_cell : (zc : Bool) (i : ℕ) → i < 256 → cell_of zc (4096 + i) ≡ column_of i
unfolding cell_of
column_cell zc i h = simp (le-ltb (4096 + i) 4096 (omega arith), lt-ltb (4096 + i) 4352 (omega arith)) (ap column_of (omega arith))

type_cell : (zc : Bool) (k : ℕ) → cell_of zc (4352 + k) ≡ type_of (transfer_of zc (specimen_of k)) true
unfolding cell_of
type_cell zc k =
    simp (le-ltb (4352 + k) 4096 (omega arith), le-ltb (4352 + k) 4352 (omega arith))
    (ap (λ (k : ℕ). type_of (transfer_of zc (specimen_of k)) true) (omega arith))

-- the row and the column that are found for a word
module _ (zc : Bool) (cells : List ℕ) (w row column : ℕ) (table : Table zc cells)
    (is_row : row ≡ slice_index cells (field_at w 0 12)) (is_column : column ≡ slice_index cells (4096 + field_at w 12 8)) where
  key : 4 * row + column ≡ key_of w
  unfolding key_of
  key =
      let r = is_row ∙ table (field_at w 0 12) (omega arith) ∙ row_cell zc (field_at w 0 12) (omega arith) in
      let c = is_column ∙ table (4096 + field_at w 12 8) (omega arith) ∙ column_cell zc (field_at w 12 8) (omega arith) in
      omega arith

  -- so there is a third look, and what is tabled there is the word's type
  pub within : 4352 + (4 * row + column) < 5376
  within = omega (arith, key, key_bound w)

  pub looked : slice_index cells (4352 + (4 * row + column)) ≡ type_of (transfer_of zc w) true
  looked =
      rw key
      (table (4352 + key_of w) (omega (arith, key_bound w)) ∙ type_cell zc (key_of w)
      ∙ ap (λ (t : Transfer). type_of t true) (specimen_transfer zc w))
