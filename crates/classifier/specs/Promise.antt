-- What those above the classifier may rely on beside the contract of `classify`, and all that they may: the definition of
-- `transfer_of` is no part of it. The switch zc says whether the machine has Zcmp and Zcmt.
use Rattle.std.specs.Prelude.{ℕ, ◌%◌, ◌^◌, ◌≤◌, ◌≡◌, Bool, true, false, not, ◌&&◌, ◌||◌, ◌⊎◌, ◌↔◌, eqb}
use Rattle.classifier.specs.Instructions.{is16, C·FSDSP}
use Rattle.classifier.specs.Transfers.{is_branch, is_indirect_call, is_direct_call, is_indirect_jump, is_direct_jump, is_coroutine_swap, is_function_return, is_other_indirect_jump, is_other_direct_jump, is_table_jump, is_table_call, is_pop_return, transfer_of, instruction_of, type_of}
use Rattle.classifier.specs.declared.Transfer.{Transfer}
use Rattle.classifier.specs.declared.Transfer.TheVariants.{None, Branch, IndirectCall, DirectCall, IndirectJump, DirectJump, CoroutineSwap, FunctionReturn, OtherIndirectJump, OtherDirectJump}

-- the row of the table that has the transfer, with the switch off; a word that is in no row is none
abbrev pub in_table : Transfer → ℕ → Bool
in_table Branch w = is_branch w
in_table IndirectCall w = is_indirect_call w
in_table DirectCall w = is_direct_call w
in_table IndirectJump w = is_indirect_jump w
in_table DirectJump w = is_direct_jump w
in_table CoroutineSwap w = is_coroutine_swap w
in_table FunctionReturn w = is_function_return w
in_table OtherIndirectJump w = is_other_indirect_jump w
in_table OtherDirectJump w = is_other_direct_jump w
in_table None w =
    not (is_branch w || is_indirect_call w || is_direct_call w || is_indirect_jump w || is_direct_jump w
    || is_coroutine_swap w || is_function_return w || is_other_indirect_jump w || is_other_direct_jump w)

-- the same with the switch zc: on, three rows have more words
abbrev pub in_row : Bool → Transfer → ℕ → Bool
in_row zc Branch w = in_table Branch w
in_row zc IndirectCall w = in_table IndirectCall w
in_row zc DirectCall w = in_table DirectCall w || (zc && is_table_call w)
in_row zc IndirectJump w = in_table IndirectJump w
in_row zc DirectJump w = in_table DirectJump w || (zc && is_table_jump w)
in_row zc CoroutineSwap w = in_table CoroutineSwap w
in_row zc FunctionReturn w = in_table FunctionReturn w || (zc && is_pop_return w)
in_row zc OtherIndirectJump w = in_table OtherIndirectJump w
in_row zc OtherDirectJump w = in_table OtherDirectJump w
in_row zc None w = in_table None w && not (zc && (is_table_call w || is_table_jump w || is_pop_return w))

-- the type of a word with the switch zc: the number of the row that has it, a branch by whether it is taken, and 0 where none has it
pub data HasType (zc : Bool) (w : ℕ) : Bool → ℕ → Type 0 where
  branch_not_taken : in_row zc Branch w ≡ true → HasType zc w false 4
  branch_taken : in_row zc Branch w ≡ true → HasType zc w true 5
  indirect_call : {taken : Bool} → in_row zc IndirectCall w ≡ true → HasType zc w taken 8
  direct_call : {taken : Bool} → in_row zc DirectCall w ≡ true → HasType zc w taken 9
  indirect_jump : {taken : Bool} → in_row zc IndirectJump w ≡ true → HasType zc w taken 10
  direct_jump : {taken : Bool} → in_row zc DirectJump w ≡ true → HasType zc w taken 11
  coroutine_swap : {taken : Bool} → in_row zc CoroutineSwap w ≡ true → HasType zc w taken 12
  function_return : {taken : Bool} → in_row zc FunctionReturn w ≡ true → HasType zc w taken 13
  other_indirect_jump : {taken : Bool} → in_row zc OtherIndirectJump w ≡ true → HasType zc w taken 14
  other_direct_jump : {taken : Bool} → in_row zc OtherDirectJump w ≡ true → HasType zc w taken 15
  none : {taken : Bool} → in_row zc None w ≡ true → HasType zc w taken 0

-- the type that a word is given, with the switch zc
abbrev pub word_type : Bool → ℕ → Bool → ℕ
word_type zc w taken = type_of (transfer_of zc w) taken

-- none, a branch's two types, or a jump's eight. Never 1, 2 or 3, which are events of their own, and never 6 or 7
abbrev pub WordType : ℕ → Type 0
WordType n = (n ≡ 0) ⊎ (n ≡ 4) ⊎ (n ≡ 5) ⊎ ((8 ≤ n) × (n ≤ 15))

pub record Promise : Type 0 where
  -- a word is in a row exactly if it is the transfer of that row: so each word is in one row or is none, and in no two
  pub rows : (zc : Bool) (t : Transfer) (w : ℕ) → in_row zc t w ≡ eqb (type_of (transfer_of zc w) true) (type_of t true)
  -- the number of each type, 4 and 5 of a branch by taken: a word has the number of its row and no other
  pub numbers : (zc : Bool) (w : ℕ) (taken : Bool) (n : ℕ) → word_type zc w taken ≡ n ↔ HasType zc w taken n
  -- the length: 4 if the two low bits are 11, else 2
  pub long : (zc : Bool) (w : ℕ) → w % 4 ≡ 3 → (instruction_of zc w).length ≡ 4
  pub short : (zc : Bool) (w : ℕ) → (w % 4 ≡ 3 → ⊥) → (instruction_of zc w).length ≡ 2
  -- with the switch off nothing is other than by the table alone, and every word that has a code of C.FSDSP is none
  pub switched_off : (t : Transfer) (w : ℕ) → in_table t w ≡ eqb (type_of (transfer_of false w) true) (type_of t true)
  pub codes : (w : ℕ) → C·FSDSP w ≡ true → transfer_of false w ≡ None
  -- the switch changes no word that has no such code
  pub outside : (w : ℕ) → C·FSDSP w ≡ false → transfer_of true w ≡ transfer_of false w
  -- the upper half of a 16-bit instruction has no influence
  pub upper_half : (zc : Bool) (w : ℕ) → is16 w ≡ true → instruction_of zc w ≡ instruction_of zc (w % 2 ^ 16)
  -- the types that a word can have
  pub types : (t : Transfer) (taken : Bool) → WordType (type_of t taken)
  -- whether it is taken is asked of a branch alone
  pub taken : (t : Transfer) → (t ≡ Branch → ⊥) → (a b : Bool) → type_of t a ≡ type_of t b
  -- two transfers have two numbers
  pub distinct : (t u : Transfer) → type_of t true ≡ type_of u true → t ≡ u
