-- The classifier's promise holds. Assumes nothing.
use mathlib.Core.Path.{◌≡◌, refl, sym, ap, subst, ◌∙◌}
use mathlib.Core.Bool.{Bool, true, false, not, ◌||◌, and-true, or-false}
use mathlib.Core.Logic.{inl, inr}
use Prim.Native.Nat.{ℕ, ◌%◌, ◌^◌}
use native.Mathlib.Omega.{arith}
use lib.Dec.{eqb}
use borrow.Author.Tests.{eqb-false, eqb-true, eq-eqb, ne_eqb, not-true}
use Rattle.classifier.specs.Instructions.{is16, C·op, C·funct3, C·funct4, C·rs1, C·rs2, CM·funct6, CM·index, CM·funct2, CM·rlist}
use Rattle.classifier.specs.Transfers.{plain_transfer, transfer_of, instruction_of, type_of}
use Rattle.classifier.specs.Promise.{Promise, in_table, in_row, HasType, word_type, WordType}
use Rattle.classifier.specs.Promise.HasType.{branch_not_taken, branch_taken, indirect_call, direct_call, indirect_jump, direct_jump, coroutine_swap, function_return, other_indirect_jump, other_direct_jump, none}
use Rattle.classifier.specs.declared.Transfer.{Transfer}
use Rattle.classifier.specs.declared.Transfer.TheVariants.{None, Branch, IndirectCall, DirectCall, IndirectJump, DirectJump, CoroutineSwap, FunctionReturn, OtherIndirectJump, OtherDirectJump}
use Rattle.classifier.proofs.Sorted.{Rows, rows_of, distinct, no_branch, no_jalr, no_jal}
use Rattle.classifier.proofs.Switch.{rows_with, sorted, any, no_row, plainly, codes, outside}

-- a word in no row is none
none_row : (t : Transfer) → let n = type_of t true in
    not (eqb n 5 || eqb n 8 || eqb n 9 || eqb n 10 || eqb n 11 || eqb n 12 || eqb n 13 || eqb n 14 || eqb n 15) ≡ eqb n 0
none_row None = refl
none_row Branch = refl
none_row IndirectCall = refl
none_row DirectCall = refl
none_row IndirectJump = refl
none_row DirectJump = refl
none_row CoroutineSwap = refl
none_row FunctionReturn = refl
none_row OtherIndirectJump = refl
none_row OtherDirectJump = refl

rows : (zc : Bool) (t : Transfer) (w : ℕ) → in_row zc t w ≡ eqb (type_of (transfer_of zc w) true) (type_of t true)
unfolding rows_of rows_with any
rows zc None w = sym (no_row zc w) ∙ ap (λ (r : Rows). not (any r)) (sorted zc w) ∙ none_row (transfer_of zc w)
rows zc Branch w = ap (λ (r : Rows). r.r5) (sorted zc w)
rows zc IndirectCall w = ap (λ (r : Rows). r.r8) (sorted zc w)
rows zc DirectCall w = ap (λ (r : Rows). r.r9) (sorted zc w)
rows zc IndirectJump w = ap (λ (r : Rows). r.r10) (sorted zc w)
rows zc DirectJump w = ap (λ (r : Rows). r.r11) (sorted zc w)
rows zc CoroutineSwap w = ap (λ (r : Rows). r.r12) (sorted zc w)
rows zc FunctionReturn w = ap (λ (r : Rows). r.r13) (sorted zc w)
rows zc OtherIndirectJump w = ap (λ (r : Rows). r.r14) (sorted zc w)
rows zc OtherDirectJump w = ap (λ (r : Rows). r.r15) (sorted zc w)

-- with the switch off the rows are those of the table
off : (t : Transfer) (w : ℕ) → in_table t w ≡ in_row false t w
off None w = sym (and-true (in_table None w))
off Branch w = refl
off IndirectCall w = refl
off DirectCall w = sym (or-false (in_table DirectCall w))
off IndirectJump w = refl
off DirectJump w = sym (or-false (in_table DirectJump w))
off CoroutineSwap w = refl
off FunctionReturn w = sym (or-false (in_table FunctionReturn w))
off OtherIndirectJump w = refl
off OtherDirectJump w = refl

-- so the row that has a word is its transfer, and the other way
row_is : (zc : Bool) (t : Transfer) (w : ℕ) → in_row zc t w ≡ true → transfer_of zc w ≡ t
row_is zc t w h = distinct _ t (eqb-true _ _ (sym (rows zc t w) ∙ h))

is_row : (zc : Bool) (t : Transfer) (w : ℕ) → transfer_of zc w ≡ t → in_row zc t w ≡ true
is_row zc t w h = rows zc t w ∙ eq-eqb _ _ (ap (λ (u : Transfer). type_of u true) h)

-- a word's number is that of its row, both ways
has_type : (zc : Bool) (w : ℕ) (taken : Bool) (t : Transfer) → in_row zc t w ≡ true → HasType zc w taken (type_of t taken)
has_type zc w taken None h = none h
has_type zc w true Branch h = branch_taken h
has_type zc w false Branch h = branch_not_taken h
has_type zc w taken IndirectCall h = indirect_call h
has_type zc w taken DirectCall h = direct_call h
has_type zc w taken IndirectJump h = indirect_jump h
has_type zc w taken DirectJump h = direct_jump h
has_type zc w taken CoroutineSwap h = coroutine_swap h
has_type zc w taken FunctionReturn h = function_return h
has_type zc w taken OtherIndirectJump h = other_indirect_jump h
has_type zc w taken OtherDirectJump h = other_direct_jump h

-- the number that a transfer has
number_of : (zc : Bool) (w : ℕ) (taken : Bool) (t : Transfer) → in_row zc t w ≡ true → word_type zc w taken ≡ type_of t taken
number_of zc w taken t h = ap (λ (u : Transfer). type_of u taken) (row_is zc t w h)

of_type : {zc : Bool} {w : ℕ} {taken : Bool} {n : ℕ} → HasType zc w taken n → word_type zc w taken ≡ n
of_type (branch_not_taken h) = number_of _ _ false Branch h
of_type (branch_taken h) = number_of _ _ true Branch h
of_type (indirect_call {taken = taken} h) = number_of _ _ taken IndirectCall h
of_type (direct_call {taken = taken} h) = number_of _ _ taken DirectCall h
of_type (indirect_jump {taken = taken} h) = number_of _ _ taken IndirectJump h
of_type (direct_jump {taken = taken} h) = number_of _ _ taken DirectJump h
of_type (coroutine_swap {taken = taken} h) = number_of _ _ taken CoroutineSwap h
of_type (function_return {taken = taken} h) = number_of _ _ taken FunctionReturn h
of_type (other_indirect_jump {taken = taken} h) = number_of _ _ taken OtherIndirectJump h
of_type (other_direct_jump {taken = taken} h) = number_of _ _ taken OtherDirectJump h
of_type (none {taken = taken} h) = number_of _ _ taken None h

numbered : (zc : Bool) (w : ℕ) (taken : Bool) (n : ℕ) → word_type zc w taken ≡ n → HasType zc w taken n
numbered zc w taken n h =
    subst (λ (k : ℕ). HasType zc w taken k) h (has_type zc w taken (transfer_of zc w) (is_row zc (transfer_of zc w) w refl))

-- the length goes by the two low bits
long : (zc : Bool) (w : ℕ) → w % 4 ≡ 3 → (instruction_of zc w).length ≡ 4
long zc w h = let e : C·op w ≡ 3 = omega arith in simp e

short : (zc : Bool) (w : ℕ) → (w % 4 ≡ 3 → ⊥) → (instruction_of zc w).length ≡ 2
short zc w h = let e : eqb (C·op w) 3 ≡ false = ne_eqb (C·op w) 3 (λ (n : C·op w ≡ 3). h (omega arith)) in simp e

-- the fields of a 16-bit instruction lie in the low half
module _ (w : ℕ) where
  low : ℕ
  low = w % 2 ^ 16

  op_low : C·op low ≡ C·op w
  unfolding low
  op_low = omega arith

  funct3_low : C·funct3 low ≡ C·funct3 w
  unfolding low
  funct3_low = omega arith

  funct4_low : C·funct4 low ≡ C·funct4 w
  unfolding low
  funct4_low = omega arith

  rs1_low : C·rs1 low ≡ C·rs1 w
  unfolding low
  rs1_low = omega arith

  rs2_low : C·rs2 low ≡ C·rs2 w
  unfolding low
  rs2_low = omega arith

  funct6_low : CM·funct6 low ≡ CM·funct6 w
  unfolding low
  funct6_low = omega arith

  index_low : CM·index low ≡ CM·index w
  unfolding low
  index_low = omega arith

  funct2_low : CM·funct2 low ≡ CM·funct2 w
  unfolding low
  funct2_low = omega arith

  rlist_low : CM·rlist low ≡ CM·rlist w
  unfolding low
  rlist_low = omega arith

  upper_half : (zc : Bool) → is16 w ≡ true → instruction_of zc w ≡ instruction_of zc low
  unfolding transfer_of plain_transfer
  upper_half zc h =
      let n : C·op w ≡ 3 → ⊥ = eqb-false _ 3 (not-true _ h) in
      let m : C·op low ≡ 3 → ⊥ = (λ e. n (sym op_low ∙ e)) in
      simp (
        no_branch w n,
        no_jalr w n,
        no_jal w n,
        no_branch low m,
        no_jalr low m,
        no_jal low m,
        op_low,
        funct3_low,
        funct4_low,
        rs1_low,
        rs2_low,
        funct6_low,
        index_low,
        funct2_low,
        rlist_low,
      )

types : (t : Transfer) (taken : Bool) → WordType (type_of t taken)
types None taken = inl refl
types Branch false = inr (inl refl)
types Branch true = inr (inr (inl refl))
types IndirectCall taken = inr (inr (inr (omega arith)))
types DirectCall taken = inr (inr (inr (omega arith)))
types IndirectJump taken = inr (inr (inr (omega arith)))
types DirectJump taken = inr (inr (inr (omega arith)))
types CoroutineSwap taken = inr (inr (inr (omega arith)))
types FunctionReturn taken = inr (inr (inr (omega arith)))
types OtherIndirectJump taken = inr (inr (inr (omega arith)))
types OtherDirectJump taken = inr (inr (inr (omega arith)))

taken : (t : Transfer) → (t ≡ Branch → ⊥) → (a b : Bool) → type_of t a ≡ type_of t b
taken None h a b = refl
taken Branch h a b = absurd (h refl)
taken IndirectCall h a b = refl
taken DirectCall h a b = refl
taken IndirectJump h a b = refl
taken DirectJump h a b = refl
taken CoroutineSwap h a b = refl
taken FunctionReturn h a b = refl
taken OtherIndirectJump h a b = refl
taken OtherDirectJump h a b = refl

pub promise : Promise
unfolding low
promise =
    record {
      rows = rows;
      numbers = (λ zc w taken n. (numbered zc w taken n, of_type));
      long = long;
      short = short;
      switched_off = (λ t w. off t w ∙ rows false t w);
      codes = codes;
      outside = (λ w h. outside w h ∙ sym (plainly w));
      upper_half = (λ zc w. upper_half w zc);
      types = types;
      taken = taken;
      distinct = distinct;
    }
