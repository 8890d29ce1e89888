-- The transfer type of each word: a definition for each row of the table of transfer types (docs/RULES.md, T4 to T12), in its
-- order, but for type 12, which type 8 excepts; and one for what each of three rows has besides with the switch zc on (T21 to T23), on
-- a machine with Zcmp and Zcmt.
use Rattle.std.specs.Prelude.{ℕ, Bool, not, ◌&&◌, ◌||◌, eqb}
use Rattle.std.specs.Prelude.{if◌then◌else◌}
use Rattle.classifier.specs.Instructions.{rd, rs1, C·rs1, BEQ, BNE, BLT, BGE, BLTU, BGEU, JALR, JAL, C·J, C·BEQZ, C·BNEZ, C·JR, C·JALR, CM·JT, CM·JALT, CM·POPRET, CM·POPRETZ, length_of}
use Rattle.classifier.specs.declared.Instruction.{Instruction}
use Rattle.classifier.specs.declared.Transfer.{Transfer}
use Rattle.classifier.specs.declared.Transfer.TheVariants.{None, Branch, IndirectCall, DirectCall, IndirectJump, DirectJump, CoroutineSwap, FunctionReturn, OtherIndirectJump, OtherDirectJump}

-- a link register: x1 or x5
abbrev pub link : ℕ → Bool
link r = eqb r 1 || eqb r 5

-- 4, 5: BEQ BNE BLT BGE BLTU BGEU C.BEQZ C.BNEZ
abbrev pub is_branch : ℕ → Bool
is_branch w = BEQ w || BNE w || BLT w || BGE w || BLTU w || BGEU w || C·BEQZ w || C·BNEZ w

-- 12: JALR x1,x5; JALR x5,x1; C.JALR x5
abbrev pub is_coroutine_swap : ℕ → Bool
is_coroutine_swap w =
    (JALR w && eqb (rd w) 1 && eqb (rs1 w) 5)
    || (JALR w && eqb (rd w) 5 && eqb (rs1 w) 1)
    || (C·JALR w && eqb (C·rs1 w) 5)

-- 8: JALR with link rd, except type 12; C.JALR, base not x5
abbrev pub is_indirect_call : ℕ → Bool
is_indirect_call w = (JALR w && link (rd w) && not (is_coroutine_swap w)) || (C·JALR w && not (eqb (C·rs1 w) 5))

-- 9: JAL with link rd
abbrev pub is_direct_call : ℕ → Bool
is_direct_call w = JAL w && link (rd w)

-- 10: JALR x0, base not link; C.JR, base not link
abbrev pub is_indirect_jump : ℕ → Bool
is_indirect_jump w = (JALR w && eqb (rd w) 0 && not (link (rs1 w))) || (C·JR w && not (link (C·rs1 w)))

-- 11: JAL x0; C.J
abbrev pub is_direct_jump : ℕ → Bool
is_direct_jump w = (JAL w && eqb (rd w) 0) || C·J w

-- 13: JALR, link base, rd not link; C.JR, link base
abbrev pub is_function_return : ℕ → Bool
is_function_return w = (JALR w && link (rs1 w) && not (link (rd w))) || (C·JR w && link (C·rs1 w))

-- 14: JALR, base not link, rd neither x0 nor link
abbrev pub is_other_indirect_jump : ℕ → Bool
is_other_indirect_jump w = JALR w && not (link (rs1 w)) && not (eqb (rd w) 0) && not (link (rd w))

-- 15: JAL, rd neither x0 nor link
abbrev pub is_other_direct_jump : ℕ → Bool
is_other_direct_jump w = JAL w && not (eqb (rd w) 0) && not (link (rd w))

-- 11, with the switch on: CM.JT
abbrev pub is_table_jump : ℕ → Bool
is_table_jump w = CM·JT w

-- 9, with the switch on: CM.JALT
abbrev pub is_table_call : ℕ → Bool
is_table_call w = CM·JALT w

-- 13, with the switch on: CM.POPRET; CM.POPRETZ
abbrev pub is_pop_return : ℕ → Bool
is_pop_return w = CM·POPRET w || CM·POPRETZ w

-- what transfer a word is with the switch off; none where no row has it. No word is in two rows (`rows` of Promise), so the order
-- plays no part, nor does it below
unfoldable pub plain_transfer : ℕ → Transfer
plain_transfer w =
    if is_branch w then Branch
    else (if is_indirect_call w then IndirectCall
    else (if is_direct_call w then DirectCall
    else (if is_indirect_jump w then IndirectJump
    else (if is_direct_jump w then DirectJump
    else (if is_coroutine_swap w then CoroutineSwap
    else (if is_function_return w then FunctionReturn
    else (if is_other_indirect_jump w then OtherIndirectJump
    else (if is_other_direct_jump w then OtherDirectJump
    else None))))))))

-- what transfer a word is
unfoldable pub transfer_of : Bool → ℕ → Transfer
transfer_of zc w =
    if zc && is_table_jump w then DirectJump
    else (if zc && is_table_call w then DirectCall
    else (if zc && is_pop_return w then FunctionReturn
    else plain_transfer w))

-- a word's transfer, and its length in bytes
abbrev pub instruction_of : Bool → ℕ → Instruction
instruction_of zc w = record { transfer = transfer_of zc w; length = length_of w }

-- the number of each type in ctrdata; 0 stands for none, and a branch goes by whether it is taken
abbrev pub type_of : Transfer → Bool → ℕ
type_of None taken = 0
type_of Branch taken = if taken then 5 else 4
type_of IndirectCall taken = 8
type_of DirectCall taken = 9
type_of IndirectJump taken = 10
type_of DirectJump taken = 11
type_of CoroutineSwap taken = 12
type_of FunctionReturn taken = 13
type_of OtherIndirectJump taken = 14
type_of OtherDirectJump taken = 15
