-- How the code decides on one word: by the opcode, or the quadrant of a 16-bit instruction, and then by the fields. It is the
-- table sorted otherwise, as proofs/Sorted.antt and proofs/Switch.antt show. With the switch on a word that has a code of C.FSDSP goes by
-- fields of its own. Nothing outside this crate cites it.
use Rattle.std.specs.Prelude.{ℕ, Bool, ◌&&◌, eqb, ltb}
use Rattle.std.specs.Prelude.{if◌then◌else◌}
use Rattle.bits.specs.Words.{field_at}
use Rattle.classifier.specs.Instructions.{opcode, rd, funct3, rs1, C·op, C·funct3, C·funct4, C·rs1, CM·funct6, CM·index, CM·funct2, CM·rlist, C·FSDSP}
use Rattle.classifier.specs.Transfers.{link}
use Rattle.classifier.specs.declared.Transfer.{Transfer}
use Rattle.classifier.specs.declared.Transfer.TheVariants.{None, Branch, IndirectCall, DirectCall, IndirectJump, DirectJump, CoroutineSwap, FunctionReturn, OtherIndirectJump, OtherDirectJump}

-- the branch opcode, by funct3: BEQ, BNE, BLT, BGE, BLTU and BGEU
unfoldable pub branch_by : ℕ → Transfer
branch_by f =
    if eqb f 0 then Branch
    else (if eqb f 1 then Branch
    else (if eqb f 4 then Branch
    else (if eqb f 5 then Branch
    else (if eqb f 6 then Branch
    else (if eqb f 7 then Branch
    else None)))))

-- a jump by register, by rd and rs1
unfoldable pub indirect_by : ℕ → ℕ → Transfer
indirect_by d s =
    if eqb d 1 then (if eqb s 5 then CoroutineSwap else IndirectCall)
    else (if eqb d 5 then (if eqb s 1 then CoroutineSwap else IndirectCall)
    else (if link s then FunctionReturn
    else (if eqb d 0 then IndirectJump else OtherIndirectJump)))

-- a jump by offset, by rd
unfoldable pub direct_by : ℕ → Transfer
direct_by d = if link d then DirectCall else (if eqb d 0 then DirectJump else OtherDirectJump)

-- JALR's opcode, by funct3, rd and rs1: funct3 not 0 is reserved
unfoldable pub jalr_by : ℕ → ℕ → ℕ → Transfer
jalr_by f d s = if eqb f 0 then indirect_by d s else None

-- a 32-bit instruction, by opcode, funct3, rd and rs1
unfoldable pub wide_by : ℕ → ℕ → ℕ → ℕ → Transfer
wide_by op f d s =
    if eqb op 0x63 then branch_by f
    else (if eqb op 0x6F then direct_by d
    else (if eqb op 0x67 then jalr_by f d s else None))

-- whether a 32-bit instruction may be a transfer at all: bits 6..4 of the three opcodes are 110
abbrev pub may_transfer : ℕ → Bool
may_transfer w = eqb (field_at w 4 3) 0b110

-- quadrant 1, by funct3: C.J, which is JAL with rd x0, C.BEQZ and C.BNEZ
unfoldable pub quadrant1_by : ℕ → Transfer
quadrant1_by f = if eqb f 5 then direct_by 0 else (if eqb f 6 then Branch else (if eqb f 7 then Branch else None))

-- C.JR, which is JALR with rd x0, and C.JALR, with rd x1: by funct4 and rs1. With rs1 x0 the codes are reserved and C.EBREAK
unfoldable pub register_jump_by : ℕ → ℕ → Transfer
register_jump_by f s =
    if eqb s 0 then None
    else (if eqb f 8 then indirect_by 0 s
    else (if eqb f 9 then indirect_by 1 s else None))

-- a pop-return, by rlist: below 4 it is reserved
unfoldable pub pop_return_by : ℕ → Transfer
pop_return_by r = if ltb r 4 then None else FunctionReturn

-- CM.POPRET and CM.POPRETZ, by funct2 and rlist
unfoldable pub pop_by : ℕ → ℕ → Transfer
pop_by g r = if eqb g 0b10 then pop_return_by r else (if eqb g 0b00 then pop_return_by r else None)

-- Zcmt and Zcmp, by funct6, index, funct2 and rlist: CM.JT and CM.JALT, and the pop-returns
unfoldable pub switched_by : ℕ → ℕ → ℕ → ℕ → Transfer
switched_by f i g r =
    if eqb f 0b101000 then (if ltb i 32 then DirectJump else DirectCall)
    else (if eqb f 0b101111 then pop_by g r else None)

-- a word with the switch off. The opcode of C.JR and C.JALR, with rs2 x0, is 2
unfoldable pub plain_decision : ℕ → Transfer
plain_decision w =
    if eqb (C·op w) 3 then (if may_transfer w then wide_by (opcode w) (funct3 w) (rd w) (rs1 w) else None)
    else (if eqb (C·op w) 1 then quadrant1_by (C·funct3 w)
    else (if eqb (opcode w) 2 then register_jump_by (C·funct4 w) (C·rs1 w) else None))

-- a word
unfoldable pub decision_of : Bool → ℕ → Transfer
decision_of zc w =
    if zc && C·FSDSP w then switched_by (CM·funct6 w) (CM·index w) (CM·funct2 w) (CM·rlist w) else plain_decision w
