-- The instructions that transfer control, by the fields and encodings of the unprivileged manual. A word is 32 bits;
-- a 16-bit instruction stands in its low half, and its two low bits are not 11.
use Rattle.std.specs.Prelude.{ℕ, Bool, not, ◌&&◌, eqb}
use Rattle.std.specs.Prelude.{if◌then◌else◌}
use Rattle.bits.specs.Words.{field_at, is_from_to}

-- fields of a 32-bit instruction: bits 6..0, 11..7, 14..12 and 19..15
abbrev pub opcode : ℕ → ℕ
opcode w = field_at w 0 7

abbrev pub rd : ℕ → ℕ
rd w = field_at w 7 5

abbrev pub funct3 : ℕ → ℕ
funct3 w = field_at w 12 3

abbrev pub rs1 : ℕ → ℕ
rs1 w = field_at w 15 5

-- fields of a 16-bit instruction: bits 1..0, 15..13, 15..12, 11..7 and 6..2
abbrev pub C·op : ℕ → ℕ
C·op w = field_at w 0 2

abbrev pub C·funct3 : ℕ → ℕ
C·funct3 w = field_at w 13 3

abbrev pub C·funct4 : ℕ → ℕ
C·funct4 w = field_at w 12 4

abbrev pub C·rs1 : ℕ → ℕ
C·rs1 w = field_at w 7 5

abbrev pub C·rs2 : ℕ → ℕ
C·rs2 w = field_at w 2 5

-- fields of table jumps (Zcmt): bits 15..10 and 9..2; and of pop-returns (Zcmp): bits 15..10, 9..8 and 7..4, and spimm in bits 3..2,
-- which may have any value
abbrev pub CM·funct6 : ℕ → ℕ
CM·funct6 w = field_at w 10 6

abbrev pub CM·index : ℕ → ℕ
CM·index w = field_at w 2 8

abbrev pub CM·funct2 : ℕ → ℕ
CM·funct2 w = field_at w 8 2

abbrev pub CM·rlist : ℕ → ℕ
CM·rlist w = field_at w 4 4

-- whether the word is a 16-bit instruction
abbrev pub is16 : ℕ → Bool
is16 w = not (eqb (C·op w) 0b11)

-- how many bytes the instruction has; those of longer formats count as four
abbrev pub length_of : ℕ → ℕ
length_of w = if eqb (C·op w) 0b11 then 4 else 2

abbrev pub BEQ : ℕ → Bool
BEQ w = eqb (opcode w) 0b1100011 && eqb (funct3 w) 0b000

abbrev pub BNE : ℕ → Bool
BNE w = eqb (opcode w) 0b1100011 && eqb (funct3 w) 0b001

abbrev pub BLT : ℕ → Bool
BLT w = eqb (opcode w) 0b1100011 && eqb (funct3 w) 0b100

abbrev pub BGE : ℕ → Bool
BGE w = eqb (opcode w) 0b1100011 && eqb (funct3 w) 0b101

abbrev pub BLTU : ℕ → Bool
BLTU w = eqb (opcode w) 0b1100011 && eqb (funct3 w) 0b110

abbrev pub BGEU : ℕ → Bool
BGEU w = eqb (opcode w) 0b1100011 && eqb (funct3 w) 0b111

abbrev pub JALR : ℕ → Bool
JALR w = eqb (opcode w) 0b1100111 && eqb (funct3 w) 0b000

abbrev pub JAL : ℕ → Bool
JAL w = eqb (opcode w) 0b1101111

abbrev pub C·J : ℕ → Bool
C·J w = eqb (C·op w) 0b01 && eqb (C·funct3 w) 0b101

abbrev pub C·BEQZ : ℕ → Bool
C·BEQZ w = eqb (C·op w) 0b01 && eqb (C·funct3 w) 0b110

abbrev pub C·BNEZ : ℕ → Bool
C·BNEZ w = eqb (C·op w) 0b01 && eqb (C·funct3 w) 0b111

-- with rs1 x0 the code is reserved
abbrev pub C·JR : ℕ → Bool
C·JR w = eqb (C·op w) 0b10 && eqb (C·funct4 w) 0b1000 && not (eqb (C·rs1 w) 0) && eqb (C·rs2 w) 0

-- with rs1 x0 the code is C.EBREAK
abbrev pub C·JALR : ℕ → Bool
C·JALR w = eqb (C·op w) 0b10 && eqb (C·funct4 w) 0b1001 && not (eqb (C·rs1 w) 0) && eqb (C·rs2 w) 0

-- among its codes are those of Zcmp and Zcmt, which a machine has in its place
abbrev pub C·FSDSP : ℕ → Bool
C·FSDSP w = eqb (C·op w) 0b10 && eqb (C·funct3 w) 0b101

-- jump via the jump vector table
abbrev pub CM·JT : ℕ → Bool
CM·JT w = eqb (C·op w) 0b10 && eqb (CM·funct6 w) 0b101000 && is_from_to 0 31 (CM·index w)

-- jump and link via the jump vector table
abbrev pub CM·JALT : ℕ → Bool
CM·JALT w = eqb (C·op w) 0b10 && eqb (CM·funct6 w) 0b101000 && is_from_to 32 255 (CM·index w)

-- pop registers and return; with rlist below 4 the code is reserved
abbrev pub CM·POPRET : ℕ → Bool
CM·POPRET w = eqb (C·op w) 0b10 && eqb (CM·funct6 w) 0b101111 && eqb (CM·funct2 w) 0b10 && is_from_to 4 15 (CM·rlist w)

-- likewise, and a0 is zeroed
abbrev pub CM·POPRETZ : ℕ → Bool
CM·POPRETZ w = eqb (C·op w) 0b10 && eqb (CM·funct6 w) 0b101111 && eqb (CM·funct2 w) 0b00 && is_from_to 4 15 (CM·rlist w)
