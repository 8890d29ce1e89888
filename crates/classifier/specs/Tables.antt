-- How long runs of words are sorted: by the low part of a word (opcode and rd) and its high part (funct3 and rs1). Low parts
-- that the transfer types do not tell apart have a row in common, high parts a column, and a specimen stands for all words of
-- a row and column (proofs/Specimens.antt). Nothing outside this crate cites it.
use Rattle.std.specs.Prelude.{ℕ, ◌+◌, ◌-◌, ◌*◌, ◌/◌, ◌%◌, ◌<◌, ◌≡◌, List, Bool, true, eqb, ltb, get_or}
use Rattle.std.specs.Prelude.{if◌then◌else◌}
use Rattle.bits.specs.Words.{field_at}
use Rattle.classifier.specs.Transfers.{transfer_of, type_of}

-- which opcodes are told apart: those of branches, JALR and JAL, of quadrant 1, of C.JR and C.JALR, and others of quadrant 2
unfoldable pub group_of : ℕ → ℕ
group_of o =
    if eqb o 0x63 then 1
    else (if eqb o 0x67 then 2
    else (if eqb o 0x6F then 3
    else (if eqb (o % 4) 1 then 4
    else (if eqb o 0x02 then 5
    else (if eqb (o % 4) 2 then 6
    else 0)))))

-- an opcode of each group, eight bits to a group
unfoldable pub opcode_of : ℕ → ℕ
opcode_of g = field_at 0x0006_0201_6F67_6300 (8 * g) 7

-- as rd a register is x0, x1, x5 or another, two bits to a register
unfoldable pub destination_of : ℕ → ℕ
destination_of r = field_at 0xFFFF_FFFF_FFFF_FBF4 (2 * r) 2

-- as rs1 it is even, x1, x5 or another odd one: its lowest bit belongs to funct4 of 16-bit instructions too
unfoldable pub base_of : ℕ → ℕ
base_of r = field_at 0xCCCC_CCCC_CCCC_C8C4 (2 * r) 2

-- a register of each kind, eight bits to a kind
unfoldable pub register_of : ℕ → ℕ
register_of c = field_at 0x0305_0100 (8 * c) 5

-- by bits 11..6 of a low part of quadrant 2, whether pop-returns have it, 1 or 0: bits 11..10 are 11, bit 8 is 0, and rlist is not below 4
unfoldable pub pop_of : ℕ → ℕ
pop_of low = field_at 0x0E0E_0000_0000_0000 (low / 64) 1

-- the rank of a low part by opcode and rd
unfoldable pub near_rank : ℕ → ℕ
near_rank low = 4 * group_of (low % 128) + destination_of (low / 128)

-- in quadrant 2, with bits 11..10 not 00: the opcode of C.JR and C.JALR has 28, or 29 where pop-returns have the low part too; of other
-- opcodes pop-returns have 31, and the rest, which are none, go with rank 3
unfoldable pub far_rank : ℕ → ℕ
far_rank low = if eqb (low % 128) 2 then 28 + pop_of low else 3 + 28 * pop_of low

-- the rank of a low part among 32. Bits 11..10 of a table jump are 00
unfoldable pub rank_of : ℕ → ℕ
rank_of low = if eqb (low % 4) 2 then (if ltb low 1024 then near_rank low else far_rank low) else near_rank low

-- the low part that stands for all of a rank
unfoldable pub low_of : ℕ → ℕ
low_of k = if ltb k 28 then opcode_of (k / 4) + 128 * register_of (k % 4) else field_at 0xC86_000_C82_402 (12 * (k - 28)) 12

-- the row of a low part, a multiple of 8, the column of a high part, from 0 to 31, and the key that they make
unfoldable pub row_of : ℕ → ℕ
row_of low = 8 * rank_of low

unfoldable pub column_of : ℕ → ℕ
column_of high = high % 8 + 8 * base_of (high / 8)

unfoldable pub key_of : ℕ → ℕ
key_of w = 4 * row_of (field_at w 0 12) + column_of (field_at w 12 8)

-- the word that stands for all words with a key
unfoldable pub specimen_of : ℕ → ℕ
specimen_of k = low_of (k / 32) + 4096 * (k % 8 + 8 * register_of (k / 8 % 4))

-- what is tabled: the row of each low part, the column of each high part, and the type of each specimen, a branch as taken
unfoldable pub cell_of : Bool → ℕ → ℕ
cell_of zc i =
    if ltb i 4096 then row_of i
    else (if ltb i 4352 then column_of (i - 4096)
    else type_of (transfer_of zc (specimen_of (i - 4352))) true)

-- a list has the first n cells, and all of them
abbrev pub Tabled : Bool → ℕ → List ℕ → Type 0
Tabled zc n cells = (i : ℕ) → i < n → get_or cells i 0 ≡ cell_of zc i

abbrev pub Table : Bool → List ℕ → Type 0
Table zc cells = Tabled zc 5376 cells
