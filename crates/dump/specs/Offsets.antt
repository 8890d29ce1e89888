-- The offsets of JAL, branches, C.J, C.BEQZ and C.BNEZ, as the unprivileged manual lays their immediates out. An offset is a signed
-- number, here in 64 bits: its sign is copied to all of them above.
use Rattle.std.specs.Prelude.{ℕ, ◌+◌, ◌-◌, ◌*◌, ◌^◌}
use Rattle.bits.specs.Words.{bit_at, field_at}

-- `k` bits of the word from bit n up are the immediate's from bit `to` up
abbrev pub part : ℕ → ℕ → ℕ → ℕ → ℕ
part w n k to = field_at w n k * 2 ^ to

-- bit n of the word is the immediate's bit `to` and, as its sign, each one above
abbrev pub sign : ℕ → ℕ → ℕ → ℕ
sign w n to = bit_at w n * (2 ^ 64 - 2 ^ to)

-- JAL: imm[20|10:1|11|19:12] in bits 31..12
unfoldable pub J·offset : ℕ → ℕ
J·offset w = sign w 31 20 + part w 21 10 1 + part w 20 1 11 + part w 12 8 12

-- branches: imm[12|10:5] in bits 31..25, imm[4:1|11] in bits 11..7
unfoldable pub B·offset : ℕ → ℕ
B·offset w = sign w 31 12 + part w 25 6 5 + part w 8 4 1 + part w 7 1 11

-- C.J: imm[11|4|9:8|10|6|7|3:1|5] in bits 12..2
unfoldable pub CJ·offset : ℕ → ℕ
CJ·offset w =
    sign w 12 11 + part w 11 1 4 + part w 9 2 8 + part w 8 1 10 + part w 7 1 6 + part w 6 1 7 + part w 3 3 1 + part w 2 1 5

-- C.BEQZ and C.BNEZ: imm[8|4:3] in bits 12..10, imm[7:6|2:1|5] in bits 6..2
unfoldable pub CB·offset : ℕ → ℕ
CB·offset w = sign w 12 8 + part w 10 2 3 + part w 5 2 6 + part w 3 2 1 + part w 2 1 5
