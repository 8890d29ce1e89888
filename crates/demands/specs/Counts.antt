-- The count that a record holds (docs/RULES.md, C), said from the papers by itself: how CC is coded, and how it is decoded.
use Rattle.std.specs.Prelude.{ℕ, zero, suc, ◌+◌, ◌-◌, ◌*◌, ◌/◌, ◌%◌, ◌^◌, eqb, ltb}
use Rattle.std.specs.Prelude.{if◌then◌else◌}
use Rattle.bits.specs.Words.{bit_at}

-- the index of the top bit that is 1, looked for from bit k down
unfoldable pub top_bit : ℕ → ℕ → ℕ
top_bit zero n = 0
top_bit (suc k) n = if eqb (bit_at n (suc k)) 1 then suc k else top_bit k n

-- CCE, of a counter of 27 bits: the top bit's index minus 11, or 0 below 2^12
abbrev pub CCE : ℕ → ℕ
CCE n = if ltb n 0x1000 then 0 else top_bit 26 n - 11

-- CCM: bits CCE + 10 to CCE - 1 of the counter; the twelve low ones where CCE is 0
abbrev pub CCM : ℕ → ℕ
CCM n = n / 2 ^ (CCE n - 1) % 0x1000

-- the count that is decoded: CCM where CCE is 0, else (2^12 + CCM) shifted up by CCE - 1
abbrev pub decoded : ℕ → ℕ → ℕ
decoded zero ccm = ccm
decoded (suc k) ccm = (0x1000 + ccm) * 2 ^ k
