-- The cycle counter as an event finds it and as a record leaves it; and CC, the count that a record holds: an exponent and a mantissa.
use Rattle.std.specs.Prelude.{ℕ, ◌+◌, ◌-◌, ◌*◌, ◌%◌, ◌^◌, min, Bool, not, eqb, ltb}
use Rattle.std.specs.Int.Count.{count_leading_zeros}
use Rattle.std.specs.Prelude.{if◌then◌else◌}
use Rattle.bits.specs.Words.{field_at}
use Rattle.machine.specs.Good.{counter_limit}
use Rattle.machine.specs.Regs.{with_cycles, no_cycles}
use Rattle.machine.specs.declared.Cycles.{Cycles}
use Rattle.machine.specs.declared.Entry.{Entry}
use Rattle.machine.specs.declared.Registers.{Registers}
use Rattle.qualifying.specs.Outcomes.{live_of}

-- the counter with n cycles more; it has 27 bits and stays at its top
abbrev pub counted : Cycles → ℕ → Cycles
counted c n = record { counter = min (c.counter + n) (counter_limit - 1); ccv = c.ccv }

-- after a record: it starts again, and the next record has CCV 1, unless RASEMU governs
abbrev pub restarted : Bool → Cycles
restarted rasemu = record { counter = 0; ccv = not rasemu }

-- as an event with n cycles finds it whose source mode is on while FROZEN is 0: they go in before its record, but RASEMU zeroes the
-- counter and the CCV to come
unfoldable pub live_cycles : Cycles → Bool → ℕ → Cycles
live_cycles c rasemu n = if rasemu then no_cycles else counted c n

-- and as any event finds it: else its cycles do not count
unfoldable pub cycles_of : Registers → Bool → ℕ → Cycles
cycles_of r rasemu n = if live_of r then live_cycles r.cycles rasemu n else r.cycles

abbrev pub tallied : Registers → Bool → ℕ → Registers
tallied r rasemu n = with_cycles r (cycles_of r rasemu n)

-- the index of the top bit of a count that is 1
abbrev pub top_bit : ℕ → ℕ
top_bit n = 63 - count_leading_zeros 64 n

-- CCE: the top bit's index minus 11, or 0 below 2^12
unfoldable pub exponent_of : ℕ → ℕ
exponent_of n = if ltb n (2 ^ 12) then 0 else top_bit n - 11

-- CCM: bits CCE + 10 to CCE - 1, or 11 to 0 where CCE is 0
unfoldable pub mantissa_of : ℕ → ℕ
mantissa_of n = field_at n (exponent_of n - 1) 12

-- CC: CCE above the twelve bits of CCM
abbrev pub cc_of : ℕ → ℕ
cc_of n = exponent_of n * 2 ^ 12 + mantissa_of n

-- the count that an exponent and a mantissa stand for
unfoldable pub decoded_of : ℕ → ℕ → ℕ
decoded_of cce ccm = if eqb cce 0 then ccm else (2 ^ 12 + ccm) * 2 ^ (cce - 1)

-- the count in ctrdata: CCE is in bits 31..28, CCM in 27..16
unfoldable pub decoded_in : ℕ → ℕ
decoded_in ctrdata = decoded_of (field_at ctrdata 28 4) (field_at ctrdata 16 12)

-- a record's type with the counter: CC in bits 31..16 of ctrdata, CCV in bit 15, TYPE in 3..0
unfoldable pub stamped : Entry → Cycles → Entry
stamped e c =
    record {
      ctrsource = e.ctrsource;
      ctrtarget = e.ctrtarget;
      ctrdata = e.ctrdata % 2 ^ 4 + (if c.ccv then 2 ^ 15 else 0) + cc_of c.counter * 2 ^ 16;
    }
