-- What a record, a pop and a swap make of an entry and of WRPTR.
use Rattle.std.specs.Prelude.{ℕ, ◌+◌, ◌*◌, ◌/◌, ◌%◌, Bool}
use Rattle.std.specs.Prelude.{if◌then◌else◌}
use Rattle.machine.specs.Modes.{on_of}
use Rattle.machine.specs.Regs.{with_wrptr}
use Rattle.machine.specs.Depths.{depth_of, physical_of}
use Rattle.machine.specs.declared.Mode.{Mode}
use Rattle.machine.specs.declared.Registers.{Registers}
use Rattle.machine.specs.declared.Entry.{Entry}

-- a record: the source pc with bit 0 set (V), the target pc with MISP in bit 0, whatever bit 0 of the two pcs is, and the type
unfoldable pub entry_for : ℕ → ℕ → Bool → ℕ → Entry
entry_for pc target misp n =
    record { ctrsource = pc / 2 * 2 + 1; ctrtarget = target / 2 * 2 + (if misp then 1 else 0); ctrdata = n }

-- the pc of one side of a trap or return: 0 where the mode of that side is off
unfoldable pub side_pc : Registers → Mode → ℕ → ℕ
side_pc r m pc = if on_of r m then pc else 0

-- an entry without V
unfoldable pub popped : Entry → Entry
popped e = record { ctrsource = e.ctrsource / 2 * 2; ctrtarget = e.ctrtarget; ctrdata = e.ctrdata }

-- WRPTR one up, modulo the depth
unfoldable pub advanced : Registers → Registers
advanced r = with_wrptr r ((r.buffer.wrptr % depth_of r.buffer.code + 1) % depth_of r.buffer.code)

-- WRPTR one down, modulo the depth: to where logical entry 0 is
unfoldable pub retreated : Registers → Registers
retreated r = with_wrptr r (physical_of r.buffer.code r.buffer.wrptr 0)
