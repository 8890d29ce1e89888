-- A register access, SCTRCLR and the host's event, from registers free of number 5; and which entry an access is about.
use Rattle.std.specs.Prelude.{ℕ, ◌%◌, Ok, Err, Bool, true, false}
use Rattle.std.specs.Prelude.{if◌then◌else◌}
use Rattle.bits.specs.Words.{joined, without}
use Rattle.machine.specs.Answers.{Verdict, number_of, refused, accepted, accepted_clear}
use Rattle.machine.specs.Regs.{with_enables, with_cycles, no_cycles}
use Rattle.machine.specs.Depths.{physical_of}
use Rattle.machine.specs.declared.CsrAccess.{CsrAccess}
use Rattle.machine.specs.declared.Decision.{Decision}
use Rattle.machine.specs.declared.Enables.{Enables}
use Rattle.machine.specs.declared.Registers.{Registers}
use Rattle.machine.specs.declared.Entry.{Entry}
use Rattle.machine.specs.declared.Operation.{Operation}
use Rattle.machine.specs.declared.Operation.TheVariants.{Read, Write, Set, Clear}
use Rattle.csr.specs.Numbers.{register_of, csr_in}
use Rattle.csr.specs.Steps.{selection_of, facts_of, sctrclr_facts, refusal_of}
use Rattle.csr.specs.declared.Csr.{Csr}
use Rattle.access.specs.Readings.{reading_of}
use Rattle.access.specs.Writes.{registers_written, effect_written}

abbrev pub is_read : Operation → Bool
is_read Read = true
is_read Write = false
is_read Set = false
is_read Clear = false

-- what an operation writes: set and clear compute from the old reading, v
unfoldable pub operand_of : Operation → ℕ → ℕ → ℕ
operand_of Read v x = v
operand_of Write v x = x
operand_of Set v x = joined v x
operand_of Clear v x = without v x

-- a register is written; the answer is the old reading, v
unfoldable pub write_of : Registers → Entry → Csr → ℕ → ℕ → Decision
write_of r old g v x =
    record { number = number_of (Ok tt); value = v; registers = registers_written r g x; effect = effect_written r old g x }

-- an operation on a register that reads v
unfoldable pub operated_of : Registers → Entry → Csr → Operation → ℕ → ℕ → Decision
operated_of r old g o v x = if is_read o then accepted r v else write_of r old g v (operand_of o v x)

-- a granted access
unfoldable pub granted_of : Registers → Entry → Csr → Operation → ℕ → Decision
granted_of r old g o x = operated_of r old g o (reading_of r old g) x

-- refused as the steps say, or the decision where they accept
abbrev pub unless_refused : Verdict → Registers → Decision → Decision
unless_refused (Ok _) r d = d
unless_refused (Err e) r d = refused r e

-- an access to the register of a CSR number, given the entry in focus
unfoldable pub access_to : Registers → Entry → Csr → Operation → ℕ → Decision
access_to r old g o x = unless_refused (refusal_of r (facts_of r g)) r (granted_of r old (csr_in r.mode g) o x)

unfoldable pub access_of : Registers → Entry → CsrAccess → Decision
access_of r old a = access_to r old (register_of a.number) a.operation a.operand

-- the physical entry that an access is about: the one that the register's selection means
unfoldable pub access_focus : Registers → ℕ → ℕ
access_focus r number =
    physical_of r.buffer.code r.buffer.wrptr (selection_of r.selects (csr_in r.mode (register_of number)) % 256)

-- SCTRCLR zeroes all entry words, and starts the cycle counter again; WRPTR and FROZEN stay
unfoldable pub sctrclr_of : Registers → Decision
sctrclr_of r = unless_refused (refusal_of r sctrclr_facts) r (accepted_clear (with_cycles r no_cycles))

-- the host sets the two state-enable bits
unfoldable pub host_of : Registers → Enables → Decision
host_of r e = accepted (with_enables r e) 0
