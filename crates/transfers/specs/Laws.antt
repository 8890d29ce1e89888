-- What holds of transfers. Proved in proofs/.
use Rattle.std.specs.Prelude.{ℕ, ◌+◌, ◌-◌, ◌^◌, ◌≤◌, ◌<◌, ◌≡◌, true, false}
use Rattle.machine.specs.Answers.{accepted}
use Rattle.machine.specs.Modes.{on_of}
use Rattle.machine.specs.Good.{good_of}
use Rattle.machine.specs.declared.Registers.{Registers}
use Rattle.machine.specs.declared.Entry.{Entry}
use Rattle.machine.specs.declared.RetiredWord.{RetiredWord}
use Rattle.machine.specs.declared.TrapTo.{TrapTo}
use Rattle.machine.specs.declared.ReturnTo.{ReturnTo}
use Rattle.transfers.specs.Counts.{exponent_of, mantissa_of, decoded_of}
use Rattle.transfers.specs.Transfers.{retired_of, trap_of, return_of}

-- the coding of a counter: the exponent has four bits and the mantissa twelve, and the count that they stand for is never above the
-- counter, the same where the exponent is 0, and else short by less than 2 to the power (exponent - 1)
pub record Coding (n : ℕ) : Type 0 where
  pub exponent : exponent_of n < 2 ^ 4
  pub mantissa : mantissa_of n < 2 ^ 12
  pub not_above : decoded_of (exponent_of n) (mantissa_of n) ≤ n
  pub exact : exponent_of n ≡ 0 → decoded_of (exponent_of n) (mantissa_of n) ≡ n
  pub short_by : 1 ≤ exponent_of n → n < decoded_of (exponent_of n) (mantissa_of n) + 2 ^ (exponent_of n - 1)

-- a trap or return with other addresses, or with other cycles
abbrev pub with_pcs : TrapTo → ℕ → ℕ → TrapTo
with_pcs t epc handler =
    record { mode = t.mode; interrupt = t.interrupt; cause = t.cause; epc = epc; handler = handler; cycles = t.cycles }

abbrev pub with_trap_cycles : TrapTo → ℕ → TrapTo
with_trap_cycles t n =
    record { mode = t.mode; interrupt = t.interrupt; cause = t.cause; epc = t.epc; handler = t.handler; cycles = n }

abbrev pub with_return_pcs : ReturnTo → ℕ → ℕ → ReturnTo
with_return_pcs t pc target = record { mode = t.mode; pc = pc; target = target; cycles = t.cycles }

abbrev pub with_return_cycles : ReturnTo → ℕ → ReturnTo
with_return_cycles t n = record { mode = t.mode; pc = t.pc; target = t.target; cycles = n }

-- no address of a side that is off reaches a decision, nor do the cycles of an event from a mode that is off, and a word retired in
-- such a mode decides nothing
pub record Hidden (r : Registers) (old : Entry) : Type 0 where
  pub retired : (n : ℕ) (w : RetiredWord) → on_of r r.mode ≡ false → retired_of r old n w ≡ accepted r 0
  pub trap_source : (t : TrapTo) (epc : ℕ) → on_of r r.mode ≡ false → trap_of r old t ≡ trap_of r old (with_pcs t epc t.handler)
  pub trap_target : (t : TrapTo) (handler : ℕ) → on_of r t.mode ≡ false → trap_of r old t ≡ trap_of r old (with_pcs t t.epc handler)
  pub trap_cycles : (t : TrapTo) (n : ℕ) → on_of r r.mode ≡ false → trap_of r old t ≡ trap_of r old (with_trap_cycles t n)
  pub return_source : (t : ReturnTo) (pc : ℕ)
      → on_of r r.mode ≡ false → return_of r old t ≡ return_of r old (with_return_pcs t pc t.target)
  pub return_target : (t : ReturnTo) (target : ℕ)
      → on_of r t.mode ≡ false → return_of r old t ≡ return_of r old (with_return_pcs t t.pc target)
  pub return_cycles : (t : ReturnTo) (n : ℕ) → on_of r r.mode ≡ false → return_of r old t ≡ return_of r old (with_return_cycles t n)

-- registers free of number 5 stay so
pub record StaysGood (r : Registers) (old : Entry) : Type 0 where
  pub retired : (n : ℕ) (w : RetiredWord) → good_of r ≡ true → good_of (retired_of r old n w).registers ≡ true
  pub trap : (t : TrapTo) → good_of r ≡ true → good_of (trap_of r old t).registers ≡ true
  pub trap_return : (t : ReturnTo) → good_of r ≡ true → good_of (return_of r old t).registers ≡ true
