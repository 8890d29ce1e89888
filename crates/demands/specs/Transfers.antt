-- When a transfer qualifies (docs/RULES.md, Q), as relations: each constructor is a sentence of the papers, and no test comes before
-- another; what counts in the cycle counter; and what a record, a pop, a swap and a freeze leave behind.
use Rattle.std.specs.Prelude.{ℕ, zero, suc, ◌+◌, ◌-◌, ◌*◌, ◌/◌, ◌%◌, min, ◌≡◌, Bool, true, false, ◌⊎◌, eqb}
use Rattle.std.specs.Prelude.{if◌then◌else◌}
use Rattle.classifier.specs.Promise.{word_type}
use Rattle.machine.specs.declared.Entry.{Entry}
use Rattle.machine.specs.declared.Mode.{Mode}
use Rattle.machine.specs.declared.Mode.TheVariants.{U, S, M, VU, VS}
use Rattle.machine.specs.declared.Registers.{Registers}
use Rattle.machine.specs.declared.ControlBit.TheVariants as Bit
use Rattle.machine.specs.declared.ControlRegister.{ControlRegister}
use Rattle.machine.specs.declared.ControlRegister.TheVariants.{Mctrctl, Vsctrctl}
use Rattle.machine.specs.declared.RetiredWord.{RetiredWord}
use Rattle.machine.specs.declared.TrapTo.{TrapTo}
use Rattle.machine.specs.declared.ReturnTo.{ReturnTo}
use Rattle.recorder.specs.Entries.{entry_at, with_entry}
use Rattle.recorder.specs.Steps.{state_of, entries_in}
use Rattle.machine.specs.declared.Event.{Event}
use Rattle.machine.specs.declared.Event.TheVariants.{Retired, Trap, TrapReturn, Access, Sctrclr, Host}
use Rattle.recorder.specs.declared.State.{State}
use Rattle.demands.specs.States.{depth, bit, IsSet, IsClear, Traps, Returns, mode_to, wrptr_to, frozen_to, cycles_to}
use Rattle.demands.specs.Counts.{CCE, CCM}
use Rattle.demands.specs.Registers.{physical, registers_to}

-- the control register of a mode: vsctrctl for VS and VU, else mctrctl
abbrev pub control : Mode → ControlRegister
control U = Mctrctl
control S = Mctrctl
control M = Mctrctl
control VU = Vsctrctl
control VS = Vsctrctl

-- the switch of a mode: U, S, M are bits of mctrctl, VU and VS of vsctrctl, at the places of U and S
abbrev pub switch : Registers → Mode → ℕ
switch r U = bit r Mctrctl Bit.U
switch r S = bit r Mctrctl Bit.S
switch r M = bit r Mctrctl Bit.M
switch r VU = bit r Vsctrctl Bit.U
switch r VS = bit r Vsctrctl Bit.S

-- a mode is on exactly when its switch is 1, and off when it is 0
abbrev pub On : Registers → Mode → Type 0
On r m = switch r m ≡ 1

abbrev pub Off : Registers → Mode → Type 0
Off r m = switch r m ≡ 0

-- the mode after an event that isn't refused: every possible trap or return changes it, recorded or not
abbrev pub mode_after : Registers → Event → Mode
mode_after r (Trap t) = t.mode
mode_after r (TrapReturn t) = t.mode
mode_after r (Retired w) = r.mode
mode_after r (Access a) = r.mode
mode_after r Sctrclr = r.mode
mode_after r (Host h) = r.mode

-- V of a mode, the virtualization mode: 1 in VU and VS
abbrev pub mode_v : Mode → ℕ
mode_v U = 0
mode_v S = 0
mode_v M = 0
mode_v VU = 1
mode_v VS = 1

-- the register of all fields but the mode switches, external bits and freeze bits: for any trap or return between V=0 and V=1
-- vsctrctl, else the control register of the source mode
abbrev pub other_fields : Registers → Event → ControlRegister
other_fields r e = if eqb (mode_v r.mode) (mode_v (mode_after r e)) then control r.mode else Vsctrctl

-- RASEMU, as it governs an event
abbrev pub RASEMU : Registers → Event → ℕ
RASEMU r e = bit r (other_fields r e) Bit.RASEMU

-- a trap that sets FROZEN: a breakpoint exception (cause 3) with BPFRZ, or a counter overflow interrupt (cause 13) with LCOFIFRZ;
-- the bit is read in mctrctl for traps to M or S, in vsctrctl for traps to VS. Switches, RASEMU and FROZEN are not asked
pub data Freezes (r : Registers) : Event → Type 0 where
  BPFRZ : {t : TrapTo}
      → Traps r.mode t.mode → t.interrupt ≡ false → t.cause ≡ 3 → IsSet r (control t.mode) Bit.BPFRZ → Freezes r (Trap t)
  LCOFIFRZ : {t : TrapTo}
      → Traps r.mode t.mode → t.interrupt ≡ true → t.cause ≡ 13 → IsSet r (control t.mode) Bit.LCOFIFRZ → Freezes r (Trap t)

-- a trap's type, by its kind
abbrev pub trap_type : Bool → ℕ
trap_type interrupt = if interrupt then 2 else 1

-- a control register does not inhibit a type; type 4 needs NTBREN. There are no other types
pub data Allows (r : Registers) (c : ControlRegister) : ℕ → Type 0 where
  EXCINH : IsClear r c Bit.EXCINH → Allows r c 1
  INTRINH : IsClear r c Bit.INTRINH → Allows r c 2
  TRETINH : IsClear r c Bit.TRETINH → Allows r c 3
  NTBREN : IsSet r c Bit.NTBREN → Allows r c 4
  TKBRINH : IsClear r c Bit.TKBRINH → Allows r c 5
  INDCALLINH : IsClear r c Bit.INDCALLINH → Allows r c 8
  DIRCALLINH : IsClear r c Bit.DIRCALLINH → Allows r c 9
  INDJMPINH : IsClear r c Bit.INDJMPINH → Allows r c 10
  DIRJMPINH : IsClear r c Bit.DIRJMPINH → Allows r c 11
  CORSWAPINH : IsClear r c Bit.CORSWAPINH → Allows r c 12
  RETINH : IsClear r c Bit.RETINH → Allows r c 13
  INDLJMPINH : IsClear r c Bit.INDLJMPINH → Allows r c 14
  DIRLJMPINH : IsClear r c Bit.DIRLJMPINH → Allows r c 15

-- the external bits, VSTE of vsctrctl and STE and MTE of mctrctl
abbrev pub VSTE : Registers → Type 0
VSTE r = IsSet r Vsctrctl Bit.STE

abbrev pub STE : Registers → Type 0
STE r = IsSet r Mctrctl Bit.STE

abbrev pub MTE : Registers → Type 0
MTE r = IsSet r Mctrctl Bit.MTE

-- the external bits of the target and of every mode between are set
pub data External (r : Registers) : Mode → Mode → Type 0 where
  VU-VS : VSTE r → External r VU VS
  VS-VS : VSTE r → External r VS VS
  U-S : STE r → External r U S
  S-S : STE r → External r S S
  VS-S : STE r → External r VS S
  VU-S : VSTE r → STE r → External r VU S
  S-M : MTE r → External r S M
  M-M : MTE r → External r M M
  U-M : STE r → MTE r → External r U M
  VS-M : STE r → MTE r → External r VS M
  VU-M : VSTE r → STE r → MTE r → External r VU M

-- a possible trap that is recorded or not by the rules below: it does not freeze, and FROZEN is 0
pub record Passes (r : Registers) (t : TrapTo) : Type 0 where
  pub possible : Traps r.mode t.mode
  pub freezes_not : Freezes r (Trap t) → ⊥
  pub frozen_not : r.buffer.frozen ≡ false

-- the type of a retired word, by its row in the table of words, with the state's switch of Zcmp and Zcmt on or off
abbrev type_of : Registers → RetiredWord → ℕ
type_of r w = word_type r.constants.zc w.word w.taken

-- when a transfer is recorded: never while FROZEN is 1
pub data Qualifies (r : Registers) : Event → Type 0 where
  -- RASEMU 0: a retired transfer if its mode is on and its type isn't inhibited
  retired : {w : RetiredWord}
      → r.buffer.frozen ≡ false → RASEMU r (Retired w) ≡ 0 → On r r.mode → Allows r (other_fields r (Retired w)) (type_of r w)
      → Qualifies r (Retired w)
  -- RASEMU 0: a trap from a mode that is on into one that is on, unless EXCINH or INTRINH inhibits it
  on_to_on : {t : TrapTo}
      → Passes r t → RASEMU r (Trap t) ≡ 0 → On r r.mode → On r t.mode
      → Allows r (other_fields r (Trap t)) (trap_type t.interrupt) → Qualifies r (Trap t)
  -- from off to on the same
  off_to_on : {t : TrapTo}
      → Passes r t → RASEMU r (Trap t) ≡ 0 → Off r r.mode → On r t.mode
      → Allows r (other_fields r (Trap t)) (trap_type t.interrupt) → Qualifies r (Trap t)
  -- from on to off it is external: recorded if the external bits are set, inhibits not asked
  on_to_off : {t : TrapTo}
      → Passes r t → RASEMU r (Trap t) ≡ 0 → On r r.mode → Off r t.mode → External r r.mode t.mode
      → Qualifies r (Trap t)
  -- RASEMU 0: a return if its source is on and TRETINH is 0
  return : {t : ReturnTo}
      → Returns r.mode t.mode → r.buffer.frozen ≡ false → RASEMU r (TrapReturn t) ≡ 0 → On r r.mode
      → Allows r (other_fields r (TrapReturn t)) 3 → Qualifies r (TrapReturn t)
  -- RASEMU 1, in a mode that is on, inhibits not asked: types 8 and 9
  call : {w : RetiredWord}
      → r.buffer.frozen ≡ false → RASEMU r (Retired w) ≡ 1 → On r r.mode → (type_of r w ≡ 8) ⊎ (type_of r w ≡ 9)
      → Qualifies r (Retired w)

-- RASEMU 1, in a mode that is on: type 13 pops, and type 12 swaps in place
pub data Pops (r : Registers) : Event → Type 0 where
  type_13 : {w : RetiredWord}
      → r.buffer.frozen ≡ false → RASEMU r (Retired w) ≡ 1 → On r r.mode → type_of r w ≡ 13 → Pops r (Retired w)

pub data Swaps (r : Registers) : Event → Type 0 where
  type_12 : {w : RetiredWord}
      → r.buffer.frozen ≡ false → RASEMU r (Retired w) ≡ 1 → On r r.mode → type_of r w ≡ 12 → Swaps r (Retired w)

-- the cycles of a retired word, a trap or a return: those spent since the event before it
abbrev pub cycles_of : Event → ℕ
cycles_of (Retired w) = w.cycles
cycles_of (Trap t) = t.cycles
cycles_of (TrapReturn t) = t.cycles
cycles_of (Access a) = 0
cycles_of Sctrclr = 0
cycles_of (Host h) = 0

-- 1 where the counter counts, only while the event's source mode is on and FROZEN was 0 before the event; else 0
abbrev pub counts : Registers → ℕ
counts r = if r.buffer.frozen then 0 else switch r r.mode

-- the counter with the event's cycles, which go in before its own record. It has 27 bits and stays at its top
abbrev pub counter : Registers → Event → ℕ
counter r e = min (r.cycles.counter + counts r * cycles_of e) 0x7FFFFFF

-- any event from a mode that is on, with FROZEN 0 before it, while RASEMU governs it, zeroes the counter, and the next ordinary
-- record has CCV 0
abbrev pub zeroes : Registers → Event → Bool
zeroes r e = eqb (counts r * RASEMU r e) 1

-- the registers of an event that is not recorded, with its cycles
abbrev pub counted : Registers → Event → Registers
counted r e = cycles_to (if zeroes r e then 0 else counter r e) (if zeroes r e then false else r.cycles.ccv) r

-- those of one that is: the counter restarts, and the next record has CCV 1, but under RASEMU 0
abbrev pub restarted : Registers → Event → Registers
restarted r e = cycles_to 0 (eqb (RASEMU r e) 0) r

-- ctrdata of a record: CC, the coded count whatever CCV says, in bits 31..16, CCE above CCM; CCV in bit 15; the type in 3..0. Under
-- RASEMU a record or swap has CCV and CC 0
abbrev pub ctrdata_of : Registers → Event → ℕ → ℕ
ctrdata_of r e type =
    if eqb (RASEMU r e) 1 then type
    else (type + (if r.cycles.ccv then 0x8000 else 0) + 0x10000 * CCM (counter r e) + 0x10000000 * CCE (counter r e))

-- the address of a side: PC 0 where the switch of its mode is 0
abbrev pub side_of : ℕ → ℕ → ℕ
side_of zero pc = 0
side_of (suc on) pc = pc

-- MISP of a record or swap: the event's flag, or 0 for traps and trap returns
abbrev pub MISP : Event → ℕ
MISP (Retired w) = if w.mispredicted then 1 else 0
MISP (Trap t) = 0
MISP (TrapReturn t) = 0
MISP (Access a) = 0
MISP Sctrclr = 0
MISP (Host h) = 0

-- the record of an event: pc with bit 0 set (V), target with MISP in bit 0, type and count. Bit 0 of pc and target is ignored
abbrev pub entry_of : Registers → Event → ℕ → ℕ → ℕ → Entry
entry_of r e pc target type =
    record { ctrsource = pc / 2 * 2 + 1; ctrtarget = target / 2 * 2 + MISP e; ctrdata = ctrdata_of r e type }

-- what an event records, or puts in place of logical entry 0, if it does; accesses, SCTRCLR and the host's event never do
abbrev pub record_of : Registers → Event → Entry
record_of r (Retired w) = entry_of r (Retired w) w.pc w.target (type_of r w)
record_of r (Trap t) =
    entry_of r (Trap t) (side_of (switch r r.mode) t.epc) (side_of (switch r t.mode) t.handler) (trap_type t.interrupt)
record_of r (TrapReturn t) =
    entry_of r (TrapReturn t) (side_of (switch r r.mode) t.pc) (side_of (switch r t.mode) t.target) 3
record_of r (Access a) = entry_of r (Access a) 0 0 0
record_of r Sctrclr = entry_of r Sctrclr 0 0 0
record_of r (Host h) = entry_of r (Host h) 0 0 0

-- the mode, and what counts, alone
abbrev pub with_move : State → Event → State
with_move s e = let r = s.registers in registers_to (mode_to (mode_after r e) (counted r e)) s

-- FROZEN is set, and the mode changes; the trap's own cycles count, if FROZEN was 0 before it
abbrev pub with_freeze : State → Event → State
with_freeze s e = let r = s.registers in registers_to (mode_to (mode_after r e) (frozen_to true (counted r e))) s

-- WRPTR one up and one down, modulo depth
abbrev pub one_up : Registers → ℕ
one_up r = (r.buffer.wrptr + 1) % depth r.buffer.code

abbrev pub one_down : Registers → ℕ
one_down r = (r.buffer.wrptr + depth r.buffer.code - 1) % depth r.buffer.code

-- a record goes to physical entry WRPTR, WRPTR goes up by one, and the mode changes
abbrev pub with_record : State → Event → State
with_record s e =
    let r = s.registers in
    state_of (mode_to (mode_after r e) (wrptr_to (one_up r) (restarted r e))) (with_entry (entries_in s) r.buffer.wrptr (record_of r e))

-- a pop clears V of logical entry 0, and WRPTR goes down by one
abbrev pub without_v : Entry → Entry
without_v e = record { ctrsource = e.ctrsource / 2 * 2; ctrtarget = e.ctrtarget; ctrdata = e.ctrdata }

abbrev pub with_pop : State → Event → State
with_pop s e =
    let r = s.registers in
    state_of (wrptr_to (one_down r) (counted r e)) (with_entry (entries_in s) (physical r 0) (without_v (entry_at (entries_in s) (physical r 0))))

-- a swap overwrites logical entry 0 whole, and WRPTR stays
abbrev pub with_swap : State → Event → State
with_swap s e = let r = s.registers in state_of (counted r e) (with_entry (entries_in s) (physical r 0) (record_of r e))
