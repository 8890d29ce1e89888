-- What the control registers say of traps and of transfer types: freezing, external traps, inhibits.
use Rattle.std.specs.Prelude.{ℕ, Bool, true, false, not, ◌&&◌, ◌||◌, eqb}
use Rattle.std.specs.Prelude.{if◌then◌else◌}
use Rattle.bits.specs.Words.{is_from_to}
use Rattle.machine.specs.Controls.{is_set}
use Rattle.machine.specs.Modes.{is_vu, control_of}
use Rattle.machine.specs.declared.Mode.{Mode}
use Rattle.machine.specs.declared.Mode.TheVariants.{U, S, M, VU, VS}
use Rattle.machine.specs.declared.ControlRegister.{ControlRegister}
use Rattle.machine.specs.declared.ControlRegister.TheVariants.{Mctrctl, Vsctrctl}
use Rattle.machine.specs.declared.ControlBit.{ControlBit}
use Rattle.machine.specs.declared.ControlBit.TheVariants as Bit
use Rattle.machine.specs.declared.Registers.{Registers}
use Rattle.machine.specs.declared.TrapTo.{TrapTo}

-- whether a trap freezes: a breakpoint exception (cause 3) with BPFRZ, or a counter overflow interrupt (cause 13) with LCOFIFRZ.
-- The bit is read in mctrctl for traps to M or S, in vsctrctl for traps to VS
unfoldable pub freezes_of : Registers → TrapTo → Bool
freezes_of r t =
    if t.interrupt
    then (if eqb t.cause 13 then is_set r (control_of t.mode) Bit.LCOFIFRZ else false)
    else (if eqb t.cause 3 then is_set r (control_of t.mode) Bit.BPFRZ else false)

-- the external trap bits: of VS in vsctrctl, of S and M in mctrctl
abbrev pub VSTE : Registers → Bool
VSTE r = is_set r Vsctrctl Bit.STE

abbrev pub STE : Registers → Bool
STE r = is_set r Mctrctl Bit.STE

abbrev pub MTE : Registers → Bool
MTE r = is_set r Mctrctl Bit.MTE

-- those of S and, from VU, of VS between
unfoldable pub external_to_s : Registers → Mode → Bool
external_to_s r source = if is_vu source then VSTE r && STE r else STE r

-- those of M and of every mode between
unfoldable pub external_to_m : Registers → Mode → Bool
external_to_m r S = MTE r
external_to_m r M = MTE r
external_to_m r U = external_to_s r U && MTE r
external_to_m r VU = external_to_s r VU && MTE r
external_to_m r VS = external_to_s r VS && MTE r

-- whether the external trap bits of the target and of every mode between are set; no trap goes to U or VU
unfoldable pub external_of : Registers → Mode → Mode → Bool
external_of r source VS = VSTE r
external_of r source S = external_to_s r source
external_of r source M = external_to_m r source
external_of r source U = false
external_of r source VU = false

-- the types that may be recorded: 1 to 5 and 8 to 15
abbrev pub is_type : ℕ → Bool
is_type n = is_from_to 1 5 n || is_from_to 8 15 n

-- the bit that is about a type
unfoldable pub inhibit_bit : ℕ → ControlBit
inhibit_bit n =
    if eqb n 1 then Bit.EXCINH
    else (if eqb n 2 then Bit.INTRINH
    else (if eqb n 3 then Bit.TRETINH
    else (if eqb n 4 then Bit.NTBREN
    else (if eqb n 5 then Bit.TKBRINH
    else (if eqb n 8 then Bit.INDCALLINH
    else (if eqb n 9 then Bit.DIRCALLINH
    else (if eqb n 10 then Bit.INDJMPINH
    else (if eqb n 11 then Bit.DIRJMPINH
    else (if eqb n 12 then Bit.CORSWAPINH
    else (if eqb n 13 then Bit.RETINH
    else (if eqb n 14 then Bit.INDLJMPINH
    else Bit.DIRLJMPINH)))))))))))

-- whether a control register inhibits a type: by its bit, which for type 4 lets through (NTBREN) and for the others inhibits.
-- 0, 6, 7 and what is no type are never recorded
unfoldable pub inhibited_of : Registers → ControlRegister → ℕ → Bool
inhibited_of r c n =
    if is_type n then (if eqb n 4 then not (is_set r c (inhibit_bit n)) else is_set r c (inhibit_bit n)) else true
