-- The bits of the control registers mctrctl, sctrctl and vsctrctl: where each lies, and which of them a register has.
use Rattle.std.specs.Prelude.{ℕ, Bool, eqb}
use Rattle.bits.specs.Words.{bit_at}
use Rattle.machine.specs.declared.Registers.{Registers}
use Rattle.machine.specs.declared.ControlRegister.{ControlRegister}
use Rattle.machine.specs.declared.ControlRegister.TheVariants.{Mctrctl, Vsctrctl}
use Rattle.machine.specs.declared.ControlBit.{ControlBit}
use Rattle.machine.specs.declared.ControlBit.TheVariants.{U, S, M, RASEMU, STE, MTE, BPFRZ, LCOFIFRZ, EXCINH, INTRINH, TRETINH, NTBREN, TKBRINH, INDCALLINH, DIRCALLINH, INDJMPINH, DIRJMPINH, CORSWAPINH, RETINH, INDLJMPINH, DIRLJMPINH}

-- the place of each bit. In vsctrctl the places of U, S and STE are those of VU, VS and VSTE
abbrev pub place_of : ControlBit → ℕ
place_of U = 0
place_of S = 1
place_of M = 2
place_of RASEMU = 7
place_of STE = 8
place_of MTE = 9
place_of BPFRZ = 11
place_of LCOFIFRZ = 12
place_of EXCINH = 33
place_of INTRINH = 34
place_of TRETINH = 35
place_of NTBREN = 36
place_of TKBRINH = 37
place_of INDCALLINH = 40
place_of DIRCALLINH = 41
place_of INDJMPINH = 42
place_of DIRJMPINH = 43
place_of CORSWAPINH = 44
place_of RETINH = 45
place_of INDLJMPINH = 46
place_of DIRLJMPINH = 47

-- the word that a control register holds
abbrev pub control_word : Registers → ControlRegister → ℕ
control_word r Mctrctl = r.controls.mctrctl
control_word r Vsctrctl = r.controls.vsctrctl

-- whether a control register has a bit set
unfoldable pub is_set : Registers → ControlRegister → ControlBit → Bool
is_set r c b = eqb (bit_at (control_word r c) (place_of b)) 1

-- the bits that mctrctl has: all of them
abbrev pub mctrctl_mask : ℕ
mctrctl_mask = 0x0000FF3E00001B87

-- the bits that sctrctl shows of mctrctl, and that vsctrctl has: all but M and MTE
abbrev pub sctrctl_mask : ℕ
sctrctl_mask = 0x0000FF3E00001983

-- the bits of mctrctl that a write through sctrctl keeps: M and MTE
abbrev pub machine_mask : ℕ
machine_mask = 0x204
