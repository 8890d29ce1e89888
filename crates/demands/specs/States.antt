-- State and events (docs/RULES.md, S), said from the papers by themselves: literal numbers and plain arithmetic, and no definition
-- that the code is proved against but for what takes a state apart and puts it together (`Parts` says what that does) and the type
-- of a word. The rules go on in Registers, Steps and Transfers.
use Rattle.std.specs.Prelude.{ℕ, ◌≤◌, ◌<◌, ◌≡◌, Bool, false, List, [], ◌∷◌, get_or, replicate}
use Rattle.bits.specs.Words.{bit_at}
use Rattle.machine.specs.declared.Mode.{Mode}
use Rattle.machine.specs.declared.Mode.TheVariants.{U, S, M, VU, VS}
use Rattle.machine.specs.declared.ControlBit.{ControlBit}
use Rattle.machine.specs.declared.ControlBit.TheVariants as Bit
use Rattle.machine.specs.declared.ControlRegister.{ControlRegister}
use Rattle.machine.specs.declared.ControlRegister.TheVariants.{Mctrctl, Vsctrctl}
use Rattle.machine.specs.declared.Enables.{Enables}
use Rattle.machine.specs.declared.Registers.{Registers}
use Rattle.recorder.specs.Entries.{entries_of}
use Rattle.recorder.specs.declared.Entries.{Entries}
use Rattle.recorder.specs.Steps.{state_of}
use Rattle.machine.specs.declared.Event.{Event}
use Rattle.machine.specs.declared.Event.TheVariants.{Retired, Trap, TrapReturn, Access, Sctrclr, Host}
use Rattle.recorder.specs.declared.State.{State}

-- a bit of a word is 1
abbrev pub Is1 : ℕ → ℕ → Type 0
Is1 x n = bit_at x n ≡ 1

-- 256 entries of three words, at every depth; all 768 zero
abbrev pub zeros : Entries
zeros = entries_of (replicate 256 0) (replicate 256 0) (replicate 256 0)

-- at reset the mode is M, the switch of Zcmp and Zcmt as it is fixed there, and all else is 0
abbrev pub start : Bool → State
start zc =
    state_of (record {
      mode = M;
      controls = record { mctrctl = 0; vsctrctl = 0 };
      buffer = record { code = 0; wrptr = 0; frozen = false };
      selects = record { siselect = 0; vsiselect = 0 };
      enables = record { mstateen0 = false; hstateen0 = false };
      cycles = record { counter = 0; ccv = false };
      constants = record { zc = zc };
    })
    zeros

-- the depths, by their codes 0 to 4
abbrev pub depths : List ℕ
depths = 16 ∷ 32 ∷ 64 ∷ 128 ∷ 256 ∷ []

-- the depth of a code. 256 stands for every other code too; those are number 5, and nothing is said of them
unfoldable pub depth : ℕ → ℕ
depth code = get_or depths code 256

-- no bit of a control word is outside its mask
abbrev pub Within : ℕ → ℕ → Type 0
Within mask x = (n : ℕ) → Is1 x n → Is1 mask n

-- the control bits, by their places; in vsctrctl those of U, S and STE are VU, VS and VSTE
abbrev pub place : ControlBit → ℕ
place Bit.U = 0
place Bit.S = 1
place Bit.M = 2
place Bit.RASEMU = 7
place Bit.STE = 8
place Bit.MTE = 9
place Bit.BPFRZ = 11
place Bit.LCOFIFRZ = 12
place Bit.EXCINH = 33
place Bit.INTRINH = 34
place Bit.TRETINH = 35
place Bit.NTBREN = 36
place Bit.TKBRINH = 37
place Bit.INDCALLINH = 40
place Bit.DIRCALLINH = 41
place Bit.INDJMPINH = 42
place Bit.DIRJMPINH = 43
place Bit.CORSWAPINH = 44
place Bit.RETINH = 45
place Bit.INDLJMPINH = 46
place Bit.DIRLJMPINH = 47

-- a control register, and a bit of it: 1 or 0
abbrev pub held : Registers → ControlRegister → ℕ
held r Mctrctl = r.controls.mctrctl
held r Vsctrctl = r.controls.vsctrctl

abbrev pub bit : Registers → ControlRegister → ControlBit → ℕ
bit r c b = bit_at (held r c) (place b)

abbrev pub IsSet : Registers → ControlRegister → ControlBit → Type 0
IsSet r c b = bit r c b ≡ 1

abbrev pub IsClear : Registers → ControlRegister → ControlBit → Type 0
IsClear r c b = bit r c b ≡ 0

-- free of number 5, which is a depth code above 4, WRPTR not below the depth, a control bit outside its mask, or a counter of 2^27 or
-- more
pub record Free (r : Registers) : Type 0 where
  pub code : r.buffer.code ≤ 4
  pub pointer : r.buffer.wrptr < depth r.buffer.code
  pub mctrctl : Within 0x0000FF3E00001B87 r.controls.mctrctl
  pub vsctrctl : Within 0x0000FF3E00001983 r.controls.vsctrctl
  pub counter : r.cycles.counter < 0x8000000

-- possible traps: U to S, M; VU to VS, S, M; VS to VS, S, M; S to S, M; M to M
pub data Traps : Mode → Mode → Type 0 where
  U-S : Traps U S
  U-M : Traps U M
  VU-VS : Traps VU VS
  VU-S : Traps VU S
  VU-M : Traps VU M
  VS-VS : Traps VS VS
  VS-S : Traps VS S
  VS-M : Traps VS M
  S-S : Traps S S
  S-M : Traps S M
  M-M : Traps M M

-- possible returns: M to any mode; S to S, U, VS, VU; VS to VS, VU
pub data Returns : Mode → Mode → Type 0 where
  M-M : Returns M M
  M-S : Returns M S
  M-U : Returns M U
  M-VS : Returns M VS
  M-VU : Returns M VU
  S-S : Returns S S
  S-U : Returns S U
  S-VS : Returns S VS
  S-VU : Returns S VU
  VS-VS : Returns VS VS
  VS-VU : Returns VS VU

-- number 4: a mode change that is not possible
abbrev pub Impossible : Registers → Event → Type 0
Impossible r (Trap t) = Traps r.mode t.mode → ⊥
Impossible r (TrapReturn t) = Returns r.mode t.mode → ⊥
Impossible r (Retired w) = ⊥
Impossible r (Access a) = ⊥
Impossible r Sctrclr = ⊥
Impossible r (Host h) = ⊥

-- the registers with one of them changed, and all others as they were
abbrev pub mode_to : Mode → Registers → Registers
mode_to m r =
    record {
      mode = m;
      controls = r.controls;
      buffer = r.buffer;
      selects = r.selects;
      enables = r.enables;
      cycles = r.cycles;
      constants = r.constants;
    }

abbrev controls_to : ℕ → ℕ → Registers → Registers
controls_to m v r =
    record {
      mode = r.mode;
      controls = record { mctrctl = m; vsctrctl = v };
      buffer = r.buffer;
      selects = r.selects;
      enables = r.enables;
      cycles = r.cycles;
      constants = r.constants;
    }

abbrev pub mctrctl_to : ℕ → Registers → Registers
mctrctl_to x r = controls_to x r.controls.vsctrctl r

abbrev pub vsctrctl_to : ℕ → Registers → Registers
vsctrctl_to x r = controls_to r.controls.mctrctl x r

abbrev buffer_to : ℕ → ℕ → Bool → Registers → Registers
buffer_to c w f r =
    record {
      mode = r.mode;
      controls = r.controls;
      buffer = record { code = c; wrptr = w; frozen = f };
      selects = r.selects;
      enables = r.enables;
      cycles = r.cycles;
      constants = r.constants;
    }

abbrev pub code_to : ℕ → Registers → Registers
code_to x r = buffer_to x r.buffer.wrptr r.buffer.frozen r

abbrev pub wrptr_to : ℕ → Registers → Registers
wrptr_to x r = buffer_to r.buffer.code x r.buffer.frozen r

abbrev pub frozen_to : Bool → Registers → Registers
frozen_to b r = buffer_to r.buffer.code r.buffer.wrptr b r

abbrev selects_to : ℕ → ℕ → Registers → Registers
selects_to s v r =
    record {
      mode = r.mode;
      controls = r.controls;
      buffer = r.buffer;
      selects = record { siselect = s; vsiselect = v };
      enables = r.enables;
      cycles = r.cycles;
      constants = r.constants;
    }

abbrev pub siselect_to : ℕ → Registers → Registers
siselect_to x r = selects_to x r.selects.vsiselect r

abbrev pub vsiselect_to : ℕ → Registers → Registers
vsiselect_to x r = selects_to r.selects.siselect x r

-- the two state-enable bits, each as given
abbrev pub enables_to : Enables → Registers → Registers
enables_to e r =
    record {
      mode = r.mode;
      controls = r.controls;
      buffer = r.buffer;
      selects = r.selects;
      enables = record { mstateen0 = e.mstateen0; hstateen0 = e.hstateen0 };
      cycles = r.cycles;
      constants = r.constants;
    }

-- the cycle counter, and the CCV that an ordinary record would now get
abbrev pub cycles_to : ℕ → Bool → Registers → Registers
cycles_to n ccv r =
    record {
      mode = r.mode;
      controls = r.controls;
      buffer = r.buffer;
      selects = r.selects;
      enables = r.enables;
      cycles = record { counter = n; ccv = ccv };
      constants = r.constants;
    }
