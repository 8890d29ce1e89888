-- Whose other fields count for a transition between V=0 and V=1. Proved in proofs/.
use Rattle.std.specs.Prelude.{◌≡◌, true, false}
use Rattle.machine.specs.Modes.{is_virtual, control_of, governing_of}
use Rattle.machine.specs.declared.Mode.{Mode}
use Rattle.machine.specs.declared.ControlRegister.TheVariants.{Vsctrctl}

pub record Edges : Type 0 where
  -- between V=0 and V=1, either way: vsctrctl's
  pub into : (source target : Mode) → is_virtual source ≡ false → is_virtual target ≡ true → governing_of source target ≡ Vsctrctl
  pub out : (source target : Mode) → is_virtual source ≡ true → is_virtual target ≡ false → governing_of source target ≡ Vsctrctl
  -- within either: those of the source mode's register
  pub within : (source target : Mode) → is_virtual source ≡ is_virtual target → governing_of source target ≡ control_of source
