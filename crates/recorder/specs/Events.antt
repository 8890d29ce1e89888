-- What an event is about: the type of a retired word, and the one physical entry that an event may change.
use Rattle.std.specs.Prelude.{ℕ, ◌%◌}
use Rattle.classifier.specs.Transfers.{transfer_of, type_of}
use Rattle.machine.specs.Depths.{depth_of}
use Rattle.machine.specs.declared.Buffer.{Buffer}
use Rattle.machine.specs.declared.Registers.{Registers}
use Rattle.machine.specs.declared.RetiredWord.{RetiredWord}
use Rattle.access.specs.Accesses.{access_focus}
use Rattle.qualifying.specs.Outcomes.{retired_outcome}
use Rattle.transfers.specs.Transfers.{outcome_focus}
use Rattle.machine.specs.declared.Event.{Event}
use Rattle.machine.specs.declared.Event.TheVariants.{Retired, Trap, TrapReturn, Access, Sctrclr, Host}

-- the type of a retired word, by the switch zc; 0 for none
unfoldable pub type_in : Registers → RetiredWord → ℕ
type_in r w = type_of (transfer_of r.constants.zc w.word) w.taken

-- the physical entry at WRPTR
abbrev pub at_wrptr : Buffer → ℕ
at_wrptr b = b.wrptr % depth_of b.code

-- the physical entry that an event is about: of a retired word that of its outcome, the one at WRPTR of a trap or return, the
-- selected one of an access. The others are about no entry alone
unfoldable pub focus_of : Registers → Event → ℕ
focus_of r (Retired w) = outcome_focus r.buffer (retired_outcome r (type_in r w))
focus_of r (Trap x) = at_wrptr r.buffer
focus_of r (TrapReturn x) = at_wrptr r.buffer
focus_of r (Access a) = access_focus r a.number
focus_of r Sctrclr = at_wrptr r.buffer
focus_of r (Host h) = at_wrptr r.buffer
