-- What an event decides, given the registers and the entry that it is about.
use Rattle.std.specs.Prelude.{Bool}
use Rattle.std.specs.Prelude.{if◌then◌else◌}
use Rattle.machine.specs.Answers.{refused}
use Rattle.machine.specs.Good.{good_of}
use Rattle.machine.specs.declared.Registers.{Registers}
use Rattle.machine.specs.declared.Entry.{Entry}
use Rattle.machine.specs.declared.Decision.{Decision}
use Rattle.machine.specs.declared.Refusal.TheVariants.{BadState}
use Rattle.access.specs.Accesses.{access_of, sctrclr_of, host_of}
use Rattle.transfers.specs.Transfers.{retired_of, trap_of, return_of}
use Rattle.recorder.specs.Events.{type_in}
use Rattle.machine.specs.declared.Event.{Event}
use Rattle.machine.specs.declared.Event.TheVariants.{Retired, Trap, TrapReturn, Access, Sctrclr, Host}

-- from registers free of number 5
unfoldable pub event_of : Registers → Entry → Event → Decision
event_of r old (Retired w) = retired_of r old (type_in r w) w
event_of r old (Trap x) = trap_of r old x
event_of r old (TrapReturn x) = return_of r old x
event_of r old (Access a) = access_of r old a
event_of r old Sctrclr = sctrclr_of r
event_of r old (Host h) = host_of r h

-- number 5 is looked for first, whatever the event; here what is found is given
abbrev pub decide_with : Bool → Registers → Entry → Event → Decision
decide_with good r old e = if good then event_of r old e else refused r BadState

unfoldable pub decide_of : Registers → Entry → Event → Decision
decide_of r old e = decide_with (good_of r) r old e
