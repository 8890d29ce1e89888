-- What holds by computation: the bench table, and the runs that the useless recorders are shown. Assumes nothing.
use mathlib.Core.Path.{◌≡◌, refl}
use mathlib.Core.Bool.{true, false}
use Rattle.bits.specs.Words as Words
use Rattle.classifier.specs.Transfers as Classifier
use Rattle.classifier.proofs.Vectors.{vectors}
use Rattle.machine.specs.Controls as Controls
use Rattle.machine.specs.Entries as EntryBits
use Rattle.machine.specs.Modes as Modes
use Rattle.qualifying.specs.Filters as Filters
use Rattle.machine.specs.Depths as Depths
use Rattle.machine.specs.Good as Good
use Rattle.machine.specs.declared.Mode.TheVariants.{M}
use Rattle.csr.specs.Numbers as Numbers
use Rattle.csr.specs.Steps as AccessSteps
use Rattle.access.specs.Readings as Readings
use Rattle.access.specs.Writes as Writes
use Rattle.access.specs.Accesses as Accesses
use Rattle.transfers.specs.Counts as Counts
use Rattle.transfers.specs.Records as Records
use Rattle.qualifying.specs.Outcomes as Outcomes
use Rattle.transfers.specs.Transfers as Transfers
use Rattle.recorder.specs.Events as Events
use Rattle.recorder.specs.Decisions as Decisions
use Rattle.recorder.specs.Entries as Entries
use Rattle.recorder.specs.Steps as Steps
use Rattle.recorder.specs.Steps.{state_of, step_of, reset_state}
use Rattle.machine.specs.declared.RetiredWord.{RetiredWord}
use Rattle.machine.specs.declared.Event.{Event}
use Rattle.machine.specs.declared.Event.TheVariants.{Retired, Host}
use Rattle.recorder.specs.declared.State.{State}
use Rattle.demands.specs.States.{zeros}
use Rattle.recorder.specs.Runs as Runs
use Rattle.demands.specs.BenchTable as Bench
use Rattle.demands.specs.BenchTable.{BenchTable}
use Rattle.demands.specs.Useless as Useless

-- M with M on, depth 16, no entry yet; and a call
abbrev pub fresh : State
fresh =
    state_of (record {
      mode = M;
      controls = record { mctrctl = 4; vsctrctl = 0 };
      buffer = record { code = 0; wrptr = 0; frozen = false };
      selects = record { siselect = 0; vsiselect = 0 };
      enables = record { mstateen0 = false; hstateen0 = false };
      cycles = record { counter = 0; ccv = false };
      constants = record { zc = false };
    })
    zeros

abbrev pub word : RetiredWord
word = record { word = 0x000000EF; pc = 0x1000; target = 0x2000; taken = false; mispredicted = false; cycles = 0 }

abbrev pub call : Event
call = Retired word

-- the host's event
abbrev pub host : Event
host = Host (record { mstateen0 = true; hstateen0 = true })

-- the same with that call recorded
abbrev pub later : State
later = (step_of fresh call).state

-- both calls are recorded, and the entries then are not all zero; the host's event is answered
abbrev pub Shown : Type 0
Shown =
    ((step_of fresh call).value ≡ 1)
    × ((step_of later call).value ≡ 1)
    × (Useless.all_zero later.entries.ctrsource ≡ false)
    × ((step_of (reset_state false) host).number ≡ 0)

pub computed : BenchTable × Shown
unfolding Words.keep Words.joined Classifier.plain_transfer Classifier.transfer_of Controls.is_set EntryBits.defined_of Modes.control_of Modes.on_of Modes.governing_of Filters.freezes_of Filters.external_to_s Filters.external_to_m Filters.external_of Filters.inhibit_bit Filters.inhibited_of Depths.depth_of Depths.physical_of Good.good_buffer Good.good_controls Good.good_of Numbers.register_of Numbers.supervisor_register Numbers.guest_register Numbers.view_in Numbers.csr_in AccessSteps.first_step AccessSteps.in_window AccessSteps.refusal_of AccessSteps.step2 AccessSteps.step3 AccessSteps.step5 AccessSteps.facts_of Readings.control_reading Readings.entry_reading Readings.is_entry Readings.reading_of Readings.status_of Readings.stored_of Readings.word_of Writes.control_written Writes.select_written Writes.depth_written Writes.status_written Writes.registers_written Writes.with_stored Writes.with_word Writes.entry_written Writes.effect_written Accesses.operand_of Accesses.write_of Accesses.operated_of Accesses.granted_of Accesses.access_to Accesses.access_of Accesses.access_focus Accesses.host_of Counts.live_cycles Counts.cycles_of Counts.exponent_of Counts.mantissa_of Counts.stamped Records.entry_for Records.side_pc Records.popped Records.advanced Records.retreated Outcomes.rasemu_of Outcomes.stack_outcome Outcomes.on_outcome Outcomes.live_of Outcomes.live_outcome Outcomes.retired_outcome Outcomes.trap_by Outcomes.trap_outcome Outcomes.return_by Outcomes.return_outcome Transfers.outcome_focus Transfers.done_of Transfers.retired_of Transfers.crossing Transfers.crossed_of Transfers.taken_trap Transfers.trap_of Transfers.taken_return Transfers.return_of Events.type_in Events.focus_of Decisions.event_of Decisions.decide_of Entries.applied_of Steps.decided_of Steps.applied_to Steps.step_of Steps.reset_state Runs.answers_to Runs.end_of Bench.none_refused Useless.all_zero
computed = (
  (vectors, ((refl, refl, refl), refl), ((refl, refl, refl), refl), (refl, refl, refl), refl, ((refl, refl, refl), refl), refl, (refl, refl, refl), refl, refl, ((refl, refl, refl), refl), ((refl, refl, refl), refl), ((refl, refl, refl), refl), ((refl, refl, refl), refl), (refl, refl, refl), refl, refl, (refl, refl, refl), refl, (refl, refl, refl), refl, refl, refl, (refl, refl, refl), refl, refl, refl, refl, refl, refl),
  (refl, refl, refl, refl),
)

pub bench_table : BenchTable
bench_table = computed.0
