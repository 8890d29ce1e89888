-- The entry in focus is one of the entries, of bad registers too, and what the steps do, put together. Assumes nothing.
use mathlib.Core.Path.{◌≡◌, refl, sym, ◌∙◌}
use mathlib.Core.Bool.{Bool, true, false}
use Prim.Native.Nat.{ℕ, ◌<◌}
use lib.ListN.{length-set}
use Rattle.machine.proofs.DepthLaws.{wrapped_lt}
use Rattle.machine.specs.Depths.{physical_of}
use Rattle.machine.specs.declared.Registers.{Registers}
use Rattle.machine.specs.declared.Decision.{Decision}
use Rattle.machine.specs.declared.Effect.{Effect}
use Rattle.machine.specs.declared.Effect.TheVariants.{Keep, Put, ClearAll}
use Rattle.machine.specs.Answers.{refused, accepted}
use Rattle.machine.specs.Good.{good_of}
use Rattle.machine.specs.Regs.{with_cycles}
use Rattle.machine.specs.declared.Entry.{Entry}
use Rattle.machine.specs.declared.RetiredWord.{RetiredWord}
use Rattle.machine.specs.declared.Refusal.TheVariants.{BadState}
use Rattle.access.specs.Accesses.{access_focus}
use Rattle.access.proofs.Laws.{laws}
use Rattle.transfers.proofs.Laws.{stays_good}
use Rattle.qualifying.specs.Outcomes.{live_of, live_outcome, retired_outcome, rasemu_of}
use Rattle.transfers.specs.Records.{entry_for}
use Rattle.transfers.specs.Transfers.{outcome_focus, done_of, retired_of}
use Rattle.machine.specs.declared.Outcome.{Outcome}
use Rattle.machine.specs.declared.Outcome.TheVariants.{Nothing, Record, Pop, Swap, Freeze}
use Rattle.recorder.specs.Events.{type_in, at_wrptr, focus_of}
use Rattle.recorder.specs.Decisions.{event_of, decide_with, decide_of}
use Rattle.recorder.specs.Entries.{entries, entry_at, applied_of, Filled}
use Rattle.recorder.specs.declared.Entries.{Entries}
use Rattle.recorder.specs.Steps.{state_of, entries_in, decided_of, applied_to, outcome_to, answered_by, step_with, step_of, stepped, Whole}
use Rattle.machine.specs.declared.Event.{Event}
use Rattle.machine.specs.declared.Event.TheVariants.{Retired, Trap, TrapReturn, Access, Sctrclr, Host}
use Rattle.recorder.specs.declared.State.{State}
use Rattle.recorder.specs.declared.Stepped.{Stepped}
use Rattle.recorder.specs.declared.Answered.{Answered}
use Rattle.transfers.specs.Counts.{live_cycles, cycles_of}

pub at_wrptr_lt : (r : Registers) → at_wrptr r.buffer < entries
at_wrptr_lt r = wrapped_lt r.buffer.wrptr r.buffer.code

pub physical_lt : (code wrptr i : ℕ) → physical_of code wrptr i < entries
unfolding physical_of
physical_lt code wrptr i = wrapped_lt _ code

pub outcome_lt : (r : Registers) (o : Outcome) → outcome_focus r.buffer o < entries
unfolding outcome_focus
outcome_lt r Nothing = at_wrptr_lt r
outcome_lt r Record = at_wrptr_lt r
outcome_lt r Pop = physical_lt r.buffer.code r.buffer.wrptr 0
outcome_lt r Swap = physical_lt r.buffer.code r.buffer.wrptr 0
outcome_lt r Freeze = at_wrptr_lt r

pub access_lt : (r : Registers) (number : ℕ) → access_focus r number < entries
unfolding access_focus
access_lt r number = physical_lt r.buffer.code r.buffer.wrptr _

-- an event from registers free of number 5: its decision done on the entry that it is about
pub good_step : (w v : Entries) (r : Registers) (e : Event) (at : ℕ) (d : Decision) (a : Answered)
    → good_of r ≡ true → at ≡ focus_of r e → d ≡ event_of r (entry_at w at) e → stepped a v ≡ applied_to w d at
    → step_of (state_of r w) e ≡ stepped a v
unfolding step_of decided_of decide_of
good_step w v r e at d a g p u h = rw g (sym (h ∙ rw (u, p)))

pub focused_step : (w v : Entries) (r : Registers) (e : Event) (at : ℕ) (old : Entry) (d : Decision) (a : Answered)
    → good_of r ≡ true → at ≡ focus_of r e → old ≡ entry_at w at → d ≡ event_of r old e → stepped a v ≡ applied_to w d at
    → step_of (state_of r w) e ≡ stepped a v
focused_step w v r e at old d a g p q u h = good_step w v r e at d a g p (rw q at u) h

-- the same by what `decided` says of what it did: D holds of what may be decided
pub decided_step : (w v : Entries) (r : Registers) (e : Event) (i : ℕ) (a : Answered) (D : Decision → Type 0)
    → good_of r ≡ true
    → ((d : Decision) × D d × (stepped a v ≡ applied_to w d i))
    → i ≡ focus_of r e
    → ((d : Decision) → D d → d ≡ event_of r (entry_at w i) e)
    → step_of (state_of r w) e ≡ stepped a v
decided_step w v r e i a D h g p u = focused_step w v r e i (entry_at w i) g.0 a h p refl (u g.0 g.1) g.2

-- from registers that are not, every event is refused
pub bad_step : (w : Entries) (r : Registers) (e : Event) (a : Answered)
    → good_of r ≡ false → a ≡ answered_by (refused r BadState) → step_of (state_of r w) e ≡ stepped a w
unfolding step_of decided_of decide_of applied_to applied_of
bad_step w r e a g h = rw (g, h)

-- a retired word: where recording is live its outcome is done, and else nothing
pub live_step : (w v : Entries) (r q : Registers) (x : RetiredWord) (n : ℕ) (o : Outcome) (e : Entry) (ra : Bool) (a : Answered)
    → live_of r ≡ true → n ≡ type_in r x → o ≡ live_outcome r n → e ≡ entry_for x.pc x.target x.mispredicted n
    → ra ≡ rasemu_of r r.mode r.mode → q ≡ with_cycles r (live_cycles r.cycles ra x.cycles)
    → stepped a v ≡ outcome_to w q e ra o → step_with true (state_of r w) (Retired x) ≡ stepped a v
unfolding step_with event_of focus_of retired_of retired_outcome cycles_of outcome_to
live_step w v r q x n o e ra a l t u i p c h = rw l (sym (h ∙ rw (c, i, u, t, p)))

pub dead_step : (w : Entries) (r : Registers) (x : RetiredWord) (a : Answered) (d : Decision) (b : Bool)
    → b ≡ live_of r → b ≡ false → d ≡ accepted r 0 → a ≡ answered_by d → step_with true (state_of r w) (Retired x) ≡ stepped a w
unfolding step_with event_of focus_of retired_of retired_outcome cycles_of done_of applied_to applied_of
dead_step w r x a d b u l f h = rw (← u, l, h, f)

-- an event by what is found of number 5
pub found_step : (w v : Entries) (r : Registers) (e : Event) (b : Bool) (a : Answered)
    → b ≡ good_of r → step_with b (state_of r w) e ≡ stepped a v → step_of (state_of r w) e ≡ stepped a v
unfolding step_of decided_of decide_of step_with
found_step w v r e b a u h = rw (← u) h

-- an effect keeps the lists' lengths
filled : (w : Entries) (f : Effect) (i : ℕ) → Filled w → Filled (applied_of w f i)
unfolding applied_of
filled w Keep i h = h
filled w (Put e) i h =
    record {
      ctrsource = length-set w.ctrsource i e.ctrsource ∙ h.ctrsource;
      ctrtarget = length-set w.ctrtarget i e.ctrtarget ∙ h.ctrtarget;
      ctrdata = length-set w.ctrdata i e.ctrdata ∙ h.ctrdata;
    }
filled w ClearAll i h = record { ctrsource = refl; ctrtarget = refl; ctrdata = refl }

-- a step keeps them
pub whole_kept : (s : State) (e : Event) → Whole s → Whole (step_of s e).state
unfolding step_of applied_to
whole_kept s e h = filled (entries_in s) (decided_of s e).effect (focus_of s.registers e) h

pub whole_after : (s : State) (e : Event) (t : Stepped) → t ≡ step_of s e → Whole s → Whole t.state
whole_after s e t p h = rw p (whole_kept s e h)

-- whether registers are free of number 5 stays
good_event : (r : Registers) (old : Entry) (e : Event) → good_of r ≡ true → good_of (event_of r old e).registers ≡ true
unfolding event_of
good_event r old (Retired w) h = (stays_good r old).retired (type_in r w) w h
good_event r old (Trap x) h = (stays_good r old).trap x h
good_event r old (TrapReturn x) h = (stays_good r old).trap_return x h
good_event r old (Access a) h = laws.good_access r old a h
good_event r old Sctrclr h = laws.good_clear r h
good_event r old (Host x) h = laws.good_host r x h

pub good_kept : (s : State) (e : Event) → good_of (step_of s e).state.registers ≡ good_of s.registers
unfolding step_of applied_to decided_of decide_of
good_kept s e = go (good_of r) refl
  where
    r : Registers
    r = s.registers

    go : (b : Bool) → good_of r ≡ b → good_of (decide_with b r (entry_at (entries_in s) (focus_of r e)) e).registers ≡ b
    go true h = good_event r _ e h
    go false h = h
