-- The count of an ordinary record: a corollary of demands 1 and 2, of any recorder.
use Rattle.std.specs.Prelude.{ℕ, suc, ◌+◌, ◌^◌, ◌≤◌, ◌<◌, ◌≡◌}
use Rattle.std.specs.Prelude.{if◌then◌else◌}
use Rattle.bits.specs.Words.{bit_at, field_at}
use Rattle.recorder.specs.Entries.{entry_at}
use Rattle.recorder.specs.Steps.{entries_in, Whole}
use Rattle.machine.specs.declared.Event.{Event}
use Rattle.recorder.specs.declared.State.{State}
use Rattle.demands.specs.States.{Free}
use Rattle.demands.specs.Counts.{decoded}
use Rattle.demands.specs.Transfers.{RASEMU, counter, Qualifies}
use Rattle.recorder.specs.Runs.{Recorder}
use Rattle.demands.specs.Demands.{Demand1, Demand2}

-- the count in ctrdata: CCE in bits 31..28, CCM in 27..16
abbrev pub count_in : ℕ → ℕ
count_in x = decoded (field_at x 28 4) (field_at x 16 12)

-- it is never above the counter n, and falls short by less than 2 to the power (CCE - 1), or by nothing at CCE 0
pub record Count (n x : ℕ) : Type 0 where
  pub not_above : count_in x ≤ n
  pub exact : field_at x 28 4 ≡ 0 → count_in x ≡ n
  pub short_by : (k : ℕ) → field_at x 28 4 ≡ suc k → n < count_in x + 2 ^ k

-- of an ordinary record the counter is that with the event's own cycles, before the restart; and CCV is the one that stood there
pub record RecordCount (s : State) (e : Event) (x : ℕ) : Type 0 where
  pub count : Count (counter s.registers e) x
  pub valid : bit_at x 15 ≡ (if s.registers.cycles.ccv then 1 else 0)

abbrev pub Counted : Type 0
Counted =
    (f : Recorder) → Demand1 f → Demand2 f → (s : State) (e : Event) → Whole s
    → Free s.registers → Qualifies s.registers e → RASEMU s.registers e ≡ 0
    → RecordCount s e (entry_at (entries_in (f s e).state) s.registers.buffer.wrptr).ctrdata
