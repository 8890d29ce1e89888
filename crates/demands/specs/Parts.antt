-- What takes a state apart and puts it together: the rules of this folder use it without saying it again, so here is what it does.
-- Proved in proofs/.
use Rattle.std.specs.Prelude.{ℕ, ◌<◌, ◌≡◌, get_or}
use Rattle.machine.specs.declared.Entry.{Entry}
use Rattle.machine.specs.declared.Registers.{Registers}
use Rattle.recorder.specs.Entries.{entry_at, with_entry}
use Rattle.recorder.specs.declared.Entries.{Entries}
use Rattle.recorder.specs.Steps.{state_of, entries_in, Whole}
use Rattle.recorder.specs.declared.State.{State}

pub record Parts : Type 0 where
  -- physical entry i has word i of each of the three arrays of the state's entries, in this order
  pub entry : (s : State) (i : ℕ)
      → entry_at (entries_in s) i
      ≡ record { ctrsource = get_or s.entries.ctrsource i 0; ctrtarget = get_or s.entries.ctrtarget i 0; ctrdata = get_or s.entries.ctrdata i 0 }
  -- a state is its registers and its entries
  pub registers : (r : Registers) (w : Entries) → (state_of r w).registers ≡ r
  pub entries : (r : Registers) (w : Entries) → entries_in (state_of r w) ≡ w
  pub whole : (s : State) → state_of s.registers (entries_in s) ≡ s
  -- an entry that is put is there, and no other changes
  pub put : (s : State) (i : ℕ) (e : Entry) → Whole s → i < 256 → entry_at (with_entry (entries_in s) i e) i ≡ e
  pub kept : (w : Entries) (i j : ℕ) (e : Entry) → (j ≡ i → ⊥) → entry_at (with_entry w i e) j ≡ entry_at w j
