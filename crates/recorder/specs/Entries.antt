-- The entries: three lists of words, by physical entry.
use Rattle.std.specs.Prelude.{ℕ, ◌≡◌, List, length, get_or, set, replicate}
use Rattle.machine.specs.declared.Entry.{Entry}
use Rattle.machine.specs.declared.Effect.{Effect}
use Rattle.machine.specs.declared.Effect.TheVariants.{Keep, Put, ClearAll}
use Rattle.recorder.specs.declared.Entries.{Entries}

-- how many there are
abbrev pub entries : ℕ
entries = 256

abbrev pub entries_of : List ℕ → List ℕ → List ℕ → Entries
entries_of a b c = record { ctrsource = a; ctrtarget = b; ctrdata = c }

-- all words zero
abbrev pub cleared : Entries
cleared = entries_of (replicate entries 0) (replicate entries 0) (replicate entries 0)

-- physical entry i
abbrev pub entry_at : Entries → ℕ → Entry
entry_at w i = record { ctrsource = get_or w.ctrsource i 0; ctrtarget = get_or w.ctrtarget i 0; ctrdata = get_or w.ctrdata i 0 }

-- the entries with another physical entry i
abbrev pub with_entry : Entries → ℕ → Entry → Entries
with_entry w i e = entries_of (set w.ctrsource i e.ctrsource) (set w.ctrtarget i e.ctrtarget) (set w.ctrdata i e.ctrdata)

-- the entries after an effect on physical entry i
unfoldable pub applied_of : Entries → Effect → ℕ → Entries
applied_of w Keep i = w
applied_of w (Put e) i = with_entry w i e
applied_of w ClearAll i = cleared

-- the three lists have a word for each entry
pub record Filled (w : Entries) : Type 0 where
  pub ctrsource : length w.ctrsource ≡ entries
  pub ctrtarget : length w.ctrtarget ≡ entries
  pub ctrdata : length w.ctrdata ≡ entries
