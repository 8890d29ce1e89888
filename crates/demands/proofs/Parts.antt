-- What `Parts` states. Assumes nothing.
use Prim.Native.Nat.{ℕ, ◌<◌}
use mathlib.Core.Path.{◌≡◌, refl, sym, subst}
use lib.Seq.{get_or-set_same, get_or-set_other}
use Rattle.machine.specs.declared.Entry.{Entry}
use Rattle.recorder.specs.Entries.{entry_at, with_entry}
use Rattle.recorder.specs.declared.Entries.{Entries}
use Rattle.recorder.specs.Steps.{entries_in, Whole}
use Rattle.recorder.specs.declared.State.{State}
use Rattle.demands.specs.Parts.{Parts}

put : (s : State) (i : ℕ) (e : Entry) → Whole s → i < 256 → entry_at (with_entry (entries_in s) i e) i ≡ e
put s i e w h =
    let room : (n : ℕ) → n ≡ 256 → i < n = λ n p. subst (λ (m : ℕ). i < m) (sym p) h in
    rw (
      get_or-set_same s.entries.ctrsource i e.ctrsource 0 (room _ w.ctrsource),
      get_or-set_same s.entries.ctrtarget i e.ctrtarget 0 (room _ w.ctrtarget),
      get_or-set_same s.entries.ctrdata i e.ctrdata 0 (room _ w.ctrdata),
    )

kept : (w : Entries) (i j : ℕ) (e : Entry) → (j ≡ i → ⊥) → entry_at (with_entry w i e) j ≡ entry_at w j
kept w i j e n =
    rw (
      get_or-set_other w.ctrsource i j e.ctrsource 0 n,
      get_or-set_other w.ctrtarget i j e.ctrtarget 0 n,
      get_or-set_other w.ctrdata i j e.ctrdata 0 n,
    )

pub parts : Parts
parts =
    record {
      entry = (λ s i. refl);
      registers = (λ r w. refl);
      entries = (λ r w. refl);
      whole = (λ s. refl);
      put = put;
      kept = kept;
    }
