-- What holds of outcomes. Proved in proofs/.
use Rattle.std.specs.Prelude.{ℕ, ◌≡◌, Bool, true, false}
use Rattle.machine.specs.Modes.{is_virtual, is_vu}
use Rattle.machine.specs.Regs.{with_controls}
use Rattle.machine.specs.declared.Mode.{Mode}
use Rattle.machine.specs.declared.Registers.{Registers}
use Rattle.machine.specs.declared.TrapTo.{TrapTo}
use Rattle.machine.specs.declared.Outcome.TheVariants.{Freeze}
use Rattle.qualifying.specs.Filters.{freezes_of, external_of}
use Rattle.qualifying.specs.Outcomes.{trap_by}

-- what the outcome of a trap does not depend on
pub record TrapOutcomes : Type 0 where
  -- a freezing trap freezes, whatever is frozen, on, inhibited or let through
  pub freezes : (frozen rasemu source target inhibited external : Bool)
      → trap_by true frozen rasemu source target inhibited external ≡ Freeze
  -- of a trap into a mode that is off the inhibits are not asked
  pub external : (freezes frozen rasemu source external inhibited inhibited' : Bool)
      → trap_by freezes frozen rasemu source false inhibited external ≡ trap_by freezes frozen rasemu source false inhibited' external

-- registers with another vsctrctl
abbrev pub with_vsctrctl : Registers → ℕ → Registers
with_vsctrctl r w = with_controls r (record { mctrctl = r.controls.mctrctl; vsctrctl = w })

-- what vsctrctl has no part in: for a trap into S or M, out of a guest too, the freeze bits, and the external bits of S and M; from
-- VU alone its VSTE is asked as well
pub record OfMctrctl : Type 0 where
  pub freezes : (r : Registers) (w : ℕ) (t : TrapTo) → is_virtual t.mode ≡ false → freezes_of r t ≡ freezes_of (with_vsctrctl r w) t
  pub external : (r : Registers) (w : ℕ) (source target : Mode)
      → is_vu source ≡ false → is_virtual target ≡ false → external_of r source target ≡ external_of (with_vsctrctl r w) source target
