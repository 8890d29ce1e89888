-- The access steps: why an access or SCTRCLR is refused, the first step that applies.
use Rattle.std.specs.Prelude.{ℕ, Ok, Err, Bool, true, false, not, ◌&&◌, ◌||◌}
use Rattle.std.specs.Prelude.{if◌then◌else◌}
use Rattle.bits.specs.Words.{is_from_to}
use Rattle.machine.specs.Answers.{Verdict}
use Rattle.machine.specs.Modes.{is_u, is_m, is_vu, is_vs}
use Rattle.machine.specs.declared.Registers.{Registers}
use Rattle.machine.specs.declared.Selects.{Selects}
use Rattle.machine.specs.declared.Refusal.TheVariants.{IllegalInstruction, VirtualInstruction, NoSuchRegister}
use Rattle.csr.specs.Numbers.{view_in}
use Rattle.csr.specs.declared.View.{View}
use Rattle.csr.specs.declared.View.TheVariants.{Machine, Supervisor, Guest}
use Rattle.csr.specs.declared.Csr.{Csr}
use Rattle.csr.specs.declared.Csr.TheVariants.{Control, Select, Ireg, Depth, Status, Unlisted}
use Rattle.csr.specs.declared.Facts.{Facts}

-- the select register of a view. M's, miselect, is not modelled: no number reaches it
abbrev pub select_of : Selects → View → ℕ
select_of s Machine = 0
select_of s Supervisor = s.siselect
select_of s Guest = s.vsiselect

-- the selection of an ireg, as a register means in its mode; 0 for a register without one
abbrev pub selection_of : Selects → Csr → ℕ
selection_of s (Ireg v k) = select_of s v
selection_of s (Control v) = 0
selection_of s (Select v) = 0
selection_of s Depth = 0
selection_of s Status = 0
selection_of s Unlisted = 0

-- the window of selections that reach entries
unfoldable pub in_window : ℕ → Bool
in_window s = is_from_to 0x200 0x2FF s

abbrev pub is_machine : View → Bool
is_machine Machine = true
is_machine Supervisor = false
is_machine Guest = false

abbrev pub is_guest : View → Bool
is_guest Machine = false
is_guest Supervisor = false
is_guest Guest = true

abbrev pub facts : Bool → Bool → Bool → Bool → Bool → Facts
facts unlisted machine barred gated outside =
    record { unlisted = unlisted; machine = machine; barred = barred; gated = gated; outside = outside }

-- what the steps ask of a register: whether its number is unlisted; whether it is M's alone; whether VS may not reach it, by the
-- number itself; whether the state enables gate it: sctrctl, vsctrctl, sctrdepth, sctrstatus, or an ireg whose selection lies in
-- the window; whether it is an ireg whose selection is outside the window
unfoldable pub facts_of : Registers → Csr → Facts
facts_of r (Control v) = facts false (is_machine v) (is_guest v) (not (is_machine v)) false
facts_of r (Select v) = facts false (is_machine v) (is_guest v) false false
facts_of r (Ireg v k) =
    let inside = in_window (select_of r.selects (view_in r.mode v)) in
    facts false (is_machine v) (is_guest v) inside (not inside)
facts_of r Depth = facts false false true true false
facts_of r Status = facts false false false true false
facts_of r Unlisted = facts true false false false false

-- SCTRCLR is gated, and nothing else is asked of it
abbrev pub sctrclr_facts : Facts
sctrclr_facts = facts false false false true false

-- 2. a register of M alone below M; anything from U
unfoldable pub step2 : Registers → Facts → Bool
step2 r f = is_u r.mode || (f.machine && not (is_m r.mode))

-- 3. below M, mstateen0.CTR is 0, and the target is gated
unfoldable pub step3 : Registers → Facts → Bool
step3 r f = not (is_m r.mode) && (not r.enables.mstateen0 && f.gated)

-- 5. from VS a barred register; or hstateen0.CTR is 0, and the target is gated
unfoldable pub step5 : Registers → Facts → Bool
step5 r f = is_vs r.mode && (f.barred || (not r.enables.hstateen0 && f.gated))

-- what the first step that applies says; accepted where none does
unfoldable pub first_step : Bool → Bool → Bool → Bool → Bool → Bool → Verdict
first_step one two three four five six =
    if one then Err NoSuchRegister
    else (if two then Err IllegalInstruction
    else (if three then Err IllegalInstruction
    else (if four then Err VirtualInstruction
    else (if five then Err VirtualInstruction
    else (if six then Err NoSuchRegister
    else Ok tt)))))

-- what the steps say of an access: 1. unlisted; 2. and 3. as above; 4. from VU; 5. as above; 6. an ireg outside the window
unfoldable pub refusal_of : Registers → Facts → Verdict
refusal_of r f = first_step f.unlisted (step2 r f) (step3 r f) (is_vu r.mode) (step5 r f) f.outside
