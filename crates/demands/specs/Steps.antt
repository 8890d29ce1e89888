-- The access steps (docs/RULES.md, R17 to R22), each as it is said; which number the first that applies gives.
use Rattle.std.specs.Prelude.{ℕ, ◌≤◌, ◌≡◌, false, ◌⊎◌}
use Rattle.machine.specs.declared.Mode.TheVariants.{U, M, VU, VS}
use Rattle.machine.specs.declared.Registers.{Registers}
use Rattle.csr.specs.declared.Csr.{Csr}
use Rattle.csr.specs.declared.Csr.TheVariants.{Control, Select, Ireg, Depth, Status}
use Rattle.csr.specs.declared.View.{View}
use Rattle.csr.specs.declared.View.TheVariants.{Machine, Supervisor, Guest}
use Rattle.machine.specs.declared.Event.{Event}
use Rattle.machine.specs.declared.Event.TheVariants.{Retired, Trap, TrapReturn, Access, Sctrclr, Host}
use Rattle.demands.specs.Registers.{Reaches, selected}

-- what is asked of the steps: an access by its number, or SCTRCLR
pub data Asked : Type 0 where
  number : ℕ → Asked
  sctrclr : Asked

-- a selection in the window
pub record Window (i : ℕ) : Type 0 where
  pub from : 0x200 ≤ i
  pub to : i ≤ 0x2FF

-- the registers of step 3's list: sctrctl, vsctrctl, sctrdepth, sctrstatus, or an ireg whose selection lies in the window
pub data Gated (r : Registers) : Csr → Type 0 where
  sctrctl : Gated r (Control Supervisor)
  vsctrctl : Gated r (Control Guest)
  sctrdepth : Gated r Depth
  sctrstatus : Gated r Status
  ireg : {v : View} {k : ℕ} → Window (selected r v) → Gated r (Ireg v k)

-- step 3's list: one of those registers, or SCTRCLR
pub data OfStep3 (r : Registers) : Asked → Type 0 where
  register : {n : ℕ} {g : Csr} → Reaches n g → Gated r g → OfStep3 r (number n)
  clear : OfStep3 r sctrclr

-- the registers that VS may not reach, by the number itself
pub data Barred : Csr → Type 0 where
  vsctrctl : Barred (Control Guest)
  sctrdepth : Barred Depth
  vsiselect : Barred (Select Guest)
  vsireg : {k : ℕ} → Barred (Ireg Guest k)

-- an ireg whose selection is outside the window
pub data Outside (r : Registers) : Csr → Type 0 where
  ireg : {v : View} {k : ℕ} → (Window (selected r v) → ⊥) → Outside r (Ireg v k)

-- 1. unlisted number
pub data Step1 (r : Registers) : Asked → Type 0 where
  unlisted : {n : ℕ} → ((g : Csr) → Reaches n g → ⊥) → Step1 r (number n)

-- 2. mctrctl below M; any access or SCTRCLR from U
pub data Step2 (r : Registers) : Asked → Type 0 where
  mctrctl : {n : ℕ} → (r.mode ≡ M → ⊥) → Reaches n (Control Machine) → Step2 r (number n)
  from_u : {a : Asked} → r.mode ≡ U → Step2 r a

-- 3. below M, mstateen0.CTR is 0, and the target is of the list
pub data Step3 (r : Registers) : Asked → Type 0 where
  gated : {a : Asked} → (r.mode ≡ M → ⊥) → r.enables.mstateen0 ≡ false → OfStep3 r a → Step3 r a

-- 4. from VU
pub data Step4 (r : Registers) : Asked → Type 0 where
  from_vu : {a : Asked} → r.mode ≡ VU → Step4 r a

-- 5. from VS, a register that it may not reach; or hstateen0.CTR is 0, and the target is of the list
pub data Step5 (r : Registers) : Asked → Type 0 where
  by_number : {n : ℕ} {g : Csr} → r.mode ≡ VS → Reaches n g → Barred g → Step5 r (number n)
  gated : {a : Asked} → r.mode ≡ VS → r.enables.hstateen0 ≡ false → OfStep3 r a → Step5 r a

-- 6. an ireg whose selection is outside the window
pub data Step6 (r : Registers) : Asked → Type 0 where
  outside : {n : ℕ} {g : Csr} → Reaches n g → Outside r g → Step6 r (number n)

-- the first that applies is 2 or 3: number 1; 4 or 5: number 2; 1 or 6: number 3
abbrev IllegalAt : Registers → Asked → Type 0
IllegalAt r a = (Step1 r a → ⊥) × (Step2 r a ⊎ Step3 r a)

abbrev VirtualAt : Registers → Asked → Type 0
VirtualAt r a = (Step1 r a → ⊥) × (Step2 r a → ⊥) × (Step3 r a → ⊥) × (Step4 r a ⊎ Step5 r a)

abbrev MissingAt : Registers → Asked → Type 0
MissingAt r a =
    Step1 r a ⊎ ((Step2 r a → ⊥) × (Step3 r a → ⊥) × (Step4 r a → ⊥) × (Step5 r a → ⊥) × Step6 r a)

-- of an event: the steps are for accesses and SCTRCLR
abbrev OfAsked : (Registers → Asked → Type 0) → Registers → Event → Type 0
OfAsked p r (Access a) = p r (number a.number)
OfAsked p r Sctrclr = p r sctrclr
OfAsked p r (Retired w) = ⊥
OfAsked p r (Trap t) = ⊥
OfAsked p r (TrapReturn t) = ⊥
OfAsked p r (Host h) = ⊥

-- illegal instruction, virtual instruction, and not listed or outside 0x200..0x2FF, by the access steps
abbrev pub Illegal : Registers → Event → Type 0
Illegal r e = OfAsked IllegalAt r e

abbrev pub Virtual : Registers → Event → Type 0
Virtual r e = OfAsked VirtualAt r e

abbrev pub Missing : Registers → Event → Type 0
Missing r e = OfAsked MissingAt r e
