-- What comes of a transfer, by the definitions' tests, is what the rules of specs/Transfers.antt say. Assumes nothing.
use Prim.Native.Nat.{ℕ}
use mathlib.Core.Path.{◌≡◌, refl, ap}
use mathlib.Core.Bool.{Bool, true, false, not, ◌&&◌}
use mathlib.Core.Logic.{inl, inr, ⊎_elim}
use lib.Dec.{eqb}
use borrow.Author.Tests.{eqb-true}
use Rattle.std.specs.Prelude.{if◌then◌else◌}
use Rattle.classifier.specs.Promise.{word_type}
use Rattle.classifier.specs.Transfers.{transfer_of}
use Rattle.machine.specs.Modes.{on_of, governing_of}
use Rattle.qualifying.specs.Filters.{freezes_of, external_of, inhibited_of}
use Rattle.machine.specs.declared.Mode.{Mode}
use Rattle.machine.specs.declared.ControlRegister.{ControlRegister}
use Rattle.machine.specs.declared.Registers.{Registers}
use Rattle.machine.specs.declared.RetiredWord.{RetiredWord}
use Rattle.machine.specs.declared.TrapTo.{TrapTo}
use Rattle.machine.specs.declared.ReturnTo.{ReturnTo}
use Rattle.qualifying.specs.Changes.{possible_trap, possible_return}
use Rattle.qualifying.specs.Outcomes.{stack_outcome, rasemu_of, on_outcome, live_of, live_outcome, retired_outcome, trap_by, trap_outcome, return_by, return_outcome}
use Rattle.machine.specs.declared.Outcome.{Outcome}
use Rattle.machine.specs.declared.Outcome.TheVariants.{Nothing, Record, Pop, Swap, Freeze}
use Rattle.recorder.specs.Events.{type_in}
use Rattle.machine.specs.declared.Event.{Event}
use Rattle.machine.specs.declared.Event.TheVariants.{Retired, Trap, TrapReturn, Access, Sctrclr, Host}
use Rattle.demands.specs.Transfers.{On, other_fields, RASEMU, trap_type, Freezes, Passes, Qualifies, Pops, Swaps}
use Rattle.demands.specs.Transfers.Freezes.{BPFRZ, LCOFIFRZ}
use Rattle.demands.specs.Transfers.Qualifies.{retired, on_to_on, off_to_on, on_to_off, return, call}
use Rattle.demands.specs.Transfers.Pops.{type_13}
use Rattle.demands.specs.Transfers.Swaps.{type_12}
use Rattle.demands.proofs.Decides.{no, fails}
use Rattle.demands.proofs.Tests.{mode, rasemu, governing_is, traps, returns, allowed_of, allows_word, allows_trap, allows_return, external_set, external_is, freezes_set, freezes}

-- what comes of an event, from registers free of number 5
unfoldable pub outcome_in : Registers → Event → Outcome
outcome_in r (Retired w) = retired_outcome r (type_in r w)
outcome_in r (Trap t) = if possible_trap r.mode t.mode then trap_outcome r t else Nothing
outcome_in r (TrapReturn t) = if possible_return r.mode t.mode then return_outcome r t.mode else Nothing
outcome_in r (Access a) = Nothing
outcome_in r Sctrclr = Nothing
outcome_in r (Host h) = Nothing

-- what the rules say where it is that outcome
abbrev pub Says : Registers → Event → Outcome → Type 0
Says r e Nothing = Unit {0}
Says r e Record = Qualifies r e
Says r e Pop = Pops r e
Says r e Swap = Swaps r e
Says r e Freeze = Freezes r e

-- each relation gives its outcome
passed : (r : Registers) (t : TrapTo) → Passes r t → freezes_of r t ≡ false
passed r t p = fails (freezes r t p.possible) p.freezes_not

pub qualifies_outcome : {r : Registers} {e : Event} → Qualifies r e → outcome_in r e ≡ Record
unfolding outcome_in retired_outcome live_of live_outcome on_outcome stack_outcome type_in trap_outcome trap_by return_outcome return_by
qualifies_outcome {r = r} (retired {w = w} f m o a) =
    rw ((mode r r.mode).on o, (rasemu r (Retired w)).off m, allowed_of r (Retired w) a, f)
qualifies_outcome {r = r} (on_to_on {t = t} p m o x a) =
    let to = t.mode in
    rw ((traps r.mode to).to p.possible, passed r t p, (rasemu r (Trap t)).off m, (mode r to).on x, allowed_of r (Trap t) a, p.frozen_not)
qualifies_outcome {r = r} (off_to_on {t = t} p m o x a) =
    let to = t.mode in
    rw ((traps r.mode to).to p.possible, passed r t p, (rasemu r (Trap t)).off m, (mode r to).on x, allowed_of r (Trap t) a, p.frozen_not)
qualifies_outcome {r = r} (on_to_off {t = t} p m o x y) =
    let to = t.mode in
    rw ((traps r.mode to).to p.possible, passed r t p, (rasemu r (Trap t)).off m, (mode r to).off x, (mode r r.mode).on o, external_set y, p.frozen_not)
qualifies_outcome {r = r} (return {t = t} p f m o a) =
    let to = t.mode in
    rw ((returns r.mode to).to p, (rasemu r (TrapReturn t)).off m, (mode r r.mode).on o, allowed_of r (TrapReturn t) a, f)
qualifies_outcome {r = r} (call {w = w} f m o c) =
    rw ((mode r r.mode).on o, (rasemu r (Retired w)).on m, f) (⊎_elim (ap stack_outcome) (ap stack_outcome) c)

pub pops_outcome : {r : Registers} {e : Event} → Pops r e → outcome_in r e ≡ Pop
unfolding outcome_in retired_outcome live_of live_outcome on_outcome stack_outcome type_in
pops_outcome {r = r} (type_13 {w = w} f m o c) =
    rw ((mode r r.mode).on o, (rasemu r (Retired w)).on m, f) (ap stack_outcome c)

pub swaps_outcome : {r : Registers} {e : Event} → Swaps r e → outcome_in r e ≡ Swap
unfolding outcome_in retired_outcome live_of live_outcome on_outcome stack_outcome type_in
swaps_outcome {r = r} (type_12 {w = w} f m o c) =
    rw ((mode r r.mode).on o, (rasemu r (Retired w)).on m, f) (ap stack_outcome c)

pub freezes_outcome : {r : Registers} {e : Event} → Freezes r e → outcome_in r e ≡ Freeze
unfolding outcome_in trap_outcome trap_by
freezes_outcome {r = r} (BPFRZ {t = t} p i c h) = rw ((traps r.mode t.mode).to p, freezes_set {r = r} (BPFRZ {t = t} p i c h))
freezes_outcome {r = r} (LCOFIFRZ {t = t} p i c h) = rw ((traps r.mode t.mode).to p, freezes_set {r = r} (LCOFIFRZ {t = t} p i c h))

-- and each outcome comes of its relation
emulated : (r : Registers) (w : RetiredWord) → r.buffer.frozen ≡ false → RASEMU r (Retired w) ≡ 1 → On r r.mode
    → Says r (Retired w) (stack_outcome (word_type r.constants.zc w.word w.taken))
unfolding stack_outcome
emulated r w f m o = go (eqb n 8) refl (eqb n 9) refl (eqb n 12) refl (eqb n 13) refl
  where
    n : ℕ
    n = word_type r.constants.zc w.word w.taken

    go : (a : Bool) → eqb n 8 ≡ a → (b : Bool) → eqb n 9 ≡ b → (c : Bool) → eqb n 12 ≡ c → (d : Bool) → eqb n 13 ≡ d
        → Says r (Retired w) (if a then Record else (if b then Record else (if c then Swap else (if d then Pop else Nothing))))
    go true h b i c j d k = call f m o (inl (eqb-true n 8 h))
    go false h true i c j d k = call f m o (inr (eqb-true n 9 i))
    go false h false i true j d k = type_12 f m o (eqb-true n 12 j)
    go false h false i false j true k = type_13 f m o (eqb-true n 13 k)
    go false h false i false j false k = tt

retired_says : (r : Registers) (w : RetiredWord) → Says r (Retired w) (retired_outcome r (type_in r w))
unfolding retired_outcome live_of live_outcome on_outcome type_in
retired_says r w = go (on_of r m) refl r.buffer.frozen refl (rasemu_of r m m) refl (inhibited_of r c n) refl
  where
    e : Event
    e = Retired w

    m : Mode
    m = r.mode

    c : ControlRegister
    c = governing_of m m

    n : ℕ
    n = word_type r.constants.zc w.word w.taken

    go : (on : Bool) → on_of r m ≡ on → (fr : Bool) → r.buffer.frozen ≡ fr → (ra : Bool) → rasemu_of r m m ≡ ra
        → (inh : Bool) → inhibited_of r c n ≡ inh
        → Says r (Retired w) (if on && not fr then (if ra then stack_outcome n else (if inh then Nothing else Record)) else Nothing)
    go true o false f true a inh i = emulated r w f ((rasemu r e).is_on a) ((mode r m).is_on o)
    go true o false f false a true i = tt
    go true o false f false a false i =
        retired f ((rasemu r e).is_off a) ((mode r m).is_on o)
        (allows_word r (other_fields r e) (transfer_of r.constants.zc w.word) w.taken (rw (governing_is r e) at i))
    go true o true f ra a inh i = tt
    go false o fr f ra a inh i = tt

trap_says : (r : Registers) (t : TrapTo) → Says r (Trap t) (if possible_trap r.mode t.mode then trap_outcome r t else Nothing)
unfolding trap_outcome trap_by
trap_says r t =
    go (possible_trap m to) refl (freezes_of r t) refl r.buffer.frozen refl (rasemu_of r m to) refl
    (on_of r m) refl (on_of r to) refl (inhibited_of r c (trap_type t.interrupt)) refl (external_of r m to) refl
  where
    e : Event
    e = Trap t

    m : Mode
    m = r.mode

    to : Mode
    to = t.mode

    c : ControlRegister
    c = governing_of m to

    passes : possible_trap m to ≡ true → freezes_of r t ≡ false → r.buffer.frozen ≡ false → Passes r t
    passes p z f =
        let q = (traps m to).from p in
        record { possible = q; freezes_not = no (freezes r t q) z; frozen_not = f }

    go : (ps : Bool) → possible_trap m to ≡ ps → (fz : Bool) → freezes_of r t ≡ fz → (fr : Bool) → r.buffer.frozen ≡ fr
        → (ra : Bool) → rasemu_of r m to ≡ ra → (so : Bool) → on_of r m ≡ so → (ta : Bool) → on_of r to ≡ ta
        → (inh : Bool) → inhibited_of r c (trap_type t.interrupt) ≡ inh → (ext : Bool) → external_of r m to ≡ ext
        → Says r (Trap t) (if ps then trap_by fz fr ra so ta inh ext else Nothing)
    go false p fz z fr f ra a so o ta x inh i ext y = tt
    go true p true z fr f ra a so o ta x inh i ext y = (freezes r t ((traps m to).from p)).from z
    go true p false z true f ra a so o ta x inh i ext y = tt
    go true p false z false f true a so o ta x inh i ext y = tt
    go true p false z false f false a so o true x true i ext y = tt
    go true p false z false f false a true o true x false i ext y =
        on_to_on (passes p z f) ((rasemu r e).is_off a) ((mode r m).is_on o) ((mode r to).is_on x)
        (allows_trap r (other_fields r e) t.interrupt (rw (governing_is r e) at i))
    go true p false z false f false a false o true x false i ext y =
        off_to_on (passes p z f) ((rasemu r e).is_off a) ((mode r m).is_off o) ((mode r to).is_on x)
        (allows_trap r (other_fields r e) t.interrupt (rw (governing_is r e) at i))
    go true p false z false f false a true o false x inh i true y =
        on_to_off (passes p z f) ((rasemu r e).is_off a) ((mode r m).is_on o) ((mode r to).is_off x)
        (external_is r ((traps m to).from p) y)
    go true p false z false f false a true o false x inh i false y = tt
    go true p false z false f false a false o false x inh i ext y = tt

return_says : (r : Registers) (t : ReturnTo)
    → Says r (TrapReturn t) (if possible_return r.mode t.mode then return_outcome r t.mode else Nothing)
unfolding return_outcome return_by
return_says r t =
    go (possible_return m to) refl r.buffer.frozen refl (rasemu_of r m to) refl (on_of r m) refl (inhibited_of r c 3) refl
  where
    e : Event
    e = TrapReturn t

    m : Mode
    m = r.mode

    to : Mode
    to = t.mode

    c : ControlRegister
    c = governing_of m to

    go : (ps : Bool) → possible_return m to ≡ ps → (fr : Bool) → r.buffer.frozen ≡ fr → (ra : Bool) → rasemu_of r m to ≡ ra
        → (so : Bool) → on_of r m ≡ so → (inh : Bool) → inhibited_of r c 3 ≡ inh
        → Says r (TrapReturn t) (if ps then return_by fr ra so inh else Nothing)
    go false p fr f ra a so o inh i = tt
    go true p true f ra a so o inh i = tt
    go true p false f true a so o inh i = tt
    go true p false f false a false o inh i = tt
    go true p false f false a true o true i = tt
    go true p false f false a true o false i =
        return ((returns m to).from p) f ((rasemu r e).is_off a) ((mode r m).is_on o)
        (allows_return r (other_fields r e) (rw (governing_is r e) at i))

pub says : (r : Registers) (e : Event) → Says r e (outcome_in r e)
unfolding outcome_in
says r (Retired w) = retired_says r w
says r (Trap t) = trap_says r t
says r (TrapReturn t) = return_says r t
says r (Access a) = tt
says r Sctrclr = tt
says r (Host h) = tt
