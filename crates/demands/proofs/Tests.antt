-- The definitions' tests are what the rules of specs/ say: switches, mode changes, inhibits, external bits, freezing, places.
-- Assumes nothing.
use Prim.Native.Nat.{ℕ, zero, suc, ◌-◌, ◌%◌, ◌≤◌, ◌<◌, min}
use mathlib.Core.Path.{◌≡◌, refl, sym, ap, ◌∙◌}
use mathlib.Core.Bool.{Bool, true, false, ◌&&◌, false≢true}
use native.Mathlib.Nat.{mod-eq_of_lt, mod-add-mod}
use native.Mathlib.Omega.{arith}
use lib.Dec.{eqb, ltb}
use lib.ListN.{length, get_or, get_or-eq_default}
use borrow.Author.Tests.{eqb-true, ltb-true, ltb-false, not-false}
use Rattle.bits.proofs.Cases.{passed}
use Rattle.std.specs.Prelude.{if◌then◌else◌}
use Rattle.classifier.specs.Transfers.{type_of}
use Rattle.classifier.specs.declared.Transfer.{Transfer}
use Rattle.classifier.specs.declared.Transfer.TheVariants.{None, Branch, IndirectCall, DirectCall, IndirectJump, DirectJump, CoroutineSwap, FunctionReturn, OtherIndirectJump, OtherDirectJump}
use Rattle.machine.specs.Controls.{place_of, control_word, is_set}
use Rattle.machine.specs.Modes.{is_virtual, control_of, on_of, governing_of}
use Rattle.machine.specs.Depths.{top_code, depth_of, physical_of}
use Rattle.machine.proofs.DepthLaws as Laws
use Rattle.machine.specs.declared.ControlBit.{ControlBit}
use Rattle.machine.specs.declared.ControlBit.TheVariants as Bit
use Rattle.machine.specs.declared.ControlRegister.{ControlRegister}
use Rattle.machine.specs.declared.ControlRegister.TheVariants.{Mctrctl, Vsctrctl}
use Rattle.machine.specs.declared.Event.{Event}
use Rattle.machine.specs.declared.Event.TheVariants.{Trap}
use Rattle.machine.specs.declared.Mode.{Mode}
use Rattle.machine.specs.declared.Mode.TheVariants.{U, S, M, VU, VS}
use Rattle.machine.specs.declared.Registers.{Registers}
use Rattle.machine.specs.declared.TrapTo.{TrapTo}
use Rattle.qualifying.specs.Changes.{possible_trap, possible_return}
use Rattle.qualifying.specs.Filters.{freezes_of, external_to_s, external_to_m, external_of, inhibit_bit, inhibited_of}
use Rattle.qualifying.specs.Outcomes.{rasemu_of}
use Rattle.transfers.specs.Records.{side_pc}
use Rattle.demands.specs.States.{depths, depth, place, held, bit, IsSet, Traps, Returns}
use Rattle.demands.specs.Registers.{physical}
use Rattle.demands.specs.Transfers.{switch, control, mode_after, mode_v, other_fields, RASEMU, trap_type, Allows, External, Freezes, side_of}
use Rattle.demands.proofs.Decides.{Decides, via, Tested, tested}

-- a bit of a control register
place_is : (b : ControlBit) → place_of b ≡ place b
place_is Bit.U = refl
place_is Bit.S = refl
place_is Bit.M = refl
place_is Bit.RASEMU = refl
place_is Bit.STE = refl
place_is Bit.MTE = refl
place_is Bit.BPFRZ = refl
place_is Bit.LCOFIFRZ = refl
place_is Bit.EXCINH = refl
place_is Bit.INTRINH = refl
place_is Bit.TRETINH = refl
place_is Bit.NTBREN = refl
place_is Bit.TKBRINH = refl
place_is Bit.INDCALLINH = refl
place_is Bit.DIRCALLINH = refl
place_is Bit.INDJMPINH = refl
place_is Bit.DIRJMPINH = refl
place_is Bit.CORSWAPINH = refl
place_is Bit.RETINH = refl
place_is Bit.INDLJMPINH = refl
place_is Bit.DIRLJMPINH = refl

word_is : (r : Registers) (c : ControlRegister) → control_word r c ≡ held r c
word_is r Mctrctl = refl
word_is r Vsctrctl = refl

set_is : (r : Registers) (c : ControlRegister) (b : ControlBit) → is_set r c b ≡ eqb (bit r c b) 1
unfolding is_set
set_is r c b = rw (word_is r c, place_is b)

pub bit_is : (r : Registers) (c : ControlRegister) (b : ControlBit) → Tested (bit r c b) (is_set r c b)
bit_is r c b = tested (bit r c b) (is_set r c b) (omega arith) (set_is r c b)

-- the switch of a mode
on_is : (r : Registers) (m : Mode) → on_of r m ≡ eqb (switch r m) 1
unfolding on_of control_of
on_is r U = set_is r Mctrctl Bit.U
on_is r S = set_is r Mctrctl Bit.S
on_is r M = set_is r Mctrctl Bit.M
on_is r VU = set_is r Vsctrctl Bit.U
on_is r VS = set_is r Vsctrctl Bit.S

pub switch_lt : (r : Registers) (m : Mode) → switch r m < 2
switch_lt r U = omega arith
switch_lt r S = omega arith
switch_lt r M = omega arith
switch_lt r VU = omega arith
switch_lt r VS = omega arith

pub mode : (r : Registers) (m : Mode) → Tested (switch r m) (on_of r m)
mode r m = tested (switch r m) (on_of r m) (switch_lt r m) (on_is r m)

-- the control register of a mode, and of a transition
control_is : (m : Mode) → control_of m ≡ control m
unfolding control_of
control_is U = refl
control_is S = refl
control_is M = refl
control_is VU = refl
control_is VS = refl

from_host : (to : Mode) → (if is_virtual to then Vsctrctl else Mctrctl) ≡ (if eqb 0 (mode_v to) then Mctrctl else Vsctrctl)
from_host U = refl
from_host S = refl
from_host M = refl
from_host VU = refl
from_host VS = refl

either : (b : Bool) → (if b then Vsctrctl else Vsctrctl) ≡ Vsctrctl
either true = refl
either false = refl

transition : (m to : Mode) → governing_of m to ≡ (if eqb (mode_v m) (mode_v to) then control m else Vsctrctl)
unfolding governing_of control_of
transition U to = from_host to
transition S to = from_host to
transition M to = from_host to
transition VU to = either (is_virtual to) ∙ sym (either (eqb 1 (mode_v to)))
transition VS to = either (is_virtual to) ∙ sym (either (eqb 1 (mode_v to)))

pub governing_is : (r : Registers) (e : Event) → governing_of r.mode (mode_after r e) ≡ other_fields r e
governing_is r e = transition r.mode (mode_after r e)

pub rasemu : (r : Registers) (e : Event) → Tested (RASEMU r e) (rasemu_of r r.mode (mode_after r e))
unfolding rasemu_of
rasemu r e = rw (governing_is r e) (bit_is r (other_fields r e) Bit.RASEMU)

-- mode changes
trap_of_lem : {m to : Mode} → Traps m to → possible_trap m to ≡ true
trap_of_lem Traps.U-S = refl
trap_of_lem Traps.U-M = refl
trap_of_lem Traps.VU-VS = refl
trap_of_lem Traps.VU-S = refl
trap_of_lem Traps.VU-M = refl
trap_of_lem Traps.VS-VS = refl
trap_of_lem Traps.VS-S = refl
trap_of_lem Traps.VS-M = refl
trap_of_lem Traps.S-S = refl
trap_of_lem Traps.S-M = refl
trap_of_lem Traps.M-M = refl

of_trap : (m to : Mode) → possible_trap m to ≡ true → Traps m to
of_trap U M h = Traps.U-M
of_trap S M h = Traps.S-M
of_trap M M h = Traps.M-M
of_trap VU M h = Traps.VU-M
of_trap VS M h = Traps.VS-M
of_trap U S h = Traps.U-S
of_trap S S h = Traps.S-S
of_trap M S h = absurd (false≢true h)
of_trap VU S h = Traps.VU-S
of_trap VS S h = Traps.VS-S
of_trap U VS h = absurd (false≢true h)
of_trap S VS h = absurd (false≢true h)
of_trap M VS h = absurd (false≢true h)
of_trap VU VS h = Traps.VU-VS
of_trap VS VS h = Traps.VS-VS
of_trap m U h = absurd (false≢true h)
of_trap m VU h = absurd (false≢true h)

pub traps : (m to : Mode) → Decides (Traps m to) (possible_trap m to)
traps m to = record { to = trap_of_lem; from = of_trap m to }

-- a return goes the way that a trap could have come
to_return : {m to : Mode} → Traps to m → Returns m to
to_return Traps.M-M = Returns.M-M
to_return Traps.S-M = Returns.M-S
to_return Traps.U-M = Returns.M-U
to_return Traps.VS-M = Returns.M-VS
to_return Traps.VU-M = Returns.M-VU
to_return Traps.S-S = Returns.S-S
to_return Traps.U-S = Returns.S-U
to_return Traps.VS-S = Returns.S-VS
to_return Traps.VU-S = Returns.S-VU
to_return Traps.VS-VS = Returns.VS-VS
to_return Traps.VU-VS = Returns.VS-VU

of_return : {m to : Mode} → Returns m to → Traps to m
of_return Returns.M-M = Traps.M-M
of_return Returns.M-S = Traps.S-M
of_return Returns.M-U = Traps.U-M
of_return Returns.M-VS = Traps.VS-M
of_return Returns.M-VU = Traps.VU-M
of_return Returns.S-S = Traps.S-S
of_return Returns.S-U = Traps.U-S
of_return Returns.S-VS = Traps.VS-S
of_return Returns.S-VU = Traps.VU-S
of_return Returns.VS-VS = Traps.VS-VS
of_return Returns.VS-VU = Traps.VU-VS

pub returns : (m to : Mode) → Decides (Returns m to) (possible_return m to)
returns m to = via to_return of_return (traps to m)

-- inhibits
pub allowed : {r : Registers} {c : ControlRegister} {n : ℕ} → Allows r c n → inhibited_of r c n ≡ false
unfolding inhibited_of inhibit_bit
allowed {r = r} {c = c} (Allows.EXCINH h) = (bit_is r c Bit.EXCINH).off h
allowed {r = r} {c = c} (Allows.INTRINH h) = (bit_is r c Bit.INTRINH).off h
allowed {r = r} {c = c} (Allows.TRETINH h) = (bit_is r c Bit.TRETINH).off h
allowed {r = r} {c = c} (Allows.NTBREN h) = rw ((bit_is r c Bit.NTBREN).on h)
allowed {r = r} {c = c} (Allows.TKBRINH h) = (bit_is r c Bit.TKBRINH).off h
allowed {r = r} {c = c} (Allows.INDCALLINH h) = (bit_is r c Bit.INDCALLINH).off h
allowed {r = r} {c = c} (Allows.DIRCALLINH h) = (bit_is r c Bit.DIRCALLINH).off h
allowed {r = r} {c = c} (Allows.INDJMPINH h) = (bit_is r c Bit.INDJMPINH).off h
allowed {r = r} {c = c} (Allows.DIRJMPINH h) = (bit_is r c Bit.DIRJMPINH).off h
allowed {r = r} {c = c} (Allows.CORSWAPINH h) = (bit_is r c Bit.CORSWAPINH).off h
allowed {r = r} {c = c} (Allows.RETINH h) = (bit_is r c Bit.RETINH).off h
allowed {r = r} {c = c} (Allows.INDLJMPINH h) = (bit_is r c Bit.INDLJMPINH).off h
allowed {r = r} {c = c} (Allows.DIRLJMPINH h) = (bit_is r c Bit.DIRLJMPINH).off h

pub allows_word : (r : Registers) (c : ControlRegister) (t : Transfer) (taken : Bool)
    → inhibited_of r c (type_of t taken) ≡ false → Allows r c (type_of t taken)
unfolding inhibited_of inhibit_bit
allows_word r c None taken h = absurd (false≢true (sym h))
allows_word r c Branch true h = Allows.TKBRINH ((bit_is r c Bit.TKBRINH).is_off h)
allows_word r c Branch false h = Allows.NTBREN ((bit_is r c Bit.NTBREN).is_on (not-false _ h))
allows_word r c IndirectCall taken h = Allows.INDCALLINH ((bit_is r c Bit.INDCALLINH).is_off h)
allows_word r c DirectCall taken h = Allows.DIRCALLINH ((bit_is r c Bit.DIRCALLINH).is_off h)
allows_word r c IndirectJump taken h = Allows.INDJMPINH ((bit_is r c Bit.INDJMPINH).is_off h)
allows_word r c DirectJump taken h = Allows.DIRJMPINH ((bit_is r c Bit.DIRJMPINH).is_off h)
allows_word r c CoroutineSwap taken h = Allows.CORSWAPINH ((bit_is r c Bit.CORSWAPINH).is_off h)
allows_word r c FunctionReturn taken h = Allows.RETINH ((bit_is r c Bit.RETINH).is_off h)
allows_word r c OtherIndirectJump taken h = Allows.INDLJMPINH ((bit_is r c Bit.INDLJMPINH).is_off h)
allows_word r c OtherDirectJump taken h = Allows.DIRLJMPINH ((bit_is r c Bit.DIRLJMPINH).is_off h)

pub allows_trap : (r : Registers) (c : ControlRegister) (interrupt : Bool)
    → inhibited_of r c (trap_type interrupt) ≡ false → Allows r c (trap_type interrupt)
unfolding inhibited_of inhibit_bit
allows_trap r c true h = Allows.INTRINH ((bit_is r c Bit.INTRINH).is_off h)
allows_trap r c false h = Allows.EXCINH ((bit_is r c Bit.EXCINH).is_off h)

pub allows_return : (r : Registers) (c : ControlRegister) → inhibited_of r c 3 ≡ false → Allows r c 3
unfolding inhibited_of inhibit_bit
allows_return r c h = Allows.TRETINH ((bit_is r c Bit.TRETINH).is_off h)

-- in the register that governs an event
pub allowed_of : (r : Registers) (e : Event) {n : ℕ}
    → Allows r (other_fields r e) n → inhibited_of r (governing_of r.mode (mode_after r e)) n ≡ false
allowed_of r e h = rw (governing_is r e) (allowed h)

-- external trap bits
both : {a b : Bool} → (a && b) ≡ true → (a ≡ true) × (b ≡ true)
both {a = true} {b = true} h = (refl, refl)
both {a = true} {b = false} h = absurd (false≢true h)
both {a = false} {b = b} h = absurd (false≢true h)

module _ (r : Registers) where
  abbrev vste : Tested (bit r Vsctrctl Bit.STE) (is_set r Vsctrctl Bit.STE)
  vste = bit_is r Vsctrctl Bit.STE

  abbrev ste : Tested (bit r Mctrctl Bit.STE) (is_set r Mctrctl Bit.STE)
  ste = bit_is r Mctrctl Bit.STE

  abbrev mte : Tested (bit r Mctrctl Bit.MTE) (is_set r Mctrctl Bit.MTE)
  mte = bit_is r Mctrctl Bit.MTE

pub external_set : {r : Registers} {m to : Mode} → External r m to → external_of r m to ≡ true
unfolding external_of external_to_m external_to_s
external_set {r = r} (External.VU-VS v) = (vste r).on v
external_set {r = r} (External.VS-VS v) = (vste r).on v
external_set {r = r} (External.U-S s) = (ste r).on s
external_set {r = r} (External.S-S s) = (ste r).on s
external_set {r = r} (External.VS-S s) = (ste r).on s
external_set {r = r} (External.VU-S v s) = rw ((vste r).on v, (ste r).on s)
external_set {r = r} (External.S-M m) = (mte r).on m
external_set {r = r} (External.M-M m) = (mte r).on m
external_set {r = r} (External.U-M s m) = rw ((ste r).on s, (mte r).on m)
external_set {r = r} (External.VS-M s m) = rw ((ste r).on s, (mte r).on m)
external_set {r = r} (External.VU-M v s m) = rw ((vste r).on v, (ste r).on s, (mte r).on m)

pub external_is : (r : Registers) {m to : Mode} → Traps m to → external_of r m to ≡ true → External r m to
unfolding external_of external_to_m external_to_s
external_is r Traps.VU-VS h = External.VU-VS ((vste r).is_on h)
external_is r Traps.VS-VS h = External.VS-VS ((vste r).is_on h)
external_is r Traps.U-S h = External.U-S ((ste r).is_on h)
external_is r Traps.S-S h = External.S-S ((ste r).is_on h)
external_is r Traps.VS-S h = External.VS-S ((ste r).is_on h)
external_is r Traps.VU-S h = let b = both h in External.VU-S ((vste r).is_on b.0) ((ste r).is_on b.1)
external_is r Traps.S-M h = External.S-M ((mte r).is_on h)
external_is r Traps.M-M h = External.M-M ((mte r).is_on h)
external_is r Traps.U-M h = let b = both h in External.U-M ((ste r).is_on b.0) ((mte r).is_on b.1)
external_is r Traps.VS-M h = let b = both h in External.VS-M ((ste r).is_on b.0) ((mte r).is_on b.1)
external_is r Traps.VU-M h =
    let b = both h in
    let a = both b.0 in
    External.VU-M ((vste r).is_on a.0) ((ste r).is_on a.1) ((mte r).is_on b.1)

-- freezing traps
pub freezes_set : {r : Registers} {t : TrapTo} → Freezes r (Trap t) → freezes_of r t ≡ true
unfolding freezes_of
freezes_set {r = r} {t = t} (Freezes.BPFRZ p i c h) = rw (i, c, control_is t.mode) ((bit_is r (control t.mode) Bit.BPFRZ).on h)
freezes_set {r = r} {t = t} (Freezes.LCOFIFRZ p i c h) = rw (i, c, control_is t.mode) ((bit_is r (control t.mode) Bit.LCOFIFRZ).on h)

-- a bit asked of one cause alone
asked : (k cause : ℕ) (set : Bool) → (if eqb cause k then set else false) ≡ true → (cause ≡ k) × (set ≡ true)
asked k cause set h = go (eqb cause k) refl h
  where
    go : (b : Bool) → eqb cause k ≡ b → (if b then set else false) ≡ true → (cause ≡ k) × (set ≡ true)
    go true e q = (eqb-true _ _ e, q)
    go false e q = absurd (false≢true q)

freezes_is : (r : Registers) (t : TrapTo) → Traps r.mode t.mode → freezes_of r t ≡ true → Freezes r (Trap t)
unfolding freezes_of
freezes_is r t p h = go t.interrupt refl h
  where
    in_control : (b : ControlBit) → is_set r (control_of t.mode) b ≡ true → IsSet r (control t.mode) b
    in_control b q = (bit_is r (control t.mode) b).is_on (rw (control_is t.mode) at q)

    go : (i : Bool) → t.interrupt ≡ i
        → (if i
        then (if eqb t.cause 13 then is_set r (control_of t.mode) Bit.LCOFIFRZ else false)
        else (if eqb t.cause 3 then is_set r (control_of t.mode) Bit.BPFRZ else false)) ≡ true
        → Freezes r (Trap t)
    go true e q = let a = asked 13 t.cause _ q in Freezes.LCOFIFRZ p e a.0 (in_control Bit.LCOFIFRZ a.1)
    go false e q = let a = asked 3 t.cause _ q in Freezes.BPFRZ p e a.0 (in_control Bit.BPFRZ a.1)

pub freezes : (r : Registers) (t : TrapTo) → Traps r.mode t.mode → Decides (Freezes r (Trap t)) (freezes_of r t)
freezes r t p = record { to = freezes_set; from = freezes_is r t p }

-- the depth: of the codes in the list by one test over it, and past its end the largest
pub depth_is : (c : ℕ) → depth_of c ≡ depth c
unfolding depth_of depth
depth_is c = go (ltb c (length depths)) refl
  where
    go : (b : Bool) → ltb c (length depths) ≡ b → depth_of c ≡ depth c
    go true h = eqb-true _ _ (passed (λ k. eqb (depth_of k) (get_or depths k 256)) (length depths) c refl (ltb-true _ _ h))
    go false h =
        let l : length depths ≤ c = ltb-false _ _ h in
        let m : min c top_code ≡ top_code = omega (arith, l) in
        rw (m, get_or-eq_default depths 256 l)

pub depth_ge : (c : ℕ) → 16 ≤ depth c
depth_ge c = omega (arith, Laws.depth_ge c, depth_is c)

-- logical entries
pub physical_is : (r : Registers) (i : ℕ) → i < depth r.buffer.code → physical_of r.buffer.code r.buffer.wrptr i ≡ physical r i
unfolding physical_of
physical_is r i h =
    let d = depth r.buffer.code in
    let g = depth_ge r.buffer.code in
    rw (depth_is r.buffer.code, mod-eq_of_lt h)
    (mod-add-mod r.buffer.wrptr d (d - 1 - i) ∙ ap (λ (x : ℕ). x % d) (omega arith))

-- the address of a side
pub side_is : (r : Registers) (m : Mode) (pc : ℕ) → side_pc r m pc ≡ side_of (switch r m) pc
unfolding side_pc
side_is r m pc = rw (on_is r m) (go (switch r m) (switch_lt r m))
  where
    go : (x : ℕ) → x < 2 → (if eqb x 1 then pc else 0) ≡ side_of x pc
    go zero h = refl
    go (suc zero) h = refl
    go (suc (suc x)) h = absurd (omega arith)
