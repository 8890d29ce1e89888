-- The six steps, by the definitions' tests. Assumes nothing.
use Prim.Native.Nat.{ℕ, ◌≤◌}
use mathlib.Core.Path.{◌≡◌, refl, sym, ap, subst, ◌∙◌}
use mathlib.Core.Bool.{Bool, true, false, not, ◌&&◌, ◌||◌, false≢true}
use mathlib.Core.Logic.{◌⊎◌, inl, inr, ⊎_elim, ◌↔◌}
use native.Mathlib.Omega.{arith}
use lib.Dec.{leb}
use borrow.Author.Tests.{leb-true, le-leb}
use Rattle.std.specs.Prelude.{if◌then◌else◌}
use Rattle.machine.specs.Modes.{is_virtual, is_u, is_m, is_vu, is_vs}
use Rattle.machine.specs.declared.Mode.{Mode}
use Rattle.machine.specs.declared.Mode.TheVariants.{U, S, M, VU, VS}
use Rattle.machine.specs.declared.Registers.{Registers}
use Rattle.machine.specs.Answers.{number_of}
use Rattle.csr.specs.Numbers.{register_of, view_in}
use Rattle.csr.specs.Steps.{in_window, select_of, facts_of, sctrclr_facts, step2, step3, step5, refusal_of}
use Rattle.csr.specs.declared.Csr.{Csr}
use Rattle.csr.specs.declared.Csr.TheVariants.{Control, Select, Ireg, Depth, Status, Unlisted}
use Rattle.csr.specs.declared.View.{View}
use Rattle.csr.specs.declared.View.TheVariants.{Machine, Supervisor, Guest}
use Rattle.machine.specs.declared.Event.{Event}
use Rattle.machine.specs.declared.Event.TheVariants.{Retired, Trap, TrapReturn, Access, Sctrclr, Host}
use Rattle.demands.specs.Registers.{Reaches, siselect_in, selected}
use Rattle.demands.specs.Steps.{Asked, Window, Gated, OfStep3, Barred, Outside, Step1, Step2, Step3, Step4, Step5, Step6, Illegal, Virtual, Missing}
use Rattle.demands.proofs.Decides.{Decides, via, either, pair, negated, clear, never}
use Rattle.demands.proofs.First.{First, first, numbers}
use Rattle.demands.proofs.Reaching.{is_there, reaches_is, reached, reach, passes}

-- modes
U-is : (m : Mode) → is_u m ≡ true → m ≡ U
U-is U h = refl
U-is S h = absurd (false≢true h)
U-is M h = absurd (false≢true h)
U-is VU h = absurd (false≢true h)
U-is VS h = absurd (false≢true h)

M-is : (m : Mode) → is_m m ≡ true → m ≡ M
M-is U h = absurd (false≢true h)
M-is S h = absurd (false≢true h)
M-is M h = refl
M-is VU h = absurd (false≢true h)
M-is VS h = absurd (false≢true h)

VU-is : (m : Mode) → is_vu m ≡ true → m ≡ VU
VU-is U h = absurd (false≢true h)
VU-is S h = absurd (false≢true h)
VU-is M h = absurd (false≢true h)
VU-is VU h = refl
VU-is VS h = absurd (false≢true h)

VS-is : (m : Mode) → is_vs m ≡ true → m ≡ VS
VS-is U h = absurd (false≢true h)
VS-is S h = absurd (false≢true h)
VS-is M h = absurd (false≢true h)
VS-is VU h = absurd (false≢true h)
VS-is VS h = refl

module _ (m : Mode) where
  in_u : Decides (m ≡ U) (is_u m)
  in_u = record { to = (λ e. ap is_u e); from = U-is m }

  in_m : Decides (m ≡ M) (is_m m)
  in_m = record { to = (λ e. ap is_m e); from = M-is m }

  in_vu : Decides (m ≡ VU) (is_vu m)
  in_vu = record { to = (λ e. ap is_vu e); from = VU-is m }

  in_vs : Decides (m ≡ VS) (is_vs m)
  in_vs = record { to = (λ e. ap is_vs e); from = VS-is m }

-- the window, and the selection of sireg*
pub window : (i : ℕ) → Decides (Window i) (in_window i)
unfolding in_window
window i =
    via (λ p. record { from = p.0; to = p.1 }) (λ w. (w.from, w.to))
    (pair (leb 0x200 i) (leb i 0x2FF) (at_least 0x200 i) (at_least i 0x2FF))
  where
    at_least : (a b : ℕ) → Decides (a ≤ b) (leb a b)
    at_least a b = record { to = (λ h. le-leb a b h); from = (λ h. leb-true a b h) }

-- with V=1 the supervisor's select register is the guest's
siselect_is : (r : Registers) (m : Mode) → select_of r.selects (if is_virtual m then Guest else Supervisor) ≡ siselect_in r m
siselect_is r U = refl
siselect_is r S = refl
siselect_is r M = refl
siselect_is r VU = refl
siselect_is r VS = refl

pub selected_is : (r : Registers) (v : View) → select_of r.selects (view_in r.mode v) ≡ selected r v
unfolding view_in
selected_is r Machine = refl
selected_is r Supervisor = siselect_is r r.mode
selected_is r Guest = refl

-- the facts that the steps ask, as lists of registers
module _ (r : Registers) where
  unlisted : Csr → Bool
  unlisted g = (facts_of r g).unlisted

  machine : Csr → Bool
  machine g = (facts_of r g).machine

  barred : Csr → Bool
  barred g = (facts_of r g).barred

  gate : Csr → Bool
  gate g = (facts_of r g).gated

  out : Csr → Bool
  out g = (facts_of r g).outside

  of_unlisted : (g : Csr) → unlisted g ≡ true → g ≡ Unlisted
  unfolding unlisted facts_of
  of_unlisted (Control v) h = absurd (false≢true h)
  of_unlisted (Select v) h = absurd (false≢true h)
  of_unlisted (Ireg v k) h = absurd (false≢true h)
  of_unlisted Depth h = absurd (false≢true h)
  of_unlisted Status h = absurd (false≢true h)
  of_unlisted Unlisted h = refl

  -- of the registers of M alone a number reaches one
  of_machine : (g : Csr) → is_there g ≡ true → machine g ≡ true → g ≡ Control Machine
  unfolding machine facts_of
  of_machine (Control Machine) t h = refl
  of_machine (Control Supervisor) t h = absurd (false≢true h)
  of_machine (Control Guest) t h = absurd (false≢true h)
  of_machine (Select Machine) t h = absurd (false≢true t)
  of_machine (Select Supervisor) t h = absurd (false≢true h)
  of_machine (Select Guest) t h = absurd (false≢true h)
  of_machine (Ireg Machine k) t h = absurd (false≢true t)
  of_machine (Ireg Supervisor k) t h = absurd (false≢true h)
  of_machine (Ireg Guest k) t h = absurd (false≢true h)
  of_machine Depth t h = absurd (false≢true h)
  of_machine Status t h = absurd (false≢true h)
  of_machine Unlisted t h = absurd (false≢true h)

  barred_of : {g : Csr} → Barred g → barred g ≡ true
  unfolding barred facts_of
  barred_of Barred.vsctrctl = refl
  barred_of Barred.sctrdepth = refl
  barred_of Barred.vsiselect = refl
  barred_of Barred.vsireg = refl

  of_barred : (g : Csr) → barred g ≡ true → Barred g
  unfolding barred facts_of
  of_barred (Control Machine) h = absurd (false≢true h)
  of_barred (Control Supervisor) h = absurd (false≢true h)
  of_barred (Control Guest) h = Barred.vsctrctl
  of_barred (Select Machine) h = absurd (false≢true h)
  of_barred (Select Supervisor) h = absurd (false≢true h)
  of_barred (Select Guest) h = Barred.vsiselect
  of_barred (Ireg Machine k) h = absurd (false≢true h)
  of_barred (Ireg Supervisor k) h = absurd (false≢true h)
  of_barred (Ireg Guest k) h = Barred.vsireg
  of_barred Depth h = Barred.sctrdepth
  of_barred Status h = absurd (false≢true h)
  of_barred Unlisted h = absurd (false≢true h)

  in_window_lem : (v : View) → in_window (select_of r.selects (view_in r.mode v)) ≡ in_window (selected r v)
  in_window_lem v = ap in_window (selected_is r v)

  gated_of : {g : Csr} → Gated r g → gate g ≡ true
  unfolding gate facts_of
  gated_of Gated.sctrctl = refl
  gated_of Gated.vsctrctl = refl
  gated_of Gated.sctrdepth = refl
  gated_of Gated.sctrstatus = refl
  gated_of (Gated.ireg {v = v} w) = in_window_lem v ∙ (window _).to w

  of_gated : (g : Csr) → gate g ≡ true → Gated r g
  unfolding gate facts_of
  of_gated (Control Machine) h = absurd (false≢true h)
  of_gated (Control Supervisor) h = Gated.sctrctl
  of_gated (Control Guest) h = Gated.vsctrctl
  of_gated (Select v) h = absurd (false≢true h)
  of_gated (Ireg v k) h = Gated.ireg ((window _).from (sym (in_window_lem v) ∙ h))
  of_gated Depth h = Gated.sctrdepth
  of_gated Status h = Gated.sctrstatus
  of_gated Unlisted h = absurd (false≢true h)

  outside_of : {g : Csr} → Outside r g → out g ≡ true
  unfolding out facts_of
  outside_of (Outside.ireg {v = v} w) = ap not (in_window_lem v) ∙ (negated _ (window (selected r v))).to w

  of_outside : (g : Csr) → out g ≡ true → Outside r g
  unfolding out facts_of
  of_outside (Control v) h = absurd (false≢true h)
  of_outside (Select v) h = absurd (false≢true h)
  of_outside (Ireg v k) h = Outside.ireg ((negated _ (window (selected r v))).from (ap not (sym (in_window_lem v)) ∙ h))
  of_outside Depth h = absurd (false≢true h)
  of_outside Status h = absurd (false≢true h)
  of_outside Unlisted h = absurd (false≢true h)

-- the steps of an access
module _ (r : Registers) (n : ℕ) where
  listed : Decides (OfStep3 r (Asked.number n)) (gate r (register_of n))
  unfolding gate facts_of
  listed = record { to = to_gate; from = (λ h. OfStep3.register (reach n (gate r) refl h) (of_gated r (register_of n) h)) }
    where
      to_gate : OfStep3 r (Asked.number n) → gate r (register_of n) ≡ true
      to_gate (OfStep3.register p q) = passes n (gate r) p (gated_of r q)

  access_1 : Decides (Step1 r (Asked.number n)) (unlisted r (register_of n))
  unfolding unlisted facts_of
  access_1 = record { to = to_1; from = (λ h. Step1.unlisted (λ g p. none g p (of_unlisted r (register_of n) h))) }
    where
      to_1 : Step1 r (Asked.number n) → unlisted r (register_of n) ≡ true
      to_1 (Step1.unlisted h) = ⊎_elim (λ e. ap (unlisted r) e) (λ p. absurd (h _ p)) (reached n)

      none : (g : Csr) → Reaches n g → register_of n ≡ Unlisted → ⊥
      none g p e = false≢true (ap is_there (sym e ∙ (reaches_is p).0) ∙ (reaches_is p).1)

  access_2 : Decides (Step2 r (Asked.number n)) (step2 r (facts_of r (register_of n)))
  unfolding step2 machine facts_of
  access_2 =
      via from_sum to_sum
      (either (is_u r.mode) _ (in_u r.mode) (pair (machine r (register_of n)) _ mctrctl (negated (is_m r.mode) (in_m r.mode))))
    where
      mctrctl : Decides (Reaches n (Control Machine)) (machine r (register_of n))
      mctrctl =
          record {
            to = (λ p. passes n (machine r) p refl);
            from = (λ h.
                let p = reach n (machine r) refl h in
                subst (λ (g : Csr). Reaches n g) (of_machine r (register_of n) (reaches_is p).1 h) p);
          }

      from_sum : (r.mode ≡ U) ⊎ (Reaches n (Control Machine) × (r.mode ≡ M → ⊥)) → Step2 r (Asked.number n)
      from_sum x = ⊎_elim (λ u. Step2.from_u u) (λ p. Step2.mctrctl p.1 p.0) x

      to_sum : Step2 r (Asked.number n) → (r.mode ≡ U) ⊎ (Reaches n (Control Machine) × (r.mode ≡ M → ⊥))
      to_sum (Step2.mctrctl m p) = inr (p, m)
      to_sum (Step2.from_u u) = inl u

  access_6 : Decides (Step6 r (Asked.number n)) (out r (register_of n))
  unfolding out facts_of
  access_6 = record { to = to_6; from = (λ h. Step6.outside (reach n (out r) refl h) (of_outside r (register_of n) h)) }
    where
      to_6 : Step6 r (Asked.number n) → out r (register_of n) ≡ true
      to_6 (Step6.outside p q) = passes n (out r) p (outside_of r q)

  by_number : Decides ((g : Csr) × Reaches n g × Barred g) (barred r (register_of n))
  unfolding barred facts_of
  by_number =
      record {
        to = (λ p. passes n (barred r) p.1 (barred_of r p.2));
        from = (λ h. (register_of n, reach n (barred r) refl h, of_barred r (register_of n) h));
      }

-- steps 3, 4 and 5, by whether the target is listed, and barred by its number
module _ (r : Registers) (a : Asked) (listed? barred? : Bool) (l : Decides (OfStep3 r a) listed?) where
  any_3 : Decides (Step3 r a) (not (is_m r.mode) && (not r.enables.mstateen0 && listed?))
  any_3 =
      via (λ p. Step3.gated p.0 p.1.0 p.1.1) parts
      (pair (not (is_m r.mode)) _ (negated (is_m r.mode) (in_m r.mode)) (pair (not r.enables.mstateen0) _ (clear r.enables.mstateen0) l))
    where
      parts : Step3 r a → (r.mode ≡ M → ⊥) × ((r.enables.mstateen0 ≡ false) × OfStep3 r a)
      parts (Step3.gated m s p) = (m, (s, p))

  any_4 : Decides (Step4 r a) (is_vu r.mode)
  any_4 = via (λ e. Step4.from_vu e) parts (in_vu r.mode)
    where
      parts : Step4 r a → r.mode ≡ VU
      parts (Step4.from_vu e) = e

  -- step 5, given what it is by the number itself
  any_5 : (H : Type 0) → Decides H barred? → ((r.mode ≡ VS) × (H ⊎ ((r.enables.hstateen0 ≡ false) × OfStep3 r a)) → Step5 r a)
      → (Step5 r a → (r.mode ≡ VS) × (H ⊎ ((r.enables.hstateen0 ≡ false) × OfStep3 r a)))
      → Decides (Step5 r a) (is_vs r.mode && (barred? || (not r.enables.hstateen0 && listed?)))
  any_5 H d f g =
      via f g
      (pair (is_vs r.mode) _ (in_vs r.mode) (either barred? _ d (pair (not r.enables.hstateen0) _ (clear r.enables.hstateen0) l)))

abbrev FirstOf : Registers → Asked → ℕ → Type 0
FirstOf r a k = First (Step1 r a) (Step2 r a) (Step3 r a) (Step4 r a) (Step5 r a) (Step6 r a) k

-- the two parts of step 5
abbrev Sum : Registers → ℕ → Type 0
Sum r n = (r.mode ≡ VS) × (((g : Csr) × Reaches n g × Barred g) ⊎ ((r.enables.hstateen0 ≡ false) × OfStep3 r (Asked.number n)))

first_access : (r : Registers) (n : ℕ) → FirstOf r (Asked.number n) (number_of (refusal_of r (facts_of r (register_of n))))
unfolding refusal_of step3 step5 unlisted barred gate out
first_access r n =
    first _ _ _ _ _ _ _ _ _ _ _ _ (access_1 r n) (access_2 r n)
    (any_3 r (Asked.number n) _ false (listed r n))
    (any_4 r (Asked.number n) _ false (listed r n))
    (any_5 r (Asked.number n) _ _ (listed r n) ((g : Csr) × Reaches n g × Barred g) (by_number r n) from_sum to_sum)
    (access_6 r n)
  where
    from_sum : Sum r n → Step5 r (Asked.number n)
    from_sum p = ⊎_elim (λ q. Step5.by_number p.0 q.1 q.2) (λ q. Step5.gated p.0 q.0 q.1) p.1

    to_sum : Step5 r (Asked.number n) → Sum r n
    to_sum (Step5.by_number {g = g} v p h) = (v, inl (g, p, h))
    to_sum (Step5.gated v s p) = (v, inr (s, p))

-- SCTRCLR: steps 1 and 6 are of numbers
abbrev OfNumber : Asked → Type 0
OfNumber (Asked.number n) = Unit {0}
OfNumber Asked.sctrclr = ⊥

of_1 : {r : Registers} {a : Asked} → Step1 r a → OfNumber a
of_1 (Step1.unlisted h) = tt

of_6 : {r : Registers} {a : Asked} → Step6 r a → OfNumber a
of_6 (Step6.outside p q) = tt

first_clear : (r : Registers) → FirstOf r Asked.sctrclr (number_of (refusal_of r sctrclr_facts))
unfolding refusal_of step2 step3 step5
first_clear r =
    first _ _ _ _ _ _ _ _ _ _ _ _ (never of_1)
    (via from_2 to_2 (either (is_u r.mode) false (in_u r.mode) (never (λ z. z))))
    (any_3 r Asked.sctrclr true false yes)
    (any_4 r Asked.sctrclr true false yes)
    (any_5 r Asked.sctrclr true false yes ⊥ (never (λ z. z)) from_5 to_5)
    (never of_6)
  where
    yes : Decides (OfStep3 r Asked.sctrclr) true
    yes = record { to = (λ p. refl); from = (λ h. OfStep3.clear) }

    from_2 : (r.mode ≡ U) ⊎ ⊥ → Step2 r Asked.sctrclr
    from_2 x = ⊎_elim (λ u. Step2.from_u u) (λ z. absurd z) x

    to_2 : Step2 r Asked.sctrclr → (r.mode ≡ U) ⊎ ⊥
    to_2 (Step2.from_u u) = inl u

    from_5 : (r.mode ≡ VS) × (⊥ ⊎ ((r.enables.hstateen0 ≡ false) × OfStep3 r Asked.sctrclr)) → Step5 r Asked.sctrclr
    from_5 p = ⊎_elim (λ z. absurd z) (λ q. Step5.gated p.0 q.0 q.1) p.1

    to_5 : Step5 r Asked.sctrclr → (r.mode ≡ VS) × (⊥ ⊎ ((r.enables.hstateen0 ≡ false) × OfStep3 r Asked.sctrclr))
    to_5 (Step5.gated v s p) = (v, inr (s, p))

-- the number of the first step that applies, and 0 where none does; other events know no steps
abbrev pub step_number : Registers → Event → ℕ
step_number r (Access a) = number_of (refusal_of r (facts_of r (register_of a.number)))
step_number r Sctrclr = number_of (refusal_of r sctrclr_facts)
step_number r (Retired w) = 0
step_number r (Trap t) = 0
step_number r (TrapReturn t) = 0
step_number r (Host h) = 0

-- when it is 1, 2 or 3
pub record StepNumbers (r : Registers) (e : Event) : Type 0 where
  pub is_1 : step_number r e ≡ 1 ↔ Illegal r e
  pub is_2 : step_number r e ≡ 2 ↔ Virtual r e
  pub is_3 : step_number r e ≡ 3 ↔ Missing r e

-- none of them where there are no steps
no_steps : (r : Registers) (e : Event) → step_number r e ≡ 0 → (Illegal r e → ⊥) → (Virtual r e → ⊥) → (Missing r e → ⊥) → StepNumbers r e
no_steps r e z a b c =
    record {
      is_1 = ((λ h. absurd (omega (arith, z, h))), (λ k. absurd (a k)));
      is_2 = ((λ h. absurd (omega (arith, z, h))), (λ k. absurd (b k)));
      is_3 = ((λ h. absurd (omega (arith, z, h))), (λ k. absurd (c k)));
    }

pub step_numbers : (r : Registers) (e : Event) → StepNumbers r e
step_numbers r (Access a) =
    let k = numbers _ _ _ _ _ _ _ (first_access r a.number) in
    record { is_1 = k.is_1; is_2 = k.is_2; is_3 = k.is_3 }
step_numbers r Sctrclr =
    let k = numbers _ _ _ _ _ _ _ (first_clear r) in
    record { is_1 = k.is_1; is_2 = k.is_2; is_3 = k.is_3 }
step_numbers r (Retired w) = no_steps r _ refl (λ z. z) (λ z. z) (λ z. z)
step_numbers r (Trap t) = no_steps r _ refl (λ z. z) (λ z. z) (λ z. z)
step_numbers r (TrapReturn t) = no_steps r _ refl (λ z. z) (λ z. z) (λ z. z)
step_numbers r (Host h) = no_steps r _ refl (λ z. z) (λ z. z) (λ z. z)

-- an access that no step stops reaches a register, its selection is in the window, and it is not from VU
of_none : (r : Registers) (n : ℕ) → register_of n ≡ Unlisted → unlisted r (register_of n) ≡ true
unfolding unlisted facts_of
of_none r n e = ap (unlisted r) e

pub granted_reach : (r : Registers) (n : ℕ) → number_of (refusal_of r (facts_of r (register_of n))) ≡ 0
    → Reaches n (register_of n) × (Outside r (register_of n) → ⊥) × (r.mode ≡ VU → ⊥)
granted_reach r n h = go (first_access r n)
  where
    go : FirstOf r (Asked.number n) (number_of (refusal_of r (facts_of r (register_of n))))
        → Reaches n (register_of n) × (Outside r (register_of n) → ⊥) × (r.mode ≡ VU → ⊥)
    go (First.none z a b c d e f) =
        let p : Reaches n (register_of n) = ⊎_elim (λ u. absurd (a ((access_1 r n).from (of_none r n u)))) (λ q. q) (reached n) in
        (p, (λ q. f (Step6.outside p q)), (λ q. d (Step4.from_vu q)))
    go (First.one z p) = absurd (omega (arith, z, h))
    go (First.two z p) = absurd (omega (arith, z, h))
    go (First.three z p) = absurd (omega (arith, z, h))
