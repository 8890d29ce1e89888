-- None of the five useless recorders meets the demand that is named for it: each is shown a call in M with M on, or the host's event.
-- Assumes nothing.
use mathlib.Core.Bool.{false}
use mathlib.Core.Path.{◌≡◌, sym, ap, ◌∙◌}
use native.Mathlib.Omega.{arith}
use Rattle.recorder.specs.Runs.{Recorder}
use Rattle.recorder.specs.Steps.{reset_state}
use Rattle.recorder.specs.declared.State.{State}
use Prim.Native.Nat.{ℕ}
use Rattle.demands.specs.States.{depth}
use Rattle.demands.specs.Demands.{Demand2}
use Rattle.demands.specs.Useless.{Useless}
use Rattle.demands.proofs.Computed.{fresh, word, call, host, later, Shown, computed}
use Rattle.demands.proofs.Demands.{only_recorder}

abbrev shown : Shown
shown = computed.1

wrptr : State → ℕ
wrptr t = t.registers.buffer.wrptr

module _ (f : Recorder) where
  -- whoever meets demand 2 says 1 to both calls, and the first one moves WRPTR
  says_1 : Demand2 f → (f fresh call).value ≡ 1
  says_1 d = (d.events fresh call).qualifies.1 ((only_recorder.demand_2.events fresh call).qualifies.0 shown.0)

  later_1 : Demand2 f → (f later call).value ≡ 1
  later_1 d = (d.events later call).qualifies.1 ((only_recorder.demand_2.events later call).qualifies.0 shown.1)

  moves : Demand2 f → (f fresh call).state ≡ fresh → ⊥
  unfolding wrptr depth
  moves d h = omega (arith, ap wrptr (sym h ∙ (d.events fresh call).recorded.0 (says_1 d)))

  pub useless : Useless f
  useless =
      record {
        refuses_all = (λ h d. h (reset_state false) host ((d (reset_state false) host).zero.1 ((only_recorder.demand_1 (reset_state false) host).zero.0 shown.3)));
        says_nothing = (λ h d. omega (arith, h fresh word, says_1 d));
        never_changes = (λ h d. moves d (h fresh word));
        coasting = (λ h d. omega (arith, h later word shown.2, later_1 d));
        says_one = (λ h d. moves d (h fresh word (says_1 d)));
      }
