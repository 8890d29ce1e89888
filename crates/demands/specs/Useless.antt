-- The five useless recorders, and the demand that each does not meet. What makes one useless is said of retired words alone, where it
-- can be: whatever else such a recorder does, right or wrong, it fails.
use Rattle.std.specs.Prelude.{ℕ, ◌≡◌, Bool, true, false, ◌&&◌, List, [], ◌∷◌, eqb}
use Rattle.machine.specs.declared.Event.{Event}
use Rattle.machine.specs.declared.Event.TheVariants.{Retired}
use Rattle.machine.specs.declared.RetiredWord.{RetiredWord}
use Rattle.recorder.specs.declared.State.{State}
use Rattle.recorder.specs.Runs.{Recorder}
use Rattle.demands.specs.Demands.{Demand1, Demand2}

unfoldable pub all_zero : List ℕ → Bool
all_zero [] = true
all_zero (x ∷ l) = eqb x 0 && all_zero l

-- refuses all
abbrev RefusesAll : Recorder → Type 0
RefusesAll f = (s : State) (e : Event) → (f s e).number ≡ 0 → ⊥

-- always says nothing
abbrev SaysNothing : Recorder → Type 0
SaysNothing f = (s : State) (w : RetiredWord) → (f s (Retired w)).value ≡ 0

-- never changes its state
abbrev NeverChanges : Recorder → Type 0
NeverChanges f = (s : State) (w : RetiredWord) → (f s (Retired w)).state ≡ s

-- records the first event and then coasts: says nothing once a ctrsource is not zero
abbrev Coasts : Recorder → Type 0
Coasts f = (s : State) (w : RetiredWord) → all_zero s.entries.ctrsource ≡ false → (f s (Retired w)).value ≡ 0

-- says 1 without a record
abbrev SaysOne : Recorder → Type 0
SaysOne f = (s : State) (w : RetiredWord) → (f s (Retired w)).value ≡ 1 → (f s (Retired w)).state ≡ s

pub record Useless (f : Recorder) : Type 0 where
  -- 0 is given exactly when nothing else applies
  pub refuses_all : RefusesAll f → Demand1 f → ⊥
  -- qualifying transfers enter
  pub says_nothing : SaysNothing f → Demand2 f → ⊥
  pub never_changes : NeverChanges f → Demand2 f → ⊥
  -- at each event
  pub coasting : Coasts f → Demand2 f → ⊥
  -- value 1 exactly if an entry and WRPTR changed as described
  pub says_one : SaysOne f → Demand2 f → ⊥
