-- What is fixed at reset: no event changes the switch of Zcmp and Zcmt, nor does a list of events. A corollary of demands 1 and 2, of
-- any recorder. So both runs of demand 3, which start in one state, have it in common.
use Rattle.std.specs.Prelude.{◌≡◌, Bool, List}
use Rattle.machine.specs.declared.Constants.{Constants}
use Rattle.machine.specs.declared.Event.{Event}
use Rattle.recorder.specs.declared.State.{State}
use Rattle.recorder.specs.Runs.{Recorder, end_of}
use Rattle.demands.specs.States.{start}
use Rattle.demands.specs.Demands.{Demand1, Demand2}

abbrev constants : State → Constants
constants s = s.registers.constants

pub record Fixed (f : Recorder) : Type 0 where
  -- at reset it is the one given
  pub reset : (zc : Bool) → (constants (start zc)).zc ≡ zc
  -- an event, refused or not, from a good state or a bad one
  pub event : (s : State) (e : Event) → constants (f s e).state ≡ constants s
  pub events : (s : State) (l : List Event) → constants (end_of f s l) ≡ constants s
  pub from_reset : (zc : Bool) (l : List Event) → (constants (end_of f (start zc) l)).zc ≡ zc
  -- so at any two places of two runs from one state, a part of a list being a list
  pub both : (s : State) (l m : List Event) → constants (end_of f s l) ≡ constants (end_of f s m)

abbrev pub FixedAtReset : Type 0
FixedAtReset = (f : Recorder) → Demand1 f → Demand2 f → Fixed f
