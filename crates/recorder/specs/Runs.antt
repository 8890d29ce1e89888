-- Any recorder, and its runs: each event gets the state that the last one handed back.
use Rattle.std.specs.Prelude.{ℕ, List, [], ◌∷◌}
use Rattle.machine.specs.declared.Event.{Event}
use Rattle.recorder.specs.declared.State.{State}
use Rattle.recorder.specs.declared.Stepped.{Stepped}

-- what gives an answer and a state for every state and event. `step_of` is one
abbrev pub Recorder : Type 0
Recorder = State → Event → Stepped

-- an answer: a number and a value
pub record Answer : Type 0 where
  pub number : ℕ
  pub value : ℕ

abbrev pub answer_in : Stepped → Answer
answer_in t = record { number = t.number; value = t.value }

-- the answers to a list of events, and the state at its end
unfoldable pub answers_to : Recorder → State → List Event → List Answer
answers_to f s [] = []
answers_to f s (e ∷ l) = answer_in (f s e) ∷ answers_to f (f s e).state l

unfoldable pub end_of : Recorder → State → List Event → State
end_of f s [] = s
end_of f s (e ∷ l) = end_of f (f s e).state l
