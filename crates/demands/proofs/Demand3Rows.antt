-- What `Demand3OverRows` states of a recorder that meets demand 3, from what `EveryRow` states of single rows. Assumes nothing.
use Prim.Native.Nat.{ℕ}
use mathlib.Core.Path.{◌≡◌, refl, sym, ap, ◌∙◌}
use mathlib.Core.List.{List, [], ◌∷◌, ◌++◌}
use lib.ListN.{length}
use Rattle.std.specs.Prelude.{if◌then◌else◌}
use Rattle.machine.specs.declared.Event.{Event}
use Rattle.recorder.specs.Runs.{Recorder, Answer, answer_in, answers_to, end_of}
use Rattle.recorder.specs.declared.State.{State}
use Rattle.trace.specs.declared.Replayed.{Replayed}
use Rattle.demands.specs.Demand3.{struck, answers_left, Demand3}
use Rattle.demands.specs.Rows.{EveryRow}
use Rattle.demands.specs.Replays.{answer_words, Room, WellFormedRows, Replays, answers_in, kept, Demand3OverRows}
use Rattle.demands.specs.Replays.Replays.{whole}
use Rattle.demands.proofs.Replays.{only_replay}

module _ (f : Recorder) where
  -- answers read back from their words, whatever comes after them
  read_back : (s : State) (l : List Event) (rest : List ℕ) → answers_in (length l) (answer_words (answers_to f s l) ++ rest) ≡ answers_to f s l
  unfolding answers_in answers_to answer_words
  read_back s [] rest = refl
  read_back s (e ∷ l) rest = ap (λ (xs : List Answer). answer_in (f s e) ∷ xs) (read_back (f s e).state l rest)

  -- of the answers to a list of events, those to the events left
  pub kept_left : (s : State) (l : List Event) → kept f s l (answers_to f s l) ≡ answers_left f s l
  unfolding kept answers_to answers_left
  kept_left s [] = refl
  kept_left s (e ∷ l) =
      ap (λ (xs : List Answer). if struck s.registers e then xs else (answer_in (f s e) ∷ xs)) (kept_left (f s e).state l)

  module _ (every : EveryRow) where
    -- what any run over the rows of events gives
    over_rows : (s : State) (ws a x : List ℕ) (l : List Event) (r : Replayed)
        → WellFormedRows ws l → Room a (length l) → Replays f s ws a r x
        → (kept f s l (answers_in (length l) x) ≡ answers_left f s l) × (r.state ≡ end_of f s l)
    over_rows s ws a x l r p room given =
        let o = (only_replay every).only f s ws a x _ r _ given (whole l room p) in (
          ap (λ (y : List ℕ). kept f s l (answers_in (length l) y)) o.1 ∙ ap (kept f s l) (read_back s l _) ∙ kept_left s l,
          ap (λ (q : Replayed). q.state) o.0,
        )

    pub demand_3_over_rows : Demand3 f → Demand3OverRows f
    demand_3_over_rows d s ws vs a b l m r q x y p p' room room' g g' alike =
        let i = over_rows s ws a x l r p room g in
        let j = over_rows s vs b y m q p' room' g' in
        let e = d s l m alike in
        (i.0 ∙ e.0 ∙ sym j.0, i.1 ∙ e.1 ∙ sym j.1)
