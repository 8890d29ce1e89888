-- Whole traces in a call (docs/RULES.md, W), said from the papers by themselves: what a run over rows gives, a constructor a sentence;
-- that it is given exactly then; that a trace may be cut; and demand 3 over rows.
use Rattle.std.specs.Prelude.{ℕ, zero, suc, ◌+◌, ◌*◌, ◌≤◌, ◌≡◌, List, [], ◌∷◌, ◌++◌, ◌↔◌, ◌⊎◌, length, drop}
use Rattle.std.specs.Prelude.{if◌then◌else◌}
use Rattle.machine.specs.declared.Event.{Event}
use Rattle.recorder.specs.Runs.{Recorder, Answer, answers_to, end_of}
use Rattle.recorder.specs.Steps.{step_of}
use Rattle.recorder.specs.declared.State.{State}
use Rattle.trace.specs.Runs.{replay_of}
use Rattle.trace.specs.declared.Replayed.{Replayed}
use Rattle.demands.specs.Demand3.{struck, left, AllAlike}
use Rattle.demands.specs.Rows.{words, Malformed, rows_of, AllFit}

-- the words of answers: number, value
unfoldable pub answer_words : List Answer → List ℕ
answer_words [] = []
answer_words (x ∷ xs) = x.number ∷ x.value ∷ answer_words xs

-- the answer words after events: their answers, and past those what was lent
abbrev pub filled : Recorder → State → List Event → List ℕ → List ℕ
filled f s l a = answer_words (answers_to f s l) ++ drop (2 * length l) a

-- a length of n rows, and room for their answers
abbrev pub Rows : List ℕ → ℕ → Type 0
Rows ws n = length ws ≡ 4 * n

abbrev pub Room : List ℕ → ℕ → Type 0
Room a n = 2 * n ≤ length a

-- rows of events that all fit
pub record WellFormedRows (ws : List ℕ) (l : List Event) : Type 0 where
  pub fit : AllFit l
  pub same : ws ≡ rows_of l

-- rows of events that all fit, and after them one of no event that fits
pub record StopsAfter (ws : List ℕ) (l : List Event) : Type 0 where
  pub w : ℕ
  pub x : ℕ
  pub y : ℕ
  pub z : ℕ
  pub rest : List ℕ
  pub fit : AllFit l
  pub malformed : Malformed (words w x y z)
  pub same : ws ≡ rows_of l ++ (w ∷ x ∷ y ∷ z ∷ rest)

-- what a run from a state over words gives, and the answer words afterwards
pub data Replays (f : Recorder) (s : State) (ws a : List ℕ) : Replayed → List ℕ → Type 0 where
  -- 6 for a length that is no multiple of four, before the first event: count 0, nothing changed
  six : ((n : ℕ) → Rows ws n → ⊥) → Replays f s ws a (record { number = 6; count = 0; state = s }) a
  -- then 7 for too few answer words, likewise; it is asked of the whole length
  seven : (n : ℕ) → Rows ws n → (Room a n → ⊥) → Replays f s ws a (record { number = 7; count = 0; state = s }) a
  -- a malformed row stops the run with 9, the count of events before it, and the state and answers as after those
  nine : (n : ℕ) (l : List Event) → Rows ws n → Room a n → StopsAfter ws l
      → Replays f s ws a (record { number = 9; count = length l; state = end_of f s l }) (filled f s l a)
  -- a whole run gives 0 and the full count; answer words past it stay as lent
  whole : (l : List Event) → Room a (length l) → WellFormedRows ws l
      → Replays f s ws a (record { number = 0; count = length l; state = end_of f s l }) (filled f s l a)

-- each number exactly when the sentence says, and no number but these
pub record Numbers (ws a : List ℕ) (r : Replayed) : Type 0 where
  pub six : r.number ≡ 6 ↔ ((n : ℕ) → Rows ws n → ⊥)
  pub seven : r.number ≡ 7 ↔ ((n : ℕ) × Rows ws n × (Room a n → ⊥))
  pub nine : r.number ≡ 9 ↔ ((n : ℕ) × Rows ws n × Room a n × ((l : List Event) × StopsAfter ws l))
  pub zero : r.number ≡ 0 ↔ ((l : List Event) × Room a (length l) × WellFormedRows ws l)
  pub no_other : (r.number ≡ 0) ⊎ (r.number ≡ 6) ⊎ (r.number ≡ 7) ⊎ (r.number ≡ 9)

-- the sentences leave no choice, and what the code is proved against meets them
pub record OnlyReplay : Type 0 where
  pub gives : (s : State) (ws a : List ℕ)
      → (let p = replay_of s ws a in Replays step_of s ws a (record { number = p.number; count = p.count; state = p.state }) p.answers)
  pub only : (f : Recorder) (s : State) (ws a b c : List ℕ) (r q : Replayed)
      → Replays f s ws a r b → Replays f s ws a q c → (r ≡ q) × (b ≡ c)
  pub numbers : (f : Recorder) (s : State) (ws a b : List ℕ) (r : Replayed) → Replays f s ws a r b → Numbers ws a r

-- a trace in pieces: each with its own words and its own part of the answers
pub record Piece : Type 0 where
  pub rows : List ℕ
  pub answers : List ℕ

-- cut between events, and the answers at twice the events' count; the last piece has the rest
pub data Cut : List Piece → List ℕ → List ℕ → Type 0 where
  last : {ws a : List ℕ} → Cut (record { rows = ws; answers = a } ∷ []) ws a
  more : {ps : List Piece} {ws vs a b : List ℕ} (n : ℕ)
      → Rows ws n → length a ≡ 2 * n → Cut ps vs b → Cut (record { rows = ws; answers = a } ∷ ps) (ws ++ vs) (a ++ b)

-- run piece by piece, each from the state that the one before handed back, and all give 0: the sum of the counts, the state at the end,
-- and the answer words put together
pub data AllZero (f : Recorder) : State → List Piece → ℕ → State → List ℕ → Type 0 where
  none : {s : State} → AllZero f s [] 0 s []
  more : {s t end : State} {p : Piece} {ps : List Piece} {k n : ℕ} {b bs : List ℕ}
      → Replays f s p.rows p.answers (record { number = 0; count = k; state = t }) b → AllZero f t ps n end bs
      → AllZero f s (p ∷ ps) (k + n) end (b ++ bs)

-- when all pieces give 0, so does the whole, with the same count, end state and answers; and when the whole gives 0, so do they
abbrev pub Cutting : Recorder → Type 0
Cutting f =
    (s end : State) (ps : List Piece) (ws a b : List ℕ) (n : ℕ) → Cut ps ws a
    → AllZero f s ps n end b ↔ Replays f s ws a (record { number = 0; count = n; state = end }) b

-- the first n answers of answer words; where there is room for them, these never end before
unfoldable pub answers_in : ℕ → List ℕ → List Answer
answers_in zero xs = []
answers_in (suc n) [] = []
answers_in (suc n) (x ∷ []) = []
answers_in (suc n) (x ∷ y ∷ xs) = record { number = x; value = y } ∷ answers_in n xs

-- of the answers to a list of events, those to the events left
unfoldable pub kept : Recorder → State → List Event → List Answer → List Answer
kept f s [] xs = []
kept f s (e ∷ l) [] = []
kept f s (e ∷ l) (x ∷ xs) = if struck s.registers e then kept f (f s e).state l xs else (x ∷ kept f (f s e).state l xs)

-- demand 3 over rows: two slices of well-formed rows with room for their answers, from one state. If what is left of both, by each
-- run's own states, is equal but for addresses of sides that are off and the cycles of traps and returns from modes that are off, the
-- answers left are the same list, and so are the end states
abbrev pub Demand3OverRows : Recorder → Type 0
Demand3OverRows f =
    (s : State) (ws vs a b : List ℕ) (l m : List Event) (r q : Replayed) (x y : List ℕ)
    → WellFormedRows ws l → WellFormedRows vs m → Room a (length l) → Room b (length m)
    → Replays f s ws a r x → Replays f s vs b q y
    → AllAlike (left f s l) (left f s m)
    → (kept f s l (answers_in (length l) x) ≡ kept f s m (answers_in (length m) y)) × (r.state ≡ q.state)
