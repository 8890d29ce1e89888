-- A run over the rows of a trace, by recursion on the events done: each event gets the state that the last one handed back, and its
-- answer two words, number and value.
use Rattle.std.specs.Prelude.{ℕ, zero, suc, ◌+◌, ◌*◌, ◌/◌, ◌%◌, ◌^◌, Bool, true, false, ◌&&◌, List, eqb, ltb, length, get_or, set, Result, Ok, Err, Option, Some, None}
use Rattle.std.specs.Prelude.{if◌then◌else◌}
use Rattle.recorder.specs.Steps.{state_of, step_of}
use Rattle.machine.specs.declared.Event.{Event}
use Rattle.machine.specs.declared.Registers.{Registers}
use Rattle.recorder.specs.declared.Answered.{Answered}
use Rattle.recorder.specs.declared.Entries.{Entries}
use Rattle.recorder.specs.declared.State.{State}
use Rattle.trace.specs.Rows.{fits_retired, row_of}
use Rattle.trace.specs.declared.Malformed.{Malformed}
use Rattle.trace.specs.declared.Replayed.{Replayed}
use Rattle.trace.specs.declared.Ran.{Ran}

-- row i of a trace
unfoldable pub row_at : List ℕ → ℕ → Result Event Malformed
row_at ws i = row_of (get_or ws (4 * i) 0) (get_or ws (4 * i + 1) 0) (get_or ws (4 * i + 2) 0) (get_or ws (4 * i + 3) 0)

-- word 0 of a retired word: kind 0, and below the cycles no bit but taken and mispredicted
unfoldable pub is_retired_head : ℕ → Bool
is_retired_head w = eqb (w % 2 ^ 8) 0 && fits_retired w

abbrev pub is_well_formed : Result Event Malformed → Bool
is_well_formed (Ok e) = true
is_well_formed (Err k) = false

-- how many of the first n rows stand before the first malformed one
unfoldable pub leading : List ℕ → ℕ → ℕ
leading ws zero = zero
leading ws (suc n) = if eqb (leading ws n) n && is_well_formed (row_at ws n) then suc n else leading ws n

-- a state, and the answer words
pub record Run : Type 0 where
  pub state : State
  pub answers : List ℕ

-- the answer words with the answer to event i
abbrev pub answered : List ℕ → ℕ → ℕ → ℕ → List ℕ
answered a i number value = set (set a (2 * i) number) (2 * i + 1) value

-- row i run: its event and the answer to it
unfoldable pub next : Run → ℕ → Result Event Malformed → Run
next p i (Ok e) =
    let t = step_of p.state e in
    record { state = t.state; answers = answered p.answers i t.number t.value }
next p i (Err k) = p

-- a row run from a state, by itself: whether it is well-formed, and then the answer to its event and the state after it
pub record RowRun : Type 0 where
  pub well_formed : Bool
  pub number : ℕ
  pub value : ℕ
  pub state : State

unfoldable pub row_run_of : State → Result Event Malformed → RowRun
row_run_of s (Ok e) = let t = step_of s e in record { well_formed = true; number = t.number; value = t.value; state = t.state }
row_run_of s (Err k) = record { well_formed = false; number = 0; value = 0; state = s }

-- the first n rows run
unfoldable pub run_of : List ℕ → State → List ℕ → ℕ → Run
run_of ws s a zero = record { state = s; answers = a }
run_of ws s a (suc n) = next (run_of ws s a n) n (row_at ws n)

-- what a replay gives: its number, the count of events, and the state and all answer words afterwards
pub record Replay : Type 0 where
  pub number : ℕ
  pub count : ℕ
  pub state : State
  pub answers : List ℕ

-- before the first event: nothing is changed
abbrev pub unrun : ℕ → State → List ℕ → Replay
unrun number s a = record { number = number; count = 0; state = s; answers = a }

-- of n rows, those before the first malformed one: 9 if there is one, else 0
unfoldable pub ran_of : State → List ℕ → List ℕ → ℕ → Replay
ran_of s ws a n =
    let k = leading ws n in
    let p = run_of ws s a k in
    record { number = (if eqb k n then 0 else 9); count = k; state = p.state; answers = p.answers }

-- 6 for a length that is no multiple of four, then 7 for too few answer words
unfoldable pub replay_of : State → List ℕ → List ℕ → Replay
replay_of s ws a =
    if eqb (length ws % 4) 0
    then (if ltb (length a / 2) (length ws / 4) then unrun 7 s a else ran_of s ws a (length ws / 4))
    else unrun 6 s a

-- what the code gives, with the answer words afterwards; in place, with the entries too
abbrev pub replayed : Replayed → List ℕ → Replay
replayed r a = record { number = r.number; count = r.count; state = r.state; answers = a }

abbrev pub ran_to : Ran → Entries → List ℕ → Replay
ran_to r w a = record { number = r.number; count = r.count; state = state_of r.registers w; answers = a }

-- and of one row, from registers r: what its event answers, or nothing of a malformed one, which leaves them as they are
abbrev pub row_ran : Registers → Option Answered → Entries → RowRun
row_ran r (Some a) w = record { well_formed = true; number = a.number; value = a.value; state = state_of a.registers w }
row_ran r None w = record { well_formed = false; number = 0; value = 0; state = state_of r w }
