-- One row more of a run, and where a run stops. Assumes nothing.
use Prim.Native.Nat.{ℕ, zero, suc, ◌+◌, ◌/◌, ◌%◌, ◌^◌, ◌≤◌, ◌<◌}
use mathlib.Core.Path.{◌≡◌, refl, sym, ap, ◌∙◌}
use mathlib.Core.Bool.{Bool, true, false, false≢true, ◌&&◌}
use mathlib.Core.List.{List}
use native.Mathlib.Numerals.{add-one}
use native.Mathlib.Decide.{le_ind}
use native.Mathlib.Omega.{arith}
use lib.Dec.{eqb, ltb}
use lib.ListN.{length}
use borrow.Author.Tests.{eq-eqb, eqb-true, ne_eqb, lt-ltb, le-ltb}
use Rattle.bits.proofs.Cases.{both}
use Rattle.std.specs.Prelude.{if◌then◌else◌, Result, Ok, Err, Some, None}
use Rattle.machine.specs.declared.Event.{Event}
use Rattle.machine.specs.declared.Event.TheVariants.{Retired}
use Rattle.machine.specs.declared.RetiredWord.{RetiredWord}
use Rattle.machine.specs.declared.Registers.{Registers}
use Rattle.recorder.specs.declared.Entries.{Entries}
use Rattle.recorder.specs.Steps.{state_of, step_with, step_of, stepped, Whole}
use Rattle.recorder.specs.declared.Answered.{Answered}
use Rattle.recorder.specs.declared.State.{State}
use Rattle.machine.specs.Good.{good_of}
use Rattle.recorder.proofs.Laws.{whole_kept, good_kept, found_step}
use Rattle.trace.specs.Rows.{fits_retired, is_retired_row, retired_row, row_by, row_of}
use Rattle.trace.specs.Runs.{row_at, is_retired_head, is_well_formed, leading, Run, answered, next, run_of, RowRun, row_run_of, Replay, unrun, ran_of, replay_of, row_ran}
use Rattle.trace.specs.declared.Malformed.{Malformed}

-- a row by the test that it is well-formed
pub run_yes : (w v : Entries) (r : Registers) (t b : Bool) (e f : Event) (k : Malformed) (a : Answered)
    → t ≡ b → t ≡ true → step_of (state_of r w) f ≡ stepped a v → f ≡ e
    → row_run_of (state_of r w) (if b then Ok e else Err k) ≡ row_ran r (Some a) v
unfolding row_run_of
run_yes w v r t b e f k a u h p g = rw (← u, h, ← g, p)

-- a retired word, where what is found of number 5 is given
pub run_given : (w v : Entries) (r : Registers) (g t b : Bool) (x y : RetiredWord) (k : Malformed) (a : Answered)
    → g ≡ good_of r → t ≡ b → t ≡ true → step_with g (state_of r w) (Retired y) ≡ stepped a v → y ≡ x
    → row_run_of (state_of r w) (if b then Ok (Retired x) else Err k) ≡ row_ran r (Some a) v
run_given w v r g t b x y k a n u h p i =
    run_yes w v r t b (Retired x) (Retired y) k a u h (found_step w v r (Retired y) g a n p) (ap (λ (z : RetiredWord). Retired z) i)

pub run_no : (w : Entries) (r : Registers) (t b : Bool) (e : Event) (k : Malformed)
    → t ≡ b → t ≡ false → row_run_of (state_of r w) (if b then Ok e else Err k) ≡ row_ran r None w
unfolding row_run_of
run_no w r t b e k u h = rw (← u, h)

-- a row whose word 0 is that of a retired word
head_row : (w a b c : ℕ) → is_retired_head w ≡ true → row_of w a b c ≡ retired_row w a b c
unfolding is_retired_head row_of row_by
head_row w a b c h = rw (both (eqb (w % 2 ^ 8) 0) (fits_retired w) h).0

pub retired_first : (s : State) (t : Bool) (w a b c : ℕ) (z : RowRun)
    → t ≡ is_retired_head w → t ≡ true → row_run_of s (retired_row w a b c) ≡ z → row_run_of s (row_of w a b c) ≡ z
retired_first s t w a b c z u h p = rw (head_row w a b c (sym u ∙ h)) p

-- of kind 0 there is no other that is well-formed
not_second : (a b : Bool) → (a && b) ≡ false → a ≡ true → b ≡ false
not_second true b h p = h
not_second false b h p = absurd (false≢true p)

pub not_retired : (v : Entries) (r : Registers) (kind w a b c : ℕ)
    → kind ≡ 0 → kind ≡ w % 2 ^ 8 → is_retired_head w ≡ false
    → row_run_of (state_of r v) (row_by kind w a b c) ≡ row_ran r None v
unfolding row_run_of row_by retired_row is_retired_row is_retired_head
not_retired v r kind w a b c z k h =
    rw (z, not_second (eqb (w % 2 ^ 8) 0) (fits_retired w) h (eq-eqb (w % 2 ^ 8) 0 (sym k ∙ z)))

-- nor is a row of a kind that there is not
pub other_kind : (v : Entries) (r : Registers) (kind w a b c : ℕ)
    → kind ≡ w % 2 ^ 8 → is_retired_head w ≡ false
    → (kind ≡ 1 → ⊥) → (kind ≡ 2 → ⊥) → (kind ≡ 3 → ⊥) → (kind ≡ 4 → ⊥) → (kind ≡ 5 → ⊥)
    → row_run_of (state_of r v) (row_by kind w a b c) ≡ row_ran r None v
unfolding row_run_of row_by
other_kind v r kind w a b c k h h1 h2 h3 h4 h5 = go (eqb kind 0) refl
  where
    go : (z : Bool) → eqb kind 0 ≡ z → row_run_of (state_of r v) (row_by kind w a b c) ≡ row_ran r None v
    go true z = not_retired v r kind w a b c (eqb-true kind 0 z) k h
    go false z = rw (z, ne_eqb kind 1 h1, ne_eqb kind 2 h2, ne_eqb kind 3 h3, ne_eqb kind 4 h4, ne_eqb kind 5 h5)

-- a row by the kind in its lowest byte
pub by_kind : (s : State) (kind w a b c : ℕ) (z : RowRun) → kind ≡ w % 2 ^ 8 → row_run_of s (row_by kind w a b c) ≡ z → row_run_of s (row_of w a b c) ≡ z
unfolding row_of
by_kind s kind w a b c z k h = rw (← k) h

-- what a row run by itself says of the row, and of a run that goes on with it
pub row_yes : (s : State) (row : Result Event Malformed) (q : RowRun) → row_run_of s row ≡ q → q.well_formed ≡ true → is_well_formed row ≡ true
unfolding row_run_of
row_yes s (Ok e) q h t = refl
row_yes s (Err k) q h t = absurd (false≢true (ap (λ (x : RowRun). x.well_formed) h ∙ t))

pub row_no : (s : State) (row : Result Event Malformed) (q : RowRun) → row_run_of s row ≡ q → q.well_formed ≡ false
    → (is_well_formed row ≡ false) × (s ≡ q.state)
unfolding row_run_of
row_no s (Ok e) q h t = absurd (false≢true (sym t ∙ sym (ap (λ (x : RowRun). x.well_formed) h)))
row_no s (Err k) q h t = (refl, ap (λ (x : RowRun). x.state) h)

row_next : (s : State) (a : List ℕ) (i : ℕ) (row : Result Event Malformed) (q : RowRun) → row_run_of s row ≡ q → q.well_formed ≡ true
    → next (record { state = s; answers = a }) i row ≡ record { state = q.state; answers = answered a i q.number q.value }
unfolding row_run_of next
row_next s a i (Ok e) q h t = rw (← h)
row_next s a i (Err k) q h t = absurd (false≢true (ap (λ (x : RowRun). x.well_formed) h ∙ t))

-- and of number 5
pub row_good : (s : State) (row : Result Event Malformed) (q : RowRun) → row_run_of s row ≡ q → good_of q.state.registers ≡ good_of s.registers
unfolding row_run_of
row_good s (Ok e) q h = rw (← h) (good_kept s e)
row_good s (Err k) q h = rw (← h)

-- one event more
pub again : (ws : List ℕ) (s t : State) (a b c : List ℕ) (i : ℕ) (q : RowRun) → run_of ws s a i ≡ record { state = t; answers = b }
    → row_run_of t (row_at ws i) ≡ q → q.well_formed ≡ true → c ≡ answered b i q.number q.value
    → run_of ws s a (i + 1) ≡ record { state = q.state; answers = c }
unfolding run_of
again ws s t a b c i q p u h k = simp (add-one i, p, row_next t b i (row_at ws i) q u h, k)

-- a well-formed row after well-formed rows
pub leading_more : (ws : List ℕ) (i : ℕ) → leading ws i ≡ i → is_well_formed (row_at ws i) ≡ true → leading ws (i + 1) ≡ i + 1
unfolding leading
leading_more ws i p q = simp (add-one, p, q, eq-eqb i i refl)

-- a malformed row after well-formed rows: the next row, and then any
stuck : (ws : List ℕ) (i : ℕ) → leading ws i ≡ i → is_well_formed (row_at ws i) ≡ false → leading ws (suc i) ≡ i
unfolding leading
stuck ws i p q = simp (p, q, eq-eqb i i refl)

pub leading_stops : (ws : List ℕ) (i n : ℕ) → leading ws i ≡ i → is_well_formed (row_at ws i) ≡ false → i < n → leading ws n ≡ i
unfolding leading
leading_stops ws i n p q h =
    le_ind (λ (m : ℕ). leading ws m ≡ i) (stuck ws i p q)
    (λ m k e. simp (e, ne_eqb i m (omega arith)))
    n h

-- the end of a run: all rows, or those before a malformed one
pub ended : (ws : List ℕ) (s t : State) (a b : List ℕ) (n i : ℕ) → i ≡ n → leading ws i ≡ i → run_of ws s a i ≡ record { state = t; answers = b }
    → ran_of s ws a n ≡ record { number = 0; count = n; state = t; answers = b }
unfolding ran_of
ended ws s t a b n i e p h = rw (← e, p, h, eq-eqb i i refl)

pub stopped : (ws : List ℕ) (s t : State) (a b : List ℕ) (n i : ℕ) (q : RowRun) → i < n → leading ws i ≡ i
    → run_of ws s a i ≡ record { state = t; answers = b } → row_run_of t (row_at ws i) ≡ q → q.well_formed ≡ false
    → ran_of s ws a n ≡ record { number = 9; count = i; state = q.state; answers = b }
unfolding ran_of
stopped ws s t a b n i q l p h u f =
    let z = row_no t (row_at ws i) q u f in
    rw (leading_stops ws i n p z.0 l, h, ne_eqb i n (omega (arith, l)), z.1)

-- before the first event: 6, then 7; else the run
pub six : (s : State) (ws a : List ℕ) → (length ws % 4 ≡ 0 → ⊥) → replay_of s ws a ≡ unrun 6 s a
unfolding replay_of
six s ws a h = rw (ne_eqb (length ws % 4) 0 h)

pub seven : (s : State) (ws a : List ℕ) → length ws % 4 ≡ 0 → length a / 2 < length ws / 4 → replay_of s ws a ≡ unrun 7 s a
unfolding replay_of
seven s ws a h l = rw (h, lt-ltb (length a / 2) (length ws / 4) l)

pub with_room : (s : State) (ws a : List ℕ) (z : Replay) → length ws % 4 ≡ 0 → length ws / 4 ≤ length a / 2
    → ran_of s ws a (length ws / 4) ≡ z → replay_of s ws a ≡ z
unfolding replay_of
with_room s ws a z h l p = rw (h, le-ltb (length a / 2) (length ws / 4) l) p

-- a run keeps a word for each entry
next_whole : (p : Run) (i : ℕ) (row : Result Event Malformed) → Whole p.state → Whole (next p i row).state
unfolding next
next_whole p i (Ok e) h = whole_kept p.state e h
next_whole p i (Err k) h = h

run_whole : (ws : List ℕ) (s : State) (a : List ℕ) (n : ℕ) → Whole s → Whole (run_of ws s a n).state
unfolding run_of
run_whole ws s a zero h = h
run_whole ws s a (suc n) h = next_whole (run_of ws s a n) n (row_at ws n) (run_whole ws s a n h)

replay_whole : (s : State) (ws a : List ℕ) → Whole s → Whole (replay_of s ws a).state
unfolding replay_of ran_of
replay_whole s ws a h = go (eqb (length ws % 4) 0) (ltb (length a / 2) (length ws / 4))
  where
    go : (b c : Bool) → Whole (if b then (if c then unrun 7 s a else ran_of s ws a (length ws / 4)) else unrun 6 s a).state
    go true true = h
    go true false = run_whole ws s a (leading ws (length ws / 4)) h
    go false c = h

pub whole_after : (s : State) (ws a : List ℕ) (z : Replay) → replay_of s ws a ≡ z → Whole s → Whole z.state
whole_after s ws a z p h = rw (← p) (replay_whole s ws a h)
