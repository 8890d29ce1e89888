-- What `run_of` and `leading` of the code's definition give, where the rows are those of a list of events. Assumes nothing.
use Prim.Native.Nat.{ℕ, suc, ◌+◌, ◌*◌, ◌<◌}
use mathlib.Core.Path.{◌≡◌, refl, sym, ap, subst, ◌∙◌}
use mathlib.Core.List.{List, [], ◌∷◌, ◌++◌, append_assoc}
use native.Mathlib.Nat.{zero-add, add-zero, add-suc, suc-add}
use native.Mathlib.Decide.{le_ind}
use native.Mathlib.Omega.{arith}
use lib.ListN.{length, drop, get_or, set, length-append}
use lib.Seq.{set_at, get_or-append-add}
use borrow.Author.Tests.{eq-eqb, ne_eqb}
use Rattle.machine.specs.declared.Event.{Event}
use Rattle.recorder.specs.Runs.{answers_to, end_of}
use Rattle.recorder.specs.Steps.{step_of}
use Rattle.recorder.specs.declared.State.{State}
use Rattle.trace.specs.Rows.{row_of}
use Rattle.trace.specs.Runs.{row_at, leading, answered, next, run_of}
use Rattle.std.specs.Prelude.{Result, Ok, Err}
use Rattle.trace.specs.declared.Malformed as Broken
use Rattle.demands.specs.Rows.{words, words_of, Fits, Malformed, rows_of, AllFit, EveryRow}
use Rattle.demands.specs.Replays.{answer_words, filled, Room}

-- four words a row
pub rows_length : (l : List Event) → length (rows_of l) ≡ 4 * length l
unfolding rows_of
rows_length [] = refl
rows_length (e ∷ l) = omega (arith, rows_length l)

-- a word past a prefix, and the row there
word_at : (p q : List ℕ) (n k : ℕ) → length p ≡ n → get_or (p ++ q) (n + k) 0 ≡ get_or q k 0
word_at p q n k h = subst (λ (m : ℕ). get_or (p ++ q) (m + k) 0 ≡ get_or q k 0) h (get_or-append-add p q k 0)

row_at_lem : (p : List ℕ) (w x y z : ℕ) (r : List ℕ) (i : ℕ) → length p ≡ 4 * i → row_at (p ++ w ∷ x ∷ y ∷ z ∷ r) i ≡ row_of w x y z
unfolding row_at
row_at_lem p w x y z r i h =
    let q = w ∷ x ∷ y ∷ z ∷ r in
    let zeroth : get_or (p ++ q) (4 * i) 0 ≡ w = ap (λ (k : ℕ). get_or (p ++ q) k 0) (omega arith) ∙ word_at p q (4 * i) 0 h in
    rw (zeroth, word_at p q (4 * i) 1 h, word_at p q (4 * i) 2 h, word_at p q (4 * i) 3 h)

-- the two words of an answer, stored past the answers before it
answered_at : (p : List ℕ) (y z : ℕ) (r : List ℕ) (i number value : ℕ) → length p ≡ 2 * i
    → answered (p ++ y ∷ z ∷ r) i number value ≡ p ++ number ∷ value ∷ r
answered_at p y z r i number value h =
    let q = p ++ number ∷ [] in
    let l : length q ≡ 2 * i + 1 = length-append p (number ∷ []) ∙ omega arith in
    ap (λ (a : List ℕ). set a (2 * i + 1) value) (set_at p y (z ∷ r) number (2 * i) h ∙ sym (append_assoc p (number ∷ []) (z ∷ r)))
    ∙ set_at q z r value (2 * i + 1) l
    ∙ append_assoc p (number ∷ []) (value ∷ r)

-- where a run stops: a well-formed row after well-formed rows, and a malformed one
goes_on : (ws : List ℕ) (i : ℕ) (e : Event) → leading ws i ≡ i → row_at ws i ≡ Ok e → leading ws (suc i) ≡ suc i
unfolding leading
goes_on ws i e p q = simp (p, q, eq-eqb i i refl)

stuck : (ws : List ℕ) (i : ℕ) (k : Broken.Malformed) → leading ws i ≡ i → row_at ws i ≡ Err k → leading ws (suc i) ≡ i
unfolding leading
stuck ws i k p q = simp (p, q, eq-eqb i i refl)

stops_there : (ws : List ℕ) (i : ℕ) (k : Broken.Malformed) (n : ℕ) → leading ws i ≡ i → row_at ws i ≡ Err k → i < n → leading ws n ≡ i
unfolding leading
stops_there ws i k n p q h =
    le_ind (λ (m : ℕ). leading ws m ≡ i) (stuck ws i k p q) (λ m l e. simp (e, ne_eqb i m (omega arith))) n h

-- one more event: its answer is two more words
two_more : (a : List ℕ) (y z n : ℕ) → drop (2 * suc n) (y ∷ z ∷ a) ≡ drop (2 * n) a
two_more a y z n = ap (λ (k : ℕ). drop k (y ∷ z ∷ a)) (let h : 2 * suc n ≡ suc (suc (2 * n)) = omega arith in h)

-- a run that has come to row i with no malformed row
pub record At (ws : List ℕ) (s : State) (a : List ℕ) (i : ℕ) (t : State) (b : List ℕ) : Type 0 where
  pub leads : leading ws i ≡ i
  pub runs : run_of ws s a i ≡ record { state = t; answers = b }

module _ (every : EveryRow) (ws : List ℕ) (s : State) (a : List ℕ) where
  -- one more event: p is the words before it, x the answer words before it
  step : (e : Event) (p r : List ℕ) (i : ℕ) (t : State) (x : List ℕ) (y z : ℕ) (b : List ℕ)
      → length p ≡ 4 * i → length x ≡ 2 * i → Fits e → (let w = words_of e in ws ≡ p ++ w.zero ∷ w.one ∷ w.two ∷ w.three ∷ r)
      → At ws s a i t (x ++ y ∷ z ∷ b)
      → (let u = step_of t e in At ws s a (suc i) u.state (x ++ u.number ∷ u.value ∷ b))
  unfolding run_of next
  step e p r i t x y z b h k f same at =
      let w = words_of e in
      let u = step_of t e in
      let row : row_at ws i ≡ Ok e =
      ap (λ (v : List ℕ). row_at v i) same ∙ row_at_lem p w.zero w.one w.two w.three r i h
      ∙ sym ((every.decoded w e).1 (record { fits = f; same = refl })) in
      record {
        leads = goes_on ws i e at.leads row;
        runs = rw (at.runs, row) (ap (λ (v : List ℕ). record { state = u.state; answers = v }) (answered_at x y z b i u.number u.value k));
      }

  -- and any number of them
  run_on : (m : List Event) (p rest : List ℕ) (i : ℕ) (t : State) (x b : List ℕ)
      → length p ≡ 4 * i → length x ≡ 2 * i → Room b (length m) → AllFit m → ws ≡ p ++ (rows_of m ++ rest)
      → At ws s a i t (x ++ b)
      → At ws s a (i + length m) (end_of step_of t m) (x ++ (answer_words (answers_to step_of t m) ++ drop (2 * length m) b))
  unfolding rows_of answers_to end_of answer_words
  run_on [] p rest i t x b h k room fit same at = rw (add-zero i) at
  run_on (e ∷ m) p rest i t x [] h k room fit same at = absurd (omega arith)
  run_on (e ∷ m) p rest i t x (y ∷ []) h k room fit same at = absurd (omega arith)
  run_on (e ∷ m) p rest i t x (y ∷ z ∷ b) h k room fit same at =
      let w = words_of e in
      let u = step_of t e in
      let four = w.zero ∷ w.one ∷ w.two ∷ w.three ∷ [] in
      let two = u.number ∷ u.value ∷ [] in
      let next = step e p (rows_of m ++ rest) i t x y z b h k fit.0 same at in
      rw (add-suc i (length m), ← suc-add i (length m), two_more b y z (length m), ← append_assoc x two _)
      (run_on m (p ++ four) rest (suc i) u.state (x ++ two) b
      (length-append p four ∙ omega arith) (length-append x two ∙ omega arith) (omega arith) fit.1
      (same ∙ sym (append_assoc p four (rows_of m ++ rest))) (rw (append_assoc x two b) next))

  -- from the start: rows of events, and whatever after them
  pub ran_rows : (l : List Event) (rest : List ℕ) → Room a (length l) → AllFit l → ws ≡ rows_of l ++ rest
      → At ws s a (length l) (end_of step_of s l) (filled step_of s l a)
  unfolding leading run_of
  ran_rows l rest room fit same =
      rw (zero-add (length l)) at (run_on l [] rest 0 s [] a refl refl room fit same (record { leads = refl; runs = refl }))

  -- and a malformed row after them: none of the rows from it on counts
  pub stops_after : (l : List Event) (w x y z n : ℕ) (rest : List ℕ) → Room a (length l) → AllFit l → Malformed (words w x y z)
      → ws ≡ rows_of l ++ w ∷ x ∷ y ∷ z ∷ rest → length l < n → leading ws n ≡ length l
  stops_after l w x y z n rest room fit malformed same h = go (row_of w x y z) refl
    where
      at : At ws s a (length l) (end_of step_of s l) (filled step_of s l a)
      at = ran_rows l (w ∷ x ∷ y ∷ z ∷ rest) room fit same

      row : row_at ws (length l) ≡ row_of w x y z
      row = ap (λ (v : List ℕ). row_at v (length l)) same ∙ row_at_lem (rows_of l) w x y z rest (length l) (rows_length l)

      go : (r : Result Event Broken.Malformed) → row_of w x y z ≡ r → leading ws n ≡ length l
      go (Ok e) p = absurd (malformed e ((every.decoded (words w x y z) e).0 (sym p)))
      go (Err k) p = stops_there ws (length l) k n at.leads (row ∙ p) h
