-- What `OnlyReplay` states, from what `EveryRow` states of single rows. Assumes nothing.
use Prim.Native.Nat.{ℕ, zero, suc, ◌/◌, ◌%◌, ◌<◌}
use mathlib.Core.Path.{◌≡◌, refl, sym, ap, ap₂, subst, ◌∙◌}
use mathlib.Core.Logic.{◌⊎◌, inl, inr}
use mathlib.Core.Bool.{Bool, true, false, false≢true}
use mathlib.Core.List.{List, [], ◌∷◌, ◌++◌, append-nil}
use native.Mathlib.Omega.{arith}
use lib.Dec.{eqb, ltb}
use lib.ListN.{length}
use borrow.Author.Tests.{eqb-true, eqb-false, eq-eqb, ne_eqb, ltb-true, ltb-false}
use Rattle.std.specs.Prelude.{if◌then◌else◌, Result, Ok, Err}
use Rattle.machine.specs.declared.Event.{Event}
use Rattle.recorder.specs.Runs.{Recorder, end_of}
use Rattle.recorder.specs.Steps.{step_of}
use Rattle.recorder.specs.declared.State.{State}
use Rattle.trace.specs.Rows.{row_of}
use Rattle.trace.specs.Runs.{is_well_formed, leading, Replay, unrun, ran_of, replay_of}
use Rattle.trace.specs.declared.Replayed.{Replayed}
use Rattle.trace.specs.declared.Malformed as Broken
use Rattle.demands.specs.Rows.{Words, words, words_of, Fits, RowOf, Malformed, rows_of, AllFit, EveryRow}
use Rattle.demands.specs.Replays.{filled, Rows, Room, WellFormedRows, StopsAfter, Replays, Numbers, OnlyReplay}
use Rattle.demands.specs.Replays.Replays.{six, seven, nine, whole}
use Rattle.demands.proofs.Runs.{rows_length, At, ran_rows, stops_after}

-- n rows of words: all are of events, or there is a first one that is not
data Walk (ws : List ℕ) (n : ℕ) : Type 0 where
  all : (l : List Event) → length l ≡ n → WellFormedRows ws l → Walk ws n
  stops : (l : List Event) → length l < n → StopsAfter ws l → Walk ws n

-- the words of a row, before others
abbrev before : Words → List ℕ → List ℕ
before v ws = v.zero ∷ v.one ∷ v.two ∷ v.three ∷ ws

apart : (v u : Words) (ws vs : List ℕ) → before v ws ≡ before u vs → (v ≡ u) × (ws ≡ vs)
apart v u ws vs h =
    let zeroth : v.zero ≡ u.zero = cc in
    let first : v.one ≡ u.one = cc in
    let second : v.two ≡ u.two = cc in
    let third : v.three ≡ u.three = cc in
    ((λ i. words (zeroth i) (first i) (second i) (third i)), (cc))

-- a malformed row is of no event
no_event : {r : Result Event Broken.Malformed} {k : Broken.Malformed} {e : Event} → r ≡ Err k → r ≡ Ok e → ⊥
no_event p q = false≢true (sym (ap is_well_formed p) ∙ ap is_well_formed q)

-- one more row before n rows
after_row : (w x y z : ℕ) (ws : List ℕ) (n : ℕ) (e : Event) → RowOf (words w x y z) e → Walk ws n → Walk (w ∷ x ∷ y ∷ z ∷ ws) (suc n)
unfolding rows_of
after_row w x y z ws n e r (Walk.all l h p) =
    Walk.all (e ∷ l) (ap suc h) (record { fit = (r.fits, p.fit); same = ap₂ before r.same p.same })
after_row w x y z ws n e r (Walk.stops l h p) =
    Walk.stops (e ∷ l) (omega arith)
    (record {
      w = p.w;
      x = p.x;
      y = p.y;
      z = p.z;
      rest = p.rest;
      fit = (r.fits, p.fit);
      malformed = p.malformed;
      same = ap₂ before r.same p.same;
    })

module _ (every : EveryRow) where
  -- the events of the leading rows, four words at a time
  walk : (n : ℕ) (ws : List ℕ) → Rows ws n → Walk ws n
  unfolding rows_of
  walk zero [] h = Walk.all [] refl (record { fit = tt; same = refl })
  walk zero (w ∷ ws) h = absurd (omega arith)
  walk (suc n) [] h = absurd (omega arith)
  walk (suc n) (w ∷ []) h = absurd (omega arith)
  walk (suc n) (w ∷ x ∷ []) h = absurd (omega arith)
  walk (suc n) (w ∷ x ∷ y ∷ []) h = absurd (omega arith)
  walk (suc n) (w ∷ x ∷ y ∷ z ∷ ws) h = go (row_of w x y z) refl (walk n ws (omega arith))
    where
      go : (r : Result Event Broken.Malformed) → row_of w x y z ≡ r → Walk ws n → Walk (w ∷ x ∷ y ∷ z ∷ ws) (suc n)
      go (Ok e) p more = after_row w x y z ws n e ((every.decoded (words w x y z) e).0 (sym p)) more
      go (Err k) p more =
          let none : Malformed (words w x y z) = λ e q. no_event p (sym ((every.decoded (words w x y z) e).1 q)) in
          Walk.stops [] (omega arith) (record { w = w; x = x; y = y; z = z; rest = ws; fit = tt; malformed = none; same = refl })

  module _ (s : State) (ws a : List ℕ) where
    -- what the definition gives, as the statement has it
    abbrev Given : Replay → Type 0
    Given p = Replays step_of s ws a (record { number = p.number; count = p.count; state = p.state }) p.answers

    -- a run that has gone through the rows of a list, with its number
    ran_to : (n k : ℕ) (l : List Event) → leading ws n ≡ length l → At ws s a (length l) (end_of step_of s l) (filled step_of s l a)
        → (if eqb (length l) n then 0 else 9) ≡ k
        → ran_of s ws a n ≡ record { number = k; count = length l; state = end_of step_of s l; answers = filled step_of s l a }
    unfolding ran_of
    ran_to n k l lead at number = rw (lead, at.runs, number)

    -- with room for all rows: 0, or 9 at the first row that is of no event
    ran : (n : ℕ) → Rows ws n → Room a n → Walk ws n → Given (ran_of s ws a n)
    ran n rows room (Walk.all l h p) =
        let enough : Room a (length l) = omega arith in
        let at = ran_rows every ws s a l [] enough p.fit (p.same ∙ sym (append-nil (rows_of l))) in
        let lead : leading ws n ≡ length l = subst (λ (m : ℕ). leading ws m ≡ length l) h at.leads in
        subst Given (sym (ran_to n 0 l lead at (rw (eq-eqb (length l) n h)))) (whole l enough p)
    ran n rows room (Walk.stops l h p) =
        let enough : Room a (length l) = omega arith in
        let at = ran_rows every ws s a l _ enough p.fit p.same in
        let lead = stops_after every ws s a l p.w p.x p.y p.z n p.rest enough p.fit p.malformed p.same h in
        subst Given (sym (ran_to n 9 l lead at (rw (ne_eqb (length l) n (omega arith))))) (nine n l rows room p)

    -- the length is asked first, then the room
    given : Given (replay_of s ws a)
    unfolding replay_of
    given = go (eqb (length ws % 4) 0) refl (ltb (length a / 2) (length ws / 4)) refl
      where
        go : (b : Bool) → eqb (length ws % 4) 0 ≡ b → (c : Bool) → ltb (length a / 2) (length ws / 4) ≡ c
            → Given (if b then (if c then unrun 7 s a else ran_of s ws a (length ws / 4)) else unrun 6 s a)
        go true p true q =
            seven (length ws / 4) (omega (arith, eqb-true)) (λ h. omega (arith, ltb-true))
        go true p false q =
            let rows : Rows ws (length ws / 4) = omega (arith, eqb-true) in
            let room : Room a (length ws / 4) = omega (arith, ltb-false) in
            ran (length ws / 4) rows room (walk (length ws / 4) ws rows)
        go false p c q = six (λ n h. eqb-false (length ws % 4) 0 p (omega arith))

-- rows of events are as many as the events
whole_rows : {ws : List ℕ} {l : List Event} → WellFormedRows ws l → Rows ws (length l)
whole_rows {l = l} p = ap length p.same ∙ rows_length l

-- what comes after the rows of events: nothing, or a row that is of no event
data Ended : List ℕ → Type 0 where
  nothing : Ended []
  malformed_row : {w x y z : ℕ} {rest : List ℕ} → Malformed (words w x y z) → Ended (w ∷ x ∷ y ∷ z ∷ rest)

-- it doesn't begin with an event that fits
no_row : {t : List ℕ} → Ended t → (e : Event) (u : List ℕ) → Fits e → t ≡ before (words_of e) u → ⊥
no_row nothing e u f h = omega (arith, ap length h)
no_row (malformed_row {w = w} {x = x} {y = y} {z = z} {rest = rest} m) e u f h =
    m e (record { fits = f; same = (apart (words w x y z) (words_of e) rest u h).0 })

module _ (every : EveryRow) where
  -- words are the rows of one list only, up to the row that is of no event
  one_list : (l m : List Event) (t u : List ℕ) → AllFit l → AllFit m → Ended t → Ended u → rows_of l ++ t ≡ rows_of m ++ u
      → (l ≡ m) × (t ≡ u)
  unfolding rows_of
  one_list [] [] t u f g c d h = (refl, h)
  one_list [] (e ∷ m) t u f g c d h = absurd (no_row c e (rows_of m ++ u) g.0 h)
  one_list (e ∷ l) [] t u f g c d h = absurd (no_row d e (rows_of l ++ t) f.0 (sym h))
  one_list (e ∷ l) (e' ∷ m) t u f g c d h =
      let p = apart (words_of e) (words_of e') (rows_of l ++ t) (rows_of m ++ u) h in
      let i = one_list l m t u f.1 g.1 c d p.1 in
      let same = every.only (words_of e) e e' (record { fits = f.0; same = refl }) (record { fits = g.0; same = p.0 }) in
      (ap₂ (λ (x : Event) (y : List Event). x ∷ y) same i.0, i.1)

  -- so one list is whole, or one is stopped after, and never both
  one_whole : {ws : List ℕ} {l m : List Event} → WellFormedRows ws l → WellFormedRows ws m → l ≡ m
  one_whole {l = l} {m = m} p q =
      (one_list l m [] [] p.fit q.fit nothing nothing (ap (λ (x : List ℕ). x ++ []) (sym p.same ∙ q.same))).0

  one_stop : {ws : List ℕ} {l m : List Event} → StopsAfter ws l → StopsAfter ws m → l ≡ m
  one_stop {l = l} {m = m} p q =
      (one_list l m _ _ p.fit q.fit (malformed_row p.malformed) (malformed_row q.malformed) (sym p.same ∙ q.same)).0

  not_both : {ws : List ℕ} {l m : List Event} → StopsAfter ws l → WellFormedRows ws m → ⊥
  not_both {l = l} {m = m} p q =
      let h = sym p.same ∙ q.same ∙ sym (append-nil (rows_of m)) in
      omega (arith, ap length (one_list l m _ [] p.fit q.fit (malformed_row p.malformed) nothing h).1)

  module _ {f : Recorder} {s : State} {ws a : List ℕ} where
    -- the sentences leave no choice
    only_one : {r q : Replayed} {b c : List ℕ} → Replays f s ws a r b → Replays f s ws a q c → (r ≡ q) × (b ≡ c)
    only_one (six h) (six k) = (refl, refl)
    only_one (six h) (seven m k o) = absurd (h m k)
    only_one (six h) (nine m l k o p) = absurd (h m k)
    only_one (six h) (whole l o p) = absurd (h (length l) (whole_rows p))
    only_one (seven n h o) (six k) = absurd (k n h)
    only_one (seven n h o) (seven m k u) = (refl, refl)
    only_one (seven n h o) (nine m l k u p) = absurd (o (omega arith))
    only_one (seven n h o) (whole l u p) = absurd (o (omega (arith, whole_rows p)))
    only_one (nine n l h o p) (six k) = absurd (k n h)
    only_one (nine n l h o p) (seven m k u) = absurd (u (omega arith))
    only_one (nine n l h o p) (nine m l' k u q) =
        let e = one_stop p q in
        (ap (λ (x : List Event). record { number = 9; count = length x; state = end_of f s x }) e, ap (λ (x : List Event). filled f s x a) e)
    only_one (nine n l h o p) (whole m u q) = absurd (not_both p q)
    only_one (whole l o p) (six k) = absurd (k (length l) (whole_rows p))
    only_one (whole l o p) (seven m k u) = absurd (u (omega (arith, whole_rows p)))
    only_one (whole l o p) (nine n m h u q) = absurd (not_both q p)
    only_one (whole l o p) (whole m u q) =
        let e = one_whole p q in
        (ap (λ (x : List Event). record { number = 0; count = length x; state = end_of f s x }) e, ap (λ (x : List Event). filled f s x a) e)

    -- a number tells its sentence: the four numbers differ
    tells : {r : Replayed} {b : List ℕ} → Replays f s ws a r b
        → (r.number ≡ 6 → (n : ℕ) → Rows ws n → ⊥) × (r.number ≡ 7 → (n : ℕ) × Rows ws n × (Room a n → ⊥))
        × (r.number ≡ 9 → (n : ℕ) × Rows ws n × Room a n × ((l : List Event) × StopsAfter ws l))
        × (r.number ≡ 0 → (l : List Event) × Room a (length l) × WellFormedRows ws l)
    tells (six h) = ((λ e. h), (λ e. absurd (omega arith)), (λ e. absurd (omega arith)), (λ e. absurd (omega arith)))
    tells (seven n h o) = ((λ e. absurd (omega arith)), (λ e. (n, h, o)), (λ e. absurd (omega arith)), (λ e. absurd (omega arith)))
    tells (nine n l h o p) = ((λ e. absurd (omega arith)), (λ e. absurd (omega arith)), (λ e. (n, h, o, (l, p))), (λ e. absurd (omega arith)))
    tells (whole l o p) = ((λ e. absurd (omega arith)), (λ e. absurd (omega arith)), (λ e. absurd (omega arith)), (λ e. (l, o, p)))

    one_of : {r : Replayed} {b : List ℕ} → Replays f s ws a r b → (r.number ≡ 0) ⊎ (r.number ≡ 6) ⊎ (r.number ≡ 7) ⊎ (r.number ≡ 9)
    one_of (six h) = inr (inl refl)
    one_of (seven n h o) = inr (inr (inl refl))
    one_of (nine n l h o p) = inr (inr (inr refl))
    one_of (whole l o p) = inl refl

    -- and the sentence gives its number, since there is no choice
    numbers : {r : Replayed} {b : List ℕ} → Replays f s ws a r b → Numbers ws a r
    numbers p =
        let t = tells p in
        record {
          six = (t.0, (λ k. ap (λ (q : Replayed). q.number) (only_one p (six k)).0));
          seven = (t.1, (λ k. ap (λ (q : Replayed). q.number) (only_one p (seven k.0 k.1 k.2)).0));
          nine = (t.2, (λ k. ap (λ (q : Replayed). q.number) (only_one p (nine k.0 k.3.0 k.1 k.2 k.3.1)).0));
          zero = (t.3, (λ k. ap (λ (q : Replayed). q.number) (only_one p (whole k.0 k.1 k.2)).0));
          no_other = one_of p;
        }

  pub only_replay : OnlyReplay
  only_replay =
      record {
        gives = (λ s ws a. given every s ws a);
        only = (λ f s ws a b c r q p p'. only_one p p');
        numbers = (λ f s ws a b r p. numbers p);
      }
