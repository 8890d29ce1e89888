-- What `Cutting` states, of any recorder. Assumes nothing.
use Prim.Native.Nat.{ℕ, ◌+◌, ◌*◌, ◌≤◌}
use mathlib.Core.Path.{◌≡◌, refl, sym, ap, ap₂, subst, subst₂, ◌∙◌}
use mathlib.Core.List.{List, [], ◌∷◌, ◌++◌, append-nil, append_assoc}
use native.Mathlib.Nat.{add-zero}
use native.Mathlib.Omega.{arith}
use lib.ListN.{length, take, drop, length-append, take-append-drop}
use lib.Seq.{length-take-le, take_at, drop_at, drop-append-add, drop-length}
use Rattle.machine.specs.declared.Event.{Event}
use Rattle.recorder.specs.Runs.{Recorder, answers_to, end_of}
use Rattle.recorder.specs.declared.State.{State}
use Rattle.trace.specs.declared.Replayed.{Replayed}
use Rattle.demands.specs.Rows.{words_of, rows_of, AllFit}
use Rattle.demands.specs.Replays.{answer_words, filled, Rows, Room, WellFormedRows, Replays, Piece, Cut, AllZero, Cutting}
use Rattle.demands.specs.Replays.Replays.{six, seven, nine, whole}
use Rattle.demands.proofs.Runs.{rows_length}

-- lists of events put together: their rows, and that they fit
rows_append : (l m : List Event) → rows_of (l ++ m) ≡ rows_of l ++ rows_of m
unfolding rows_of
rows_append [] m = refl
rows_append (e ∷ l) m =
    let w = words_of e in ap (λ (x : List ℕ). w.zero ∷ w.one ∷ w.two ∷ w.three ∷ x) (rows_append l m)

fit_append : (l m : List Event) → AllFit l → AllFit m → AllFit (l ++ m)
fit_append [] m f g = g
fit_append (e ∷ l) m f g = (f.0, fit_append l m f.1 g)

fit_apart : (l m : List Event) → AllFit (l ++ m) → AllFit l × AllFit m
fit_apart [] m f = (tt, f)
fit_apart (e ∷ l) m f = let i = fit_apart l m f.1 in ((f.0, i.0), i.1)

-- words that are cut at a number of rows: so are the events
record Parts (ws vs : List ℕ) (n : ℕ) (l : List Event) : Type 0 where
  first : List Event
  second : List Event
  joined : l ≡ first ++ second
  count : length first ≡ n
  first_rows : WellFormedRows ws first
  second_rows : WellFormedRows vs second

same_cut : (p q r u : List ℕ) (n : ℕ) → length p ≡ n → length r ≡ n → p ++ q ≡ r ++ u → (p ≡ r) × (q ≡ u)
same_cut p q r u n h k e = (sym (take_at p q n h) ∙ ap (take n) e ∙ take_at r u n k, sym (drop_at p q n h) ∙ ap (drop n) e ∙ drop_at r u n k)

parts : (ws vs : List ℕ) (n : ℕ) (l : List Event) → Rows ws n → WellFormedRows (ws ++ vs) l → Parts ws vs n l
parts ws vs n l rows p =
    let first = take n l in
    let second = drop n l in
    let joined : l ≡ first ++ second = sym (take-append-drop n l) in
    let enough : n ≤ length l = omega (arith, length-append ws vs, ap length p.same ∙ rows_length l) in
    let count : length first ≡ n = length-take-le n l enough in
    let fit = fit_apart first second (subst AllFit joined p.fit) in
    let cut = same_cut ws vs (rows_of first) (rows_of second) (4 * n) rows (omega (arith, rows_length first))
    (p.same ∙ ap rows_of joined ∙ rows_append first second) in
    record {
      first = first;
      second = second;
      joined = joined;
      count = count;
      first_rows = record { fit = fit.0; same = cut.0 };
      second_rows = record { fit = fit.1; same = cut.1 };
    }

module _ (f : Recorder) where
  -- the state at the end, and the answer words
  end_append : (s : State) (l m : List Event) → end_of f s (l ++ m) ≡ end_of f (end_of f s l) m
  unfolding end_of
  end_append s [] m = refl
  end_append s (e ∷ l) m = end_append (f s e).state l m

  answers : State → List Event → List ℕ
  answers s l = answer_words (answers_to f s l)

  answers_append : (s : State) (l m : List Event) → answers s (l ++ m) ≡ answers s l ++ answers (end_of f s l) m
  unfolding answers answers_to answer_words end_of
  answers_append s [] m = refl
  answers_append s (e ∷ l) m =
      let t = f s e in ap (λ (x : List ℕ). t.number ∷ t.value ∷ x) (answers_append t.state l m)

  -- answer words lent in two parts, the first just long enough
  filled_append : (s : State) (l m : List Event) (a b : List ℕ) → length a ≡ 2 * length l
      → filled f s (l ++ m) (a ++ b) ≡ filled f s l a ++ filled f (end_of f s l) m b
  unfolding answers
  filled_append s l m a b h =
      let t = end_of f s l in
      let none : drop (2 * length l) a ≡ [] = ap (λ (k : ℕ). drop k a) (sym h) ∙ drop-length a in
      let past : drop (2 * length (l ++ m)) (a ++ b) ≡ drop (2 * length m) b =
      ap (λ (k : ℕ). drop k (a ++ b)) (let k : 2 * length (l ++ m) ≡ length a + 2 * length m = omega (arith, length-append l m) in k)
      ∙ drop-append-add a b (2 * length m) in
      rw (past, none, append-nil (answers s l), answers_append s l m) (append_assoc (answers s l) (answers t m) (drop (2 * length m) b))

  -- what a run that gives 0 is
  record Ran (s : State) (ws a : List ℕ) (n : ℕ) (end : State) (b : List ℕ) : Type 0 where
    events : List Event
    room : Room a (length events)
    rows : WellFormedRows ws events
    count : n ≡ length events
    state : end ≡ end_of f s events
    words : b ≡ filled f s events a

  ran_of_lem : {s : State} {ws a b : List ℕ} {r : Replayed} → Replays f s ws a r b → r.number ≡ 0 → Ran s ws a r.count r.state b
  ran_of_lem (six h) e = absurd (omega arith)
  ran_of_lem (seven n h o) e = absurd (omega arith)
  ran_of_lem (nine n l h o p) e = absurd (omega arith)
  ran_of_lem (whole l o p) e = record { events = l; room = o; rows = p; count = refl; state = refl; words = refl }

  gives_zero : {s end : State} {ws a b : List ℕ} {n : ℕ} → Ran s ws a n end b → Replays f s ws a (record { number = 0; count = n; state = end }) b
  gives_zero x = rw (x.count, x.state, x.words) (whole x.events x.room x.rows)

  -- two runs, the second from the state that the first handed back
  together : {s t end : State} {ws vs a b c d : List ℕ} {k m : ℕ} (n : ℕ) → Rows ws n → length a ≡ 2 * n
      → Ran s ws a k t c → Ran t vs b m end d → Ran s (ws ++ vs) (a ++ b) (k + m) end (c ++ d)
  together {s = s} {a = a} {b = b} n rows lent p q =
      let l = p.events in
      let e = q.events in
      let same : length l ≡ n = omega (arith, ap length p.rows.same ∙ rows_length l) in
      record {
        events = l ++ e;
        room = omega (arith, length-append l e, length-append a b, q.room);
        rows = record {
          fit = fit_append l e p.rows.fit q.rows.fit;
          same = ap₂ (λ (x y : List ℕ). x ++ y) p.rows.same q.rows.same ∙ sym (rows_append l e);
        };
        count = ap₂ (λ (x y : ℕ). x + y) p.count q.count ∙ sym (length-append l e);
        state = q.state ∙ ap (λ (x : State). end_of f x e) p.state ∙ sym (end_append s l e);
        words = ap₂ (λ (x y : List ℕ). x ++ y) p.words (q.words ∙ ap (λ (x : State). filled f x e b) p.state)
            ∙ sym (filled_append s l e a b (omega arith));
      }

  -- all pieces give 0, so the whole does; and back, each piece with its own part of the events
  forth : {s end : State} {ps : List Piece} {ws a b : List ℕ} {n : ℕ} → Cut ps ws a → AllZero f s ps n end b → Ran s ws a n end b
  forth {s = s} {end = end} Cut.last (AllZero.more {k = k} {b = b} h AllZero.none) = rw (add-zero k, append-nil b) (ran_of_lem h refl)
  forth {s = s} {end = end} (Cut.more n rows lent c) (AllZero.more {t = t} h z) = together n rows lent (ran_of_lem h refl) (forth {s = t} {end = end} c z)

  -- the same pieces, with the count and the answer words said another way
  said : {s end : State} {ps : List Piece} {b d : List ℕ} {k m : ℕ} → k ≡ m → b ≡ d → AllZero f s ps k end b → AllZero f s ps m end d
  said {s = s} {end = end} {ps = ps} h e z = subst₂ (λ (m : ℕ) (d : List ℕ). AllZero f s ps m end d) h e z

  back : {s end : State} {ps : List Piece} {ws a b : List ℕ} {k : ℕ} → Cut ps ws a → Ran s ws a k end b → AllZero f s ps k end b
  back {s = s} {end = end} {b = b} {k = k} Cut.last p = said (add-zero k) (append-nil b) (AllZero.more (gives_zero p) AllZero.none)
  back {s = s} {end = end} (Cut.more {ws = ws} {vs = vs} {a = a} {b = b} n rows lent c) p =
      let q = parts ws vs n p.events rows p.rows in
      let l = q.first in
      let m = q.second in
      let t = end_of f s l in
      let one : Ran s ws a (length l) t (filled f s l a) =
      record { events = l; room = omega (arith, q.count); rows = q.first_rows; count = refl; state = refl; words = refl } in
      let two : Ran t vs b (length m) end (filled f t m b) = record {
        events = m;
        room = omega (arith, p.room, q.count, length-append a b, ap length q.joined ∙ length-append l m);
        rows = q.second_rows;
        count = refl;
        state = p.state ∙ ap (end_of f s) q.joined ∙ end_append s l m;
        words = refl;
      } in
      said
      (sym (p.count ∙ ap length q.joined ∙ length-append l m))
      (sym (p.words ∙ ap (λ (x : List Event). filled f s x (a ++ b)) q.joined ∙ filled_append s l m a b (omega (arith, q.count))))
      (AllZero.more (gives_zero one) (back {s = t} {end = end} c two))

  pub cutting : Cutting f
  cutting s end ps ws a b n c = ((λ z. gives_zero (forth c z)), (λ r. back c (ran_of_lem r refl)))
