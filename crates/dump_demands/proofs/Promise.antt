-- What `check` promises holds. Assumes nothing.
use mathlib.Core.Path.{◌≡◌, refl, sym, ap, ◌∙◌}
use mathlib.Core.Bool.{Bool, true, false, ◌&&◌}
use mathlib.Core.List.{List}
use mathlib.Core.Logic.{◌⊎◌, inl, inr, ⊎_elim, ◌↔◌}
use Prim.Native.Nat.{ℕ, ◌*◌, ◌/◌, ◌%◌, ◌^◌, ◌<◌, ◌≤◌}
use native.Mathlib.Omega.{arith}
use lib.Dec.{eqb, leb}
use lib.ListN.{length, get_or}
use borrow.Author.Tests.{le-leb, lt-leb, eq-eqb, ne_eqb, eqb-false}
use Rattle.bits.specs.Words.{bit_at}
use Rattle.std.proofs.lemmas.Bool.{cases_lt}
use Rattle.bits.proofs.Cases.{known}
use Rattle.std.specs.Prelude.{Ok, Err}
use Rattle.dump.specs.Checks.{Checked, reason_number, verdict_of, verdict_at, checked_from, is_placed, check_of}
use Rattle.dump_demands.specs.Fits as fits
use Rattle.dump_demands.specs.Fits.{Firmware, end, entry, Valid}
use Rattle.dump_demands.specs.Promise.{Promise, FitsOrBreaks, OnlyCheck, checked, Misplaced, NoMultiple, Looked, AllFit, First}
use Rattle.dump.specs.declared.Reason.{Reason}
use Rattle.dump.specs.declared.Rejection.TheVariants.{Refused, Misfit}
use Rattle.dump_demands.proofs.Scans.{all_fit, accepts, no_refusal, first_misfit, misfits}
use Rattle.dump_demands.proofs.Verdicts.{verdict, exactly_fits, exactly_first, unbroken, unbroken_if}

-- answers apart
apart : {T E : Type 0} {x : T} {e : E} → Ok x ≡ Err e → ⊥
apart h = cc

not_both : {n i : ℕ} {r : Reason} → ◌≡◌ {A = Checked} (Err (Refused n)) (Err (Misfit i r)) → ⊥
not_both h = cc

refused_number : {m n : ℕ} → ◌≡◌ {A = Checked} (Err (Refused m)) (Err (Refused n)) → m ≡ n
refused_number h = cc

module _ (f : Firmware) (ws : List ℕ) where
  module _ (i : ℕ) where
    small : (entry ws i).type_number < 16
    small = omega arith

    -- a valid entry has its verdict, and another is passed over
    valid_at : Valid (entry ws i) → verdict_at f.code f.base f.zc ws i ≡ verdict f (entry ws i)
    unfolding verdict_at verdict_of verdict
    valid_at h = let b : bit_at (get_or ws (3 * i) 0) 0 ≡ 1 = omega arith in simp b

    invalid_at : (Valid (entry ws i) → ⊥) → verdict_at f.code f.base f.zc ws i ≡ Ok tt
    unfolding verdict_at verdict_of
    invalid_at h = simp (ne_eqb (bit_at (get_or ws (3 * i) 0) 0) 1 (λ b. h (omega arith)))

    fit_at : (verdict_at f.code f.base f.zc ws i ≡ Ok tt) ↔ (Valid (entry ws i) → fits.Fits f (entry ws i))
    fit_at = (
      (λ h v. (exactly_fits f (entry ws i) small).1 (sym (valid_at v) ∙ h)),
      (λ g.
          ⊎_elim (λ v. valid_at v ∙ (exactly_fits f (entry ws i) small).0 (g v)) (λ n. invalid_at (eqb-false _ 1 n))
          (known (entry ws i).valid 1)),
    )

    breaks_at : (r : Reason) → (verdict_at f.code f.base f.zc ws i ≡ Err r) ↔ (Valid (entry ws i) × First f (entry ws i) (reason_number r))
    breaks_at r = (
      (λ h.
          ⊎_elim (λ v. (v, (exactly_first f (entry ws i) small r).1 (sym (valid_at v) ∙ h)))
          (λ n. absurd (apart (sym (invalid_at (eqb-false _ 1 n)) ∙ h)))
          (known (entry ws i).valid 1)),
      (λ p. valid_at p.0 ∙ (exactly_first f (entry ws i) small r).0 p.1),
    )

  -- the image lies where it can, or it does not
  placed : (Misplaced f → ⊥) → is_placed f.base (length f.code) ≡ true
  unfolding is_placed
  placed h =
      let e : f.base % 2 ≡ 0 = ⊎_elim (λ o. absurd (h (inl o))) (λ o. omega (arith, eqb-false (f.base % 2) 1 o)) (known (f.base % 2) 1) in
      simp (eq-eqb (f.base % 2) 0 e)
      (⊎_elim (λ l. absurd (h (inr l))) (le-leb (end f) (2 ^ 64)) (cases_lt (2 ^ 64) (end f)))

  misplaced : Misplaced f → is_placed f.base (length f.code) ≡ false
  unfolding is_placed
  misplaced (inl o) = simp o
  misplaced (inr l) = go (eqb (f.base % 2) 0)
    where
      go : (b : Bool) → (b && leb (end f) (2 ^ 64)) ≡ false
      go true = lt-leb (end f) (2 ^ 64) l
      go false = refl

  either : Misplaced f ⊎ (Misplaced f → ⊥)
  either = ⊎_elim (λ o. inl (inl o)) (λ e. by_end e (cases_lt (2 ^ 64) (end f))) (known (f.base % 2) 1)
    where
      by_end : eqb (f.base % 2) 1 ≡ false → (2 ^ 64 < end f) ⊎ (end f ≤ 2 ^ 64) → Misplaced f ⊎ (Misplaced f → ⊥)
      by_end e (inl l) = inl (inr l)
      by_end e (inr h) = inr (λ m. ⊎_elim (λ o. absurd (eqb-false (f.base % 2) 1 e o)) (λ l. absurd (omega arith)) m)

  -- the answer in each case
  is_no_multiple : NoMultiple ws → check_of f.code f.base ws f.zc ≡ Err (Refused 6)
  unfolding check_of
  is_no_multiple h = simp (ne_eqb (length ws % 3) 0 h)

  is_misplaced : length ws % 3 ≡ 0 → Misplaced f → check_of f.code f.base ws f.zc ≡ Err (Refused 11)
  unfolding check_of
  is_misplaced e m = simp (e, misplaced m)

  is_looked : length ws % 3 ≡ 0 → (Misplaced f → ⊥) → check_of f.code f.base ws f.zc ≡ checked_from f.code f.base f.zc ws 0 (length ws / 3)
  unfolding check_of
  is_looked e m = simp (e, placed m)

  accepted : check_of f.code f.base ws f.zc ≡ Ok tt ↔ (Looked f ws × AllFit f ws (length ws / 3))
  accepted = (
    (λ h.
        ⊎_elim
        (λ e.
        ⊎_elim (λ m. absurd (apart (sym h ∙ is_misplaced e m)))
        (λ p. ((e, p), (λ i l. (fit_at i).0 (all_fit _ _ _ _ (length ws / 3) 0 (sym (is_looked e p) ∙ h) i (omega arith) (omega arith)))))
        either)
        (λ e. absurd (apart (sym h ∙ is_no_multiple (eqb-false _ 0 e))))
        (known (length ws % 3) 0)),
    (λ p. is_looked p.0.0 p.0.1 ∙ accepts _ _ _ _ (length ws / 3) 0 (λ i l m. (fit_at i).1 (p.1 i (omega arith)))),
  )

  misfit : (i : ℕ) (r : Reason) → check_of f.code f.base ws f.zc ≡ Err (Misfit i r)
      ↔ (Looked f ws × (3 * i < length ws) × AllFit f ws i × Valid (entry ws i) × First f (entry ws i) (reason_number r))
  misfit i r = (
    (λ h.
        ⊎_elim
        (λ e.
        ⊎_elim (λ m. absurd (not_both (sym (is_misplaced e m) ∙ h)))
        (λ p.
        let q = first_misfit _ _ _ _ (length ws / 3) 0 i r (sym (is_looked e p) ∙ h) in
        let b = (breaks_at i r).0 q.3 in
        ((e, p), omega (arith, q.1), (λ j l. (fit_at j).0 (q.2 j (omega arith) l)), b.0, b.1))
        either)
        (λ e. absurd (not_both (sym (is_no_multiple (eqb-false _ 0 e)) ∙ h)))
        (known (length ws % 3) 0)),
    (λ p.
        is_looked p.0.0 p.0.1
        ∙ misfits _ _ _ _ (length ws / 3) 0 i r (omega arith) (omega (arith, p.0.0, p.1)) (λ j l m. (fit_at j).1 (p.2 j m)) ((breaks_at i r).1 (p.3, p.4))),
  )

  -- what a refusal stands for
  refusals : (n : ℕ) → check_of f.code f.base ws f.zc ≡ Err (Refused n) → (NoMultiple ws × (n ≡ 6)) ⊎ ((length ws % 3 ≡ 0) × Misplaced f × (n ≡ 11))
  refusals n h =
      ⊎_elim
      (λ e.
      ⊎_elim (λ m. inr (e, m, sym (refused_number (sym (is_misplaced e m) ∙ h))))
      (λ p. absurd (no_refusal _ _ _ _ (length ws / 3) 0 n (sym (is_looked e p) ∙ h)))
      either)
      (λ e. inl (eqb-false _ 0 e, sym (refused_number (sym (is_no_multiple (eqb-false _ 0 e)) ∙ h))))
      (known (length ws % 3) 0)

  six : check_of f.code f.base ws f.zc ≡ Err (Refused 6) ↔ NoMultiple ws
  six = ((λ h. ⊎_elim (λ p. p.0) (λ p. absurd (omega (arith, p.2))) (refusals 6 h)), is_no_multiple)

  eleven : check_of f.code f.base ws f.zc ≡ Err (Refused 11) ↔ ((length ws % 3 ≡ 0) × Misplaced f)
  eleven = (
    (λ h. ⊎_elim (λ p. absurd (omega (arith, p.1))) (λ p. (p.0, p.1)) (refusals 11 h)),
    (λ p. is_misplaced p.0 p.1),
  )

meets : Promise checked
meets =
    record {
      accepted = accepted;
      misfit = misfit;
      six = six;
      eleven = eleven;
      refusals = (λ f ws n h. ⊎_elim (λ p. inl p.1) (λ p. inr p.2) (refusals f ws n h));
    }

pub fits_or_breaks : FitsOrBreaks
fits_or_breaks f ws i = (unbroken_if f (entry ws i) (small f ws i), unbroken f (entry ws i) (small f ws i))

pub promise : OnlyCheck
promise = record { meets = meets; only = only }
  where
    only : (check : Firmware → List ℕ → Checked) → Promise check → (f : Firmware) (ws : List ℕ) → check f ws ≡ checked f ws
    only check p f ws = go (check f ws) refl
      where
        go : (c : Checked) → check f ws ≡ c → check f ws ≡ checked f ws
        go (Ok u) h = h ∙ sym ((meets.accepted f ws).1 ((p.accepted f ws).0 h))
        go (Err (Refused n)) h =
            ⊎_elim
            (λ e. let q : check f ws ≡ Err (Refused 6) = h ∙ ap (λ (k : ℕ). Err (Refused k)) e in q ∙ sym ((meets.six f ws).1 ((p.six f ws).0 q)))
            (λ e. let q : check f ws ≡ Err (Refused 11) = h ∙ ap (λ (k : ℕ). Err (Refused k)) e in q ∙ sym ((meets.eleven f ws).1 ((p.eleven f ws).0 q)))
            (p.refusals f ws n h)
        go (Err (Misfit i r)) h = h ∙ sym ((meets.misfit f ws i r).1 ((p.misfit f ws i r).0 h))
