-- One entry after the other: which answer is given. Assumes nothing.
use mathlib.Core.Path.{◌≡◌, refl}
use mathlib.Core.Bool.{Bool}
use mathlib.Core.List.{List}
use mathlib.Core.Logic.{◌⊎◌, inl, inr, ⊎_elim}
use Prim.Native.Nat.{ℕ, zero, suc, ◌+◌, ◌<◌, ◌≤◌}
use native.Mathlib.Omega.{arith}
use borrow.Author.Tests.{eqb-false}
use Rattle.bits.proofs.Cases.{known}
use Rattle.std.specs.Prelude.{Ok, Err}
use Rattle.dump.specs.Checks.{Checked, Verdict, verdict_at, or_else, checked_from}
use Rattle.dump.specs.declared.Reason.{Reason}
use Rattle.dump.specs.declared.Rejection.TheVariants.{Refused, Misfit}

-- an answer that goes by one entry first
or_accepted : (i : ℕ) (v : Verdict) (rest : Checked) → or_else i v rest ≡ Ok tt → (v ≡ Ok tt) × (rest ≡ Ok tt)
or_accepted i (Ok u) rest h = (refl, h)
or_accepted i (Err r) rest h = absurd (cc)

or_refused : (i : ℕ) (v : Verdict) (rest : Checked) (n : ℕ) → or_else i v rest ≡ Err (Refused n) → rest ≡ Err (Refused n)
or_refused i (Ok u) rest n h = h
or_refused i (Err r) rest n h = absurd (cc)

or_misfit : (i : ℕ) (v : Verdict) (rest : Checked) (k : ℕ) (r : Reason) → or_else i v rest ≡ Err (Misfit k r)
    → ((v ≡ Ok tt) × (rest ≡ Err (Misfit k r))) ⊎ ((v ≡ Err r) × (i ≡ k))
or_misfit i (Ok u) rest k r h = inl (refl, h)
or_misfit i (Err q) rest k r h = inr (cc, cc)

module _ (code : List ℕ) (base : ℕ) (zc : Bool) (entries : List ℕ) where
  -- n entries from entry i on are accepted exactly if each of them fits
  pub all_fit : (n i : ℕ) → checked_from code base zc entries i n ≡ Ok tt → (j : ℕ) → i ≤ j → j < i + n → verdict_at code base zc entries j ≡ Ok tt
  unfolding checked_from
  all_fit zero i h j l m = absurd (omega arith)
  all_fit (suc n) i h j l m =
      let p = or_accepted i (verdict_at code base zc entries i) (checked_from code base zc entries (i + 1) n) h in
      ⊎_elim (λ e. rw e p.0) (λ e. all_fit n (i + 1) p.1 j (omega (arith, eqb-false j i e)) (omega arith)) (known j i)

  pub accepts : (n i : ℕ) → ((j : ℕ) → i ≤ j → j < i + n → verdict_at code base zc entries j ≡ Ok tt) → checked_from code base zc entries i n ≡ Ok tt
  unfolding checked_from
  accepts zero i h = refl
  accepts (suc n) i h = rw (h i (omega arith) (omega arith)) (accepts n (i + 1) (λ j l m. h j (omega arith) (omega arith)))

  pub no_refusal : (n i k : ℕ) → checked_from code base zc entries i n ≡ Err (Refused k) → ⊥
  unfolding checked_from
  no_refusal zero i k h = cc
  no_refusal (suc n) i k h = no_refusal n (i + 1) k (or_refused i (verdict_at code base zc entries i) (checked_from code base zc entries (i + 1) n) k h)

  -- and entry k is the first misfit exactly if those before it fit and it does not
  pub first_misfit : (n i k : ℕ) (r : Reason) → checked_from code base zc entries i n ≡ Err (Misfit k r)
      → (i ≤ k) × (k < i + n) × ((j : ℕ) → i ≤ j → j < k → verdict_at code base zc entries j ≡ Ok tt) × (verdict_at code base zc entries k ≡ Err r)
  unfolding checked_from
  first_misfit zero i k r h = absurd (cc)
  first_misfit (suc n) i k r h =
      ⊎_elim
      (λ p.
      let q = first_misfit n (i + 1) k r p.1 in (
        omega (arith, q.0),
        omega (arith, q.1),
        (λ j l m. ⊎_elim (λ e. rw e p.0) (λ e. q.2 j (omega (arith, eqb-false j i e)) m) (known j i)),
        q.3,
      ))
      (λ p. (omega (arith, p.1), omega (arith, p.1), (λ j l m. absurd (omega (arith, p.1))), rw (← p.1) p.0))
      (or_misfit i (verdict_at code base zc entries i) (checked_from code base zc entries (i + 1) n) k r h)

  pub misfits : (n i k : ℕ) (r : Reason) → i ≤ k → k < i + n → ((j : ℕ) → i ≤ j → j < k → verdict_at code base zc entries j ≡ Ok tt)
      → verdict_at code base zc entries k ≡ Err r → checked_from code base zc entries i n ≡ Err (Misfit k r)
  unfolding checked_from
  misfits zero i k r l m all h = absurd (omega arith)
  misfits (suc n) i k r l m all h =
      ⊎_elim
      (λ e. rw (← e, h) refl)
      (λ e.
      let u : i < k = omega (arith, eqb-false k i e) in
      rw (all i (omega arith) u) (misfits n (i + 1) k r (omega arith) (omega arith) (λ j p q. all j (omega arith) q) h))
      (known k i)
