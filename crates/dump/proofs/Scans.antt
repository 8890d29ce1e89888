-- One entry after the other: a turn of the loop. Assumes nothing.
use Rattle.std.proofs.Common.{◌≡◌, ℕ, zero, suc, ◌+◌, ◌-◌, ◌*◌, ◌<◌, ◌≤◌, Bool, List, [], get_or, Ok, Err, MatchResult, sym, refl, ap, ◌∙◌, arith}
use Rattle.std.proofs.lemmas.List.{get_or-take, get_or-drop}
use Rattle.std.specs.Simd.{first_chunks}
use Rattle.dump.specs.Checks.{Checked, Verdict, verdict_of, verdict_at, or_else, checked_from}
use Rattle.dump.specs.declared.Rejection.{Rejection}
use Rattle.dump.specs.declared.Rejection.TheVariants.{Misfit}

-- a word of an entry is where it stood
pub word_of : (ws : List ℕ) (n i k : ℕ) (d : List ℕ) → i < n → k < 3 → get_or (get_or (first_chunks 3 n ws) i d) k 0 ≡ get_or ws (3 * i + k) 0
word_of ws zero i k d l m = absurd (omega arith)
word_of ws (suc n) zero k d l m = get_or-take 3 ws k 0 m ∙ ap (λ (j : ℕ). get_or ws j 0) (omega arith)
word_of ws (suc n) (suc i) k d l m =
    word_of _ n i k d (omega arith) m ∙ get_or-drop 3 ws (3 * i + k) 0 ∙ ap (λ (j : ℕ). get_or ws j 0) (omega arith)

-- the verdict with the index put to the reason
abbrev pub Indexed : ℕ → Verdict → Checked → Type 0
Indexed i v m = MatchResult v (λ x. m ≡ Ok x) (λ e. m ≡ Err (Misfit i e))

module _ (code : List ℕ) (base : ℕ) (zc : Bool) (ws : List ℕ) where
  first : (n i : ℕ) → i < n
      → checked_from code base zc ws i (n - i) ≡ or_else i (verdict_at code base zc ws i) (checked_from code base zc ws (i + 1) (n - (i + 1)))
  unfolding checked_from
  first n i l = let e : n - i ≡ suc (n - (i + 1)) = omega arith in rw e refl

  pub read : (n i : ℕ) (es : List (List ℕ)) → es ≡ first_chunks 3 n ws → i < n
      → verdict_of code base zc (get_or (get_or es i []) 0 0) (get_or (get_or es i []) 1 0) (get_or (get_or es i []) 2 0) ≡ verdict_at code base zc ws i
  unfolding verdict_at
  read n i es h l =
      let at = λ (k : ℕ) (m : k < 3). ap (λ (x : List (List ℕ)). get_or (get_or x i []) k 0) h ∙ word_of ws n i k [] l m in
      rw (at 0 (omega arith), at 1 (omega arith), at 2 (omega arith)) (ap (λ (j : ℕ). verdict_of code base zc (get_or ws j 0) (get_or ws (3 * i + 1) 0) (get_or ws (3 * i + 2) 0)) (omega arith))

  -- with its index put to the reason, the verdict on entry i is the answer, or the next entry is looked at
  module _ (n i : ℕ) (l : i < n) where
    pub stops : (v : Verdict) (m : Checked) (r : Rejection) → v ≡ verdict_at code base zc ws i → Indexed i v m → m ≡ Err r
        → checked_from code base zc ws i (n - i) ≡ Err r
    stops (Ok u) m r p q e = cc
    stops (Err x) m r p q e = first n i l ∙ rw (← p) (sym q ∙ e)

    pub goes_on : (v : Verdict) (m : Checked) (u : Unit {0}) → v ≡ verdict_at code base zc ws i → Indexed i v m → m ≡ Ok u
        → checked_from code base zc ws i (n - i) ≡ checked_from code base zc ws (i + 1) (n - (i + 1))
    goes_on (Ok u) m w p q e = first n i l ∙ rw (← p) refl
    goes_on (Err x) m w p q e = cc

  pub ends : (n i : ℕ) → n ≤ i → checked_from code base zc ws i (n - i) ≡ Ok tt
  unfolding checked_from
  ends n i l = let e : n - i ≡ 0 = omega arith in rw e refl
