-- An entry by itself: the verdict is that it fits, or the first reason that it breaks. Assumes nothing.
use mathlib.Core.Path.{◌≡◌, refl, sym, ap, subst, ◌∙◌}
use mathlib.Core.Bool.{Bool, true, false, false≢true}
use mathlib.Core.Logic.{◌⊎◌, inl, inr, ⊎_elim, ◌↔◌}
use Prim.Native.Nat.{ℕ, ◌<◌, ◌≤◌}
use native.Mathlib.Omega.{arith}
use lib.Dec.{eqb, leb}
use borrow.Author.Tests.{le-leb, lt-leb, leb-true, leb-false, eqb-false}
use Rattle.bits.proofs.Cases.{known}
use Rattle.classifier.specs.Transfers.{transfer_of, type_of}
use Rattle.classifier.specs.Promise.{WordType}
use Rattle.classifier.proofs.Promise.{promise}
use Rattle.std.specs.Prelude.{Ok, Err, ◌==◌, if◌then◌else◌}
use Rattle.dump.specs.Checks.{Fetched, Verdict, reason_number, fetched_at, may_go, is_like, word_verdict, fetched_verdict, type_verdict}
use Rattle.dump_demands.specs.Fits as fits
use Rattle.dump_demands.specs.Fits.{Firmware, Entry, OfWord, WordAt}
use Rattle.dump_demands.specs.Fits.Fits.{event, transfer}
use Rattle.dump_demands.specs.Fits.Breaks.{outside, cut_off, never, unlike, wrong}
use Rattle.dump_demands.specs.Promise.{First}
use Rattle.dump.specs.declared.Reason.{Reason}
use Rattle.dump.specs.declared.Reason.TheVariants.{SourceOutside, CutOff, TypeUnlike, TargetWrong}
use Rattle.dump_demands.proofs.Fetching.{Means, means, given}
use Rattle.dump_demands.proofs.Going.{like, has_type, branch, goes, may}

-- types by themselves
abbrev Event : ℕ → Type 0
Event n = (1 ≤ n) × (n ≤ 3)

abbrev Never : ℕ → Type 0
Never n = (n ≡ 0) ⊎ (n ≡ 6) ⊎ (n ≡ 7)

-- a type is one of an event's, of a word's, or of none
sorted : (n : ℕ) → n < 16 → Event n ⊎ OfWord n ⊎ Never n
sorted n l = go (leb n 3) (leb n 5) (leb n 7) refl refl refl
  where
    zero_or : (n ≡ 0) ⊎ (eqb n 0 ≡ false) → n ≤ 3 → Event n ⊎ OfWord n ⊎ Never n
    zero_or (inl e) h = inr (inr (inl e))
    zero_or (inr e) h = inl (omega (arith, eqb-false n 0 e), h)

    six_or : (n ≡ 6) ⊎ (eqb n 6 ≡ false) → 5 < n → n ≤ 7 → Event n ⊎ OfWord n ⊎ Never n
    six_or (inl e) g h = inr (inr (inr (inl e)))
    six_or (inr e) g h = inr (inr (inr (inr (omega (arith, eqb-false n 6 e)))))

    go : (a b c : Bool) → leb n 3 ≡ a → leb n 5 ≡ b → leb n 7 ≡ c → Event n ⊎ OfWord n ⊎ Never n
    go true b c p q r = zero_or (known n 0) (leb-true n 3 p)
    go false true c p q r = inr (inl (inl (omega (arith, leb-false n 3 p), leb-true n 5 q)))
    go false false true p q r = six_or (known n 6) (leb-false n 5 q) (leb-true n 7 r)
    go false false false p q r = inr (inl (inr (omega (arith, leb-false n 7 r), omega arith)))

-- what is to prove of a verdict: of an entry that fits, that it does, and of one that breaks a reason, that
abbrev pub Says : Firmware → Entry → Verdict → Type 0
Says f e (Ok u) = fits.Fits f e
Says f e (Err r) = fits.Breaks f e (reason_number r)

-- a verdict that names a reason not after reason m
abbrev pub NotAfter : ℕ → Verdict → Type 0
NotAfter m (Ok u) = ⊥
NotAfter m (Err r) = reason_number r ≤ m

module _ (f : Firmware) (e : Entry) where
  -- the verdict, by type
  unfoldable pub verdict : Verdict
  verdict = type_verdict f.code f.base f.zc e.pc e.target e.type_number

  of_event : Event e.type_number → verdict ≡ Ok tt
  unfolding verdict type_verdict
  of_event (l, h) = simp (le-leb 1 e.type_number l, le-leb e.type_number 3 h)

  of_word : OfWord e.type_number
      → verdict ≡ fetched_verdict f.zc (fetched_at f.code f.base e.pc) e.pc e.target e.type_number
  unfolding verdict type_verdict
  of_word (inl (l, h)) =
      simp (
        le-leb 1 e.type_number (omega arith),
        lt-leb e.type_number 3 (omega arith),
        le-leb 4 e.type_number l,
        le-leb e.type_number 5 h,
      )
  of_word (inr (l, h)) =
      simp (
        le-leb 1 e.type_number (omega arith),
        lt-leb e.type_number 3 (omega arith),
        le-leb 4 e.type_number (omega arith),
        lt-leb e.type_number 5 (omega arith),
        le-leb 8 e.type_number l,
        le-leb e.type_number 15 h,
      )

  of_never : Never e.type_number → verdict ≡ Err TypeUnlike
  unfolding verdict type_verdict
  of_never (inl h) = rw h refl
  of_never (inr (inl h)) = rw h refl
  of_never (inr (inr h)) = rw h refl

  -- and by what stands at its source
  at_source : OfWord e.type_number → (x : Fetched) → Means f e.pc x → verdict ≡ fetched_verdict f.zc x e.pc e.target e.type_number
  at_source o x h = of_word o ∙ ap (λ (y : Fetched). fetched_verdict f.zc y e.pc e.target e.type_number) (given f e.pc x h)

  module _ (o : OfWord e.type_number) (w : ℕ) (h : WordAt f e.pc w) where
    is_unlike : is_like f.zc w e.type_number ≡ false → verdict ≡ Err TypeUnlike
    unfolding fetched_verdict word_verdict
    is_unlike n = at_source o (Ok w) h ∙ simp n

    is_wrong : is_like f.zc w e.type_number ≡ true → may_go e.pc w e.type_number e.target ≡ false → verdict ≡ Err TargetWrong
    unfolding fetched_verdict word_verdict
    is_wrong y n = at_source o (Ok w) h ∙ simp (y, n)

    does_fit : is_like f.zc w e.type_number ≡ true → may_go e.pc w e.type_number e.target ≡ true → verdict ≡ Ok tt
    unfolding fetched_verdict word_verdict
    does_fit y n = at_source o (Ok w) h ∙ simp (y, n)

  -- what a verdict says holds
  pub says : e.type_number < 16 → Says f e verdict
  unfolding fetched_verdict
  says l = by_type (sorted e.type_number l)
    where
      by_tests : (o : OfWord e.type_number) (w : ℕ) (h : WordAt f e.pc w) (a b : Bool) → is_like f.zc w e.type_number ≡ a
          → may_go e.pc w e.type_number e.target ≡ b → Says f e verdict
      by_tests o w h false b y g =
          rw (is_unlike o w h y) (unlike w o h (λ taken t. false≢true (sym y ∙ like f.zc w e.type_number taken t)))
      by_tests o w h true false y g =
          rw (is_wrong o w h y g)
          (wrong w o h (λ x. false≢true (sym g ∙ may e.pc w e.type_number e.target (branch f.zc w e.type_number y) x)))
      by_tests o w h true true y g =
          rw (does_fit o w h y g)
          (transfer w (eqb e.type_number 5) h (has_type f.zc w e.type_number y) (positive o)
          (goes e.pc w e.type_number e.target (branch f.zc w e.type_number y) g))
        where
          positive : OfWord e.type_number → 0 < e.type_number
          positive (inl (p, q)) = omega arith
          positive (inr (p, q)) = omega arith

      by_source : (o : OfWord e.type_number) (x : Fetched) → Means f e.pc x → Says f e verdict
      by_source o (Err SourceOutside) m = rw (at_source o (Err SourceOutside) m) (outside o m)
      by_source o (Err CutOff) m = rw (at_source o (Err CutOff) m) (cut_off o m)
      by_source o (Err TypeUnlike) m = absurd m
      by_source o (Err TargetWrong) m = absurd m
      by_source o (Ok w) m = by_tests o w m _ _ refl refl

      by_type : Event e.type_number ⊎ OfWord e.type_number ⊎ Never e.type_number → Says f e verdict
      by_type (inl h) = rw (of_event h) (event h.0 h.1)
      by_type (inr (inl o)) = by_source o (fetched_at f.code f.base e.pc) (means f e.pc)
      by_type (inr (inr h)) = rw (of_never h) (never h)

  -- and no reason before it is broken
  pub not_after : {m : ℕ} → fits.Breaks f e m → NotAfter m verdict
  unfolding fetched_verdict
  not_after (outside o x) = rw (at_source o (Err SourceOutside) x) (omega arith)
  not_after (cut_off o x) = rw (at_source o (Err CutOff) x) (omega arith)
  not_after (never h) = rw (of_never h) (omega arith)
  not_after (unlike w o h n) = go _ refl
    where
      go : (b : Bool) → is_like f.zc w e.type_number ≡ b → NotAfter 3 verdict
      go true y = absurd (n _ (has_type f.zc w e.type_number y))
      go false y = rw (is_unlike o w h y) (omega arith)
  not_after (wrong w o h n) = go _ _ refl refl
    where
      go : (a b : Bool) → is_like f.zc w e.type_number ≡ a → may_go e.pc w e.type_number e.target ≡ b → NotAfter 4 verdict
      go false b y g = rw (is_unlike o w h y) (omega arith)
      go true false y g = rw (is_wrong o w h y g) (omega arith)
      go true true y g = absurd (n (goes e.pc w e.type_number e.target (branch f.zc w e.type_number y) g))

  -- an entry that fits has that verdict
  pub given_fits : fits.Fits f e → verdict ≡ Ok tt
  given_fits (event l h) = of_event (l, h)
  given_fits (transfer w taken h t p g) =
      let y = like f.zc w e.type_number taken t in
      does_fit (of_words (promise.types (transfer_of f.zc w) taken) ((promise.numbers f.zc w taken e.type_number).1 t)) w h y
      (may e.pc w e.type_number e.target (branch f.zc w e.type_number y) g)
    where
      of_words : WordType (type_of (transfer_of f.zc w) taken) → type_of (transfer_of f.zc w) taken ≡ e.type_number → OfWord e.type_number
      of_words (inl z) q = absurd (omega arith)
      of_words (inr (inl z)) q = inl (omega arith, omega arith)
      of_words (inr (inr (inl z))) q = inl (omega arith, omega arith)
      of_words (inr (inr (inr z))) q = inr (omega (arith, z.0), omega (arith, z.1))

-- reasons by their numbers
numbered : ℕ → Reason
numbered n = if n == 1 then SourceOutside else (if n == 2 then CutOff else (if n == 3 then TypeUnlike else TargetWrong))

its_number : (r : Reason) → numbered (reason_number r) ≡ r
unfolding numbered
its_number SourceOutside = refl
its_number CutOff = refl
its_number TypeUnlike = refl
its_number TargetWrong = refl

same_reason : (r s : Reason) → reason_number r ≡ reason_number s → r ≡ s
same_reason r s h = sym (its_number r) ∙ ap numbered h ∙ its_number s

module _ (f : Firmware) (e : Entry) (l : e.type_number < 16) where
  -- the verdict that an entry fits is given exactly if it does
  pub exactly_fits : fits.Fits f e ↔ (verdict f e ≡ Ok tt)
  exactly_fits = (given_fits f e, (λ h. subst (Says f e) h (says f e l)))

  -- and that it breaks a reason exactly if that is the first
  pub exactly_first : (r : Reason) → First f e (reason_number r) ↔ (verdict f e ≡ Err r)
  exactly_first r = (given_first, (λ h. (subst (Says f e) h (says f e l), (λ m n b. absurd (omega (arith, n, subst (NotAfter m) h (not_after f e b)))))))
    where
      go : (v : Verdict) → Says f e v → NotAfter (reason_number r) v → ((m : ℕ) → m < reason_number r → fits.Breaks f e m → ⊥) → v ≡ Err r
      go (Ok u) s n none = absurd n
      go (Err q) s n none =
          ⊎_elim (λ h. ap Err (same_reason q r h)) (λ h. absurd (none (reason_number q) (omega (arith, n, eqb-false (reason_number q) (reason_number r) h)) s))
          (known (reason_number q) (reason_number r))

      given_first : First f e (reason_number r) → verdict f e ≡ Err r
      given_first (b, none) = go (verdict f e) (says f e l) (not_after f e b) none

  -- an entry that breaks nothing fits
  pub unbroken : ((n : ℕ) → fits.Breaks f e n → ⊥) → fits.Fits f e
  unbroken h = go (verdict f e) (says f e l)
    where
      go : (v : Verdict) → Says f e v → fits.Fits f e
      go (Ok u) s = s
      go (Err r) s = absurd (h (reason_number r) s)

  pub unbroken_if : fits.Fits f e → (n : ℕ) → fits.Breaks f e n → ⊥
  unbroken_if h n b = subst (NotAfter n) (given_fits f e h) (not_after f e b)
