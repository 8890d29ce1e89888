-- The instruction that is fetched is the word at the address, or there is none, in one of two ways. Assumes nothing.
use mathlib.Core.Path.{◌≡◌, sym, ap, ◌∙◌}
use mathlib.Core.Bool.{true, false}
use mathlib.Core.Logic.{◌⊎◌, inl, inr, ⊎_elim}
use Prim.Native.Nat.{ℕ, ◌+◌, ◌-◌, ◌*◌, ◌%◌, ◌<◌, ◌≤◌}
use native.Mathlib.Omega.{arith}
use lib.ListN.{length, get_or}
use borrow.Author.Tests.{lt-ltb, le-ltb, le-leb, lt-leb, ne_eqb, eqb-false}
use Rattle.std.proofs.lemmas.Bool.{cases_lt}
use Rattle.bits.proofs.Cases.{known}
use Rattle.classifier.specs.Instructions.{C·op, is16}
use Rattle.std.specs.Prelude.{Ok, Err}
use Rattle.dump.specs.Checks.{Fetched, half_at, word_at, fetched_with, is_inside, fetched_at}
use Rattle.dump_demands.specs.Fits.{Firmware, end, byte, Outside, CutOff, WordAt}
use Rattle.dump_demands.specs.Fits.WordAt.{two, four}
use Rattle.dump.specs.declared.Reason.TheVariants as reason

-- what each answer says
abbrev pub Means : Firmware → ℕ → Fetched → Type 0
Means f a (Ok w) = WordAt f a w
Means f a (Err reason.SourceOutside) = Outside f a
Means f a (Err reason.CutOff) = CutOff f a
Means f a (Err reason.TypeUnlike) = ⊥
Means f a (Err reason.TargetWrong) = ⊥

module _ (f : Firmware) (a : ℕ) where
  -- bytes by their place in the image, for one that is not below its base
  module _ (from : f.base ≤ a) where
    at : (n : ℕ) → byte f (a + n) ≡ get_or f.code (a - f.base + n) 0
    at n = let e : a + n - f.base ≡ a - f.base + n = omega arith in ap (λ (k : ℕ). get_or f.code k 0) e

    half : half_at f.code (a - f.base) ≡ byte f a + 256 * byte f (a + 1)
    half = rw (at 1) (omega arith)

    low_bits : C·op (half_at f.code (a - f.base)) ≡ byte f a % 4
    low_bits = omega arith

    word : word_at f.code (a - f.base) ≡ byte f a + 256 * byte f (a + 1) + 65536 * byte f (a + 2) + 16777216 * byte f (a + 3)
    word =
        let e : get_or f.code (a - f.base + 2 + 1) 0 ≡ get_or f.code (a - f.base + 3) 0 = ap (λ (k : ℕ). get_or f.code k 0) (omega arith) in
        rw (at 1, at 2, at 3) (omega (arith, e))

    short_is : (byte f a % 4 ≡ 3 → ⊥) → is16 (half_at f.code (a - f.base)) ≡ true
    short_is n = simp (ne_eqb (C·op (half_at f.code (a - f.base))) 3 (λ e. n (sym low_bits ∙ e)))

    long_is : byte f a % 4 ≡ 3 → is16 (half_at f.code (a - f.base)) ≡ false
    long_is e = simp (low_bits ∙ e)

  -- which answer is given
  below : a < f.base → fetched_at f.code f.base a ≡ Err reason.SourceOutside
  unfolding fetched_at is_inside
  below l = simp (lt-leb f.base a l)

  past : f.base ≤ a → end f ≤ a → fetched_at f.code f.base a ≡ Err reason.SourceOutside
  unfolding fetched_at is_inside
  past l m = simp (le-leb f.base a l, le-ltb (a - f.base) (length f.code) (omega arith))

  inside : f.base ≤ a → a < end f
      → fetched_at f.code f.base a ≡ fetched_with f.code (a - f.base) (length f.code - (a - f.base))
  unfolding fetched_at is_inside
  inside l m = simp (le-leb f.base a l, lt-ltb (a - f.base) (length f.code) (omega arith))

  no_half : f.base ≤ a → a < end f → end f < a + 2 → fetched_at f.code f.base a ≡ Err reason.CutOff
  unfolding fetched_with
  no_half l m n = inside l m ∙ simp (lt-ltb (length f.code - (a - f.base)) 2 (omega arith))

  short : (l : f.base ≤ a) → a + 2 ≤ end f → (byte f a % 4 ≡ 3 → ⊥)
      → fetched_at f.code f.base a ≡ Ok (byte f a + 256 * byte f (a + 1))
  unfolding fetched_with
  short l m n =
      inside l (omega arith) ∙ simp (le-ltb (length f.code - (a - f.base)) 2 (omega arith), short_is l n)
      (ap Ok (half l))

  no_word : (l : f.base ≤ a) → a + 2 ≤ end f → byte f a % 4 ≡ 3 → end f < a + 4 → fetched_at f.code f.base a ≡ Err reason.CutOff
  unfolding fetched_with
  no_word l m e n =
      inside l (omega arith)
      ∙ simp (le-ltb (length f.code - (a - f.base)) 2 (omega arith), long_is l e, lt-ltb (length f.code - (a - f.base)) 4 (omega arith))

  long : (l : f.base ≤ a) → a + 4 ≤ end f → byte f a % 4 ≡ 3
      → fetched_at f.code f.base a
      ≡ Ok (byte f a + 256 * byte f (a + 1) + 65536 * byte f (a + 2) + 16777216 * byte f (a + 3))
  unfolding fetched_with
  long l m e =
      inside l (omega arith)
      ∙ simp (le-ltb (length f.code - (a - f.base)) 2 (omega arith), long_is l e, le-ltb (length f.code - (a - f.base)) 4 (omega arith))
      (ap Ok (word l))

  -- what means an answer is given that answer
  pub given : (x : Fetched) → Means f a x → fetched_at f.code f.base a ≡ x
  given (Err reason.SourceOutside) (inl l) = below l
  given (Err reason.SourceOutside) (inr l) = ⊎_elim (λ under. below under) (λ from. past from l) (cases_lt a f.base)
  given (Err reason.CutOff) (from, in_image, inl n) = no_half from in_image n
  given (Err reason.CutOff) (from, in_image, inr (e, n)) =
      ⊎_elim (λ h. no_half from in_image h) (λ h. no_word from h e n) (cases_lt (end f) (a + 2))
  given (Err reason.TypeUnlike) h = absurd h
  given (Err reason.TargetWrong) h = absurd h
  given (Ok _) (two from h n) = short from h n
  given (Ok _) (four from h e) = long from h e

  -- so the answer means what it says
  pub means : Means f a (fetched_at f.code f.base a)
  means = by_base (cases_lt a f.base)
    where
      by_low_bits : f.base ≤ a → a + 2 ≤ end f → Means f a (fetched_at f.code f.base a)
      by_low_bits from h =
          ⊎_elim
          (λ e.
          ⊎_elim
          (λ none. rw (no_word from h e none) (from, omega arith, inr (e, none)))
          (λ whole. rw (long from whole e) (four from whole e))
          (cases_lt (end f) (a + 4)))
          (λ n. let m = eqb-false (byte f a % 4) 3 n in rw (short from h m) (two from h m))
          (known (byte f a % 4) 3)

      by_end : f.base ≤ a → (a < end f) ⊎ (end f ≤ a) → Means f a (fetched_at f.code f.base a)
      by_end from (inl h) =
          ⊎_elim (λ none. rw (no_half from h none) (from, h, inl none)) (by_low_bits from) (cases_lt (end f) (a + 2))
      by_end from (inr h) = rw (past from h) (inr h)

      by_base : (a < f.base) ⊎ (f.base ≤ a) → Means f a (fetched_at f.code f.base a)
      by_base (inl under) = rw (below under) (inl under)
      by_base (inr from) = by_end from (cases_lt a (end f))
