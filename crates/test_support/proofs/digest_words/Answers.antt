use Rattle.std.proofs.Common.{rules, ◌≡◌, ◌∙◌, ap, ℕ, ◌+◌, ◌<◌, ◌≤◌, List, [], ◌∷◌, ◌++◌, length, take}
use mathlib.Core.Path.{refl}
use native.Mathlib.Numerals.{add-one}
use lib.ListN.{get_or}
use lib.Seq.{take-suc, take_all}
use Rattle.test_support.specs.Words.{digested, digested_all}
use Rattle.test_support.proofs.digest_words.Goals as goal

-- one word behind others
behind : (h w : ℕ) (s : List ℕ) → digested_all h (s ++ (w ∷ [])) ≡ digested (digested_all h s) w
behind h w [] = refl
behind h w (v ∷ s) = behind (digested h v) w s

-- one more, and all
more : (h d e : ℕ) (s : List ℕ) (i : ℕ) → i < length s → d ≡ digested_all h (take i s) → e ≡ digested d (get_or s i 0)
    → e ≡ digested_all h (take (i + 1) s)
more h d e s i k p q = rw (add-one, take-suc s i 0, behind, ← p) q

all : (h d : ℕ) (s : List ℕ) (i : ℕ) → length s ≤ i → d ≡ digested_all h (take i s) → d ≡ digested_all h s
all h d s i k p = p ∙ ap (digested_all h) (take_all i s k)

pub loop-w-preserved : goal.loop-w-preserved
loop-w-preserved c = more c.args.h c.loop-w.d _ c.args.words.now c.loop-w.w-index (search rules) c.loop-w.invariant c.digest-d.ensures

pub returns : goal.returns
returns c = all c.args.h c.loop-w.d c.args.words.now c.loop-w.w-index (search rules) c.loop-w.invariant
