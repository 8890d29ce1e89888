use Rattle.std.proofs.Common.{rules, ◌≡◌, ◌∙◌, sym, ap, ℕ, zero, suc, ◌+◌, ◌≤◌, ◌<◌, List, [], ◌∷◌, ◌++◌, length, take, drop}
use Rattle.std.proofs.Common.{add-one, arith, take-append-drop, take-suc, take-suc-set, take_all, drop-set-lt, drop-drop, length-take-le}
use Rattle.std.specs.Prelude.{map}
use Rattle.std.specs.Int.{w64, from_le_bytes}
use Rattle.std.specs.Simd.{first_chunks}
use Rattle.std.proofs.lemmas.List.{map-append}
use mathlib.Core.Path.{refl}
use lib.ListN.{get_or, set}
use Rattle.console.specs.Words.{words_of}
use Rattle.console.proofs.put_words.Goals as goal

-- one more word is put, and the rest is as it was
more : (f : List ℕ → ℕ) (ws : List ℕ) (es : List (List ℕ)) (i w : ℕ) → take i ws ≡ map f (take i es) → w ≡ f (get_or es i [])
    → i < length ws → i < length es → take (i + 1) (set ws i w) ≡ map f (take (i + 1) es)
more f ws es i w e g h k =
    rw add-one
    (take-suc-set ws i w h ∙ ap (λ (l : List ℕ). l ++ (w ∷ [])) e ∙ ap (λ (v : ℕ). map f (take i es) ++ (v ∷ [])) g
    ∙ sym (map-append f (take i es) (get_or es i [] ∷ [])) ∙ ap (map f) (sym (take-suc es i [] k)))

rest : (ws us : List ℕ) (i w : ℕ) → drop i ws ≡ drop i us → drop (i + 1) (set ws i w) ≡ drop (i + 1) us
rest ws us i w e = drop-set-lt (i + 1) ws i w (omega arith) ∙ sym (drop-drop 1 i ws) ∙ ap (drop 1) e ∙ drop-drop 1 i us

-- of some chunks the first m are the first m chunks
first : (n k m : ℕ) (xs : List ℕ) → m ≤ k → take m (first_chunks n k xs) ≡ first_chunks n m xs
first n k zero xs h = refl
first n zero (suc m) xs h = absurd (omega arith)
first n (suc k) (suc m) xs h = ap (λ (l : List (List ℕ)). take n xs ∷ l) (first n k m (drop n xs) (omega arith))

-- all words are put
all : (ws us bytes : List ℕ) (es : List (List ℕ)) (k n i : ℕ) → take i ws ≡ map (from_le_bytes w64) (take i (take n es))
    → drop i ws ≡ drop i us → es ≡ first_chunks 8 k bytes → n ≤ length es → length es ≡ k → length (take n es) ≤ i
    → i ≤ length (take n es) → ws ≡ words_of n bytes ++ drop n us
unfolding words_of
all ws us bytes es k n i e f g h l a b =
    let z : length (take n es) ≡ n = length-take-le n es h in
    let y : i ≡ n = omega arith in
    let x : take n (take n es) ≡ first_chunks 8 n bytes =
    take_all n (take n es) (omega arith) ∙ ap (take n) g ∙ first 8 k n bytes (omega arith) in
    sym (take-append-drop n ws) ∙ ap (λ (t : List ℕ). t ++ drop n ws) (rw y at e) ∙ ap (λ (t : List (List ℕ)). map (from_le_bytes w64) t ++ drop n ws) x
    ∙ ap (λ (t : List ℕ). map (from_le_bytes w64) (first_chunks 8 n bytes) ++ t) (rw y at f)

pub loop-i-preserved : goal.loop-i-preserved
loop-i-preserved c =
    (more (from_le_bytes w64) c.loop-i.words _ c.loop-i.i _ c.loop-i.invariant.0 c.from_le_bytes.ensures (search rules) c.loop-i-test.true, rest _ _ c.loop-i.i _ c.loop-i.invariant.1)

pub returns-clause-put : goal.returns-clause-put
returns-clause-put c =
    all _ _ _ c.as_chunks.result.0.now _ c.min-count.result c.loop-i.i c.loop-i.invariant.0 c.loop-i.invariant.1 c.as_chunks.ensures.front (search rules) c.as_chunks.ensures.front_len c.loop-i-test.false (search rules)
