use Rattle.std.proofs.Common.{◌≡◌, ◌∙◌, ℕ, ◌+◌, ◌≤◌, List, ◌++◌, rules, length, take, sym, ap, subst, length-take-le}
use Rattle.std.specs.Io.KnownBytes.{Consumes}
use Rattle.std.proofs.KnownBytes.{Consumes-trans}
use lib.Seq.{take-append-add, take-append-le}
use Rattle.console.proofs.fill.Goals as goal

-- what a read puts behind the first a bytes
behind : (a n : ℕ) (xs ys zs : List ℕ) → a ≤ length xs → n ≤ length ys → take a xs ++ take n ys ≡ take (a + n) (take a xs ++ (ys ++ zs))
behind a n xs ys zs within fits =
    sym
    (ap (λ m. take (m + n) (take a xs ++ (ys ++ zs))) (sym (length-take-le a xs within))
    ∙ take-append-add (take a xs) (ys ++ zs) n
    ∙ ap (λ l. take a xs ++ l) (take-append-le n ys zs fits))

pub loop-count-preserved : goal.loop-count-preserved
loop-count-preserved g c =
    let joined = behind c.loop-count.count c.in-Ok.more c.loop-count.buf c.read.new.buf _ c.loop-count.invariant.1 c.in-Ok.ensures.bound.0 in
    (search rules, search rules, subst (Consumes _ _) joined (Consumes-trans _ _ _ _ _ c.loop-count.invariant.2 c.in-Ok.ensures.bytes.0))
