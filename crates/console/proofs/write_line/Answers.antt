-- What the four writes append, one after the other.
use Rattle.std.proofs.Common.{IsTrue, ◌&&◌, Bool}
use Rattle.std.proofs.lemmas.Bool.{and_parts}
use Rattle.std.proofs.KnownBytes.{Appends-trans}
use Rattle.console.proofs.write_line.Goals as goal

all : (a b c d : Bool) → IsTrue (a && b && c && d) → IsTrue a × IsTrue b × IsTrue c × IsTrue d
all a b c d h =
    let t = and_parts (a && b && c) d h in
    let u = and_parts (a && b) c t.0 in
    let v = and_parts a b u.0 in
    (v.0, v.1, u.1, t.1)

pub returns : goal.returns
returns g c h =
    let t = all _ _ _ _ h in
    (c.args.words.now, Appends-trans _ _ _ _ _ (c.write-named.ensures t.0) (Appends-trans _ _ _ _ _ (c.write-parted.ensures t.1) (Appends-trans _ _ _ _ _ (c.write-told.ensures t.2) (c.write-ended.ensures t.3))))
