-- What `Edges` states. Assumes nothing.
use mathlib.Core.Path.{◌≡◌, refl}
use mathlib.Core.Bool.{Bool, true, false, false≢true}
use Rattle.std.specs.Prelude.{if◌then◌else◌}
use Rattle.machine.specs.Modes.{is_virtual, control_of, governing_of}
use Rattle.machine.specs.Edges.{Edges}
use Rattle.machine.specs.declared.Mode.{Mode}
use Rattle.machine.specs.declared.Mode.TheVariants.{U, S, M, VU, VS}
use Rattle.machine.specs.declared.ControlRegister.{ControlRegister}
use Rattle.machine.specs.declared.ControlRegister.TheVariants.{Vsctrctl}

-- a choice made again
twice : (b : Bool) (c d : ControlRegister) → (if b then c else (if b then c else d)) ≡ (if b then c else d)
twice true c d = refl
twice false c d = refl

into : (source target : Mode) → is_virtual source ≡ false → is_virtual target ≡ true → governing_of source target ≡ Vsctrctl
unfolding governing_of control_of
into source U s t = absurd (false≢true t)
into source S s t = absurd (false≢true t)
into source M s t = absurd (false≢true t)
into source VU s t = refl
into source VS s t = refl

pub edges : Edges
unfolding governing_of control_of
edges =
    record {
      into = into;
      out = (λ source target s t. rw (t, s));
      within = (λ source target e. rw e (twice (is_virtual target) _ _));
    }
