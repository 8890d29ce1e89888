-- What `Refusals` states, by cases of which steps apply. Assumes nothing.
use mathlib.Core.Path.{◌≡◌, refl}
use mathlib.Core.Bool.{Bool, true, false, not, and-false, ◌&&◌, ◌||◌}
use Prim.Native.Nat.{◌≤◌}
use native.Mathlib.Omega.{arith}
use lib.Dec.{eqb}
use Rattle.machine.specs.Answers.{number_of}
use Rattle.machine.specs.Modes.{is_vu}
use Rattle.machine.specs.declared.Registers.{Registers}
use Rattle.csr.specs.Numbers.{view_in}
use Rattle.csr.specs.Steps.{facts_of, step2, step3, step5, first_step, refusal_of}
use Rattle.csr.specs.Refusals.{Refusals, Selects}
use Rattle.csr.specs.declared.Facts.{Facts}

-- numbers 1, 2 and 3 by which of the six steps apply
abbrev one : Bool → Bool → Bool → Bool
one a b c = not a && (b || c)

abbrev two : Bool → Bool → Bool → Bool → Bool → Bool
two a b c d e = not a && (not (one a b c) && (d || e))

abbrev three : Bool → Bool → Bool → Bool → Bool → Bool → Bool
three a b c d e f = a || (not (one a b c) && (not (two a b c d e) && f))

record Cases (a b c d e f : Bool) : Type 0 where
  illegal : eqb (number_of (first_step a b c d e f)) 1 ≡ one a b c
  virtual : eqb (number_of (first_step a b c d e f)) 2 ≡ two a b c d e
  missing : eqb (number_of (first_step a b c d e f)) 3 ≡ three a b c d e f
  no_other : number_of (first_step a b c d e f) ≤ 3

cases : (a b c d e f : Bool) → Cases a b c d e f
unfolding first_step
cases true b c d e f = record { illegal = refl; virtual = refl; missing = refl; no_other = omega arith }
cases false true c d e f = record { illegal = refl; virtual = refl; missing = refl; no_other = omega arith }
cases false false true d e f = record { illegal = refl; virtual = refl; missing = refl; no_other = omega arith }
cases false false false true e f = record { illegal = refl; virtual = refl; missing = refl; no_other = omega arith }
cases false false false false true f = record { illegal = refl; virtual = refl; missing = refl; no_other = omega arith }
cases false false false false false true = record { illegal = refl; virtual = refl; missing = refl; no_other = omega arith }
cases false false false false false false = record { illegal = refl; virtual = refl; missing = refl; no_other = omega arith }

pub refusals : (r : Registers) (f : Facts) → Refusals r f
unfolding refusal_of step2 step3 step5
refusals r f =
    let c = cases f.unlisted (step2 r f) (step3 r f) (is_vu r.mode) (step5 r f) f.outside in
    record { illegal = c.illegal; virtual = c.virtual; missing = c.missing; no_other = c.no_other }

pub selects : (r : Registers) → Selects r
unfolding refusal_of first_step step2 step3 step5 facts_of view_in
selects r =
    record {
      from_s = (λ e. (simp (e, and-false), simp (e, and-false)));
      from_vs = (λ e. (simp (e, and-false), simp (e, and-false)));
    }
