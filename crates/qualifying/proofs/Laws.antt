-- What `TrapOutcomes` and `OfMctrctl` state, and where the bit of a type lies. Assumes nothing.
use mathlib.Core.Path.{◌≡◌, refl, sym, ◌∙◌}
use mathlib.Core.Bool.{Bool, true, false, false≢true, not, ◌&&◌, ◌||◌}
use Prim.Native.Nat.{ℕ, ◌+◌, ◌<◌}
use native.Mathlib.Omega.{arith}
use lib.Dec.{eqb, ltb, leb}
use borrow.Author.Tests.{eqb-true, ltb-true, ltb-false, lt-leb}
use Rattle.bits.proofs.Cases.{all_below, passed}
use Rattle.bits.specs.Words.{bit_at}
use Rattle.machine.specs.Controls.{place_of, control_word, is_set}
use Rattle.machine.specs.Modes.{is_virtual, is_vu, control_of}
use Rattle.machine.specs.declared.Mode.{Mode}
use Rattle.machine.specs.declared.Mode.TheVariants.{U, S, M, VU, VS}
use Rattle.machine.specs.declared.ControlRegister.{ControlRegister}
use Rattle.machine.specs.declared.Registers.{Registers}
use Rattle.machine.specs.declared.TrapTo.{TrapTo}
use Rattle.qualifying.specs.Filters.{freezes_of, external_to_s, external_to_m, external_of, is_type, inhibit_bit}
use Rattle.qualifying.specs.Outcomes.{trap_by}
use Rattle.qualifying.specs.Laws.{TrapOutcomes, with_vsctrctl, OfMctrctl}

pub trap_outcomes : TrapOutcomes
unfolding trap_by
trap_outcomes =
    record {
      freezes = (λ frozen rasemu source target inhibited external. refl);
      external = (λ freezes frozen rasemu source external inhibited inhibited'. refl);
    }

freezes_to : (r : Registers) (w : ℕ) (t : TrapTo) (m : Mode) → t.mode ≡ m → is_virtual m ≡ false → freezes_of r t ≡ freezes_of (with_vsctrctl r w) t
unfolding freezes_of control_of is_set
freezes_to r w t U e h = rw e
freezes_to r w t S e h = rw e
freezes_to r w t M e h = rw e
freezes_to r w t VU e h = absurd (false≢true (sym h))
freezes_to r w t VS e h = absurd (false≢true (sym h))

external : (r : Registers) (w : ℕ) (source target : Mode)
    → is_vu source ≡ false → is_virtual target ≡ false → external_of r source target ≡ external_of (with_vsctrctl r w) source target
unfolding external_of external_to_s external_to_m is_set
external r w source U h e = refl
external r w U S h e = refl
external r w S S h e = refl
external r w M S h e = refl
external r w VU S h e = absurd (false≢true (sym h))
external r w VS S h e = refl
external r w U M h e = refl
external r w S M h e = refl
external r w M M h e = refl
external r w VU M h e = absurd (false≢true (sym h))
external r w VS M h e = refl
external r w source VU h e = refl
external r w source VS h e = absurd (false≢true (sym e))

pub of_mctrctl : OfMctrctl
of_mctrctl =
    record {
      freezes = (λ r w t h. freezes_to r w t t.mode refl h);
      external = external;
    }

-- the bit of a type lies 32 above its number: computed for all types, which are below 16
test : ℕ → Bool
test n = not (is_type n) || eqb (place_of (inhibit_bit n)) (32 + n)

all_pass : all_below test 16 ≡ true
unfolding test inhibit_bit
all_pass = refl

neither : (a b : Bool) → ((a && false) || (b && false)) ≡ false
neither true true = refl
neither true false = refl
neither false true = refl
neither false false = refl

pub type_lt : (n : ℕ) → is_type n ≡ true → n < 16
type_lt n h = go (ltb n 16) refl
  where
    go : (b : Bool) → ltb n 16 ≡ b → n < 16
    go true e = ltb-true n 16 e
    go false e =
        let l = ltb-false n 16 e in
        let f : is_type n ≡ false = rw (lt-leb n 5 (omega (arith, l)), lt-leb n 15 (omega (arith, l))) (neither (leb 1 n) (leb 8 n)) in
        absurd (false≢true (sym f ∙ h))

inhibit_place : (n : ℕ) → is_type n ≡ true → place_of (inhibit_bit n) ≡ 32 + n
unfolding test
inhibit_place n h = eqb-true _ _ (rw h at (passed test 16 n all_pass (type_lt n h)))

-- so the bit found there is the one about the type
pub at_inhibit_place : (r : Registers) (c : ControlRegister) (n w p : ℕ) (b : Bool)
    → w ≡ control_word r c → p ≡ 32 + n → b ≡ eqb (bit_at w p) 1 → is_type n ≡ true → b ≡ is_set r c (inhibit_bit n)
unfolding is_set
at_inhibit_place r c n w p b e q h t = h ∙ rw (e, q, inhibit_place n t)
