-- Free of number 5, said by bits and tested by masks. Assumes nothing.
use Prim.Native.Nat.{ℕ, zero, suc, ◌/◌, ◌%◌, ◌^◌, ◌<◌, min}
use mathlib.Core.Path.{◌≡◌, refl, ap, ◌∙◌}
use mathlib.Core.Logic.{◌⊎◌, inl, inr, ⊎_elim}
use mathlib.Core.Bool.{true}
use native.Mathlib.Omega.{arith}
use borrow.Author.Tests.{leb-true, ltb-true, eqb-true, le-leb, lt-ltb, eq-eqb}
use Rattle.bits.specs.Words.{bit_at, keep}
use Rattle.std.proofs.lemmas.Nat.Bits.{same_from_bits}
use Rattle.bits.proofs.Laws.{bit_keep}
use Rattle.machine.specs.Depths.{depth_of}
use Rattle.machine.specs.Good.{good_of}
use Rattle.machine.proofs.GoodLaws.{parts, whole}
use Rattle.machine.specs.declared.Registers.{Registers}
use Rattle.demands.specs.States.{Within, Free}
use Rattle.demands.proofs.Decides.{Decides}
use Rattle.demands.proofs.Tests.{depth_is}

within : (mask x : ℕ) → keep mask x ≡ x → Within mask x
within mask x e n h = omega (arith, bit_keep mask x n, ap (λ (y : ℕ). bit_at y n) e, h)

-- a bit is 0 or 1
kept_bit : (x m : ℕ) → (x % 2 ≡ 1 → m % 2 ≡ 1) → min (x % 2) (m % 2) ≡ x % 2
kept_bit x m h = ⊎_elim (λ z. omega arith) (λ o. omega (arith, h o)) (zero_or_one x)
  where
    zero_or_one : (y : ℕ) → (y % 2 ≡ 0) ⊎ (y % 2 ≡ 1)
    zero_or_one y = go (y % 2) (omega arith)
      where
        go : (z : ℕ) → z < 2 → (z ≡ 0) ⊎ (z ≡ 1)
        go zero l = inl refl
        go (suc z) l = inr (omega arith)

masked : (mask x : ℕ) → Within mask x → keep mask x ≡ x
masked mask x h = same_from_bits _ _ (λ n. bit_keep mask x n ∙ kept_bit (x / 2 ^ n) (mask / 2 ^ n) (h n))

good_free : (r : Registers) → good_of r ≡ true → Free r
good_free r h =
    let g = parts r h in
    record {
      code = leb-true _ _ g.code;
      pointer = rw (depth_is r.buffer.code) at (ltb-true r.buffer.wrptr (depth_of r.buffer.code) g.pointer);
      mctrctl = within _ _ (eqb-true _ _ g.control);
      vsctrctl = within _ _ (eqb-true _ _ g.guest);
      counter = ltb-true _ _ g.counter;
    }

free_good : (r : Registers) → Free r → good_of r ≡ true
free_good r f =
    whole r
    (record {
      code = le-leb _ _ f.code;
      pointer = lt-ltb r.buffer.wrptr (depth_of r.buffer.code) (rw (depth_is r.buffer.code) f.pointer);
      control = eq-eqb _ _ (masked _ _ f.mctrctl);
      guest = eq-eqb _ _ (masked _ _ f.vsctrctl);
      counter = lt-ltb _ _ f.counter;
    })

pub free : (r : Registers) → Decides (Free r) (good_of r)
free r = record { to = free_good r; from = good_free r }
