-- What holds of places: the masks are made of the named bits, and logical entries lie below WRPTR. Proved in proofs/.
use Rattle.std.specs.Prelude.{ℕ, ◌+◌, ◌%◌, ◌^◌, ◌<◌, ◌≡◌, Bool, true}
use Rattle.machine.specs.Controls.{place_of, mctrctl_mask, sctrctl_mask, machine_mask}
use Rattle.machine.specs.Regs.{reset_registers}
use Rattle.machine.specs.Depths.{depth_of, physical_of}
use Rattle.machine.specs.Good.{good_of}
use Rattle.machine.specs.declared.ControlBit.TheVariants as Bit

-- all control bits at their places
abbrev pub all_bits : ℕ
all_bits =
    2 ^ place_of Bit.U
    + 2 ^ place_of Bit.S
    + 2 ^ place_of Bit.M
    + 2 ^ place_of Bit.RASEMU
    + 2 ^ place_of Bit.STE
    + 2 ^ place_of Bit.MTE
    + 2 ^ place_of Bit.BPFRZ
    + 2 ^ place_of Bit.LCOFIFRZ
    + 2 ^ place_of Bit.EXCINH
    + 2 ^ place_of Bit.INTRINH
    + 2 ^ place_of Bit.TRETINH
    + 2 ^ place_of Bit.NTBREN
    + 2 ^ place_of Bit.TKBRINH
    + 2 ^ place_of Bit.INDCALLINH
    + 2 ^ place_of Bit.DIRCALLINH
    + 2 ^ place_of Bit.INDJMPINH
    + 2 ^ place_of Bit.DIRJMPINH
    + 2 ^ place_of Bit.CORSWAPINH
    + 2 ^ place_of Bit.RETINH
    + 2 ^ place_of Bit.INDLJMPINH
    + 2 ^ place_of Bit.DIRLJMPINH

pub record Places : Type 0 where
  -- mctrctl has all control bits, and sctrctl shows all but M and MTE
  pub all : mctrctl_mask ≡ all_bits
  pub window : mctrctl_mask ≡ sctrctl_mask + machine_mask
  pub kept : machine_mask ≡ 2 ^ place_of Bit.M + 2 ^ place_of Bit.MTE
  -- logical entry i is i + 1 places below WRPTR, modulo the depth, and one of the entries in use
  pub logical : (code wrptr i : ℕ) → (physical_of code wrptr i + (1 + i)) % depth_of code ≡ wrptr % depth_of code
  pub in_use : (code wrptr i : ℕ) → physical_of code wrptr i < depth_of code
  -- reset is free of number 5
  pub reset : (zc : Bool) → good_of (reset_registers zc) ≡ true
