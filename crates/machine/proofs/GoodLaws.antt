-- Registers free of number 5, taken apart and put together. Assumes nothing.
use mathlib.Core.Path.{◌≡◌}
use mathlib.Core.Bool.{true}
use lib.Dec.{eqb, leb, ltb}
use Rattle.bits.proofs.Cases.{both}
use Rattle.bits.specs.Words.{keep}
use Rattle.machine.specs.Controls.{mctrctl_mask, sctrctl_mask}
use Rattle.machine.specs.Depths.{top_code, depth_of}
use Rattle.machine.specs.Good.{good_buffer, good_controls, counter_limit, good_of}
use Rattle.machine.specs.declared.Registers.{Registers}

pub record Good (r : Registers) : Type 0 where
  pub code : leb r.buffer.code top_code ≡ true
  pub pointer : ltb r.buffer.wrptr (depth_of r.buffer.code) ≡ true
  pub control : eqb (keep mctrctl_mask r.controls.mctrctl) r.controls.mctrctl ≡ true
  pub guest : eqb (keep sctrctl_mask r.controls.vsctrctl) r.controls.vsctrctl ≡ true
  pub counter : ltb r.cycles.counter counter_limit ≡ true

pub parts : (r : Registers) → good_of r ≡ true → Good r
unfolding good_of good_buffer good_controls
parts r h =
    let p = both _ _ h in
    let q = both _ _ p.1 in
    let b = both _ _ p.0 in
    let c = both _ _ q.0 in
    record { code = b.0; pointer = b.1; control = c.0; guest = c.1; counter = q.1 }

pub whole : (r : Registers) → Good r → good_of r ≡ true
unfolding good_of good_buffer good_controls
whole r g = rw (g.code, g.pointer, g.control, g.guest, g.counter)
