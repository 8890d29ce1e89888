-- Number 5: which registers are free of it.
use Rattle.std.specs.Prelude.{ℕ, ◌^◌, Bool, ◌&&◌, eqb, leb, ltb}
use Rattle.bits.specs.Words.{keep}
use Rattle.machine.specs.Controls.{mctrctl_mask, sctrctl_mask}
use Rattle.machine.specs.Depths.{top_code, depth_of}
use Rattle.machine.specs.declared.ControlWords.{ControlWords}
use Rattle.machine.specs.declared.Buffer.{Buffer}
use Rattle.machine.specs.declared.Cycles.{Cycles}
use Rattle.machine.specs.declared.Registers.{Registers}

-- free of number 5: the depth code is at most the largest and WRPTR below the depth, no control bit is outside its mask, and the
-- cycle counter has 27 bits
unfoldable pub good_buffer : Buffer → Bool
good_buffer b = leb b.code top_code && ltb b.wrptr (depth_of b.code)

unfoldable pub good_controls : ControlWords → Bool
good_controls c =
    eqb (keep mctrctl_mask c.mctrctl) c.mctrctl && eqb (keep sctrctl_mask c.vsctrctl) c.vsctrctl

-- the cycle counter has 27 bits
abbrev pub counter_limit : ℕ
counter_limit = 2 ^ 27

abbrev pub good_cycles : Cycles → Bool
good_cycles c = ltb c.counter counter_limit

unfoldable pub good_of : Registers → Bool
good_of r = good_buffer r.buffer && (good_controls r.controls && good_cycles r.cycles)
