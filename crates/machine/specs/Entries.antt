-- The defined bits of an entry.
use Rattle.std.specs.Prelude.{ℕ, eqb}
use Rattle.std.specs.Prelude.{if◌then◌else◌}
use Rattle.bits.specs.Words.{keep}

-- the defined bits of ctrdata: CC in 31..16, CCV in 15, TYPE in 3..0
abbrev pub ctrdata_mask : ℕ
ctrdata_mask = 0xFFFF800F

-- what word k keeps of x, and what it shows: all bits of word 0, ctrsource (bit 0 is V), and of word 1, ctrtarget (bit 0 is MISP);
-- of word 2, ctrdata, those of its mask. Any other k keeps nothing and reads 0
unfoldable pub defined_of : ℕ → ℕ → ℕ
defined_of k x =
    if eqb k 0 then x else (if eqb k 1 then x else (if eqb k 2 then keep ctrdata_mask x else 0))
