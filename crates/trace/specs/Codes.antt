-- Numbers for modes, operations, bits and words of a row.
use Rattle.std.specs.Prelude.{ℕ, Bool, true, false, eqb}
use Rattle.std.specs.Prelude.{if◌then◌else◌}
use Rattle.machine.specs.declared.Mode.{Mode}
use Rattle.machine.specs.declared.Mode.TheVariants.{U, S, M, VU, VS}
use Rattle.machine.specs.declared.Operation.{Operation}
use Rattle.machine.specs.declared.Operation.TheVariants.{Read, Write, Set, Clear}
use Rattle.trace.specs.declared.Malformed.{Malformed}
use Rattle.trace.specs.declared.Malformed.TheVariants.{Word0, Word1, Word2, Word3}

abbrev pub flag_of : Bool → ℕ
flag_of true = 1
flag_of false = 0

abbrev pub mode_code : Mode → ℕ
mode_code U = 0
mode_code S = 1
mode_code M = 2
mode_code VU = 3
mode_code VS = 4

-- the mode of a code; VS for numbers that are none
unfoldable pub mode_of : ℕ → Mode
mode_of code =
    if eqb code 0 then U
    else (if eqb code 1 then S
    else (if eqb code 2 then M
    else (if eqb code 3 then VU else VS)))

abbrev pub operation_code : Operation → ℕ
operation_code Read = 0
operation_code Write = 1
operation_code Set = 2
operation_code Clear = 3

-- the operation of a code; clear for numbers that are none
unfoldable pub operation_of : ℕ → Operation
operation_of code = if eqb code 0 then Read else (if eqb code 1 then Write else (if eqb code 2 then Set else Clear))

-- the number of a word of a row
abbrev pub word_number : Malformed → ℕ
word_number Word0 = 0
word_number Word1 = 1
word_number Word2 = 2
word_number Word3 = 3
