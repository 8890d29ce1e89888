-- Rows of a trace: what four words mean. Word 0 has the kind in bits 7..0 and what the kind needs above; any bit that a kind does
-- not name, and any word that it does not name, is 0. A malformed row gives the first word that breaks a rule.
use Rattle.std.specs.Prelude.{ℕ, ◌/◌, ◌%◌, ◌^◌, Bool, ◌&&◌, eqb, ltb, Result, Ok, Err}
use Rattle.std.specs.Prelude.{if◌then◌else◌}
use Rattle.bits.specs.Words.{bit_at, field_at}
use Rattle.machine.specs.declared.CsrAccess.{CsrAccess}
use Rattle.machine.specs.declared.Enables.{Enables}
use Rattle.machine.specs.declared.RetiredWord.{RetiredWord}
use Rattle.machine.specs.declared.ReturnTo.{ReturnTo}
use Rattle.machine.specs.declared.TrapTo.{TrapTo}
use Rattle.machine.specs.declared.Event.{Event}
use Rattle.machine.specs.declared.Event.TheVariants.{Retired, Trap, TrapReturn, Access, Sctrclr, Host}
use Rattle.trace.specs.Codes.{mode_of, operation_of}
use Rattle.trace.specs.declared.Malformed.{Malformed}
use Rattle.trace.specs.declared.Malformed.TheVariants.{Word0, Word1, Word2, Word3}

-- of a retired word, a trap and a return, word 0 has the cycles in bits 63..32, and the rest below
abbrev pub cycles_in : ℕ → ℕ
cycles_in w = w / 2 ^ 32

abbrev pub head_in : ℕ → ℕ
head_in w = w % 2 ^ 32

-- word 0 of a trap or return has a mode code, 0 to 4, in bits 10..8, and no bit from a limit up to bit 31
unfoldable pub has_mode : ℕ → ℕ → Bool
has_mode w limit = ltb (head_in w) limit && ltb (field_at w 8 3) 5

-- kind 0, a retired word: taken in bit 8, mispredicted in bit 9, and no other bit up to bit 31; instruction below 2^32, pc, target
abbrev pub fits_retired : ℕ → Bool
fits_retired w = ltb (head_in w) (2 ^ 10)

unfoldable pub is_retired_row : ℕ → ℕ → Bool
is_retired_row w word = fits_retired w && ltb word (2 ^ 32)

abbrev pub retired_in : ℕ → ℕ → ℕ → ℕ → RetiredWord
retired_in w word pc target =
    record {
      word = word;
      pc = pc;
      target = target;
      taken = eqb (bit_at w 8) 1;
      mispredicted = eqb (bit_at w 9) 1;
      cycles = cycles_in w;
    }

unfoldable pub retired_row : ℕ → ℕ → ℕ → ℕ → Result Event Malformed
retired_row w word pc target =
    if is_retired_row w word then Ok (Retired (retired_in w word pc target)) else Err (if fits_retired w then Word1 else Word0)

-- kind 1, a trap: target mode in bits 10..8, interrupt in bit 11; cause, epc, handler
unfoldable pub is_trap_row : ℕ → Bool
is_trap_row w = has_mode w (2 ^ 12)

abbrev pub trap_in : ℕ → ℕ → ℕ → ℕ → TrapTo
trap_in w cause epc handler =
    record {
      mode = mode_of (field_at w 8 3);
      interrupt = eqb (bit_at w 11) 1;
      cause = cause;
      epc = epc;
      handler = handler;
      cycles = cycles_in w;
    }

unfoldable pub trap_row : ℕ → ℕ → ℕ → ℕ → Result Event Malformed
trap_row w cause epc handler = if is_trap_row w then Ok (Trap (trap_in w cause epc handler)) else Err Word0

-- kind 2, a trap return: target mode in bits 10..8; 0, pc, target
unfoldable pub is_return_row : ℕ → ℕ → Bool
is_return_row w blank = has_mode w (2 ^ 11) && eqb blank 0

abbrev pub return_in : ℕ → ℕ → ℕ → ReturnTo
return_in w pc target = record { mode = mode_of (field_at w 8 3); pc = pc; target = target; cycles = cycles_in w }

unfoldable pub return_row : ℕ → ℕ → ℕ → ℕ → Result Event Malformed
return_row w blank pc target =
    if is_return_row w blank then Ok (TrapReturn (return_in w pc target)) else Err (if has_mode w (2 ^ 11) then Word1 else Word0)

-- kind 3, a register access: operation in bits 9..8; CSR number below 4096, operand, 0
unfoldable pub is_access_row : ℕ → ℕ → ℕ → Bool
is_access_row w number blank = ltb w (2 ^ 10) && (ltb number 4096 && eqb blank 0)

abbrev pub access_in : ℕ → ℕ → ℕ → CsrAccess
access_in w number operand = record { operation = operation_of (field_at w 8 2); number = number; operand = operand }

unfoldable pub access_row : ℕ → ℕ → ℕ → ℕ → Result Event Malformed
access_row w number operand blank =
    if is_access_row w number blank then Ok (Access (access_in w number operand))
    else Err (if ltb w (2 ^ 10) then (if ltb number 4096 then Word3 else Word1) else Word0)

-- words 1 to 3 that are all zero, and the first that is not
unfoldable pub are_zeros : ℕ → ℕ → ℕ → Bool
are_zeros a b c = eqb a 0 && (eqb b 0 && eqb c 0)

unfoldable pub first_set : ℕ → ℕ → Malformed
first_set a b = if eqb a 0 then (if eqb b 0 then Word3 else Word2) else Word1

-- an event that has no words but word 0, below a limit
unfoldable pub is_plain_row : ℕ → ℕ → ℕ → ℕ → ℕ → Bool
is_plain_row limit w a b c = ltb w limit && are_zeros a b c

unfoldable pub plain_row : ℕ → ℕ → ℕ → ℕ → ℕ → Event → Result Event Malformed
plain_row limit w a b c e = if is_plain_row limit w a b c then Ok e else Err (if ltb w limit then first_set a b else Word0)

-- kind 4, SCTRCLR
abbrev pub sctrclr_row : ℕ → ℕ → ℕ → ℕ → Result Event Malformed
sctrclr_row w a b c = plain_row (2 ^ 8) w a b c Sctrclr

-- kind 5, the host's event: mstateen0.CTR in bit 8, hstateen0.CTR in bit 9
abbrev pub enables_in : ℕ → Enables
enables_in w = record { mstateen0 = eqb (bit_at w 8) 1; hstateen0 = eqb (bit_at w 9) 1 }

abbrev pub host_row : ℕ → ℕ → ℕ → ℕ → Result Event Malformed
host_row w a b c = plain_row (2 ^ 10) w a b c (Host (enables_in w))

-- a row by its kind; there are no others
unfoldable pub row_by : ℕ → ℕ → ℕ → ℕ → ℕ → Result Event Malformed
row_by kind w a b c =
    if eqb kind 0 then retired_row w a b c
    else (if eqb kind 1 then trap_row w a b c
    else (if eqb kind 2 then return_row w a b c
    else (if eqb kind 3 then access_row w a b c
    else (if eqb kind 4 then sctrclr_row w a b c
    else (if eqb kind 5 then host_row w a b c
    else Err Word0)))))

-- the row of four words
unfoldable pub row_of : ℕ → ℕ → ℕ → ℕ → Result Event Malformed
row_of w a b c = row_by (w % 2 ^ 8) w a b c
