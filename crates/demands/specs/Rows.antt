-- Rows of a trace (docs/RULES.md, W), said from the papers by themselves: the four words of each event, with literal numbers.
use Rattle.std.specs.Prelude.{ℕ, ◌+◌, ◌*◌, ◌<◌, ◌≡◌, Bool, true, false, List, [], ◌∷◌, ◌↔◌, Result, Ok}
use Rattle.machine.specs.declared.Mode.{Mode}
use Rattle.machine.specs.declared.Mode.TheVariants.{U, S, M, VU, VS}
use Rattle.machine.specs.declared.Operation.{Operation}
use Rattle.machine.specs.declared.Operation.TheVariants.{Read, Write, Set, Clear}
use Rattle.machine.specs.declared.Event.{Event}
use Rattle.machine.specs.declared.Event.TheVariants.{Retired, Trap, TrapReturn, Access, Sctrclr, Host}
use Rattle.trace.proofs.rows.decode.Reads as Decode
use Rattle.trace.specs.declared.Malformed as Broken

-- the four words of a row
pub record Words : Type 0 where
  pub zero : ℕ
  pub one : ℕ
  pub two : ℕ
  pub three : ℕ

abbrev pub words : ℕ → ℕ → ℕ → ℕ → Words
words w a b c = record { zero = w; one = a; two = b; three = c }

abbrev pub flag : Bool → ℕ
flag true = 1
flag false = 0

abbrev pub mode_code : Mode → ℕ
mode_code U = 0
mode_code S = 1
mode_code M = 2
mode_code VU = 3
mode_code VS = 4

abbrev pub operation_code : Operation → ℕ
operation_code Read = 0
operation_code Write = 1
operation_code Set = 2
operation_code Clear = 3

-- the words of an event. Word 0 has the kind in bits 7..0. Above it a retired word has taken in bit 8 and mispredicted in bit 9; a
-- trap or return the target mode in bits 10..8, and a trap interrupt in bit 11; an access the operation in bits 9..8; the host's event
-- mstateen0.CTR in bit 8 and hstateen0.CTR in bit 9. Retired words, traps and returns have their cycles in bits 63..32. No other bit is
-- set
abbrev pub words_of : Event → Words
words_of (Retired w) =
    words (0 + 0x100 * flag w.taken + 0x200 * flag w.mispredicted + 0x100000000 * w.cycles) w.word w.pc w.target
words_of (Trap t) =
    words (1 + 0x100 * mode_code t.mode + 0x800 * flag t.interrupt + 0x100000000 * t.cycles) t.cause t.epc t.handler
words_of (TrapReturn t) = words (2 + 0x100 * mode_code t.mode + 0x100000000 * t.cycles) 0 t.pc t.target
words_of (Access a) = words (3 + 0x100 * operation_code a.operation) a.number a.operand 0
words_of Sctrclr = words 4 0 0 0
words_of (Host h) = words (5 + 0x100 * flag h.mstateen0 + 0x200 * flag h.hstateen0) 0 0 0

-- an instruction of 2^32 or more, or a CSR number of 4096 or more, is too large for a row
abbrev pub Fits : Event → Type 0
Fits (Retired w) = w.word < 0x100000000
Fits (Trap t) = Unit {0}
Fits (TrapReturn t) = Unit {0}
Fits (Access a) = a.number < 4096
Fits Sctrclr = Unit {0}
Fits (Host h) = Unit {0}

-- a row that is the words of an event that fits
pub record RowOf (w : Words) (e : Event) : Type 0 where
  pub fits : Fits e
  pub same : w ≡ words_of e

-- no event that fits has these words
abbrev pub Malformed : Words → Type 0
Malformed w = (e : Event) → RowOf w e → ⊥

-- the words of events, one after the other, and that all of them fit
unfoldable pub rows_of : List Event → List ℕ
rows_of [] = []
rows_of (e ∷ l) = let w = words_of e in w.zero ∷ w.one ∷ w.two ∷ w.three ∷ rows_of l

abbrev pub AllFit : List Event → Type 0
AllFit [] = Unit {0}
AllFit (e ∷ l) = Fits e × AllFit l

-- a result that meets the `ensures` of `decode`
abbrev pub Decoded : Words → Result Event Broken.Malformed → Type 0
Decoded w r =
    Decode.Learnt tt (w.zero, (w.one, (w.two, (w.three, tt)))) r (w.zero, (w.one, (w.two, (w.three, tt))))

-- four words are decoded to an event exactly if they are its words and it fits; and no two events that fit have the same words
pub record EveryRow : Type 0 where
  pub decoded : (w : Words) (e : Event) → Decoded w (Ok e) ↔ RowOf w e
  pub only : (w : Words) (e f : Event) → RowOf w e → RowOf w f → e ≡ f
