-- What `EveryRow` states. Assumes nothing.
use Prim.Native.Nat.{ℕ, zero, suc, ◌+◌, ◌*◌, ◌/◌, ◌%◌, ◌<◌}
use mathlib.Core.Path.{◌≡◌, refl, sym, ap, subst, ◌∙◌}
use mathlib.Core.Bool.{Bool, true, false}
use native.Mathlib.Omega.{arith}
use lib.Dec.{eqb, ltb}
use borrow.Author.Tests.{lt-ltb, ltb-true, eq-eqb, eqb-true}
use Rattle.std.specs.Prelude.{if◌then◌else◌, Result, Ok, Err}
use Rattle.bits.specs.Words.{bit_at, field_at}
use Rattle.machine.specs.declared.Mode.{Mode}
use Rattle.machine.specs.declared.Mode.TheVariants.{U, S, M, VU, VS}
use Rattle.machine.specs.declared.Operation.{Operation}
use Rattle.machine.specs.declared.Operation.TheVariants.{Read, Write, Set, Clear}
use Rattle.machine.specs.declared.Event.{Event}
use Rattle.machine.specs.declared.Event.TheVariants.{Retired, Trap, TrapReturn, Access, Sctrclr, Host}
use Rattle.trace.specs.Codes.{mode_of, operation_of}
use Rattle.trace.specs.Rows.{has_mode, is_retired_row, retired_row, is_trap_row, trap_row, is_return_row, return_row, is_access_row, access_row, are_zeros, is_plain_row, plain_row, sctrclr_row, enables_in, host_row, row_by, row_of}
use Rattle.trace.specs.declared.Malformed.{Malformed}
use Rattle.demands.proofs.Decides.{Decides, pair}
use Rattle.demands.specs.Rows.{Words, words, flag, mode_code, operation_code, words_of, Fits, RowOf, EveryRow}

-- word 0 with cycles above its low half: the kind, the fields and the cycles of it
module _ (h n : ℕ) (l : h < 0x100000000) where
  abbrev word_0 : ℕ
  word_0 = h + 0x100000000 * n

  head_is : word_0 % 0x100000000 ≡ h
  head_is = omega (arith, l)

  kind_is : word_0 % 0x100 ≡ h % 0x100
  kind_is = omega arith

  taken_is : bit_at word_0 8 ≡ bit_at h 8
  taken_is = omega arith

  mispredicted_is : bit_at word_0 9 ≡ bit_at h 9
  mispredicted_is = omega arith

  target_is : field_at word_0 8 3 ≡ field_at h 8 3
  target_is = omega arith

  interrupt_is : bit_at word_0 11 ≡ bit_at h 11
  interrupt_is = omega arith

  cycles_is : word_0 / 0x100000000 ≡ n
  cycles_is = omega (arith, l)

-- the words of an event are decoded to it
retired_at : (h n word pc target : ℕ) → h % 0x100 ≡ 0 → h < 0x400 → word < 0x100000000
    → row_of (h + 0x100000000 * n) word pc target
    ≡ Ok (Retired (record { word = word; pc = pc; target = target; taken = eqb (bit_at h 8) 1; mispredicted = eqb (bit_at h 9) 1; cycles = n }))
unfolding is_retired_row retired_row row_by row_of
retired_at h n word pc target k l w =
    let f : h < 0x100000000 = omega (arith, l) in
    rw (kind_is h n f, k, head_is h n f, lt-ltb h 0x400 l, lt-ltb _ _ w, taken_is h n f, mispredicted_is h n f, cycles_is h n f)

retired : (taken misp : Bool) (n word pc target : ℕ) → word < 0x100000000
    → row_of (0 + 0x100 * flag taken + 0x200 * flag misp + 0x100000000 * n) word pc target
    ≡ Ok (Retired (record { word = word; pc = pc; target = target; taken = taken; mispredicted = misp; cycles = n }))
retired true true n word pc target h = retired_at 0x300 n word pc target refl (omega arith) h
retired true false n word pc target h = retired_at 0x100 n word pc target refl (omega arith) h
retired false true n word pc target h = retired_at 0x200 n word pc target refl (omega arith) h
retired false false n word pc target h = retired_at 0 n word pc target refl (omega arith) h

trap_at : (h n cause epc handler : ℕ) → h % 0x100 ≡ 1 → h < 0x1000 → field_at h 8 3 < 5
    → row_of (h + 0x100000000 * n) cause epc handler
    ≡ Ok (Trap (record { mode = mode_of (field_at h 8 3); interrupt = eqb (bit_at h 11) 1; cause = cause; epc = epc; handler = handler; cycles = n }))
unfolding has_mode is_trap_row trap_row row_by row_of
trap_at h n cause epc handler k l m =
    let f : h < 0x100000000 = omega (arith, l) in
    rw (kind_is h n f, k, head_is h n f, lt-ltb h 0x1000 l, target_is h n f, lt-ltb _ 5 m, interrupt_is h n f, cycles_is h n f)

trap : (m : Mode) (interrupt : Bool) (n cause epc handler : ℕ)
    → row_of (1 + 0x100 * mode_code m + 0x800 * flag interrupt + 0x100000000 * n) cause epc handler
    ≡ Ok (Trap (record { mode = m; interrupt = interrupt; cause = cause; epc = epc; handler = handler; cycles = n }))
unfolding mode_of
trap U true n cause epc handler = trap_at 0x801 n cause epc handler refl (omega arith) (omega arith)
trap U false n cause epc handler = trap_at 0x001 n cause epc handler refl (omega arith) (omega arith)
trap S true n cause epc handler = trap_at 0x901 n cause epc handler refl (omega arith) (omega arith)
trap S false n cause epc handler = trap_at 0x101 n cause epc handler refl (omega arith) (omega arith)
trap M true n cause epc handler = trap_at 0xA01 n cause epc handler refl (omega arith) (omega arith)
trap M false n cause epc handler = trap_at 0x201 n cause epc handler refl (omega arith) (omega arith)
trap VU true n cause epc handler = trap_at 0xB01 n cause epc handler refl (omega arith) (omega arith)
trap VU false n cause epc handler = trap_at 0x301 n cause epc handler refl (omega arith) (omega arith)
trap VS true n cause epc handler = trap_at 0xC01 n cause epc handler refl (omega arith) (omega arith)
trap VS false n cause epc handler = trap_at 0x401 n cause epc handler refl (omega arith) (omega arith)

return_at : (h n pc target : ℕ) → h % 0x100 ≡ 2 → h < 0x800 → field_at h 8 3 < 5
    → row_of (h + 0x100000000 * n) 0 pc target
    ≡ Ok (TrapReturn (record { mode = mode_of (field_at h 8 3); pc = pc; target = target; cycles = n }))
unfolding has_mode is_return_row return_row row_by row_of
return_at h n pc target k l m =
    let f : h < 0x100000000 = omega (arith, l) in
    rw (kind_is h n f, k, head_is h n f, lt-ltb h 0x800 l, target_is h n f, lt-ltb _ 5 m, cycles_is h n f)

trap_return : (m : Mode) (n pc target : ℕ)
    → row_of (2 + 0x100 * mode_code m + 0x100000000 * n) 0 pc target
    ≡ Ok (TrapReturn (record { mode = m; pc = pc; target = target; cycles = n }))
unfolding mode_of
trap_return U n pc target = return_at 0x002 n pc target refl (omega arith) (omega arith)
trap_return S n pc target = return_at 0x102 n pc target refl (omega arith) (omega arith)
trap_return M n pc target = return_at 0x202 n pc target refl (omega arith) (omega arith)
trap_return VU n pc target = return_at 0x302 n pc target refl (omega arith) (omega arith)
trap_return VS n pc target = return_at 0x402 n pc target refl (omega arith) (omega arith)

access : (o : Operation) (number operand : ℕ) → number < 4096
    → row_of (3 + 0x100 * operation_code o) number operand 0
    ≡ Ok (Access (record { operation = o; number = number; operand = operand }))
unfolding operation_of is_access_row access_row row_by row_of
access Read number operand h = rw (lt-ltb _ _ h)
access Write number operand h = rw (lt-ltb _ _ h)
access Set number operand h = rw (lt-ltb _ _ h)
access Clear number operand h = rw (lt-ltb _ _ h)

host : (m h : Bool)
    → row_of (5 + 0x100 * flag m + 0x200 * flag h) 0 0 0 ≡ Ok (Host (record { mstateen0 = m; hstateen0 = h }))
unfolding are_zeros is_plain_row plain_row row_by row_of
host true true = refl
host true false = refl
host false true = refl
host false false = refl

-- what four words are decoded to
abbrev row : Words → Result Event Malformed
row w = row_of w.zero w.one w.two w.three

of_event : (e : Event) → Fits e → row (words_of e) ≡ Ok e
unfolding are_zeros is_plain_row plain_row row_by row_of
of_event (Retired w) h = retired w.taken w.mispredicted w.cycles w.word w.pc w.target h
of_event (Trap t) h = trap t.mode t.interrupt t.cycles t.cause t.epc t.handler
of_event (TrapReturn t) h = trap_return t.mode t.cycles t.pc t.target
of_event (Access a) h = access a.operation a.number a.operand h
of_event Sctrclr h = refl
of_event (Host x) h = host x.mstateen0 x.hstateen0

to_event : (w : Words) (e : Event) → RowOf w e → row w ≡ Ok e
to_event w e h = ap row h.same ∙ of_event e h.fits

-- what a code stands for has that code
flag_is : (n : ℕ) → n < 2 → flag (eqb n 1) ≡ n
flag_is zero h = refl
flag_is (suc zero) h = refl
flag_is (suc (suc n)) h = absurd (omega arith)

mode_is : (n : ℕ) → n < 5 → mode_code (mode_of n) ≡ n
unfolding mode_of
mode_is zero h = refl
mode_is (suc zero) h = refl
mode_is (suc (suc zero)) h = refl
mode_is (suc (suc (suc zero))) h = refl
mode_is (suc (suc (suc (suc zero)))) h = refl
mode_is (suc (suc (suc (suc (suc n))))) h = absurd (omega arith)

operation_is : (n : ℕ) → n < 4 → operation_code (operation_of n) ≡ n
unfolding operation_of
operation_is zero h = refl
operation_is (suc zero) h = refl
operation_is (suc (suc zero)) h = refl
operation_is (suc (suc (suc zero))) h = refl
operation_is (suc (suc (suc (suc n)))) h = absurd (omega arith)

-- word 0 from its kind, its size and its fields
retired_word : (w : ℕ) → w % 0x100 ≡ 0 → w % 0x100000000 < 0x400
    → w ≡ 0 + 0x100 * flag (eqb (bit_at w 8) 1) + 0x200 * flag (eqb (bit_at w 9) 1) + 0x100000000 * (w / 0x100000000)
retired_word w k l = rw (flag_is (bit_at w 8) (omega arith), flag_is (bit_at w 9) (omega arith)) (omega (arith, k, l))

trap_word : (w : ℕ) → w % 0x100 ≡ 1 → w % 0x100000000 < 0x1000 → field_at w 8 3 < 5
    → w ≡ 1 + 0x100 * mode_code (mode_of (field_at w 8 3)) + 0x800 * flag (eqb (bit_at w 11) 1) + 0x100000000 * (w / 0x100000000)
trap_word w k l m = rw (flag_is (bit_at w 11) (omega arith), mode_is (field_at w 8 3) m) (omega (arith, k, l))

return_word : (w : ℕ) → w % 0x100 ≡ 2 → w % 0x100000000 < 0x800 → field_at w 8 3 < 5
    → w ≡ 2 + 0x100 * mode_code (mode_of (field_at w 8 3)) + 0x100000000 * (w / 0x100000000)
return_word w k l m = rw (mode_is (field_at w 8 3) m) (omega (arith, k, l))

access_word : (w : ℕ) → w % 0x100 ≡ 3 → w < 0x400 → w ≡ 3 + 0x100 * operation_code (operation_of (field_at w 8 2))
access_word w k l = rw (operation_is (field_at w 8 2) (omega arith)) (omega arith)

sctrclr_word : (w : ℕ) → w % 0x100 ≡ 4 → w < 0x100 → w ≡ 4
sctrclr_word w k l = omega arith

host_word : (w : ℕ) → w % 0x100 ≡ 5 → w < 0x400 → w ≡ 5 + 0x100 * flag (eqb (bit_at w 8) 1) + 0x200 * flag (eqb (bit_at w 9) 1)
host_word w k l = rw (flag_is (bit_at w 8) (omega arith), flag_is (bit_at w 9) (omega arith)) (omega arith)

-- what four words are decoded to is right: if it is an event, that fits and has these words
data Right (w : Words) : Result Event Malformed → Type 0 where
  event : {e : Event} → RowOf w e → Right w (Ok e)
  none : {k : Malformed} → Right w (Err k)

-- a row chosen by a test is right if the first is where the sentence that it decides holds, and the second is
by : {w : Words} {x y : Result Event Malformed} {A : Type 0} {t : Bool} → Decides A t → (A → Right w x) → Right w y → Right w (if t then x else y)
by {t = true} d f g = f (d.from refl)
by {t = false} d f g = g

below : (a b : ℕ) → Decides (a < b) (ltb a b)
below a b = record { to = lt-ltb a b; from = ltb-true a b }

is : (a b : ℕ) → Decides (a ≡ b) (eqb a b)
is a b = record { to = eq-eqb a b; from = eqb-true a b }

with_mode : (w limit : ℕ) → Decides ((w % 0x100000000 < limit) × (field_at w 8 3 < 5)) (has_mode w limit)
unfolding has_mode
with_mode w limit = pair _ _ (below (w % 0x100000000) limit) (below (field_at w 8 3) 5)

-- the row of each kind, and of all
module _ (w a b c : ℕ) where
  right_retired : w % 0x100 ≡ 0 → Right (words w a b c) (retired_row w a b c)
  unfolding retired_row is_retired_row
  right_retired k =
      by (pair _ _ (below (w % 0x100000000) 0x400) (below a 0x100000000))
      (λ l. event (record { fits = l.1; same = ap (λ (x : ℕ). words x a b c) (retired_word w k l.0) })) none

  right_trap : w % 0x100 ≡ 1 → Right (words w a b c) (trap_row w a b c)
  unfolding trap_row is_trap_row
  right_trap k =
      by (with_mode w 0x1000)
      (λ m. event (record { fits = tt; same = ap (λ (x : ℕ). words x a b c) (trap_word w k m.0 m.1) })) none

  right_return : w % 0x100 ≡ 2 → Right (words w a b c) (return_row w a b c)
  unfolding return_row is_return_row
  right_return k =
      by (pair _ _ (with_mode w 0x800) (is a 0))
      (λ m. event (record { fits = tt; same = rw m.1 (ap (λ (x : ℕ). words x 0 b c) (return_word w k m.0.0 m.0.1)) })) none

  right_access : w % 0x100 ≡ 3 → Right (words w a b c) (access_row w a b c)
  unfolding access_row is_access_row
  right_access k =
      by (pair _ _ (below w 0x400) (pair _ _ (below a 4096) (is c 0)))
      (λ l. event (record { fits = l.1.0; same = rw l.1.1 (ap (λ (x : ℕ). words x a b 0) (access_word w k l.0)) })) none

  -- one that has no words but word 0
  right_plain : (limit : ℕ) (e : Event) → Fits e → (w < limit → words w 0 0 0 ≡ words_of e) → Right (words w a b c) (plain_row limit w a b c e)
  unfolding plain_row is_plain_row are_zeros
  right_plain limit e f h =
      by (pair _ _ (below w limit) (pair _ _ (is a 0) (pair _ _ (is b 0) (is c 0))))
      (λ l. event (record { fits = f; same = rw (l.1.0, l.1.1.0, l.1.1.1) (h l.0) })) none

  right_sctrclr : w % 0x100 ≡ 4 → Right (words w a b c) (sctrclr_row w a b c)
  right_sctrclr k = right_plain 0x100 Sctrclr tt (λ l. ap (λ (x : ℕ). words x 0 0 0) (sctrclr_word w k l))

  right_host : w % 0x100 ≡ 5 → Right (words w a b c) (host_row w a b c)
  right_host k = right_plain 0x400 (Host (enables_in w)) tt (λ l. ap (λ (x : ℕ). words x 0 0 0) (host_word w k l))

  right : Right (words w a b c) (row_of w a b c)
  unfolding row_by row_of
  right =
      by (is (w % 0x100) 0) right_retired
      (by (is (w % 0x100) 1) right_trap
      (by (is (w % 0x100) 2) right_return
      (by (is (w % 0x100) 3) right_access
      (by (is (w % 0x100) 4) right_sctrclr
      (by (is (w % 0x100) 5) right_host none)))))

-- so words that are decoded to an event are its words
of_right : {w : Words} {e : Event} → Right w (Ok e) → RowOf w e
of_right (event h) = h

of_row : (w : Words) (e : Event) → row w ≡ Ok e → RowOf w e
of_row w e h = of_right (subst (Right w) h (right w.zero w.one w.two w.three))

-- and two events of the same words are one, since both are what these are decoded to
pub every_row : EveryRow
every_row =
    record {
      decoded = (λ w e. ((λ h. of_row w e (sym h)), (λ p. sym (to_event w e p))));
      only = (λ w e f p q. cc (to_event w e p, to_event w f q));
    }
