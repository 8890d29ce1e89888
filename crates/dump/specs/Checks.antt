-- The check of a dump: the word at each valid entry's source, its type, and where it may go (docs/RULES.md, F). The reasons are looked for in
-- the order of `Reason`.
use Rattle.std.specs.Prelude.{ℕ, zero, suc, ◌+◌, ◌-◌, ◌*◌, ◌/◌, ◌%◌, ◌^◌, Bool, true, ◌&&◌, ◌||◌, ltb, List, length, ◌==◌, nat_eq, nat_le, nat_lt, slice_index, Result, Ok, Err}
use Rattle.std.specs.Prelude.{if◌then◌else◌}
use Rattle.bits.specs.Words.{bit_at, is_from_to}
use Rattle.classifier.specs.Instructions.{is16, length_of, JAL, C·J}
use Rattle.classifier.specs.Transfers.{transfer_of, type_of}
use Rattle.dump.specs.Offsets.{J·offset, B·offset, CJ·offset, CB·offset}
use Rattle.dump.specs.declared.Reason.{Reason}
use Rattle.dump.specs.declared.Reason.TheVariants.{SourceOutside, CutOff, TypeUnlike, TargetWrong}
use Rattle.dump.specs.declared.Rejection.{Rejection}
use Rattle.dump.specs.declared.Rejection.TheVariants.{Refused, Misfit}

-- the numbers of the reasons, 1 to 4 in the papers' order
abbrev pub reason_number : Reason → ℕ
reason_number SourceOutside = 1
reason_number CutOff = 2
reason_number TypeUnlike = 3
reason_number TargetWrong = 4

abbrev pub rejection_number : Rejection → ℕ
rejection_number (Refused n) = n
rejection_number (Misfit i r) = reason_number r

-- what a check answers: that the dump is accepted, or why not
abbrev pub Checked : Type 0
Checked = Result (Unit {0}) Rejection

-- the number of an answer: 0 accepted, the papers' 6 or 11 refused, or the reason's
abbrev pub number_of : Checked → ℕ
number_of (Ok u) = 0
number_of (Err r) = rejection_number r

-- the code's little-endian halves and words, from byte k on
abbrev pub half_at : List ℕ → ℕ → ℕ
half_at code k = slice_index code k + slice_index code (k + 1) * 2 ^ 8

abbrev pub word_at : List ℕ → ℕ → ℕ
word_at code k = half_at code k + half_at code (k + 2) * 2 ^ 16

-- an instruction, or why there is none
abbrev pub Fetched : Type 0
Fetched = Result ℕ Reason

-- the instruction from byte k on, if `left` bytes are there
unfoldable pub fetched_with : List ℕ → ℕ → ℕ → Fetched
fetched_with code k left =
    if nat_lt left 2 then Err CutOff
    else (if is16 (half_at code k) then Ok (half_at code k)
    else (if ltb left 4 then Err CutOff else Ok (word_at code k)))

-- whether an image of so many bytes from base on has one at pc
unfoldable pub is_inside : ℕ → ℕ → ℕ → Bool
is_inside size base pc = nat_le base pc && nat_lt (pc - base) size

-- the instruction at pc
unfoldable pub fetched_at : List ℕ → ℕ → ℕ → Fetched
fetched_at code base pc =
    if is_inside (length code) base pc then fetched_with code (pc - base) (length code - (pc - base)) else Err SourceOutside

-- from pc by an offset
abbrev pub moved : ℕ → ℕ → ℕ
moved pc offset = (pc + offset) % 2 ^ 64

-- the offset of a branch
unfoldable pub branch_offset : ℕ → ℕ
branch_offset w = if is16 w then CB·offset w else B·offset w

-- whether a transfer of type n from pc to the target is one that the word can make
unfoldable pub may_go : ℕ → ℕ → ℕ → ℕ → Bool
may_go pc w n target =
    if n == 4 then (moved pc (length_of w) == target)
    else (if nat_eq n 5 then (moved pc (branch_offset w) == target)
    else (if JAL w then (moved pc (J·offset w) == target)
    else (if C·J w then (moved pc (CJ·offset w) == target)
    else true)))

-- whether n is the word's type; a branch fits 4 and 5
unfoldable pub is_like : Bool → ℕ → ℕ → Bool
is_like zc w n = type_of (transfer_of zc w) (n == 5) == n

-- the verdict on an entry: that it fits, or the reason that it breaks
abbrev pub Verdict : Type 0
Verdict = Result (Unit {0}) Reason

-- an entry beside the word at its source
unfoldable pub word_verdict : Bool → ℕ → ℕ → ℕ → ℕ → Verdict
word_verdict zc w pc target n =
    if is_like zc w n then (if may_go pc w n target then Ok tt else Err TargetWrong) else Err TypeUnlike

unfoldable pub fetched_verdict : Bool → Fetched → ℕ → ℕ → ℕ → Verdict
fetched_verdict zc (Err r) pc target n = Err r
fetched_verdict zc (Ok w) pc target n = word_verdict zc w pc target n

-- the types that words have
abbrev pub is_word_type : ℕ → Bool
is_word_type n = is_from_to 4 5 n || is_from_to 8 15 n

-- an entry by its type: exceptions, interrupts and trap returns fit, whatever their source, and 0, 6 and 7 do not
unfoldable pub type_verdict : List ℕ → ℕ → Bool → ℕ → ℕ → ℕ → Verdict
type_verdict code base zc pc target n =
    if is_from_to 1 3 n then Ok tt
    else (if is_word_type n then fetched_verdict zc (fetched_at code base pc) pc target n else Err TypeUnlike)

-- an entry by its words: without V it is not looked at
unfoldable pub verdict_of : List ℕ → ℕ → Bool → ℕ → ℕ → ℕ → Verdict
verdict_of code base zc source target «data» =
    if bit_at source 0 == 1 then type_verdict code base zc (source / 2 * 2) (target / 2 * 2) («data» % 2 ^ 4) else Ok tt

-- entry i of a dump
unfoldable pub verdict_at : List ℕ → ℕ → Bool → List ℕ → ℕ → Verdict
verdict_at code base zc entries i =
    verdict_of code base zc (slice_index entries (3 * i)) (slice_index entries (3 * i + 1)) (slice_index entries (3 * i + 2))

-- what is left to do from entry i on, where entry i has a verdict and `rest` is the answer if it fits
abbrev pub or_else : ℕ → Verdict → Checked → Checked
or_else i (Ok u) rest = rest
or_else i (Err r) rest = Err (Misfit i r)

-- the first misfit of so many entries from entry i on
unfoldable pub checked_from : List ℕ → ℕ → Bool → List ℕ → ℕ → ℕ → Checked
checked_from code base zc entries i zero = Ok tt
checked_from code base zc entries i (suc n) =
    or_else i (verdict_at code base zc entries i) (checked_from code base zc entries (i + 1) n)

-- an even base, and an end that is not past 2^64
unfoldable pub is_placed : ℕ → ℕ → Bool
is_placed base size = base % 2 == 0 && nat_le (base + size) (2 ^ 64)

-- three words to an entry; then the image; then the entries
unfoldable pub check_of : List ℕ → ℕ → List ℕ → Bool → Checked
check_of code base entries zc =
    if length entries % 3 == 0
    then (if is_placed base (length code) then checked_from code base zc entries 0 (length entries / 3) else Err (Refused 11))
    else Err (Refused 6)
