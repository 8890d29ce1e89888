-- What a check of dumps answers, exactly: each answer is given if and only if its line here holds, and there are no others. `check` of the crate
-- `dump` does that, and whatever does it answers the same.
use Rattle.std.specs.Prelude.{ℕ, ◌*◌, ◌/◌, ◌%◌, ◌^◌, ◌<◌, ◌≡◌, List, ◌⊎◌, ◌↔◌, length, Result, Ok, Err}
use Rattle.dump.specs.Checks.{check_of, reason_number}
use Rattle.dump_demands.specs.Fits.{Firmware, Entry, end, entry, Valid, Fits, Breaks}
use Rattle.dump.specs.declared.Reason.{Reason}
use Rattle.dump.specs.declared.Rejection.{Rejection}
use Rattle.dump.specs.declared.Rejection.TheVariants.{Refused, Misfit}

-- what is refused before the first entry: a length that is no multiple of three; an odd base, or an end past 2^64
abbrev pub NoMultiple : List ℕ → Type 0
NoMultiple ws = length ws % 3 ≡ 0 → ⊥

abbrev pub Misplaced : Firmware → Type 0
Misplaced f = (f.base % 2 ≡ 1) ⊎ (2 ^ 64 < end f)

-- three words to an entry, of firmware that lies where it can
abbrev pub Looked : Firmware → List ℕ → Type 0
Looked f ws = (length ws % 3 ≡ 0) × (Misplaced f → ⊥)

-- every valid entry before entry n fits
abbrev pub AllFit : Firmware → List ℕ → ℕ → Type 0
AllFit f ws n = (i : ℕ) → i < n → Valid (entry ws i) → Fits f (entry ws i)

-- the reason n is the first that an entry breaks
abbrev pub First : Firmware → Entry → ℕ → Type 0
First f e n = Breaks f e n × ((m : ℕ) → m < n → Breaks f e m → ⊥)

-- an answer: accepted, or why not
abbrev pub Checked : Type 0
Checked = Result (Unit {0}) Rejection

-- what a check answers, of any check: a function from firmware and the words of a dump
pub record Promise (check : Firmware → List ℕ → Checked) : Type 0 where
  pub accepted : (f : Firmware) (ws : List ℕ) → check f ws ≡ Ok tt ↔ (Looked f ws × AllFit f ws (length ws / 3))
  pub misfit : (f : Firmware) (ws : List ℕ) (i : ℕ) (r : Reason)
      → check f ws ≡ Err (Misfit i r)
      ↔ (Looked f ws × (3 * i < length ws) × AllFit f ws i × Valid (entry ws i) × First f (entry ws i) (reason_number r))
  pub six : (f : Firmware) (ws : List ℕ) → check f ws ≡ Err (Refused 6) ↔ NoMultiple ws
  pub eleven : (f : Firmware) (ws : List ℕ) → check f ws ≡ Err (Refused 11) ↔ ((length ws % 3 ≡ 0) × Misplaced f)
  pub refusals : (f : Firmware) (ws : List ℕ) (n : ℕ) → check f ws ≡ Err (Refused n) → (n ≡ 6) ⊎ (n ≡ 11)

-- an entry fits exactly if it breaks nothing
abbrev pub FitsOrBreaks : Type 0
FitsOrBreaks = (f : Firmware) (ws : List ℕ) (i : ℕ) → Fits f (entry ws i) ↔ ((n : ℕ) → Breaks f (entry ws i) n → ⊥)

-- the definition that the code is proved against
abbrev pub checked : Firmware → List ℕ → Checked
checked f ws = check_of f.code f.base ws f.zc

-- it meets the promise, and nothing else does
pub record OnlyCheck : Type 0 where
  pub meets : Promise checked
  pub only : (check : Firmware → List ℕ → Checked) → Promise check → (f : Firmware) (ws : List ℕ) → check f ws ≡ checked f ws
