-- Laws that pages of docs/ name, about definitions of the crates below. Assumes nothing.
use mathlib.Core.Path.{◌≡◌, refl, sym, ap, ◌∙◌}
use mathlib.Core.Bool.{Bool, true, and-false}
use mathlib.Core.List.{List, [], ◌∷◌}
use mathlib.Core.Logic.{◌≢◌}
use Prim.Native.Nat.{ℕ, zero, suc, ◌+◌, ◌-◌, ◌*◌, ◌/◌, ◌%◌, ◌^◌, ◌≤◌, ◌<◌, min}
use native.Mathlib.Nat.{mod-eq_of_lt, div-eq_of_lt, div-le_self}
use native.Mathlib.Numerals.{add-one}
use native.Mathlib.Omega.{arith}
use lib.Bits.{bit_and, and_mask}
use lib.ListN.{length, take, get_or, set}
use lib.Pow.{pow_pos, pow_mono, pow-lt}
use borrow.Author.Tests.{ne_eqb, lt-leb}
use Rattle.std.proofs.Math.Nat.{one-mul}
use Rattle.bits.specs.Words.{field_at}
use Rattle.machine.specs.Answers.{Verdict}
use Rattle.machine.specs.Modes.{on_of, governing_of}
use Rattle.machine.specs.declared.Decision.{Decision}
use Rattle.machine.specs.declared.Entry.{Entry}
use Rattle.machine.specs.declared.Mode.{Mode}
use Rattle.machine.specs.declared.Operation.{Operation}
use Rattle.machine.specs.declared.Outcome.{Outcome}
use Rattle.machine.specs.declared.Registers.{Registers}
use Rattle.machine.specs.declared.TrapTo.{TrapTo}
use Rattle.csr.specs.Numbers.{supervisor_register, csr_in}
use Rattle.csr.specs.Steps.{facts_of, refusal_of}
use Rattle.csr.specs.declared.Csr.{Csr}
use Rattle.csr.specs.declared.Csr.TheVariants.{Unlisted}
use Rattle.csr.specs.declared.Facts.{Facts}
use Rattle.access.specs.Accesses.{granted_of, unless_refused, access_to}
use Rattle.qualifying.specs.Filters.{freezes_of, external_of, inhibited_of}
use Rattle.qualifying.specs.Outcomes.{rasemu_of, trap_type, trap_by, trap_outcome}
use Rattle.transfers.specs.Counts.{tallied}
use Rattle.transfers.specs.Transfers.{done_of, in_mode, crossed_of}
use Rattle.classifier.specs.Transfers.{transfer_of, type_of}
use Rattle.classifier.specs.Exports.{classified}

-- docs/CONTRIBUTING.md: a number below the supervisor's registers is none of them
pub supervisor_below : (n : ℕ) → n < 0x14E → Unlisted ≡ supervisor_register n
unfolding supervisor_register
supervisor_below n h =
    simp (
      ne_eqb n 0x14E (omega arith),
      ne_eqb n 0x14F (omega arith),
      ne_eqb n 0x150 (omega arith),
      lt-leb 0x151 n (omega arith),
      lt-leb 0x155 n (omega arith),
      ne_eqb n 0x15F (omega arith),
    )

-- docs/CONTRIBUTING.md: of the numbers above sireg6 only sctrdepth's is one
pub supervisor_above : (n : ℕ) → 0x158 ≤ n → n ≢ 0x15F → Unlisted ≡ supervisor_register n
unfolding supervisor_register
supervisor_above n h k =
    simp (
      ne_eqb n 0x14E (omega arith),
      ne_eqb n 0x14F (omega arith),
      ne_eqb n 0x150 (omega arith),
      lt-leb n 0x153 (omega arith),
      lt-leb n 0x157 (omega arith),
      and-false,
      ne_eqb n 0x15F k,
    )

-- docs/changes/04: an access to a register, put together from its facts, the verdict on them and the register meant
pub registered : (r : Registers) (old : Entry) (g m : Csr) (o : Operation) (x : ℕ) (f : Facts) (v : Verdict) (d : Decision)
    → f ≡ facts_of r g → v ≡ refusal_of r f → m ≡ csr_in r.mode g → d ≡ unless_refused v r (granted_of r old m o x) → d ≡ access_to r old g o x
unfolding access_to
registered r old g m o x f v d p q u h = rw (← p, ← q, ← u) h

-- docs/changes/04: a possible trap or return, put together from its record, its outcome, what is counted and the mode
pub crossed : (r q : Registers) (old e x : Entry) (m : Mode) (n : ℕ) (ra : Bool) (o p : Outcome) (d f : Decision)
    → e ≡ x → ra ≡ rasemu_of r r.mode m → q ≡ tallied r ra n → o ≡ p → d ≡ done_of q old e ra o → f ≡ in_mode d m
    → f ≡ crossed_of r old m n x p
unfolding crossed_of
crossed r q old e x m n ra o p d f u v w z g h = h ∙ rw (g, w, z, u, v)

-- docs/ARCHITECTURE.md: what comes of a trap, put together from the answers to its questions
pub parts : (r : Registers) (t : TrapTo) (a b c d e f : Bool) (o : Outcome)
    → o ≡ trap_by a r.buffer.frozen b c d e f → a ≡ freezes_of r t → b ≡ rasemu_of r r.mode t.mode
    → c ≡ on_of r r.mode → d ≡ on_of r t.mode → e ≡ inhibited_of r (governing_of r.mode t.mode) (trap_type t.interrupt)
    → f ≡ external_of r r.mode t.mode → o ≡ trap_outcome r t
unfolding trap_outcome
parts r t a b c d e f o h p q s u v w = rw (h, p, q, s, u, v, w)

-- one word more
classified_more : (zc : Bool) (i : ℕ) (ws ts : List ℕ) → i < length ws → i < length ts
    → classified zc (take (suc i) ws) ts ≡ set (classified zc (take i ws) ts) i (type_of (transfer_of zc (get_or ws i 0)) true)
unfolding classified
classified_more zc i [] ts h l = absurd (omega arith)
classified_more zc i (w ∷ ws) [] h l = absurd (omega arith)
classified_more zc zero (w ∷ ws) (t ∷ ts) h l = refl
classified_more zc (suc i) (w ∷ ws) (t ∷ ts) h l = ap (λ (x : List ℕ). type_of (transfer_of zc w) true ∷ x) (classified_more zc i ws ts (omega arith) (omega arith))

-- words past the last place play no part
classified_all : (zc : Bool) (n : ℕ) (ws ts : List ℕ) → min (length ws) (length ts) ≤ n → classified zc (take n ws) ts ≡ classified zc ws ts
unfolding classified
classified_all zc zero [] ts h = refl
classified_all zc (suc n) [] ts h = refl
classified_all zc zero (w ∷ ws) [] h = refl
classified_all zc (suc n) (w ∷ ws) [] h = refl
classified_all zc zero (w ∷ ws) (t ∷ ts) h = absurd (omega arith)
classified_all zc (suc n) (w ∷ ws) (t ∷ ts) h = ap (λ (x : List ℕ). type_of (transfer_of zc w) true ∷ x) (classified_all zc n ws ts (omega arith))

-- docs/changes/05: where the first i words are sorted, with the type of word i the first i + 1 are
pub again : (zc : Bool) (ws ts us : List ℕ) (i t : ℕ) → us ≡ classified zc (take i ws) ts → t ≡ type_of (transfer_of zc (get_or ws i 0)) true
    → i < length ws → i < length ts → set us i t ≡ classified zc (take (i + 1) ws) ts
again zc ws ts us i t e p h l = rw (e, p, add-one i) (sym (classified_more zc i ws ts h l))

-- docs/changes/05: where as many words are sorted as there are of both, all are
pub ended : (zc : Bool) (ws ts us : List ℕ) (i : ℕ) → us ≡ classified zc (take i ws) ts → min (length ws) (length ts) ≤ i → us ≡ classified zc ws ts
ended zc ws ts us i e h = e ∙ classified_all zc i ws ts h

-- docs/DESIGN-PASS.md: fields of a word of any width; those of 64 bits are in bits/proofs/Laws. A word of m bits has nothing from bit m up
module _ (m : ℕ) {x : ℕ} (fits : x < 2 ^ m) where
  pub past : (n k : ℕ) → m ≤ n → 0 ≡ field_at x n k
  past n k h =
      let p : 2 ^ m ≤ 2 ^ n = pow_mono h in
      let l : x < 2 ^ n = omega arith in
      rw (div-eq_of_lt l, mod-eq_of_lt (pow_pos k))

  pub whole : (n k : ℕ) → m ≤ k → x / 2 ^ n ≡ field_at x n k
  whole n k h =
      let p : 2 ^ m ≤ 2 ^ k = pow_mono h in
      let l : x / 2 ^ n < 2 ^ k = omega (arith, div-le_self x (2 ^ n)) in
      rw (mod-eq_of_lt l)

-- a shift down and the mask (1 << k) - 1 are the field
pub field_mask : (m x n k : ℕ) → k < m → bit_and (x / 2 ^ n) (1 * 2 ^ k % 2 ^ m - 1) ≡ field_at x n k
field_mask m x n k h =
    let l : 1 * 2 ^ k < 2 ^ m = omega (arith, pow-lt h) in
    rw (mod-eq_of_lt l) (rw (one-mul (2 ^ k)) (and_mask (x / 2 ^ n) k))
