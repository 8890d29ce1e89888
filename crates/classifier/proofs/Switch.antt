-- What words are with the switch on: those with a code of C.FSDSP by their fields, and all others as with the switch off. Assumes
-- nothing.
use mathlib.Core.Path.{◌≡◌, refl, sym, ap, ◌∙◌}
use mathlib.Core.Bool.{Bool, true, false, not, ◌&&◌, ◌||◌, and-true, and-false, or-true, or-false}
use mathlib.Core.Logic.{inl, inr}
use Prim.Native.Nat.{ℕ, ◌+◌, ◌/◌, ◌≤◌}
use native.Mathlib.Omega.{arith}
use lib.Dec.{eqb, ltb, leb}
use borrow.Author.Tests.{eqb-true, eqb-false, eq-eqb, ne_eqb, ltb-true, ltb-false, le-leb, lt-leb}
use Rattle.std.specs.Prelude.{if◌then◌else◌}
use Rattle.bits.specs.Words.{is_from_to}
use Rattle.bits.proofs.Cases.{Known, known, both}
use Rattle.classifier.specs.Instructions.{opcode, C·rs1, C·op, C·funct3, C·funct4, CM·funct6, CM·index, CM·funct2, CM·rlist, C·FSDSP}
use Rattle.classifier.specs.Transfers.{is_table_jump, is_table_call, is_pop_return, plain_transfer, transfer_of, type_of}
use Rattle.classifier.specs.Decision.{register_jump_by, pop_return_by, pop_by, switched_by, plain_decision, decision_of}
use Rattle.classifier.specs.Tables.{key_of, specimen_of}
use Rattle.classifier.proofs.Specimens.{alike}
use Rattle.classifier.proofs.Sorted.{Rows, rows_of, only, plainly_sorted, plainly_decided, by_plain_tests, plain_specimen}
use Rattle.classifier.specs.declared.Transfer.{Transfer}
use Rattle.classifier.specs.declared.Transfer.TheVariants.{None, DirectCall, DirectJump, FunctionReturn}

-- which of the three a word is, said by a transfer
pub record Switched (w : ℕ) (t : Transfer) : Type 0 where
  pub jump : is_table_jump w ≡ eqb (type_of t true) 11
  pub call : is_table_call w ≡ eqb (type_of t true) 9
  pub pop : is_pop_return w ≡ eqb (type_of t true) 13

-- the code's order of tests and the three rows, over the tests' answers: f and p of funct6, i of the index, x and y of funct2, r of rlist
by : Bool → Bool → Bool → Bool → Bool → Bool → Transfer
by f i p x y r =
    if f then (if i then DirectJump else DirectCall)
    else (if p then (if x then (if r then None else FunctionReturn) else (if y then (if r then None else FunctionReturn) else None)) else None)

record Three (f i p x y r : Bool) : Type 0 where
  pub jump : (f && i) ≡ eqb (type_of (by f i p x y r) true) 11
  pub call : (f && not i) ≡ eqb (type_of (by f i p x y r) true) 9
  pub pop : ((p && x && not r) || (p && y && not r)) ≡ eqb (type_of (by f i p x y r) true) 13

three : (f i p x y r : Bool) → (f ≡ true → p ≡ false) → Three f i p x y r
unfolding by
three true true p x y r h = rw (h refl) (record { jump = refl; call = refl; pop = refl })
three true false p x y r h = rw (h refl) (record { jump = refl; call = refl; pop = refl })
three false i true true true true h = record { jump = refl; call = refl; pop = refl }
three false i true true true false h = record { jump = refl; call = refl; pop = refl }
three false i true true false true h = record { jump = refl; call = refl; pop = refl }
three false i true true false false h = record { jump = refl; call = refl; pop = refl }
three false i true false true true h = record { jump = refl; call = refl; pop = refl }
three false i true false true false h = record { jump = refl; call = refl; pop = refl }
three false i true false false r h = record { jump = refl; call = refl; pop = refl }
three false i false x y r h = record { jump = refl; call = refl; pop = refl }

-- so the transfer is one of four
data OneOf : Transfer → Type 0 where
  jump : OneOf DirectJump
  call : OneOf DirectCall
  return : OneOf FunctionReturn
  none : OneOf None

one_of : (f i p x y r : Bool) → OneOf (by f i p x y r)
unfolding by
one_of true true p x y r = OneOf.jump
one_of true false p x y r = OneOf.call
one_of false i false x y r = OneOf.none
one_of false i true true y true = OneOf.none
one_of false i true true y false = OneOf.return
one_of false i true false true true = OneOf.none
one_of false i true false true false = OneOf.return
one_of false i true false false r = OneOf.none

picked : {t : Transfer} → OneOf t → let n = type_of t true in
    (if eqb n 11 then DirectJump else (if eqb n 9 then DirectCall else (if eqb n 13 then FunctionReturn else None))) ≡ t
picked OneOf.jump = refl
picked OneOf.call = refl
picked OneOf.return = refl
picked OneOf.none = refl

-- rows with what the switch adds to three of them
abbrev extended : Rows → Bool → Bool → Bool → Rows
extended r j c p = record {
  r5 = r.r5;
  r8 = r.r8;
  r9 = r.r9 || c;
  r10 = r.r10;
  r11 = r.r11 || j;
  r12 = r.r12;
  r13 = r.r13 || p;
  r14 = r.r14;
  r15 = r.r15;
}

three_rows : {t : Transfer} → OneOf t → let n = type_of t true in extended (only 0) (eqb n 11) (eqb n 9) (eqb n 13) ≡ only n
three_rows OneOf.jump = refl
three_rows OneOf.call = refl
three_rows OneOf.return = refl
three_rows OneOf.none = refl

-- a choice between none and none
no_choice : (b : Bool) → (if b then None else None) ≡ None
no_choice true = refl
no_choice false = refl

-- what the code reads of a word
abbrev read_of : ℕ → Transfer
read_of w = switched_by (CM·funct6 w) (CM·index w) (CM·funct2 w) (CM·rlist w)

-- one test for a range
from_0 : (n k : ℕ) → is_from_to 0 k n ≡ ltb n (k + 1)
from_0 n k = let z = le-leb 0 n (omega arith) in simp z (go (ltb n (k + 1)) refl)
  where
    go : (b : Bool) → ltb n (k + 1) ≡ b → leb n k ≡ ltb n (k + 1)
    go true h = let a = ltb-true n (k + 1) h in le-leb n k (omega arith) ∙ sym h
    go false h = let a = ltb-false n (k + 1) h in lt-leb n k (omega arith) ∙ sym h

from_on : (n m k : ℕ) → n ≤ k → is_from_to m k n ≡ not (ltb n m)
from_on n m k l = go (ltb n m) refl
  where
    go : (b : Bool) → ltb n m ≡ b → is_from_to m k n ≡ not b
    go true h = let a = lt-leb m n (ltb-true n m h) in simp a
    go false h = let a = le-leb m n (ltb-false n m h) in let b = le-leb n k l in simp (a, b)

module _ (w : ℕ) where
  -- the codes of C.FSDSP are those of quadrant 2 with funct3 101
  module _ (h : C·FSDSP w ≡ true) where
    quadrant : C·op w ≡ 2
    quadrant = eqb-true (C·op w) 2 (both (eqb (C·op w) 2) (eqb (C·funct3 w) 5) h).0

    funct3_is : C·funct3 w ≡ 5
    funct3_is = eqb-true (C·funct3 w) 5 (both (eqb (C·op w) 2) (eqb (C·funct3 w) 5) h).1

    -- with the switch off they are none
    no_table : plain_transfer w ≡ None
    unfolding plain_decision register_jump_by
    no_table =
        let f : (k : ℕ) → k / 2 ≡ 4 → eqb (C·funct4 w) k ≡ false =
        λ k l. ne_eqb (C·funct4 w) k (λ (e : C·funct4 w ≡ k). let g = funct3_is in omega arith) in
        sym (plainly_decided w) ∙ simp (quadrant, f 8 refl, f 9 refl, no_choice (eqb (C·rs1 w) 0)) (no_choice (eqb (opcode w) 2))

    -- table jumps have no funct6 of pop-returns
    no_pop : eqb (CM·funct6 w) 0b101000 ≡ true → eqb (CM·funct6 w) 0b101111 ≡ false
    no_pop e = ap (λ (n : ℕ). eqb n 0b101111) (eqb-true (CM·funct6 w) 0b101000 e)

    read : Switched w (read_of w)
    unfolding switched_by pop_by pop_return_by by
    read =
        let i = from_0 (CM·index w) 31 in
        let j = from_on (CM·index w) 32 255 (omega arith) in
        let r = from_on (CM·rlist w) 4 15 (omega arith) in
        let t = three (eqb (CM·funct6 w) 0b101000) (ltb (CM·index w) 32) (eqb (CM·funct6 w) 0b101111) (eqb (CM·funct2 w) 0b10)
        (eqb (CM·funct2 w) 0b00) (ltb (CM·rlist w) 4) no_pop in
        record {
          jump = simp (quadrant, i) t.jump;
          call = simp (quadrant, j) t.call;
          pop = simp (quadrant, r) t.pop;
        }

  -- no word without such a code is one of the three
  module _ (h : C·FSDSP w ≡ false) where
    no_funct : (n k : ℕ) → (n ≡ k → C·funct3 w ≡ 5) → C·op w ≡ 2 → eqb n k ≡ false
    no_funct n k f q = ne_eqb n k (λ e. eqb-false (C·funct3 w) 5 (sym (ap (λ (b : Bool). b && eqb (C·funct3 w) 5) (eq-eqb (C·op w) 2 q)) ∙ h) (f e))

    none_of_three : Switched w None
    none_of_three = go (known (C·op w) 2)
      where
        go : Known (C·op w) 2 → Switched w None
        go (inr n) = record { jump = simp n; call = simp n; pop = simp n }
        go (inl q) =
            let f = no_funct (CM·funct6 w) 0b101000 (λ e. omega arith) q in
            let p = no_funct (CM·funct6 w) 0b101111 (λ e. omega arith) q in
            record { jump = simp (f, and-false); call = simp (f, and-false); pop = simp (p, and-false) }

  -- what the code reads is one of four
  four : OneOf (read_of w)
  unfolding switched_by pop_by pop_return_by by
  four =
      one_of (eqb (CM·funct6 w) 0b101000) (ltb (CM·index w) 32) (eqb (CM·funct6 w) 0b101111) (eqb (CM·funct2 w) 0b10) (eqb (CM·funct2 w) 0b00)
      (ltb (CM·rlist w) 4)

  -- the switch changes no such word
  pub outside : C·FSDSP w ≡ false → transfer_of true w ≡ plain_transfer w
  unfolding transfer_of
  outside h = let n = none_of_three h in simp (n.jump, n.call, n.pop)

  -- with such a code a word is what the code reads
  pub inside : C·FSDSP w ≡ true → transfer_of true w ≡ read_of w
  unfolding transfer_of
  inside h =
      let s = read h in
      simp (s.jump, s.call, s.pop, no_table h)
      (picked four)

pub plainly : (w : ℕ) → transfer_of false w ≡ plain_transfer w
unfolding transfer_of
plainly w = refl

pub codes : (w : ℕ) → C·FSDSP w ≡ true → transfer_of false w ≡ None
codes w h = plainly w ∙ no_table w h

-- the code decides on a word's transfer
pub decided : (zc : Bool) (w : ℕ) → decision_of zc w ≡ transfer_of zc w
unfolding decision_of
decided false w = plainly_decided w ∙ sym (plainly w)
decided true w = go (C·FSDSP w) refl
  where
    go : (b : Bool) → C·FSDSP w ≡ b → decision_of true w ≡ transfer_of true w
    go true h = simp h (sym (inside w h))
    go false h = simp h (plainly_decided w ∙ sym (outside w h))

pub by_all_tests : (zc : Bool) (w : ℕ) → transfer_of zc w ≡ decision_of zc w
by_all_tests zc w = sym (decided zc w)

pub ruleset by_tests = (by_plain_tests, by_all_tests)

-- a word's transfer is that of the specimen of its key
pub specimen_transfer : (zc : Bool) (w : ℕ) → transfer_of zc (specimen_of (key_of w)) ≡ transfer_of zc w
unfolding transfer_of
specimen_transfer zc w =
    let a = alike w in rw (← a.table_jump, ← a.table_call, ← a.pop_return, plain_specimen w) refl

-- which rows of the table have a word
unfoldable pub rows_with : Bool → ℕ → Rows
rows_with zc w = extended (rows_of w) (zc && is_table_jump w) (zc && is_table_call w) (zc && is_pop_return w)

-- where the switch adds nothing they are those of the table
nothing_added : (r : Rows) (j c p : Bool) → j ≡ false → c ≡ false → p ≡ false → extended r j c p ≡ r
nothing_added r j c p x y z = rw (x, y, z) (simp or-false refl)

-- exactly the row of a word's transfer has the word
pub sorted : (zc : Bool) (w : ℕ) → rows_with zc w ≡ only (type_of (transfer_of zc w) true)
unfolding rows_with
sorted false w =
    nothing_added (rows_of w) _ _ _ refl refl refl ∙ plainly_sorted w ∙ ap (λ (t : Transfer). only (type_of t true)) (sym (plainly w))
sorted true w = go (C·FSDSP w) refl
  where
    go : (b : Bool) → C·FSDSP w ≡ b → rows_with true w ≡ only (type_of (transfer_of true w) true)
    go false h =
        let n = none_of_three w h in
        nothing_added (rows_of w) _ _ _ n.jump n.call n.pop ∙ plainly_sorted w
        ∙ ap (λ (t : Transfer). only (type_of t true)) (sym (outside w h))
    go true h =
        let s = read w h in
        rw (plainly_sorted w, no_table w h, s.jump, s.call, s.pop, inside w h) (three_rows (four w))

-- none of the rows has a word: none of the table, and none of the three
unfoldable pub any : Rows → Bool
any r = r.r5 || r.r8 || r.r9 || r.r10 || r.r11 || r.r12 || r.r13 || r.r14 || r.r15

none_added : (r : Rows) (j c p : Bool) → not (any (extended r j c p)) ≡ (not (any r) && not (c || j || p))
unfolding any
none_added r true true p = simp (or-true, and-false)
none_added r true false p = simp (or-true, and-false)
none_added r false true p = simp (or-true, and-false)
none_added r false false true = simp (or-true, or-false, and-false)
none_added r false false false = simp (or-false, and-true)

pub no_row : (zc : Bool) (w : ℕ) → not (any (rows_with zc w)) ≡ (not (any (rows_of w)) && not (zc && (is_table_call w || is_table_jump w || is_pop_return w)))
unfolding rows_with
no_row true w = none_added (rows_of w) (is_table_jump w) (is_table_call w) (is_pop_return w)
no_row false w = none_added (rows_of w) false false false
