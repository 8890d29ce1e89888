-- With the switch off exactly one row of the table has a word, or none, and it is the one that the code decides on. Both hang on no
-- more than the word's specimen has, and of all specimens they are computed. Assumes nothing.
use mathlib.Core.Path.{◌≡◌, refl, sym, ap, ◌∙◌}
use mathlib.Core.Bool.{Bool, true, false, not, ◌&&◌, and-true, and-false}
use mathlib.Core.Logic.{inl, inr}
use Prim.Native.Nat.{ℕ, ◌%◌, ◌<◌}
use native.Mathlib.Omega.{arith}
use lib.Dec.{eqb}
use borrow.Author.Tests.{eqb-false, ne_eqb}
use Rattle.std.specs.Prelude.{if◌then◌else◌}
use Rattle.bits.specs.Words.{field_at}
use Rattle.bits.proofs.Cases.{Known, known, both, all_below, passed}
use Rattle.classifier.specs.Instructions.{opcode, rd, funct3, rs1, C·op, C·funct3, C·funct4, C·rs1, C·rs2}
use Rattle.classifier.specs.Transfers.{is_branch, is_indirect_call, is_direct_call, is_indirect_jump, is_direct_jump, is_coroutine_swap, is_function_return, is_other_indirect_jump, is_other_direct_jump, plain_transfer, type_of}
use Rattle.classifier.specs.Decision.{branch_by, indirect_by, direct_by, jalr_by, wide_by, quadrant1_by, register_jump_by, plain_decision}
use Rattle.classifier.specs.Tables.{opcode_of, register_of, low_of, key_of, specimen_of}
use Rattle.classifier.proofs.Specimens.{Alike, alike, same, is_same, key_bound}
use Rattle.classifier.specs.declared.Transfer.{Transfer}
use Rattle.classifier.specs.declared.Transfer.TheVariants.{None, Branch, IndirectCall, DirectCall, IndirectJump, DirectJump, CoroutineSwap, FunctionReturn, OtherIndirectJump, OtherDirectJump}

-- which rows of the table have a word, in the order of the types 5 and 8 to 15
pub record Rows : Type 0 where
  pub r5 : Bool
  pub r8 : Bool
  pub r9 : Bool
  pub r10 : Bool
  pub r11 : Bool
  pub r12 : Bool
  pub r13 : Bool
  pub r14 : Bool
  pub r15 : Bool

unfoldable pub rows_of : ℕ → Rows
rows_of w = record {
  r5 = is_branch w;
  r8 = is_indirect_call w;
  r9 = is_direct_call w;
  r10 = is_indirect_jump w;
  r11 = is_direct_jump w;
  r12 = is_coroutine_swap w;
  r13 = is_function_return w;
  r14 = is_other_indirect_jump w;
  r15 = is_other_direct_jump w;
}

-- the row of type n and no other
abbrev pub only : ℕ → Rows
only n = record {
  r5 = eqb n 5;
  r8 = eqb n 8;
  r9 = eqb n 9;
  r10 = eqb n 10;
  r11 = eqb n 11;
  r12 = eqb n 12;
  r13 = eqb n 13;
  r14 = eqb n 14;
  r15 = eqb n 15;
}

abbrev pub Sorted : ℕ → Transfer → Type 0
Sorted w t = rows_of w ≡ only (type_of t true)

-- the opcode of a 16-bit instruction is none of ours, since each of those ends in 11
module _ (w : ℕ) (narrow : C·op w ≡ 3 → ⊥) where
  no_opcode : (k : ℕ) → k % 4 ≡ 3 → eqb (opcode w) k ≡ false
  no_opcode k e = ne_eqb (opcode w) k (λ p. narrow (omega arith))

  pub no_branch : eqb (opcode w) 0x63 ≡ false
  no_branch = no_opcode 0x63 refl

  pub no_jalr : eqb (opcode w) 0x67 ≡ false
  no_jalr = no_opcode 0x67 refl

  pub no_jal : eqb (opcode w) 0x6F ≡ false
  no_jal = no_opcode 0x6F refl

-- the opcode of C.JR and C.JALR
register_jumps : (w f : ℕ) → (eqb (C·op w) 2 && eqb (C·funct4 w) f && not (eqb (C·rs1 w) 0) && eqb (C·rs2 w) 0)
    ≡ (eqb (opcode w) 2 && eqb (C·funct4 w) f && not (eqb (C·rs1 w) 0))
register_jumps w f = go (known (opcode w) 2) (known (C·op w) 2)
  where
    go : Known (opcode w) 2 → Known (C·op w) 2 → (eqb (C·op w) 2 && eqb (C·funct4 w) f && not (eqb (C·rs1 w) 0) && eqb (C·rs2 w) 0)
        ≡ (eqb (opcode w) 2 && eqb (C·funct4 w) f && not (eqb (C·rs1 w) 0))
    go (inl o) p =
        let a : C·op w ≡ 2 = omega arith in
        let b : C·rs2 w ≡ 0 = omega arith in
        simp (o, a, b, and-true)
    go (inr o) (inl p) = let b : eqb (C·rs2 w) 0 ≡ false = ne_eqb (C·rs2 w) 0 (λ (z : C·rs2 w ≡ 0). eqb-false (opcode w) 2 o (omega arith)) in simp (o, p, b, and-false)
    go (inr o) (inr p) = simp (o, p)

-- the first row that has the word
chosen : Rows → Transfer
chosen r =
    if r.r5 then Branch
    else (if r.r8 then IndirectCall
    else (if r.r9 then DirectCall
    else (if r.r10 then IndirectJump
    else (if r.r11 then DirectJump
    else (if r.r12 then CoroutineSwap
    else (if r.r13 then FunctionReturn
    else (if r.r14 then OtherIndirectJump
    else (if r.r15 then OtherDirectJump
    else None))))))))

chosen_only : (t : Transfer) → chosen (only (type_of t true)) ≡ t
unfolding chosen
chosen_only None = refl
chosen_only Branch = refl
chosen_only IndirectCall = refl
chosen_only DirectCall = refl
chosen_only IndirectJump = refl
chosen_only DirectJump = refl
chosen_only CoroutineSwap = refl
chosen_only FunctionReturn = refl
chosen_only OtherIndirectJump = refl
chosen_only OtherDirectJump = refl

pub distinct : (t u : Transfer) → type_of t true ≡ type_of u true → t ≡ u
distinct t u h = sym (chosen_only t) ∙ ap (λ (n : ℕ). chosen (only n)) h ∙ chosen_only u

transfer : (w : ℕ) (t : Transfer) → Sorted w t → t ≡ plain_transfer w
unfolding plain_transfer rows_of chosen
transfer w t h = sym (chosen_only t) ∙ sym (ap chosen h)

-- the decision by what `Alike` has: a 32-bit word whose bits 6..4 are not 110 has none of the three opcodes
plain_of : ℕ → Transfer
plain_of w =
    if eqb (opcode w) 0x63 then branch_by (funct3 w)
    else (if eqb (opcode w) 0x6F then direct_by (rd w)
    else (if eqb (opcode w) 0x67 then jalr_by (funct3 w) (rd w) (rs1 w)
    else (if eqb (C·op w) 1 then quadrant1_by (C·funct3 w)
    else (if eqb (opcode w) 2 then register_jump_by (C·funct4 w) (C·rs1 w) else None))))

plain : (w : ℕ) → plain_decision w ≡ plain_of w
unfolding plain_decision plain_of wide_by
plain w = go (known (C·op w) 3) (known (field_at w 4 3) 6)
  where
    go : Known (C·op w) 3 → Known (field_at w 4 3) 6 → plain_decision w ≡ plain_of w
    go (inr n) m = simp (n, no_branch w (eqb-false _ 3 n), no_jalr w (eqb-false _ 3 n), no_jal w (eqb-false _ 3 n))
    go (inl n) (inl m) =
        let o : eqb (opcode w) 2 ≡ false = ne_eqb (opcode w) 2 (λ (z : opcode w ≡ 2). omega arith) in simp (n, m, o)
    go (inl n) (inr m) =
        let no : (k : ℕ) → field_at k 4 3 ≡ 6 → k < 128 → eqb (opcode w) k ≡ false = (λ k e l. ne_eqb (opcode w) k (λ (z : opcode w ≡ k). eqb-false (field_at w 4 3) 6 m (omega arith))) in
        let o : eqb (opcode w) 2 ≡ false = ne_eqb (opcode w) 2 (λ (z : opcode w ≡ 2). omega arith) in
        simp (n, m, o, no 0x63 refl (omega arith), no 0x67 refl (omega arith), no 0x6F refl (omega arith))

-- words that are alike are in the same rows, and decided on alike
same_answers : (w v : ℕ) → Alike w v → (rows_of w ≡ rows_of v) × (plain_of w ≡ plain_of v)
unfolding rows_of plain_of branch_by direct_by jalr_by indirect_by quadrant1_by register_jump_by
same_answers w v a =
    simp (register_jumps w 8, register_jumps w 9, register_jumps v 8, register_jumps v 9)
    (simp (
      a.opcode_63,
      a.opcode_67,
      a.opcode_6_f,
      a.opcode_02,
      a.op_1,
      a.rd_0,
      a.rd_1,
      a.rd_5,
      a.f3,
      a.c_f3,
      a.c_f4,
      a.rs1_1,
      a.rs1_5,
    ) (refl, refl))

-- nine answers that are those of type n
agrees : Rows → ℕ → Bool
agrees r n =
    same r.r5 (eqb n 5) && (same r.r8 (eqb n 8) && (same r.r9 (eqb n 9) && (same r.r10 (eqb n 10) && (same r.r11 (eqb n 11)
    && (same r.r12 (eqb n 12) && (same r.r13 (eqb n 13) && (same r.r14 (eqb n 14) && same r.r15 (eqb n 15))))))))

made : (a b c d e f g h i : Bool) (n : ℕ) → a ≡ eqb n 5 → b ≡ eqb n 8 → c ≡ eqb n 9 → d ≡ eqb n 10 → e ≡ eqb n 11 → f ≡ eqb n 12
    → g ≡ eqb n 13 → h ≡ eqb n 14 → i ≡ eqb n 15
    → record { r5 = a; r8 = b; r9 = c; r10 = d; r11 = e; r12 = f; r13 = g; r14 = h; r15 = i } ≡ only n
made a b c d e f g h i n p q r s t u v x y = rw (p, q, r, s, t, u, v, x, y) refl

agreeing : (r : Rows) (n : ℕ) → agrees r n ≡ true → r ≡ only n
unfolding agrees
agreeing r n h =
    let a = both (same r.r5 (eqb n 5)) _ h in
    let b = both (same r.r8 (eqb n 8)) _ a.1 in
    let c = both (same r.r9 (eqb n 9)) _ b.1 in
    let d = both (same r.r10 (eqb n 10)) _ c.1 in
    let e = both (same r.r11 (eqb n 11)) _ d.1 in
    let f = both (same r.r12 (eqb n 12)) _ e.1 in
    let g = both (same r.r13 (eqb n 13)) _ f.1 in
    let i = both (same r.r14 (eqb n 14)) _ g.1 in
    made r.r5 r.r8 r.r9 r.r10 r.r11 r.r12 r.r13 r.r14 r.r15 n
    (is_same _ _ a.0) (is_same _ _ b.0) (is_same _ _ c.0) (is_same _ _ d.0) (is_same _ _ e.0)
    (is_same _ _ f.0) (is_same _ _ g.0) (is_same _ _ i.0) (is_same _ _ i.1)

-- computed of all specimens: the row of what is decided has it, and no other row
fits : ℕ → Bool
fits k = agrees (rows_of (specimen_of k)) (type_of (plain_of (specimen_of k)) true)

computed : all_below fits 1024 ≡ true
unfolding fits agrees same rows_of specimen_of low_of opcode_of register_of plain_of branch_by direct_by jalr_by indirect_by quadrant1_by register_jump_by
computed = refl

-- so it is of all words
plain_sorted : (w : ℕ) → Sorted w (plain_of w)
unfolding fits
plain_sorted w =
    let a = same_answers w (specimen_of (key_of w)) (alike w) in
    a.0 ∙ agreeing _ _ (passed fits 1024 (key_of w) computed (key_bound w)) ∙ ap (λ (t : Transfer). only (type_of t true)) (sym a.1)

-- the code decides on a word's transfer
pub plainly_decided : (w : ℕ) → plain_decision w ≡ plain_transfer w
plainly_decided w = plain w ∙ transfer w (plain_of w) (plain_sorted w)

pub by_plain_tests : (w : ℕ) → plain_transfer w ≡ plain_decision w
by_plain_tests w = sym (plainly_decided w)

pub ruleset by_tests = (by_plain_tests)

-- exactly the row of a word's transfer has the word
pub plainly_sorted : (w : ℕ) → Sorted w (plain_transfer w)
plainly_sorted w = rw (← transfer w (plain_of w) (plain_sorted w)) (plain_sorted w)

-- a word's transfer is that of the specimen of its key
pub plain_specimen : (w : ℕ) → plain_transfer (specimen_of (key_of w)) ≡ plain_transfer w
unfolding plain_transfer rows_of chosen
plain_specimen w = sym (ap chosen (same_answers w (specimen_of (key_of w)) (alike w)).0)
