-- A word and the specimen of its key are told apart by nothing that the table of transfer types asks, nor by what the rows have
-- with the switch on. Assumes nothing.
use mathlib.Core.Path.{◌≡◌, refl, sym, ap, subst, ◌∙◌}
use mathlib.Core.Bool.{Bool, true, false, not, ◌&&◌, and-false}
use mathlib.Core.Logic.{inl, inr}
use Prim.Native.Nat.{ℕ, ◌+◌, ◌*◌, ◌/◌, ◌%◌, ◌^◌, ◌<◌}
use native.Mathlib.Omega.{arith}
use lib.Dec.{eqb, ltb}
use borrow.Author.Tests.{eqb-true, eqb-false, ne_eqb, ltb-true}
use Rattle.bits.specs.Words.{field_at, is_from_to}
use Rattle.std.proofs.lemmas.Bool.{agree_below, agree_below_at}
use Rattle.bits.proofs.Cases.{Known, known, passed}
use Rattle.classifier.specs.Instructions.{opcode, rd, funct3, rs1, C·op, C·funct3, C·funct4, CM·funct6, CM·index, CM·funct2, CM·rlist}
use Rattle.classifier.specs.Transfers.{is_table_jump, is_table_call, is_pop_return}
use Rattle.classifier.specs.Tables.{group_of, opcode_of, destination_of, base_of, register_of, pop_of, near_rank, far_rank, rank_of, low_of, row_of, column_of, key_of, specimen_of}

-- what the table asks of a word, and no more: C.JR and C.JALR have the opcode 2
pub record Alike (w v : ℕ) : Type 0 where
  pub opcode_63 : eqb (opcode w) 0x63 ≡ eqb (opcode v) 0x63
  pub opcode_67 : eqb (opcode w) 0x67 ≡ eqb (opcode v) 0x67
  pub opcode_6_f : eqb (opcode w) 0x6F ≡ eqb (opcode v) 0x6F
  pub opcode_02 : eqb (opcode w) 0x02 ≡ eqb (opcode v) 0x02
  pub op_1 : eqb (C·op w) 1 ≡ eqb (C·op v) 1
  pub rd_0 : eqb (rd w) 0 ≡ eqb (rd v) 0
  pub rd_1 : eqb (rd w) 1 ≡ eqb (rd v) 1
  pub rd_5 : eqb (rd w) 5 ≡ eqb (rd v) 5
  pub f3 : funct3 w ≡ funct3 v
  pub c_f3 : C·funct3 w ≡ C·funct3 v
  pub c_f4 : C·funct4 w ≡ C·funct4 v
  pub rs1_1 : eqb (rs1 w) 1 ≡ eqb (rs1 v) 1
  pub rs1_5 : eqb (rs1 w) 5 ≡ eqb (rs1 v) 5
  pub table_jump : is_table_jump w ≡ is_table_jump v
  pub table_call : is_table_call w ≡ is_table_call v
  pub pop_return : is_pop_return w ≡ is_pop_return v

-- two tests that agree
unfoldable pub same : Bool → Bool → Bool
same true b = b
same false b = not b

pub is_same : (a b : Bool) → same a b ≡ true → a ≡ b
unfolding same
is_same true true h = refl
is_same true false h = sym h
is_same false true h = h
is_same false false h = refl

-- whether a test of a number below n is one of what f gives for it too, computed of all
abbrev keeps : (f : ℕ → ℕ) → ℕ → (ℕ → Bool) → Bool
keeps f n p = agree_below p (λ r. p (f r)) n

kept : (f : ℕ → ℕ) (n : ℕ) (p : ℕ → Bool) → keeps f n p ≡ true → (r : ℕ) → r < n → p r ≡ p (f r)
kept f n p h r l = agree_below_at p (λ r. p (f r)) n r h l

-- what stands for a low part, and for a register as rs1
abbrev low_for : ℕ → ℕ
low_for l = low_of (rank_of l)

abbrev base_for : ℕ → ℕ
base_for r = register_of (base_of r)

-- funct3 and funct4 of a 16-bit instruction, by the fields of a 32-bit one
module _ (w : ℕ) where
  c_funct4 : C·funct4 w ≡ funct3 w + 8 * (rs1 w % 2)
  c_funct4 = omega arith

  c_funct3 : C·funct3 w ≡ (funct3 w + 8 * (rs1 w % 2)) / 2
  c_funct3 = omega arith

-- a table jump, by a test of its index
abbrev by_index : (ℕ → Bool) → ℕ → Bool
by_index r w = eqb (C·op w) 0b10 && eqb (CM·funct6 w) 0b101000 && r (CM·index w)

-- table jumps have funct4 10 and pop-returns 11; for the rest they are told by the low part
module _ (w : ℕ) where
  low : ℕ
  low = field_at w 0 12

  module _ (f : ℕ) (at : C·funct4 w ≡ f) where
    op_at : C·op w ≡ C·op (4096 * f + low)
    unfolding low
    op_at = omega (arith, at)

    funct6_at : CM·funct6 w ≡ CM·funct6 (4096 * f + low)
    unfolding low
    funct6_at = omega (arith, at)

    index_at : CM·index w ≡ CM·index (4096 * f + low)
    unfolding low
    index_at = omega (arith, at)

    funct2_at : CM·funct2 w ≡ CM·funct2 (4096 * f + low)
    unfolding low
    funct2_at = omega (arith, at)

    rlist_at : CM·rlist w ≡ CM·rlist (4096 * f + low)
    unfolding low
    rlist_at = omega (arith, at)

  no_funct6 : (f k : ℕ) → k / 4 ≡ f → eqb (C·funct4 w) f ≡ false → eqb (CM·funct6 w) k ≡ false
  no_funct6 f k l h = ne_eqb _ _ (λ (e : CM·funct6 w ≡ k). eqb-false (C·funct4 w) f h (omega arith))

  table_jump_parts : (r : ℕ → Bool) → by_index r w ≡ (eqb (C·funct4 w) 10 && by_index r (4096 * 10 + low))
  table_jump_parts r = go (known (C·funct4 w) 10)
    where
      go : Known (C·funct4 w) 10 → by_index r w ≡ (eqb (C·funct4 w) 10 && by_index r (4096 * 10 + low))
      go (inl e) = simp (e, op_at 10 e, funct6_at 10 e, index_at 10 e)
      go (inr n) = simp (n, no_funct6 10 0b101000 refl n, and-false)

  pop_parts : is_pop_return w ≡ (eqb (C·funct4 w) 11 && is_pop_return (4096 * 11 + low))
  pop_parts = go (known (C·funct4 w) 11)
    where
      go : Known (C·funct4 w) 11 → is_pop_return w ≡ (eqb (C·funct4 w) 11 && is_pop_return (4096 * 11 + low))
      go (inl e) = simp (e, op_at 11 e, funct6_at 11 e, funct2_at 11 e, rlist_at 11 e)
      go (inr n) = simp (n, no_funct6 11 0b101111 refl n, and-false)

-- the fields of a word that is put together from a low part, funct3 and rs1
abbrev put : ℕ → ℕ → ℕ → ℕ
put l f s = l + 4096 * (f + 8 * s)

module _ (l f s : ℕ) (hl : l < 4096) (hf : f < 8) (hs : s < 32) where
  put_low : low (put l f s) ≡ l
  unfolding low
  put_low = omega arith

  put_opcode : opcode (put l f s) ≡ l % 128
  put_opcode = omega arith

  put_op : C·op (put l f s) ≡ l % 4
  put_op = omega arith

  put_rd : rd (put l f s) ≡ l / 128
  put_rd = omega arith

  put_funct3 : funct3 (put l f s) ≡ f
  put_funct3 = omega arith

  put_rs1 : rs1 (put l f s) ≡ s
  put_rs1 = omega arith

  put_c_funct4 : C·funct4 (put l f s) ≡ f + 8 * (s % 2)
  put_c_funct4 = omega arith

  put_c_funct3 : C·funct3 (put l f s) ≡ (f + 8 * (s % 2)) / 2
  put_c_funct3 = omega arith

-- what is tabled of an opcode or a register stays in its bounds
pub group_bound : (o : ℕ) → o < 128 → group_of o < 7
unfolding group_of
group_bound o h = ltb-true _ 7 (passed (λ o. ltb (group_of o) 7) 128 o refl h)

destination_bound : (r : ℕ) → destination_of r < 4
unfolding destination_of
destination_bound r = omega arith

base_bound : (r : ℕ) → base_of r < 4
unfolding base_of
base_bound r = omega arith

opcode_bound : (g : ℕ) → opcode_of g < 128
unfolding opcode_of
opcode_bound g = omega arith

register_bound : (c : ℕ) → register_of c < 32
unfolding register_of
register_bound c = omega arith

-- ranks are below 32, and what stands for one is a low part
pub rank_bound : (low : ℕ) → low < 4096 → rank_of low < 32
unfolding rank_of far_rank pop_of near_rank group_of destination_of
rank_bound low h = ltb-true _ 32 (passed (λ l. ltb (rank_of l) 32) 4096 low refl h)

pub low_bound : (k : ℕ) → k < 32 → low_of k < 4096
unfolding low_of opcode_of register_of
low_bound k h = ltb-true _ 4096 (passed (λ k. ltb (low_of k) 4096) 32 k refl h)

module _ (w : ℕ) where
  -- the fields of a word in its low and its high part
  low_below : low w < 4096
  unfolding low
  low_below = omega arith

  low_opcode : opcode w ≡ low w % 128
  unfolding low
  low_opcode = omega arith

  low_op : C·op w ≡ low w % 4
  unfolding low
  low_op = omega arith

  low_rd : rd w ≡ low w / 128
  unfolding low
  low_rd = omega arith

  high_rs1 : field_at w 12 8 / 8 ≡ rs1 w
  high_rs1 = omega arith

  funct3_below : funct3 w < 8
  funct3_below = omega arith

  -- so its column, by its fields
  column_parts : column_of (field_at w 12 8) ≡ funct3 w + 8 * base_of (rs1 w)
  unfolding column_of
  column_parts = omega (arith, ap base_of high_rs1)

-- a key taken apart
module _ (k f b : ℕ) (hf : f < 8) (hb : b < 4) where
  key : ℕ
  key = 4 * (8 * k) + (f + 8 * b)

  key_rank : key / 32 ≡ k
  unfolding key
  key_rank = omega arith

  key_funct3 : key % 8 ≡ f
  unfolding key
  key_funct3 = omega arith

  key_base : key / 8 % 4 ≡ b
  unfolding key
  key_base = omega arith

  -- the specimen of a key
  key_specimen : specimen_of key ≡ put (low_of k) f (register_of b)
  unfolding specimen_of
  key_specimen = rw (key_rank, key_funct3, key_base) refl

-- the specimen of a word's key, by the word's fields
abbrev specimen_for : ℕ → ℕ
specimen_for w = put (low_for (low w)) (funct3 w) (base_for (rs1 w))

specimen : (w : ℕ) → specimen_of (key_of w) ≡ specimen_for w
unfolding key_of row_of key low
specimen w = rw (column_parts w) (key_specimen (rank_of (low w)) (funct3 w) (base_of (rs1 w)) (funct3_below w) (base_bound (rs1 w)))

kept_parity : (r : ℕ) → r < 32 → r % 2 ≡ base_for r % 2
unfolding base_of register_of
kept_parity r h = eqb-true _ _ (passed (λ r. eqb (r % 2) (base_for r % 2)) 32 r refl h)

-- a word and its specimen: each test is computed for all low parts and for all registers
module _ (w : ℕ) where
  -- the low part and the register that stand for the word's
  l : ℕ
  l = low_for (low w)

  s : ℕ
  s = base_for (rs1 w)

  l_below : l < 4096
  unfolding l
  l_below = low_bound (rank_of (low w)) (rank_bound (low w) (low_below w))

  s_below : s < 32
  unfolding s
  s_below = register_bound (base_of (rs1 w))

  kept_low : (p : ℕ → Bool) → keeps low_for 4096 p ≡ true → p (low w) ≡ p l
  unfolding l
  kept_low p h = kept low_for 4096 p h (low w) (low_below w)

  kept_opcode : (k : ℕ) → keeps low_for 4096 (λ x. eqb (x % 128) k) ≡ true → eqb (opcode w) k ≡ eqb (opcode (put l (funct3 w) s)) k
  kept_opcode k h = rw (put_opcode l (funct3 w) s l_below (funct3_below w) s_below, low_opcode w) (kept_low (λ x. eqb (x % 128) k) h)

  kept_op : (k : ℕ) → keeps low_for 4096 (λ x. eqb (x % 4) k) ≡ true → eqb (C·op w) k ≡ eqb (C·op (put l (funct3 w) s)) k
  kept_op k h = rw (put_op l (funct3 w) s l_below (funct3_below w) s_below, low_op w) (kept_low (λ x. eqb (x % 4) k) h)

  kept_rd : (k : ℕ) → keeps low_for 4096 (λ x. eqb (x / 128) k) ≡ true → eqb (rd w) k ≡ eqb (rd (put l (funct3 w) s)) k
  kept_rd k h = rw (put_rd l (funct3 w) s l_below (funct3_below w) s_below, low_rd w) (kept_low (λ x. eqb (x / 128) k) h)

  kept_rs1 : (k : ℕ) → keeps base_for 32 (λ x. eqb x k) ≡ true → eqb (rs1 w) k ≡ eqb (rs1 (put l (funct3 w) s)) k
  unfolding s
  kept_rs1 k h = rw (put_rs1 l (funct3 w) s l_below (funct3_below w) s_below) (kept base_for 32 (λ x. eqb x k) h (rs1 w) (omega arith))

  same_funct3 : funct3 w ≡ funct3 (put l (funct3 w) s)
  same_funct3 = sym (put_funct3 l (funct3 w) s l_below (funct3_below w) s_below)

  parity : rs1 w % 2 ≡ s % 2
  unfolding s
  parity = kept_parity (rs1 w) (omega arith)

  same_c_funct3 : C·funct3 w ≡ C·funct3 (put l (funct3 w) s)
  same_c_funct3 = rw (put_c_funct3 l (funct3 w) s l_below (funct3_below w) s_below, c_funct3 w, parity) refl

  same_c_funct4 : C·funct4 w ≡ C·funct4 (put l (funct3 w) s)
  same_c_funct4 = rw (put_c_funct4 l (funct3 w) s l_below (funct3_below w) s_below, c_funct4 w, parity) refl

  same_low : (p : ℕ → Bool) → keeps low_for 4096 p ≡ true → p (low w) ≡ p (low (put l (funct3 w) s))
  same_low p h = rw (put_low l (funct3 w) s l_below (funct3_below w) s_below) (kept_low p h)

  kept_at : (p : ℕ → Bool) (f : ℕ) → ((v : ℕ) → p v ≡ (eqb (C·funct4 v) f && p (4096 * f + low v)))
      → keeps low_for 4096 (λ x. p (4096 * f + x)) ≡ true → p w ≡ p (put l (funct3 w) s)
  kept_at p f parts h =
      parts w ∙ rw (same_c_funct4, same_low (λ x. p (4096 * f + x)) h) refl ∙ sym (parts (put l (funct3 w) s))

  alike_put : Alike w (put l (funct3 w) s)
  unfolding rank_of far_rank pop_of near_rank group_of destination_of low_of opcode_of register_of base_of
  alike_put = record {
    opcode_63 = kept_opcode 0x63 refl;
    opcode_67 = kept_opcode 0x67 refl;
    opcode_6_f = kept_opcode 0x6F refl;
    opcode_02 = kept_opcode 0x02 refl;
    op_1 = kept_op 1 refl;
    rd_0 = kept_rd 0 refl;
    rd_1 = kept_rd 1 refl;
    rd_5 = kept_rd 5 refl;
    f3 = same_funct3;
    c_f3 = same_c_funct3;
    c_f4 = same_c_funct4;
    rs1_1 = kept_rs1 1 refl;
    rs1_5 = kept_rs1 5 refl;
    table_jump = kept_at is_table_jump 10 (λ v. table_jump_parts v (is_from_to 0 31)) refl;
    table_call = kept_at is_table_call 10 (λ v. table_jump_parts v (is_from_to 32 255)) refl;
    pop_return = kept_at is_pop_return 11 pop_parts refl;
  }

pub alike : (w : ℕ) → Alike w (specimen_of (key_of w))
unfolding l s
alike w = subst (λ (v : ℕ). Alike w v) (sym (specimen w)) (alike_put w)

-- rows and columns have their bounds, so keys are below 1,024, and specimens are words
pub row_bound : (low : ℕ) → low < 4096 → row_of low < 249
unfolding row_of
row_bound low h = let k = rank_bound low h in omega (arith, k)

pub column_bound : (high : ℕ) → column_of high < 32
unfolding column_of
column_bound high = let b = base_bound (high / 8) in omega (arith, b)

pub key_bound : (w : ℕ) → key_of w < 1024
unfolding key_of
key_bound w = let r = row_bound (field_at w 0 12) (omega arith) in let c = column_bound (field_at w 12 8) in omega (arith, r, c)

pub specimen_bound : (k : ℕ) → k < 1024 → specimen_of k < 2 ^ 32
unfolding specimen_of
specimen_bound k h =
    let l = low_bound (k / 32) (omega arith) in
    let b = register_bound (k / 8 % 4) in
    omega (arith, l, b)

pub ruleset bounds = (row_bound, column_bound, specimen_bound)
