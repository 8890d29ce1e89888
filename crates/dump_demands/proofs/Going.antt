-- Where a word may go, and what types it has: the tests are what they stand for. Assumes nothing.
use mathlib.Core.Path.{◌≡◌, refl, sym, ap, ◌∙◌}
use mathlib.Core.Bool.{Bool, true, false, false≢true}
use mathlib.Core.Logic.{⊎_elim}
use Prim.Native.Nat.{ℕ, ◌/◌, ◌%◌, ◌^◌, ◌≤◌}
use native.Mathlib.Omega.{arith}
use lib.Dec.{eqb}
use borrow.Author.Tests.{eq-eqb, ne_eqb, eqb-true, eqb-false}
use Rattle.bits.proofs.Cases.{known}
use Rattle.classifier.specs.Instructions.{opcode, C·op, C·funct3, is16, length_of}
use Rattle.classifier.specs.Transfers.{is_branch, transfer_of, type_of}
use Rattle.classifier.specs.Promise.{HasType}
use Rattle.classifier.specs.declared.Transfer.{Transfer}
use Rattle.classifier.specs.declared.Transfer.TheVariants.{Branch}
use Rattle.classifier.proofs.Promise.{promise}
use Rattle.dump.specs.Offsets.{J·offset, B·offset, CJ·offset, CB·offset}
use Rattle.dump.specs.Checks.{moved, branch_offset, may_go, is_like}
use Rattle.dump_demands.specs.Fits.{Goes}
use Rattle.dump_demands.proofs.Reaching.{J-reaches, B-reaches, CJ-reaches, CB-reaches}

-- of one type, taken or not
same_type : (t : Transfer) (taken : Bool) (n : ℕ) → type_of t taken ≡ n → type_of t (eqb n 5) ≡ n
same_type Branch true n e = rw (← e) refl
same_type Branch false n e = rw (← e) refl
same_type _ taken n e = e

-- 4 and 5 are a branch's
branch_type : (t : Transfer) (b : Bool) → 4 ≤ type_of t b → type_of t b ≤ 5 → type_of t true ≡ 5
branch_type Branch b l h = refl
branch_type _ b l h = absurd (omega arith)

module _ (zc : Bool) (w n : ℕ) where
  pub like : (taken : Bool) → HasType zc w taken n → is_like zc w n ≡ true
  unfolding is_like
  like taken h = eq-eqb _ n (same_type (transfer_of zc w) taken n ((promise.numbers zc w taken n).1 h))

  pub has_type : is_like zc w n ≡ true → HasType zc w (eqb n 5) n
  unfolding is_like
  has_type h = (promise.numbers zc w (eqb n 5) n).0 (eqb-true _ n h)

  pub branch : is_like zc w n ≡ true → 4 ≤ n → n ≤ 5 → is_branch w ≡ true
  unfolding is_like
  branch h l m =
      let e = eqb-true (type_of (transfer_of zc w) (eqb n 5)) n h in
      promise.rows zc Branch w ∙ eq-eqb _ 5 (branch_type (transfer_of zc w) (eqb n 5) (omega arith) (omega arith))

-- a branch is neither JAL nor C.J
no_jal : (w : ℕ) → is_branch w ≡ true → w % 128 ≡ 0b1101111 → ⊥
no_jal w h e =
    let o : opcode w ≡ 0b1101111 = omega arith in
    let q : C·op w ≡ 3 = omega arith in
    let z : is_branch w ≡ false = simp (o, q) in
    false≢true (sym z ∙ h)

no_c_j : (w : ℕ) → is_branch w ≡ true → w % 4 ≡ 0b01 → w / 2 ^ 13 % 8 ≡ 0b101 → ⊥
no_c_j w h e g =
    let q : C·op w ≡ 1 = omega arith in
    let f : C·funct3 w ≡ 5 = omega arith in
    let o : eqb (opcode w) 0b1100011 ≡ false = ne_eqb (opcode w) 0b1100011 (λ u. absurd (omega arith)) in
    let z : is_branch w ≡ false = simp (o, q, f) in
    false≢true (sym z ∙ h)

-- what each word's test is
module _ (pc w n t : ℕ) where
  at_4 : n ≡ 4 → may_go pc w n t ≡ eqb (moved pc (length_of w)) t
  unfolding may_go
  at_4 e = rw e refl

  at_5 : n ≡ 5 → may_go pc w n t ≡ eqb (moved pc (branch_offset w)) t
  unfolding may_go
  at_5 e = rw e refl

  module _ (not_4 : eqb n 4 ≡ false) (not_5 : eqb n 5 ≡ false) where
    at_jal : w % 128 ≡ 0b1101111 → may_go pc w n t ≡ eqb (moved pc (J·offset w)) t
    unfolding may_go
    at_jal e = let o : opcode w ≡ 0b1101111 = omega arith in simp (not_4, not_5, o)

    module _ (not-jal : w % 128 ≡ 0b1101111 → ⊥) where
      no_opcode : eqb (opcode w) 0b1101111 ≡ false
      no_opcode = ne_eqb (opcode w) 0b1101111 (λ e. not-jal (omega arith))

      at_c_j : w % 4 ≡ 0b01 → w / 2 ^ 13 % 8 ≡ 0b101 → may_go pc w n t ≡ eqb (moved pc (CJ·offset w)) t
      unfolding may_go
      at_c_j e g =
          let q : C·op w ≡ 1 = omega arith in
          let f : C·funct3 w ≡ 5 = omega arith in
          simp (not_4, not_5, no_opcode, q, f)

      other_quadrant : (w % 4 ≡ 0b01 → ⊥) → may_go pc w n t ≡ true
      unfolding may_go
      other_quadrant m = simp (not_4, not_5, no_opcode, ne_eqb (C·op w) 1 (λ e. m (omega arith)))

      other_funct3 : w % 4 ≡ 0b01 → (w / 2 ^ 13 % 8 ≡ 0b101 → ⊥) → may_go pc w n t ≡ true
      unfolding may_go
      other_funct3 e m =
          let q : C·op w ≡ 1 = omega arith in
          simp (not_4, not_5, no_opcode, q, ne_eqb (C·funct3 w) 5 (λ f. m (omega arith)))

  -- the length, and the offset of a branch
  long : w % 4 ≡ 3 → length_of w ≡ 4
  long e = let q : C·op w ≡ 3 = omega arith in simp q

  short : (w % 4 ≡ 3 → ⊥) → length_of w ≡ 2
  short m = simp (ne_eqb (C·op w) 3 (λ e. m (omega arith)))

  long_is : w % 4 ≡ 3 → is16 w ≡ false
  long_is e = let q : C·op w ≡ 3 = omega arith in simp q

  short_is : (w % 4 ≡ 3 → ⊥) → is16 w ≡ true
  short_is m = simp (ne_eqb (C·op w) 3 (λ e. m (omega arith)))

  branch_long : w % 4 ≡ 3 → branch_offset w ≡ B·offset w
  unfolding branch_offset
  branch_long e = simp (long_is e)

  branch_short : (w % 4 ≡ 3 → ⊥) → branch_offset w ≡ CB·offset w
  unfolding branch_offset
  branch_short m = simp (short_is m)

  -- the test's equation, from the test and back
  lands : (x y : ℕ) → x ≡ y → may_go pc w n t ≡ eqb (moved pc x) t → may_go pc w n t ≡ true → moved pc y ≡ t
  lands x y e h m = ap (moved pc) (sym e) ∙ eqb-true (moved pc x) t (sym h ∙ m)

  landed : (x y : ℕ) → x ≡ y → may_go pc w n t ≡ eqb (moved pc x) t → moved pc y ≡ t → may_go pc w n t ≡ true
  landed x y e h m = h ∙ eq-eqb (moved pc x) t (ap (moved pc) e ∙ m)

  module _ (is-branch : 4 ≤ n → n ≤ 5 → is_branch w ≡ true) where
    pub goes : may_go pc w n t ≡ true → Goes pc w n t
    goes h =
        record {
          jal = (λ j.
              ⊎_elim (λ e. absurd (no_jal w (is-branch (omega arith) (omega arith)) j))
              (λ not_4.
              ⊎_elim (λ e. absurd (no_jal w (is-branch (omega arith) (omega arith)) j))
              (λ not_5. (J-reaches pc w t).0 (lands _ _ refl (at_jal not_4 not_5 j) h))
              (known n 5))
              (known n 4));
          c_j = (λ q g.
              ⊎_elim (λ e. absurd (no_c_j w (is-branch (omega arith) (omega arith)) q g))
              (λ not_4.
              ⊎_elim (λ e. absurd (no_c_j w (is-branch (omega arith) (omega arith)) q g))
              (λ not_5. (CJ-reaches pc w t).0 (lands _ _ refl (at_c_j not_4 not_5 (λ j. absurd (omega arith)) q g) h))
              (known n 5))
              (known n 4));
          taken = (λ e l. (B-reaches pc w t).0 (lands _ _ (branch_long l) (at_5 e) h));
          c_taken = (λ e m. (CB-reaches pc w t).0 (lands _ _ (branch_short m) (at_5 e) h));
          not_taken = (λ e l. sym (lands _ _ (long l) (at_4 e) h));
          c_not_taken = (λ e m. sym (lands _ _ (short m) (at_4 e) h));
        }

    pub may : Goes pc w n t → may_go pc w n t ≡ true
    may g =
        ⊎_elim
        (λ e.
        ⊎_elim (λ l. landed _ _ (long l) (at_4 e) (sym (g.not_taken e l)))
        (λ m. landed _ _ (short (eqb-false _ 3 m)) (at_4 e) (sym (g.c_not_taken e (eqb-false _ 3 m))))
        (known (w % 4) 3))
        (λ not_4.
        ⊎_elim
        (λ e.
        ⊎_elim (λ l. landed _ _ (branch_long l) (at_5 e) ((B-reaches pc w t).1 (g.taken e l)))
        (λ m. landed _ _ (branch_short (eqb-false _ 3 m)) (at_5 e) ((CB-reaches pc w t).1 (g.c_taken e (eqb-false _ 3 m))))
        (known (w % 4) 3))
        (λ not_5.
        ⊎_elim (λ j. landed _ _ refl (at_jal not_4 not_5 j) ((J-reaches pc w t).1 (g.jal j)))
        (λ no-j.
        ⊎_elim
        (λ q.
        ⊎_elim
        (λ f. landed _ _ refl (at_c_j not_4 not_5 (eqb-false _ 0b1101111 no-j) q f) ((CJ-reaches pc w t).1 (g.c_j q f)))
        (λ f. other_funct3 not_4 not_5 (eqb-false _ 0b1101111 no-j) q (eqb-false _ 0b101 f))
        (known (w / 2 ^ 13 % 8) 0b101))
        (λ q. other_quadrant not_4 not_5 (eqb-false _ 0b1101111 no-j) (eqb-false _ 0b01 q))
        (known (w % 4) 0b01))
        (known (w % 128) 0b1101111))
        (known n 5))
        (known n 4)
