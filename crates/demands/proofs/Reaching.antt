-- What a CSR number reaches, by the definition's tests. Assumes nothing.
use Prim.Native.Nat.{ℕ, zero, suc, ◌+◌, ◌-◌, ◌≤◌}
use mathlib.Core.Path.{◌≡◌, refl, sym, ap, subst, ◌∙◌}
use mathlib.Core.Bool.{Bool, true, false, ◌&&◌, false≢true}
use mathlib.Core.Logic.{◌⊎◌, inl, inr, ⊎_elim}
use native.Mathlib.Omega.{arith}
use lib.Dec.{eqb, leb}
use borrow.Author.Tests.{eqb-true, leb-true}
use Rattle.std.specs.Prelude.{if◌then◌else◌}
use Rattle.bits.specs.Words.{is_from_to}
use Rattle.csr.specs.Numbers.{supervisor_register, guest_register, register_of}
use Rattle.csr.specs.declared.Csr.{Csr}
use Rattle.csr.specs.declared.Csr.TheVariants.{Control, Select, Ireg, Depth, Status, Unlisted}
use Rattle.csr.specs.declared.View.TheVariants.{Machine, Supervisor, Guest}
use Rattle.demands.specs.Registers.{Reaches}

-- the registers that some number reaches
abbrev pub is_there : Csr → Bool
is_there (Control v) = true
is_there (Select Machine) = false
is_there (Select Supervisor) = true
is_there (Select Guest) = true
is_there (Ireg Machine k) = false
is_there (Ireg Supervisor k) = true
is_there (Ireg Guest k) = true
is_there Depth = true
is_there Status = true
is_there Unlisted = false

-- a number that reaches a register, by the definition, is one of these
pub reaches_is : {n : ℕ} {g : Csr} → Reaches n g → (register_of n ≡ g) × (is_there g ≡ true)
unfolding register_of supervisor_register guest_register
reaches_is Reaches.sctrctl = (refl, refl)
reaches_is Reaches.sctrstatus = (refl, refl)
reaches_is Reaches.sctrdepth = (refl, refl)
reaches_is Reaches.vsctrctl = (refl, refl)
reaches_is Reaches.mctrctl = (refl, refl)
reaches_is Reaches.siselect = (refl, refl)
reaches_is Reaches.sireg = (refl, refl)
reaches_is Reaches.sireg2 = (refl, refl)
reaches_is Reaches.sireg3 = (refl, refl)
reaches_is Reaches.sireg4 = (refl, refl)
reaches_is Reaches.sireg5 = (refl, refl)
reaches_is Reaches.sireg6 = (refl, refl)
reaches_is Reaches.vsiselect = (refl, refl)
reaches_is Reaches.vsireg = (refl, refl)
reaches_is Reaches.vsireg2 = (refl, refl)
reaches_is Reaches.vsireg3 = (refl, refl)
reaches_is Reaches.vsireg4 = (refl, refl)
reaches_is Reaches.vsireg5 = (refl, refl)
reaches_is Reaches.vsireg6 = (refl, refl)

-- and the way back
abbrev Found : ℕ → Csr → Type 0
Found n g = (g ≡ Unlisted) ⊎ Reaches n g

-- a register at a number that n was found to be
at_key : (n k : ℕ) (g : Csr) → eqb n k ≡ true → Reaches k g → Found n g
at_key n k g h p = inr (subst (λ (j : ℕ). Reaches j g) (sym (eqb-true n k h)) p)

-- three numbers in a row, the first of them j above a base
in_row : (first base j n : ℕ) (g : ℕ → Csr) → first ≡ base + j → is_from_to first (first + 2) n ≡ true
    → Reaches first (g j) → Reaches (first + 1) (g (j + 1)) → Reaches (first + 2) (g (j + 2)) → Found n (g (n - base))
in_row first base j n g f h a b c = go (n - first) (omega (arith, l, u)) (omega (arith, l, u))
  where
    two : (x y : Bool) → (x && y) ≡ true → (x ≡ true) × (y ≡ true)
    two true true e = (refl, refl)
    two true false e = absurd (false≢true e)
    two false y e = absurd (false≢true e)

    l : first ≤ n
    l = leb-true first n (two (leb first n) (leb n (first + 2)) h).0

    u : n ≤ first + 2
    u = leb-true n (first + 2) (two (leb first n) (leb n (first + 2)) h).1

    moved : (m i : ℕ) → m ≡ n → i ≡ n - base → Reaches m (g i) → Found n (g (n - base))
    moved m i e q p = inr (subst (λ (k : ℕ). Reaches n (g k)) q (subst (λ (k : ℕ). Reaches k (g i)) e p))

    go : (k : ℕ) → n ≡ first + k → k ≤ 2 → Found n (g (n - base))
    go zero e m = moved first j (omega (arith, e)) (omega (arith, e, f)) a
    go (suc zero) e m = moved (first + 1) (j + 1) (omega (arith, e)) (omega (arith, e, f)) b
    go (suc (suc zero)) e m = moved (first + 2) (j + 2) (omega (arith, e)) (omega (arith, e, f)) c
    go (suc (suc (suc k))) e m = absurd (omega (arith, m))

module _ (n : ℕ) where
  supervisor : Found n (supervisor_register n)
  unfolding supervisor_register
  supervisor =
      go (eqb n 0x14E) refl (eqb n 0x14F) refl (eqb n 0x150) refl (is_from_to 0x151 0x153 n) refl (is_from_to 0x155 0x157 n) refl (eqb n 0x15F) refl
    where
      go : (a : Bool) → eqb n 0x14E ≡ a → (b : Bool) → eqb n 0x14F ≡ b → (c : Bool) → eqb n 0x150 ≡ c
          → (d : Bool) → is_from_to 0x151 0x153 n ≡ d → (e : Bool) → is_from_to 0x155 0x157 n ≡ e → (f : Bool) → eqb n 0x15F ≡ f
          → Found n (if a then Control Supervisor else (if b then Status else (if c then Select Supervisor else (if d then Ireg Supervisor (n - 0x151)
          else (if e then Ireg Supervisor (n - 0x152) else (if f then Depth else Unlisted))))))
      go true p b q c r d s e t f u = at_key n 0x14E (Control Supervisor) p Reaches.sctrctl
      go false p true q c r d s e t f u = at_key n 0x14F Status q Reaches.sctrstatus
      go false p false q true r d s e t f u = at_key n 0x150 (Select Supervisor) r Reaches.siselect
      go false p false q false r true s e t f u = in_row 0x151 0x151 0 n (Ireg Supervisor) refl s Reaches.sireg Reaches.sireg2 Reaches.sireg3
      go false p false q false r false s true t f u = in_row 0x155 0x152 3 n (Ireg Supervisor) refl t Reaches.sireg4 Reaches.sireg5 Reaches.sireg6
      go false p false q false r false s false t true u = at_key n 0x15F Depth u Reaches.sctrdepth
      go false p false q false r false s false t false u = inl refl

  guest : Found n (guest_register n)
  unfolding guest_register
  guest = go (eqb n 0x24E) refl (eqb n 0x250) refl (is_from_to 0x251 0x253 n) refl (is_from_to 0x255 0x257 n) refl
    where
      go : (a : Bool) → eqb n 0x24E ≡ a → (b : Bool) → eqb n 0x250 ≡ b
          → (d : Bool) → is_from_to 0x251 0x253 n ≡ d → (e : Bool) → is_from_to 0x255 0x257 n ≡ e
          → Found n (if a then Control Guest else (if b then Select Guest else (if d then Ireg Guest (n - 0x251)
          else (if e then Ireg Guest (n - 0x252) else Unlisted))))
      go true p b q d s e t = at_key n 0x24E (Control Guest) p Reaches.vsctrctl
      go false p true q d s e t = at_key n 0x250 (Select Guest) q Reaches.vsiselect
      go false p false q true s e t = in_row 0x251 0x251 0 n (Ireg Guest) refl s Reaches.vsireg Reaches.vsireg2 Reaches.vsireg3
      go false p false q false s true t = in_row 0x255 0x252 3 n (Ireg Guest) refl t Reaches.vsireg4 Reaches.vsireg5 Reaches.vsireg6
      go false p false q false s false t = inl refl

  pub reached : Found n (register_of n)
  unfolding register_of
  reached = go (is_from_to 0 0x1FF n) (is_from_to 0x200 0x2FF n) (eqb n 0x34E) refl
    where
      go : (a b c : Bool) → eqb n 0x34E ≡ c
          → Found n (if a then supervisor_register n else (if b then guest_register n else (if c then Control Machine else Unlisted)))
      go true b c p = supervisor
      go false true c p = guest
      go false false true p = at_key n 0x34E (Control Machine) p Reaches.mctrctl
      go false false false p = inl refl

  -- a test that Unlisted does not pass is passed by a register that is reached
  pub reach : (test : Csr → Bool) → test Unlisted ≡ false → test (register_of n) ≡ true → Reaches n (register_of n)
  reach test z h = ⊎_elim (λ e. absurd (false≢true (sym z ∙ ap test (sym e) ∙ h))) (λ p. p) reached

  pub passes : (test : Csr → Bool) {g : Csr} → Reaches n g → test g ≡ true → test (register_of n) ≡ true
  passes test p h = ap test (reaches_is p).0 ∙ h
