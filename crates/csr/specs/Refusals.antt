-- When each number is given, said without the order of the steps. Proved in proofs/.
use Rattle.std.specs.Prelude.{ℕ, ◌≤◌, ◌≡◌, Bool, not, ◌&&◌, ◌||◌, eqb}
use Rattle.machine.specs.Answers.{number_of}
use Rattle.machine.specs.Modes.{is_u, is_m, is_vu, is_vs}
use Rattle.machine.specs.declared.Mode.TheVariants.{S, VS}
use Rattle.machine.specs.declared.Registers.{Registers}
use Rattle.csr.specs.Steps.{facts_of, refusal_of}
use Rattle.csr.specs.declared.View.{View}
use Rattle.csr.specs.declared.View.TheVariants.{Supervisor, Guest}
use Rattle.csr.specs.declared.Csr.TheVariants.{Select}
use Rattle.csr.specs.declared.Facts.{Facts}

-- 1, illegal instruction: the number is listed, and the access is from U, or to a register of M alone below M, or below M to a
-- gated target while mstateen0.CTR is 0
abbrev pub is_illegal : Registers → Facts → Bool
is_illegal r f =
    not f.unlisted
    && ((is_u r.mode || (f.machine && not (is_m r.mode)))
    || (not (is_m r.mode) && (not r.enables.mstateen0 && f.gated)))

-- 2, virtual instruction: the number is listed and the access not illegal, and it is from VU, or from VS to a barred register or
-- to a gated target while hstateen0.CTR is 0
abbrev pub is_virtual_instruction : Registers → Facts → Bool
is_virtual_instruction r f =
    not f.unlisted
    && (not (is_illegal r f)
    && (is_vu r.mode || (is_vs r.mode && (f.barred || (not r.enables.hstateen0 && f.gated)))))

-- 3: the number is not listed, or nothing else speaks against the access and its selection is outside the window
abbrev pub is_missing : Registers → Facts → Bool
is_missing r f = f.unlisted || (not (is_illegal r f) && (not (is_virtual_instruction r f) && f.outside))

pub record Refusals (r : Registers) (f : Facts) : Type 0 where
  pub illegal : eqb (number_of (refusal_of r f)) 1 ≡ is_illegal r f
  pub virtual : eqb (number_of (refusal_of r f)) 2 ≡ is_virtual_instruction r f
  pub missing : eqb (number_of (refusal_of r f)) 3 ≡ is_missing r f
  pub no_other : number_of (refusal_of r f) ≤ 3

-- the number of an access to a select register
abbrev number : Registers → View → ℕ
number r v = number_of (refusal_of r (facts_of r (Select v)))

-- the state enables are not asked of the select registers: S reaches both, and VS siselect, whatever they are
pub record Selects (r : Registers) : Type 0 where
  pub from_s : r.mode ≡ S → (number r Supervisor ≡ 0) × (number r Guest ≡ 0)
  pub from_vs : r.mode ≡ VS → (number r Supervisor ≡ 0) × (number r Guest ≡ 2)
