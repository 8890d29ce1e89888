-- What `Places` states. Assumes nothing.
use mathlib.Core.Path.{◌≡◌, refl, ap, ◌∙◌}
use Prim.Native.Nat.{ℕ, suc, ◌+◌, ◌-◌, ◌*◌, ◌/◌, ◌%◌, ◌<◌}
use native.Mathlib.Nat.{mod-lt, mod-mod, mod-add-mod, mod-add-div', add-mul-mod_self_right, suc-mul}
use native.Mathlib.Omega.{arith}
use Rattle.bits.specs.Words.{keep}
use Rattle.machine.specs.Depths.{depth_of, physical_of}
use Rattle.machine.specs.Good.{good_buffer, good_controls, good_of}
use Rattle.machine.specs.Places.{Places}
use Rattle.machine.proofs.DepthLaws.{depth_pos}

-- going up again by 1 + i, of which i is i % d and whole turns of d
back : (w i d : ℕ) → 0 < d → (w % d + (d - 1 - i % d)) + (1 + i) ≡ w % d + suc (i / d) * d
back w i d h =
    let m = mod-lt i h in
    omega (arith, m, suc-mul (i / d) d, mod-add-div' i d)

logical : (code wrptr i : ℕ) → (physical_of code wrptr i + (1 + i)) % depth_of code ≡ wrptr % depth_of code
unfolding physical_of
logical code w i =
    let d = depth_of code in
    mod-add-mod (w % d + (d - 1 - i % d)) d (1 + i)
    ∙ ap (λ (x : ℕ). x % d) (back w i d (depth_pos code))
    ∙ add-mul-mod_self_right (w % d) (suc (i / d)) d
    ∙ mod-mod w d

in_use : (code wrptr i : ℕ) → physical_of code wrptr i < depth_of code
unfolding physical_of
in_use code w i = mod-lt _ (depth_pos code)

pub places : Places
unfolding good_of good_buffer good_controls depth_of keep
places = record { all = refl; window = refl; kept = refl; logical = logical; in_use = in_use; reset = (λ zc. refl) }
