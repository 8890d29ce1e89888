-- Digits: those of a word in hexadecimal, and that digits read back as the number that they were made of. Assumes nothing.
use mathlib.Core.Path.{◌≡◌, refl, sym, ap, ◌∙◌}
use mathlib.Core.Bool.{Bool, true, false}
use mathlib.Core.Logic.{◌⊎◌, inl, inr}
use mathlib.Core.List.{List, [], ◌∷◌, ◌++◌}
use Prim.Native.Nat.{ℕ, zero, suc, ◌+◌, ◌-◌, ◌*◌, ◌/◌, ◌%◌, ◌^◌, ◌≤◌, ◌<◌}
use native.Mathlib.Nat.{pow-zero, pow-suc, pow-le-pow_right, mul-zero, mul-suc, zero-mul, one-mul, zero-add, mod-lt, div-eq_of_lt, div-div-eq-div-mul, div-add-mod', div-lt_iff_lt-mul, le-div_iff_mul-le}
use native.Mathlib.Numerals.{sub-one}
use native.Mathlib.Omega.{arith}
use lib.Dec.{ltb}
use lib.ListN.{get_or}
use lib.Pow.{pow-add}
use borrow.Author.Tests.{ltb-true, ltb-false, lt-ltb, le-ltb}
use Rattle.text.specs.Digits.{glyph, digits, number, digit_of, value_from, value_of}

-- a power of a power
power : (b m k : ℕ) → b ^ (m * k) ≡ (b ^ m) ^ k
power b m zero = rw (mul-zero m, pow-zero b, pow-zero (b ^ m))
power b m (suc k) = rw (mul-suc m k, pow-add b (m * k) m, power b m k, pow-suc (b ^ m) k)

-- digit k of a word in hexadecimal is four of its bits, and from the sixteenth on it is 0
pub hex_field : (x k : ℕ) → x / 2 ^ (4 * k) % 2 ^ 4 ≡ x / 16 ^ k % 16
hex_field x k = rw (power 2 4 k)

pub hex_past : (x k : ℕ) → x < 2 ^ 64 → 16 ≤ k → 0 ≡ x / 16 ^ k % 16
hex_past x k h l =
    let p : 16 ^ 16 ≤ 16 ^ k = pow-le-pow_right (omega arith) l in
    let q : x < 16 ^ k = omega arith in
    rw (div-eq_of_lt q)

-- of w digits, those written when l - 1 are left are those written when l were, and digit l - 1
next : (b x w l : ℕ) → suc l ≤ w
    → digits b (w - l) (x / b ^ l) ≡ digits b (w - suc l) (x / b ^ suc l) ++ (glyph (x / b ^ l % b) ∷ [])
unfolding digits
next b x w l h =
    let e : w - l ≡ suc (w - suc l) = omega arith in
    rw (e, div-div-eq-div-mul x (b ^ l) b, ← pow-suc b l)

pub next_digit : (b x w l : ℕ) → 0 < l → l ≤ w
    → digits b (w - (l - 1)) (x / b ^ (l - 1)) ≡ digits b (w - l) (x / b ^ l) ++ (glyph (x / b ^ (l - 1) % b) ∷ [])
next_digit b x w zero h k = absurd (omega arith)
next_digit b x w (suc l) h k = rw sub-one (next b x w l k)

-- a number is below another or not
below : (n m : ℕ) → (n < m) ⊎ (m ≤ n)
below n m = go (ltb n m) refl
  where
    go : (t : Bool) → ltb n m ≡ t → (n < m) ⊎ (m ≤ n)
    go true h = inl (ltb-true n m h)
    go false h = inr (ltb-false n m h)

-- a digit's code reads back as the digit
pub digit_glyph : (d : ℕ) → d < 16 → digit_of (glyph d) ≡ d
unfolding glyph digit_of
digit_glyph d h = go (below d 10)
  where
    go : (d < 10) ⊎ (10 ≤ d) → digit_of (glyph d) ≡ d
    go (inl l) = simp (lt-ltb d 10 l, lt-ltb (48 + d) 58 (omega arith)) (omega arith)
    go (inr l) = simp (le-ltb d 10 l, le-ltb (87 + d) 58 (omega arith)) (omega arith)

-- the value with one more digit
value_more : (b v : ℕ) (s : List ℕ) (g : ℕ) → value_from b v (s ++ (g ∷ [])) ≡ value_from b v s * b + digit_of g
unfolding value_from
value_more b v [] g = refl
value_more b v (h ∷ s) g = value_more b (v * b + digit_of h) s g

-- digits of which the first is not 0
unfoldable pub Leads : List ℕ → Type 0
Leads s = get_or s 0 (glyph 0) ≡ glyph 0 → ⊥

leads_append : (s t : List ℕ) → Leads s → Leads (s ++ t)
unfolding Leads
leads_append [] t h e = h refl
leads_append (g ∷ s) t h e = h e

leads_glyph : (d : ℕ) → 0 < d → d < 16 → Leads (glyph d ∷ [])
unfolding Leads
leads_glyph d p h e =
    let z : d ≡ 0 = sym (digit_glyph d h) ∙ ap digit_of e ∙ digit_glyph 0 (omega arith) in
    omega arith

module _ (b : ℕ) (some : 0 < b) (few : b ≤ 16) where
  -- the last digit of n, after digits that have the value of the rest
  value_last : (n : ℕ) (s : List ℕ) → value_of b s ≡ n / b → value_of b (s ++ (glyph (n % b) ∷ [])) ≡ n
  value_last n s e =
      let l : n % b < 16 = omega (arith, mod-lt n some) in
      rw (value_more b 0 s, e, digit_glyph (n % b) l) (div-add-mod' n b)

  rest : (k n : ℕ) → n < b ^ suc k → n / b < b ^ k
  rest k n h = (div-lt_iff_lt-mul some).1 (rw pow-suc at h)

  -- k digits of a number that has no more read back as the number
  pub digits_value : (k n : ℕ) → n < b ^ k → value_of b (digits b k n) ≡ n
  unfolding digits value_from
  digits_value zero n h = omega (arith, pow-zero b)
  digits_value (suc k) n h = value_last n (digits b k (n / b)) (digits_value k (n / b) (rest k n h))

  -- and so do those with no zeros in front
  value_number : (k n : ℕ) → (n < b) ⊎ (b ≤ n) → value_of b (number b k (n / b)) ≡ n / b → value_of b (number b (suc k) n) ≡ n
  unfolding number value_from
  value_number k n (inl l) e = simp (lt-ltb n b l, digit_glyph n (omega arith), zero-mul b, zero-add n)
  value_number k n (inr l) e = rw (le-ltb n b l) (value_last n (number b k (n / b)) e)

  pub number_value : (k n : ℕ) → n < b ^ k → value_of b (number b k n) ≡ n
  unfolding number value_from
  number_value zero n h = omega (arith, pow-zero b)
  number_value (suc k) n h = value_number k n (below n b) (number_value k (n / b) (rest k n h))

  -- there are no zeros in front
  leads_number : (k n : ℕ) → 0 < n → (n < b) ⊎ (b ≤ n) → (0 < n / b → Leads (number b k (n / b))) → Leads (number b (suc k) n)
  unfolding number
  leads_number k n p (inl l) f = rw (lt-ltb n b l) (leads_glyph n p (omega arith))
  leads_number k n p (inr l) f = rw (le-ltb n b l) (leads_append _ _ (f ((le-div_iff_mul-le some).1 (rw (one-mul b) l))))

  pub number_leads : (k n : ℕ) → 0 < n → n < b ^ k → Leads (number b k n)
  number_leads zero n p h = absurd (omega (arith, pow-zero b))
  number_leads (suc k) n p h = leads_number k n p (below n b) (λ q. number_leads k (n / b) q (rest k n h))

-- a word in sixteen hexadecimal digits, and in decimal
pub hex_value : (x : ℕ) → x < 2 ^ 64 → value_of 16 (digits 16 16 x) ≡ x
hex_value x h = digits_value 16 (omega arith) (omega arith) 16 x (omega arith)

pub decimal_value : (n : ℕ) → n < 2 ^ 64 → value_of 10 (number 10 20 n) ≡ n
decimal_value n h = number_value 10 (omega arith) (omega arith) 20 n (omega arith)
