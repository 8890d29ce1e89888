-- Text on a page: it is written piece by piece, the page keeps its length, and where there is room all of it is written.
-- Assumes nothing.
use mathlib.Core.Path.{◌≡◌, refl, sym, ap, subst, ◌∙◌}
use mathlib.Core.Bool.{Bool, true, false}
use mathlib.Core.List.{List, [], ◌∷◌, ◌++◌}
use Prim.Native.Nat.{ℕ, suc, ◌+◌, ◌-◌, ◌≤◌, ◌<◌}
use native.Mathlib.Nat.{add-zero, add-suc, suc-add}
use native.Mathlib.Numerals.{add-one}
use native.Mathlib.Omega.{arith}
use lib.Dec.{ltb}
use lib.ListN.{length, take, drop, set, length-set}
use lib.Seq.{sets, sets-eq}
use borrow.Rule.Slice.PartMut.{put_mid}
use Rattle.std.proofs.lemmas.List.{drop-drop, append_assoc}
use Rattle.std.proofs.Common.{zero-le}
use borrow.Author.Tests.{ltb-true, lt-ltb, le-ltb}
use Rattle.std.specs.Prelude.{if◌then◌else◌}
use Rattle.text.specs.Page.{Page, page, with_byte, written}

-- a byte within the page, and one past its end
pub byte_fits : (p : Page) (b : ℕ) → p.at < length p.bytes → with_byte p b ≡ page (p.at + 1) (set p.bytes p.at b)
unfolding with_byte
byte_fits p b h = simp (lt-ltb _ _ h)

pub byte_past : (p : Page) (b : ℕ) → length p.bytes ≤ p.at → with_byte p b ≡ p
unfolding with_byte
byte_past p b h = simp (le-ltb _ _ h)

-- one text after the other
pub written_append : (p : Page) (s t : List ℕ) → written p (s ++ t) ≡ written (written p s) t
unfolding written
written_append p [] t = refl
written_append p (b ∷ s) t = written_append (with_byte p b) s t

-- one more byte
pub written_byte : (p : Page) (s : List ℕ) (b : ℕ) → written p (s ++ (b ∷ [])) ≡ with_byte (written p s) b
unfolding written
written_byte p s b = written_append p s (b ∷ [])

-- the page keeps its length
byte_length : (p : Page) (b : ℕ) → length (with_byte p b).bytes ≡ length p.bytes
unfolding with_byte
byte_length p b = go (ltb p.at (length p.bytes))
  where
    go : (t : Bool) → length (if t then page (p.at + 1) (set p.bytes p.at b) else p).bytes ≡ length p.bytes
    go true = length-set p.bytes p.at b
    go false = refl

pub written_length : (p : Page) (s : List ℕ) → length (written p s).bytes ≡ length p.bytes
unfolding written
written_length p [] = refl
written_length p (b ∷ s) = written_length (with_byte p b) s ∙ byte_length p b

-- a place within the page stays within it
Within : Page → Type 0
Within p = p.at ≤ length p.bytes

byte_stays : (p : Page) (b : ℕ) → Within p → Within (with_byte p b)
unfolding with_byte Within
byte_stays p b h = go (ltb p.at (length p.bytes)) refl
  where
    go : (t : Bool) → ltb p.at (length p.bytes) ≡ t
        → Within (if t then page (p.at + 1) (set p.bytes p.at b) else p)
    go true e = rw length-set (omega (arith, ltb-true p.at (length p.bytes) e))
    go false e = h

text_stays : (p : Page) (s : List ℕ) → Within p → Within (written p s)
unfolding written
text_stays p [] h = h
text_stays p (b ∷ s) h = text_stays (with_byte p b) s (byte_stays p b h)

-- the same of what a call answers, as `&out[..n]` asks: `search within` goes back from call to call
pub byte_within : (n m b : ℕ) (k l : List ℕ) → page m l ≡ with_byte (page n k) b → n ≤ length k → m ≤ length l
unfolding Within
byte_within n m b k l e h = subst Within (sym e) (byte_stays (page n k) b h)

pub text_within : (n m : ℕ) (k l s : List ℕ) → page m l ≡ written (page n k) s → n ≤ length k → m ≤ length l
unfolding Within
text_within n m k l s e h = subst Within (sym e) (text_stays (page n k) s h)

pub ruleset within = (byte_within, text_within, zero-le)

-- where there is room, each byte is stored
stored : (n : ℕ) (l s : List ℕ) → n + length s ≤ length l → written (page n l) s ≡ page (n + length s) (sets l n s)
unfolding written
stored n l [] h = rw (add-zero n)
stored n l (b ∷ s) h =
    let e : with_byte (page n l) b ≡ page (n + 1) (set l n b) = byte_fits (page n l) b (omega arith) in
    let k : suc n + length s ≤ length (set l n b) = simp length-set (omega arith) in
    rw (e, add-one n, add-suc n (length s), ← suc-add n (length s)) (stored (suc n) (set l n b) s k)

-- where there is room, all of the text is written, and nothing else changes
pub written_whole : (p : Page) (s : List ℕ) → p.at + length s ≤ length p.bytes
    → written p s ≡ page (p.at + length s) (take p.at p.bytes ++ s ++ drop (p.at + length s) p.bytes)
written_whole p s h = stored p.at p.bytes s h ∙ ap (page (p.at + length s)) (sets-eq s p.bytes p.at h)

pub written_at : (p : Page) (s : List ℕ) → p.at + length s ≤ length p.bytes → (written p s).at ≡ p.at + length s
written_at p s h = ap (λ (q : Page). q.at) (written_whole p s h)

-- a text that is copied into its part of the buffer is written
pub in_part : (n : ℕ) (l r s : List ℕ) → n ≤ length l → length s ≤ length l - n → r ≡ s
    → page (n + length s) (put_mid n (n + length s - n) l r) ≡ written (page n l) s
in_part n l r s h k e =
    let m : n + length s - n ≡ length s = omega arith in
    let f : n + length s ≤ length l = omega arith in
    rw (e, m, drop-drop (length s) n l, ← append_assoc (take n l) s (drop (n + length s) l)) (sym (written_whole (page n l) s f))
