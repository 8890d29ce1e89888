-- One of several lines: what is left of it from a byte on. Assumes nothing.
use mathlib.Core.Path.{◌≡◌, refl, sym, ap, ◌∙◌}
use Prim.Native.Nat.{ℕ, ◌+◌, ◌<◌, ◌≤◌}
use mathlib.Core.List.{List, ◌∷◌}
use native.Mathlib.Numerals.{add-one}
use lib.ListN.{length, get_or, drop, drop_of_length-le}
use lib.Seq.{drop-cons}
use borrow.Author.Tests.{eq-eqb, ne_eqb}
use Rattle.text.specs.Page.{Page, with_byte, written}
use Rattle.history.specs.Lines.{newline, line_from}

-- a byte that ends a line, one of the line asked for, and one of another line
end_first : (b k n : ℕ) (s : List ℕ) → b ≡ newline → line_from k n (b ∷ s) ≡ line_from (k + 1) n s
unfolding line_from
end_first b k n s h = rw (eq-eqb b newline h)

asked_first : (b k n : ℕ) (s : List ℕ) → (b ≡ newline → ⊥) → k ≡ n → line_from k n (b ∷ s) ≡ b ∷ line_from k n s
unfolding line_from
asked_first b k n s h e = rw (ne_eqb b newline h, eq-eqb k n e)

other_first : (b k n : ℕ) (s : List ℕ) → (b ≡ newline → ⊥) → (k ≡ n → ⊥) → line_from k n (b ∷ s) ≡ line_from k n s
unfolding line_from
other_first b k n s h e = rw (ne_eqb b newline h, ne_eqb k n e)

-- what is left from byte i on, which is that byte and what is left after it
left : (x p : Page) (s : List ℕ) (k n i : ℕ) → x ≡ written p (line_from k n (drop i s)) → i < length s
    → x ≡ written p (line_from k n (get_or s i 0 ∷ drop (i + 1) s))
left x p s k n i e h = e ∙ rw (drop-cons s i 0 h, add-one i) refl

-- the same, once byte i is done: it ends a line, is put, or is passed over
pub ended : (x p : Page) (s : List ℕ) (k n i : ℕ) → x ≡ written p (line_from k n (drop i s)) → i < length s
    → get_or s i 0 ≡ newline → x ≡ written p (line_from (k + 1) n (drop (i + 1) s))
ended x p s k n i e h b = left x p s k n i e h ∙ ap (written p) (end_first _ k n _ b)

pub put : (x p q : Page) (s : List ℕ) (k n i : ℕ) → x ≡ written p (line_from k n (drop i s)) → q ≡ with_byte p (get_or s i 0)
    → i < length s → (get_or s i 0 ≡ newline → ⊥) → k ≡ n → x ≡ written q (line_from k n (drop (i + 1) s))
unfolding written
put x p q s k n i e f h b l =
    left x p s k n i e h ∙ ap (written p) (asked_first _ k n _ b l) ∙ ap (λ (r : Page). written r (line_from k n (drop (i + 1) s))) (sym f)

pub passed : (x p : Page) (s : List ℕ) (k n i : ℕ) → x ≡ written p (line_from k n (drop i s)) → i < length s
    → (get_or s i 0 ≡ newline → ⊥) → (k ≡ n → ⊥) → x ≡ written p (line_from k n (drop (i + 1) s))
passed x p s k n i e h b l = left x p s k n i e h ∙ ap (written p) (other_first _ k n _ b l)

-- nothing is left
pub none : (x p : Page) (s : List ℕ) (k n i : ℕ) → x ≡ written p (line_from k n (drop i s)) → length s ≤ i → p ≡ x
unfolding written line_from
none x p s k n i e l = sym (e ∙ ap (λ (t : List ℕ). written p (line_from k n t)) (drop_of_length-le s l))
