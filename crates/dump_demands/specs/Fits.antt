-- What it is that an entry of a dump fits firmware, and what it breaks if it does not (docs/RULES.md, F), said from the papers by itself: about
-- words it uses the classifier's promise alone, and nothing of the other definitions of the check.
use Rattle.std.specs.Prelude.{ℕ, suc, ◌+◌, ◌-◌, ◌*◌, ◌/◌, ◌%◌, ◌^◌, ◌≤◌, ◌<◌, ◌≡◌, Bool, List, [], ◌∷◌, ◌⊎◌, length, get_or}
use Rattle.classifier.specs.Promise.{HasType}

-- code bytes from a base address on, and whether the board has Zcmp and Zcmt
pub record Firmware : Type 0 where
  pub code : List ℕ
  pub base : ℕ
  pub zc : Bool

-- where the image ends
abbrev pub end : Firmware → ℕ
end f = f.base + length f.code

-- the byte at an address
abbrev pub byte : Firmware → ℕ → ℕ
byte f a = get_or f.code (a - f.base) 0

-- an entry: V, source and target without their bits 0, which are V and MISP, and TYPE
pub record Entry : Type 0 where
  pub valid : ℕ
  pub pc : ℕ
  pub target : ℕ
  pub type_number : ℕ

-- entry i of a dump, three words to an entry: ctrsource, ctrtarget, ctrdata
abbrev pub entry : List ℕ → ℕ → Entry
entry ws i =
    record {
      valid = get_or ws (3 * i) 0 % 2;
      pc = get_or ws (3 * i) 0 / 2 * 2;
      target = get_or ws (3 * i + 1) 0 / 2 * 2;
      type_number = get_or ws (3 * i + 2) 0 % 16;
    }

abbrev pub Valid : Entry → Type 0
Valid e = e.valid ≡ 1

-- the source is outside the image
abbrev pub Outside : Firmware → ℕ → Type 0
Outside f a = (a < f.base) ⊎ (end f ≤ a)

-- the word is cut off by its end: fewer than two bytes are left, or the low bits are 11 and fewer than four are
abbrev pub CutOff : Firmware → ℕ → Type 0
CutOff f a = (f.base ≤ a) × (a < end f) × ((end f < a + 2) ⊎ ((byte f a % 4 ≡ 3) × (end f < a + 4)))

-- the word at an address, little-endian: of two bytes, or of four if the low bits are 11
pub data WordAt (f : Firmware) (a : ℕ) : ℕ → Type 0 where
  two : f.base ≤ a → a + 2 ≤ end f → (byte f a % 4 ≡ 3 → ⊥) → WordAt f a (byte f a + 256 * byte f (a + 1))
  four : f.base ≤ a → a + 4 ≤ end f → byte f a % 4 ≡ 3
      → WordAt f a (byte f a + 256 * byte f (a + 1) + 65536 * byte f (a + 2) + 16777216 * byte f (a + 3))

-- the bits of a word at these places, the first of them lowest
abbrev pub gathered : ℕ → List ℕ → ℕ
gathered w [] = 0
gathered w (p ∷ ps) = w / 2 ^ p % 2 + 2 * gathered w ps

-- From pc by an offset, wrapping at 64 bits. The offset is even and a signed number: its bits from bit 1 up lie at these places of the word, and
-- the next one is its sign, which counts as much the other way.
abbrev pub Reaches : ℕ → ℕ → List ℕ → ℕ → ℕ → Type 0
Reaches pc w places sign target =
    (target < 2 ^ 64)
    × ((pc + 2 * gathered w places) % 2 ^ 64 ≡ (target + 2 ^ suc (length places) * (w / 2 ^ sign % 2)) % 2 ^ 64)

-- the places of bits 1 to 19 of JAL's offset, 1 to 11 of a branch's, 1 to 10 of C.J's and 1 to 7 of C.BEQZ's and C.BNEZ's
abbrev pub J·places : List ℕ
J·places =
    21 ∷ 22 ∷ 23 ∷ 24 ∷ 25 ∷ 26 ∷ 27 ∷ 28 ∷ 29 ∷ 30 ∷ 20 ∷ 12 ∷ 13 ∷ 14 ∷ 15 ∷ 16 ∷ 17 ∷ 18 ∷ 19 ∷ []

abbrev pub B·places : List ℕ
B·places = 8 ∷ 9 ∷ 10 ∷ 11 ∷ 25 ∷ 26 ∷ 27 ∷ 28 ∷ 29 ∷ 30 ∷ 7 ∷ []

abbrev pub CJ·places : List ℕ
CJ·places = 3 ∷ 4 ∷ 5 ∷ 11 ∷ 2 ∷ 7 ∷ 6 ∷ 9 ∷ 10 ∷ 8 ∷ []

abbrev pub CB·places : List ℕ
CB·places = 3 ∷ 4 ∷ 10 ∷ 11 ∷ 2 ∷ 5 ∷ 6 ∷ []

-- where a word of type n at pc goes: JAL, C.J and taken branches to pc plus offset, a branch not taken to pc plus its length; all others anywhere
pub record Goes (pc w n target : ℕ) : Type 0 where
  pub jal : w % 128 ≡ 0b1101111 → Reaches pc w J·places 31 target
  pub c_j : w % 4 ≡ 0b01 → w / 2 ^ 13 % 8 ≡ 0b101 → Reaches pc w CJ·places 12 target
  pub taken : n ≡ 5 → w % 4 ≡ 3 → Reaches pc w B·places 31 target
  pub c_taken : n ≡ 5 → (w % 4 ≡ 3 → ⊥) → Reaches pc w CB·places 12 target
  pub not_taken : n ≡ 4 → w % 4 ≡ 3 → target ≡ (pc + 4) % 2 ^ 64
  pub c_not_taken : n ≡ 4 → (w % 4 ≡ 3 → ⊥) → target ≡ (pc + 2) % 2 ^ 64

-- An entry fits that is an exception, an interrupt or a trap return; and one whose source has a word of its type, taken or not, that goes to its
-- target. A word that is no transfer has type 0, which fits nothing.
pub data Fits (f : Firmware) (e : Entry) : Type 0 where
  event : 1 ≤ e.type_number → e.type_number ≤ 3 → Fits f e
  transfer : (w : ℕ) (taken : Bool) → WordAt f e.pc w → HasType f.zc w taken e.type_number → 0 < e.type_number
      → Goes e.pc w e.type_number e.target → Fits f e

-- types that words have: of these the source is looked at
abbrev pub OfWord : ℕ → Type 0
OfWord n = ((4 ≤ n) × (n ≤ 5)) ⊎ ((8 ≤ n) × (n ≤ 15))

-- the reasons why one does not: 1 source outside the image, 2 word cut off by its end, 3 type unlike the word's, 4 target wrong. Types 0, 6 and 7
-- break the third, whatever the source. An entry may break several; the first counts.
pub data Breaks (f : Firmware) (e : Entry) : ℕ → Type 0 where
  outside : OfWord e.type_number → Outside f e.pc → Breaks f e 1
  cut_off : OfWord e.type_number → CutOff f e.pc → Breaks f e 2
  never : (e.type_number ≡ 0) ⊎ (e.type_number ≡ 6) ⊎ (e.type_number ≡ 7) → Breaks f e 3
  unlike : (w : ℕ) → OfWord e.type_number → WordAt f e.pc w → ((taken : Bool) → HasType f.zc w taken e.type_number → ⊥) → Breaks f e 3
  wrong : (w : ℕ) → OfWord e.type_number → WordAt f e.pc w → (Goes e.pc w e.type_number e.target → ⊥) → Breaks f e 4
