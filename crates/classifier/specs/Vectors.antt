-- Words whose types are published (docs/RULES.md, T14), table jumps and pop-returns at their bounds, and codes beside them that are
-- none (T21 to T24), as one statement over the definitions.
use Rattle.std.specs.Prelude.{◌≡◌, true, false, ℕ}
use Rattle.classifier.specs.Transfers.{transfer_of, type_of}

-- the types of a word, a branch as taken, with the switch off and on
abbrev Types : ℕ → ℕ → ℕ → Type 0
Types w off on = (type_of (transfer_of false w) true ≡ off) × (type_of (transfer_of true w) true ≡ on)

-- the type of a word whatever the switch, and one that a word has with the switch on alone
abbrev Always : ℕ → ℕ → Type 0
Always w n = Types w n n

abbrev Switched : ℕ → ℕ → Type 0
Switched w n = Types w 0 n

abbrev pub Vectors : Type 0
Vectors =
    Always 0x000000EF 9
    × Always 0x00008067 13
    × Always 0x000280E7 12
    × Always 0x9282 12
    × Always 0x9082 8
    × Always 0x8082 13
    × Always 0x00030067 10
    × Always 0x00038367 14
    × Always 0x0000036F 15
    × Always 0x00008367 13
    × Always 0x9002 0
    × Switched 0xA002 11
    × Switched 0xA07E 11
    × Switched 0xA082 9
    × Switched 0xA3FE 9
    × Switched 0xBE42 13
    × Switched 0xBEFE 13
    × Switched 0xBC42 13
    × Switched 0xBCFE 13
    × Always 0xA402 0
    × Always 0xA802 0
    × Always 0xBD42 0
    × Always 0xBF42 0
    × Always 0xBE3E 0
    × Always 0xBC3E 0
    × Always 0xB842 0
    × Always 0xBA42 0
    × Always 0xAC22 0
    × Always 0xAC62 0
