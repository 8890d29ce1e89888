use Rattle.std.proofs.Common.{rules, ◌∙◌}
use Rattle.text.proofs.Digits.{hex_field, hex_past}
use Rattle.text.proofs.hex_digit.Goals as goal

pub returns-then-k-lt16 : goal.returns-then-k-lt16
returns-then-k-lt16 c = c.field64.ensures ∙ hex_field _ _

pub returns-else-k-lt16 : goal.returns-else-k-lt16
returns-else-k-lt16 c = hex_past _ _ (search rules) (search rules)
