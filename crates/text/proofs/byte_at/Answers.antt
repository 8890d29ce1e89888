use Rattle.std.proofs.Common.{rules, sym}
use Rattle.text.proofs.Pages.{byte_fits, byte_past}
use Rattle.text.proofs.byte_at.Goals as goal

pub returns-then-at-bytes : goal.returns-then-at-bytes
returns-then-at-bytes c = sym (byte_fits _ _ (search rules))

pub returns-else-at-bytes : goal.returns-else-at-bytes
returns-else-at-bytes c = sym (byte_past _ _ (search rules))
