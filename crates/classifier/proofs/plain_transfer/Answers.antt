use Rattle.std.proofs.Common.{arith}
use Rattle.std.proofs.lemmas.Grind.{common_steps}
use Rattle.classifier.specs.Decision.{plain_decision}
use Rattle.classifier.proofs.Sorted.{by_plain_tests}
use Rattle.classifier.proofs.plain_transfer.Goals as goal

pub returns-then-opcode-eq2 : goal.returns-then-opcode-eq2
unfolding plain_decision
returns-then-opcode-eq2 c = grind (arith, common_steps, by_plain_tests)

pub returns-else-opcode-eq2 : goal.returns-else-opcode-eq2
unfolding plain_decision
returns-else-opcode-eq2 c = rw by_plain_tests (grind (arith, common_steps))
