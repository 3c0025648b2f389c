use Rattle.memory.proofs.LongwordRule.{by_the_rule}
use Rattle.memory.proofs.longwords_read_by_the_rule.Goals as goal

pub returns : goal.returns
returns c = by_the_rule
