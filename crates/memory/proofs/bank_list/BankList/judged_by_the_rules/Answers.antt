use Rattle.memory.specs.BankRules.{judged}
use Rattle.memory.proofs.bank_list.BankList.judged_by_the_rules.Goals as goal

pub returns : goal.returns
returns c = judged
