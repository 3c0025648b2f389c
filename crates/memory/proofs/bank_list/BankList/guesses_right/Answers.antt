use Rattle.memory.specs.BankRules.{admitted}
use Rattle.memory.specs.Layers.{banks_of}
use Rattle.memory.proofs.GuessedBanks.{right}
use Rattle.memory.proofs.bank_list.BankList.guesses_right.Goals as goal

pub returns : goal.returns
returns c =
    let list = c.args.self.now in
    right (banks_of list) list.shift list.blocks (admitted (banks_of list) list.room list.faultless).sound list.guesses list.guessed
