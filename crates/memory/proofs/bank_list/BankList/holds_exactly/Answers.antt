use Rattle.memory.specs.Layers.{banks_of}
use Rattle.memory.specs.BankRules.{admitted}
use Rattle.memory.specs.BankPlaces.{exact}
use Rattle.memory.proofs.bank_list.BankList.holds_exactly.Goals as goal

pub returns : goal.returns
returns c bytes =
    let list = c.args.self.now in
    let ok = admitted (banks_of list) list.room list.faultless in
    exact (banks_of list) ok.sound list.room bytes ok.room
