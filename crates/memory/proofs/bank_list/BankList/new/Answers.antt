use Rattle.std.proofs.Common.{sym, ap, ◌∙◌}
use Rattle.std.specs.Result.{result_err}
use Rattle.memory.specs.BankRules.{admitted}
use Rattle.memory.proofs.GuessedBanks.{shift_fits}
use Rattle.memory.proofs.bank_list.BankList.new.Goals as goal

pub guesses_of-requires : goal.guesses_of-requires
guesses_of-requires c =
    let ok = admitted c.args.banks.now c.args.n (sym c.check.ensures ∙ ap result_err c.in_ok-check.was) in
    shift_fits c.args.banks.now c.smallest_bits-shift.result c.smallest_bits-shift.ensures ok.sound ok.counted.0
