use Rattle.std.proofs.Common.{◌%◌, ◌∙◌, length, slice_index_or, sym, ap, arith}
use Rattle.memory.specs.BankPlaces.{held_by}
use Rattle.memory.specs.BankRules.{admitted}
use Rattle.memory.specs.Banks.{holds, nth}
use Rattle.memory.specs.Layers.{banks_of}
use Rattle.memory.proofs.bank_list.BankList.find.Goals as goal

pub returns-then-answers : goal.returns-then-answers
returns-then-answers c =
    let sound = (admitted (banks_of c.args.self.now) c.args.self.now.room c.args.self.now.faultless).sound in
    let guess = slice_index_or c.args.self.now.guesses (c.wrapping_shr.result % 64) 0 in
    held_by (banks_of c.args.self.now) sound guess c.args.address
    (omega (arith, c.if-guess-banks.true, ap length c.as_slice-banks.ensures))
    (ap (λ banks. holds (nth banks guess) c.args.address) (sym c.as_slice-banks.ensures) ∙ sym c.if-answers.ensures)
