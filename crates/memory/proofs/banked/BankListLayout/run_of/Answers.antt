use Rattle.std.proofs.Common.{None, sym, subst, arith}
use Rattle.memory.specs.BankPlaces.{places_by, run_by}
use Rattle.memory.specs.BankRules.{admitted}
use Rattle.memory.specs.Banks.{bank_places}
use Rattle.memory.specs.Layers.{banks_of}
use Rattle.memory.specs.Layouts.{LiesInRun}
use Rattle.memory.proofs.banked.BankListLayout.run_of.Goals as goal

pub returns-in_err-i : goal.returns-in_err-i
returns-in_err-i c =
    subst (LiesInRun (bank_places (banks_of c.args.self.now)) c.args.line) (sym c.from_residual.ensures) (places_by _ c.args.line None (omega arith) c.in_err-i.ensures)

pub returns : goal.returns
returns c =
    let sound = (admitted (banks_of c.args.self.now) c.args.self.now.room c.args.self.now.faultless).sound in
    rw (c.start-begin.ensures, c.as_slice.ensures)
    (run_by (banks_of c.args.self.now) sound c.args.line c.in_ok-i.i c.in_ok-i.ensures)
