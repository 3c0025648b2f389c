use Rattle.std.proofs.Common.{rules}
use Rattle.session.specs.declared.forms.Name.TheVariants as N
use Rattle.session.proofs.Arguments.{arm}
use Rattle.session.proofs.forms.read_arguments.Goals as goal

pub returns-in-CpuStore : goal.returns-in-CpuStore
returns-in-CpuStore c = arm c.args.name N.CpuStore _ _ _ _ c.in-CpuStore.is c.map.ensures.cases c.two_numbers.ensures (λ x f made. search rules)

pub returns-in-CpuLoad : goal.returns-in-CpuLoad
returns-in-CpuLoad c = arm c.args.name N.CpuLoad _ _ _ _ c.in-CpuLoad.is c.map-in-CpuLoad.ensures.cases c.one_number.ensures (λ x f made. search rules)

pub returns-in-Mark : goal.returns-in-Mark
returns-in-Mark c = arm c.args.name N.Mark _ _ _ _ c.in-Mark.is c.map-in-Mark.ensures.cases c.one_number-in-Mark.ensures (λ x f made. search rules)

pub returns-in-RegRead : goal.returns-in-RegRead
returns-in-RegRead c = arm c.args.name N.RegRead _ _ _ _ c.in-RegRead.is c.map-in-RegRead.ensures.cases c.one_number-in-RegRead.ensures (λ x f made. search rules)

pub returns-in-RegWrite : goal.returns-in-RegWrite
returns-in-RegWrite c = arm c.args.name N.RegWrite _ _ _ _ c.in-RegWrite.is c.map-in-RegWrite.ensures.cases c.two_numbers-in-RegWrite.ensures (λ x f made. search rules)

pub returns-in-Pci : goal.returns-in-Pci
returns-in-Pci c = arm c.args.name N.Pci _ _ _ _ c.in-Pci.is c.map-in-Pci.ensures.cases c.one_number-in-Pci.ensures (λ x f made. search rules)

pub returns-in-Log : goal.returns-in-Log
returns-in-Log c = arm c.args.name N.Log _ _ _ _ c.in-Log.is c.map-in-Log.ensures.cases c.no_numbers.ensures (λ x f made. search rules)

pub returns-in-LogClear : goal.returns-in-LogClear
returns-in-LogClear c = arm c.args.name N.LogClear _ _ _ _ c.in-LogClear.is c.map-in-LogClear.ensures.cases c.no_numbers-in-LogClear.ensures (λ x f made. search rules)

pub returns-in-CardRead : goal.returns-in-CardRead
returns-in-CardRead c = arm c.args.name N.CardRead _ _ _ _ c.in-CardRead.is c.map-in-CardRead.ensures.cases c.two_numbers-in-CardRead.ensures (λ x f made. search rules)
