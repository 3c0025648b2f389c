use Rattle.std.proofs.Common.{ap}
use Rattle.session.specs.Forms.{asked}
use Rattle.session.proofs.Performing.{made_in, refused_in}
use Rattle.session.proofs.session.Session.perform.Goals as goal

pub returns-in_err-cpu_store-in-CpuStore : goal.returns-in_err-cpu_store-in-CpuStore
returns-in_err-cpu_store-in-CpuStore c = refused_in _ _ _ _ _ c.from_residual.ensures.1 (made_in _ _ _ _ _ (ap asked c.in-CpuStore.is) c.in_err-cpu_store-in-CpuStore.ensures)

pub returns-in_ok-cpu_store-in-CpuStore : goal.returns-in_ok-cpu_store-in-CpuStore
returns-in_ok-cpu_store-in-CpuStore c = made_in _ _ _ _ _ (ap asked c.in-CpuStore.is) c.in_ok-cpu_store-in-CpuStore.ensures

pub returns-in_err-cpu_load-in-CpuLoad : goal.returns-in_err-cpu_load-in-CpuLoad
returns-in_err-cpu_load-in-CpuLoad c = refused_in _ _ _ _ _ c.from_residual-in_err-cpu_load-in-CpuLoad.ensures.1 (made_in _ _ _ _ _ (ap asked c.in-CpuLoad.is) c.in_err-cpu_load-in-CpuLoad.ensures)

pub returns-in_ok-cpu_load-in-CpuLoad : goal.returns-in_ok-cpu_load-in-CpuLoad
returns-in_ok-cpu_load-in-CpuLoad c = made_in _ _ _ _ _ (ap asked c.in-CpuLoad.is) c.in_ok-cpu_load-in-CpuLoad.ensures

pub returns-in_err-mark-in-Mark : goal.returns-in_err-mark-in-Mark
returns-in_err-mark-in-Mark c = refused_in _ _ _ _ _ c.from_residual-in_err-mark-in-Mark.ensures.1 (made_in _ _ _ _ _ (ap asked c.in-Mark.is) c.in_err-mark-in-Mark.ensures)

pub returns-in_ok-mark-in-Mark : goal.returns-in_ok-mark-in-Mark
returns-in_ok-mark-in-Mark c = made_in _ _ _ _ _ (ap asked c.in-Mark.is) c.in_ok-mark-in-Mark.ensures

pub returns-in_err-reg_read-in-RegRead : goal.returns-in_err-reg_read-in-RegRead
returns-in_err-reg_read-in-RegRead c = refused_in _ _ _ _ _ c.from_residual-in_err-reg_read-in-RegRead.ensures.1 (made_in _ _ _ _ _ (ap asked c.in-RegRead.is) c.in_err-reg_read-in-RegRead.ensures)

pub returns-in_ok-reg_read-in-RegRead : goal.returns-in_ok-reg_read-in-RegRead
returns-in_ok-reg_read-in-RegRead c = made_in _ _ _ _ _ (ap asked c.in-RegRead.is) c.in_ok-reg_read-in-RegRead.ensures

pub returns-in_err-reg_write-in-RegWrite : goal.returns-in_err-reg_write-in-RegWrite
returns-in_err-reg_write-in-RegWrite c = refused_in _ _ _ _ _ c.from_residual-in_err-reg_write-in-RegWrite.ensures.1 (made_in _ _ _ _ _ (ap asked c.in-RegWrite.is) c.in_err-reg_write-in-RegWrite.ensures)

pub returns-in_ok-reg_write-in-RegWrite : goal.returns-in_ok-reg_write-in-RegWrite
returns-in_ok-reg_write-in-RegWrite c = made_in _ _ _ _ _ (ap asked c.in-RegWrite.is) c.in_ok-reg_write-in-RegWrite.ensures

pub returns-in_err-pci-in-Pci : goal.returns-in_err-pci-in-Pci
returns-in_err-pci-in-Pci c = refused_in _ _ _ _ _ c.from_residual-in_err-pci-in-Pci.ensures.1 (made_in _ _ _ _ _ (ap asked c.in-Pci.is) c.in_err-pci-in-Pci.ensures)

pub returns-in_ok-pci-in-Pci : goal.returns-in_ok-pci-in-Pci
returns-in_ok-pci-in-Pci c = made_in _ _ _ _ _ (ap asked c.in-Pci.is) c.in_ok-pci-in-Pci.ensures
