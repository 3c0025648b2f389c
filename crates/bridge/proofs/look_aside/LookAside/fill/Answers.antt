use Rattle.std.proofs.Common.{◌≡◌, length, arith}
use Rattle.bridge.proofs.RowTables.{found_again}
use Rattle.bridge.proofs.look_aside.LookAside.fill.Goals as goal

pub returns-clause-found : goal.returns-clause-found
returns-clause-found c =
    let long : length c.args.self.now.rows ≡ 8 = omega arith in
    found_again c.args.self.now c.args.pci_page c.args.page long c.requires
