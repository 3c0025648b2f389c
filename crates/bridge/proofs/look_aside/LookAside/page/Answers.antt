use Rattle.std.proofs.Common.{◌≡◌, Some, None, ap, ◌∙◌, rules}
use Rattle.bridge.specs.LookAside.{cached_page, page_of_row}
use Rattle.bridge.proofs.RowTables.{cached_by}
use Rattle.bridge.proofs.look_aside.LookAside.page.Goals as goal

pub returns-in_err-i : goal.returns-in_err-i
returns-in_err-i c =
    c.from_residual.ensures ∙ cached_by c.args.self.now c.from.result None c.in_err-i.ensures ∙ ap (cached_page c.args.self.now) c.from.ensures

pub returns : goal.returns
returns c =
    let read : c.map.result ≡ page_of_row c.args.self.now (Some c.in_ok-i.i) = search rules in
    read ∙ cached_by c.args.self.now c.from.result (Some c.in_ok-i.i) c.in_ok-i.ensures ∙ ap (cached_page c.args.self.now) c.from.ensures
