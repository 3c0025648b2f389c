use Rattle.memory.specs.Content.{Lawful}
use Rattle.bridge.proofs.TwinCalls.{isolated_new}
use Rattle.bridge.proofs.new_pair.Goals as goal

pub returns : goal.returns
returns g c =
    let l = c.args.left in
    let r = c.args.right in
    let lawful_left : Lawful (g.L.Memory.content l) = record { beyond = g.met.L.Memory.beyond l; whole = g.met.L.Memory.whole l } in
    let lawful_right : Lawful (g.R.Memory.content r) = record { beyond = g.met.R.Memory.beyond r; whole = g.met.R.Memory.whole r } in
    let e = c.new.ensures.starts in
    let f = c.new-2.ensures.starts in
    record { memories = (c.new.ensures.memory, c.new-2.ensures.memory); left = e; right = f; isolated = isolated_new e f lawful_left lawful_right }
