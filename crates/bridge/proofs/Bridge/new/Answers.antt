use Rattle.std.proofs.Common.{◌≡◌, refl}
use Rattle.memory.specs.Content.{Lawful}
use Rattle.bridge.specs.State.{new_state, state_of}
use Rattle.bridge.proofs.TwinCalls.{isolated_new}
use Rattle.bridge.proofs.Bridge.new.Goals as goal

pub returns : goal.returns
returns g c =
    let m = c.args.memory in
    let content = g.M.Memory.content in
    let lawful : Lawful (content m) = record { beyond = g.met.M.Memory.beyond m; whole = g.met.M.Memory.whole m } in
    let starts : state_of content (record { registers = c.zero.result; look_aside = c.zero-2.result; log = c.empty.result; memory = m }) ≡ new_state (content m) = cc in
    record { memory = refl; starts = starts; isolated = λ other l. isolated_new starts refl lawful l; beside = λ other l. isolated_new refl starts l lawful }
