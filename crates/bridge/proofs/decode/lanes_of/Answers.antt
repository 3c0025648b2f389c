use Rattle.std.proofs.Common.{◌≡◌, ◌+◌, ◌<◌, ◌≤◌, true, Ok, sym, ap, ◌∙◌, arith}
use Rattle.std.proofs.lemmas.Bool.{and_from, cond-true, eq-eqb, le-leb}
use Rattle.bridge.specs.Bits.{bits}
use Rattle.bridge.specs.Processor.{first_lane, lane_count, lanes_allowed}
use Rattle.bridge.proofs.LaneFacts.{lanes_fit}
use Rattle.bridge.proofs.decode.lanes_of.Goals as goal

pub returns : goal.returns
returns c =
    let cpu = c.args.cpu in
    let low : bits 2 0 cpu ≡ 0 = omega arith in
    let few : lane_count cpu + first_lane cpu ≤ 4 = omega arith in
    let some : 0 < lane_count cpu = omega arith in
    let allowed : lanes_allowed cpu ≡ true = and_from _ _ (eq-eqb _ _ low) (le-leb _ _ few) in
    ap Ok (lanes_fit (lane_count cpu) (first_lane cpu) some few) ∙ sym (cond-true _ _ _ allowed)
