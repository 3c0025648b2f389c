use Rattle.std.proofs.Common.{◌≡◌, take}
use Rattle.bridge.specs.Bursts.{wide_enable}
use Rattle.bridge.proofs.enables.any_is_wide.Given as goal

-- whether one of the numbers so far is wide
abbrev pub invariant-loop-number : goal.invariant-loop-number
invariant-loop-number l = l.wide ≡ wide_enable (take l.number-index l.numbers)
