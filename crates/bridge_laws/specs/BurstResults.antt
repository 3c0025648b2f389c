-- What a burst's code returns is told by its answer: two results with the same number and values are the same result. So
-- where two bridges give a card the same answer, they give it the same result.
use Rattle.std.specs.Prelude.{◌≡◌, Result}
use Rattle.bridge.specs.declared.bursts.BurstRefusal.{BurstRefusal}
use Rattle.bridge.specs.declared.bursts.ReadEnd.{ReadEnd}
use Rattle.bridge.specs.declared.bursts.WriteCounts.{WriteCounts}
use Rattle.bridge.specs.declared.bursts.WriteEnd.{WriteEnd}
use Rattle.bridge.specs.BurstAnswers.{read_answered, write_answered}

pub record ResultsTold : Type 0 where
  pub reads : (r q : Result Unit (BurstRefusal ReadEnd)) → read_answered r ≡ read_answered q → r ≡ q
  pub writes : (r q : Result WriteCounts (BurstRefusal WriteEnd)) → write_answered r ≡ write_answered q → r ≡ q
