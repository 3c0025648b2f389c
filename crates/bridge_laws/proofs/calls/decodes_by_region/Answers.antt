use Rattle.bridge_laws.proofs.DecodeFacts.{decoding}
use Rattle.bridge_laws.proofs.calls.decodes_by_region.Goals as goal

pub returns : goal.returns
returns c = decoding
