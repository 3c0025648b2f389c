use Rattle.bridge_laws.proofs.TranslationFacts.{translates}
use Rattle.bridge_laws.proofs.calls.addresses_lead_by_cases.Goals as goal

pub returns : goal.returns
returns c = translates
