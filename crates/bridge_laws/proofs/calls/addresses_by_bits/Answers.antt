use Rattle.bridge_laws.proofs.AddressFacts.{address_bits}
use Rattle.bridge_laws.proofs.calls.addresses_by_bits.Goals as goal

pub returns : goal.returns
returns c = address_bits
