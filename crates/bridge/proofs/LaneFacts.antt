-- The lanes of a decoded address, as eight bits hold them.
use Rattle.std.proofs.Common.{◌≡◌, ℕ, zero, suc, ◌+◌, ◌-◌, ◌*◌, ◌%◌, ◌^◌, ◌<◌, ◌≤◌, refl, arith}

-- nothing is shifted out where length and first lane together are at most 4
pub lanes_fit : (count first : ℕ) → 0 < count → count + first ≤ 4 → (((1 * 2 ^ count) % 2 ^ 8 - 1) * 2 ^ first) % 2 ^ 8 ≡ (2 ^ count - 1) * 2 ^ first
lanes_fit zero first h k = absurd (omega arith)
lanes_fit (suc zero) zero h k = refl
lanes_fit (suc zero) (suc zero) h k = refl
lanes_fit (suc zero) (suc (suc zero)) h k = refl
lanes_fit (suc zero) (suc (suc (suc zero))) h k = refl
lanes_fit (suc zero) (suc (suc (suc (suc first)))) h k = absurd (omega arith)
lanes_fit (suc (suc zero)) zero h k = refl
lanes_fit (suc (suc zero)) (suc zero) h k = refl
lanes_fit (suc (suc zero)) (suc (suc zero)) h k = refl
lanes_fit (suc (suc zero)) (suc (suc (suc first))) h k = absurd (omega arith)
lanes_fit (suc (suc (suc zero))) zero h k = refl
lanes_fit (suc (suc (suc zero))) (suc zero) h k = refl
lanes_fit (suc (suc (suc zero))) (suc (suc first)) h k = absurd (omega arith)
lanes_fit (suc (suc (suc (suc zero)))) zero h k = refl
lanes_fit (suc (suc (suc (suc zero)))) (suc first) h k = absurd (omega arith)
lanes_fit (suc (suc (suc (suc (suc count))))) first h k = absurd (omega arith)
