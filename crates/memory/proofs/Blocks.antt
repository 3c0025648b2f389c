-- Whether one of n blocks from one on has a number that ends in six bits.
use Rattle.std.proofs.Common.{◌≡◌, ℕ, zero, suc, ◌+◌, ◌-◌, ◌%◌, ◌<◌, true, false, nat_lt, ◌==◌, arith}
use Rattle.std.specs.List.{list_any, range_with_len}
use Rattle.std.proofs.lemmas.Bool.{eq-eqb, ne_eqb, lt-ltb}
use Rattle.std.proofs.lemmas.Bool.Decides.{nat_tests}

-- the first block that does is d behind the first of all
at_distance : (n first d k : ℕ) → d < 64 → (first + d) % 64 ≡ k → nat_lt d n ≡ list_any (λ block. block % 64 == k) (range_with_len first n)
at_distance zero first d k short e = grind (arith, nat_tests)
at_distance (suc n) first zero k short e =
    let here : (first % 64 == k) ≡ true = eq-eqb _ _ (omega arith) in
    rw here (lt-ltb 0 (suc n) (omega arith))
at_distance (suc n) first (suc d) k short e =
    let other : (first % 64 == k) ≡ false = ne_eqb _ _ (λ s. omega arith) in
    rw other (let later = at_distance n (first + 1) d k (omega arith) (omega arith) in grind (arith, nat_tests))

-- it lies as far behind the first block as the six bits lie behind its own
pub ends_by_distance : (first n k : ℕ) → first < 0x1_0000_0000_0000_0000 → k < 64
    → nat_lt ((k + (0x1_0000_0000_0000_0000 - first)) % 0x1_0000_0000_0000_0000 % 64) n ≡ list_any (λ block. block % 64 == k) (range_with_len first n)
ends_by_distance first n k low bits = at_distance n first _ k (omega arith) (omega arith)
