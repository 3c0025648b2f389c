-- The guess for an address is the bank that holds it, if no bank before has a block with the same six bits.
use Rattle.std.specs.Prelude.{◌≡◌, ℕ, ◌+◌, ◌-◌, ◌*◌, ◌/◌, ◌%◌, ◌^◌, ◌<◌, ◌≤◌, true, List, length, Some, slice_index, ◌==◌}
use Rattle.std.specs.Int.{bit_at, w64}
use Rattle.std.specs.List.{range_with_len}
use Rattle.std.specs.Option.{unwrap_or}
use Rattle.std.proofs.Common.{sym, add-mul, ap, mul_assoc, ◌∙◌, ⊎_elim, arith}
use Rattle.std.proofs.Math.Nat.{div-lt_iff_lt-mul, mul-div_left}
use Rattle.std.proofs.lemmas.Nat.{div-add-mod', le-div, pow-add, pow_below, pow_pos}
use Rattle.std.proofs.lemmas.Nat.Bits.{bit_at-pow_same, bit_at-trailing_zeros}
use Rattle.std.proofs.lemmas.Bool.{cases_lt, eq-eqb}
use Rattle.std.proofs.lemmas.Bool.Decides.{nat_tests}
use Rattle.std.proofs.lemmas.List.{get_or_default}
use Rattle.std.proofs.lemmas.List.Elements.{All-get_or}
use Rattle.std.proofs.lemmas.List.Folds.{list_any_at}
use Rattle.std.proofs.lemmas.List.FromFn.{length-range_with_len, get_or-range_with_len}
use Rattle.memory.specs.declared.banks.Bank.{Bank}
use Rattle.memory.specs.Banks.{PowerSize, SoundUntil, holds, nth}
use Rattle.memory.specs.Guesses.{GuessesRight, SmallestBits, bits_within, guess, has_block}
use Rattle.memory.specs.Searches.{finds_first}

-- the bits within a bank are as many as the exponent of its size says
within_power : (b : Bank) (p : PowerSize b.size) → bits_within b ≤ p.exponent
within_power b p =
    let low = pow_pos p.exponent in
    let high = pow_below p.exponent 64 (let m = p.most in omega arith) in
    let is = p.is in
    let lowest = bit_at-trailing_zeros w64 b.size (omega arith) (omega arith) in
    ⊎_elim
    (λ (below : p.exponent < bits_within b). absurd (let here : bit_at b.size p.exponent ≡ 1 = ap (λ n. bit_at n p.exponent) is ∙ bit_at-pow_same p.exponent in
    let there = lowest.2 p.exponent below in omega arith))
    (λ h. h)
    (cases_lt p.exponent (bits_within b))

module _ (banks : List Bank) (bits : ℕ) (s : SmallestBits banks bits) (sound : SoundUntil banks (length banks)) where
  bits_below : (k : ℕ) (h : k < length banks) → bits ≤ (sound k h).size.exponent
  bits_below k h =
      let least = All-get_or (λ b. bits ≤ bits_within b) banks k (record { base = 0; size = 0 }) h s.least in
      let power = within_power (nth banks k) (sound k h).size in
      omega arith

  pub shift_fits : 0 < length banks → bits < 64
  shift_fits some = let low = bits_below 0 some in let most = (sound 0 some).size.most in omega arith

  -- a bank's base and size are whole blocks
  size_blocks : (k : ℕ) (h : k < length banks) → (nth banks k).size ≡ (nth banks k).size / 2 ^ bits * 2 ^ bits
  size_blocks k h =
      let p = (sound k h).size in
      let e = pow-add 2 (p.exponent - bits) bits in
      let sum : p.exponent - bits + bits ≡ p.exponent = (let low = bits_below k h in omega arith) in
      let is : (nth banks k).size ≡ 2 ^ (p.exponent - bits) * 2 ^ bits = p.is ∙ ap (λ j. 2 ^ j) (sym sum) ∙ e in
      is ∙ ap (λ n. n * 2 ^ bits) (sym (ap (λ n. n / 2 ^ bits) is ∙ mul-div_left (2 ^ (p.exponent - bits)) (pow_pos bits)))

  base_blocks : (k : ℕ) (h : k < length banks) → (nth banks k).base ≡ (nth banks k).base / 2 ^ bits * 2 ^ bits
  base_blocks k h =
      let b = nth banks k in
      let q = b.base / b.size in
      let whole : b.base ≡ q * b.size = (let d = div-add-mod' b.base b.size in let z = (sound k h).base in omega arith) in
      let is : b.base ≡ q * (b.size / 2 ^ bits) * 2 ^ bits = whole ∙ ap (λ n. q * n) (size_blocks k h) ∙ sym (mul_assoc q (b.size / 2 ^ bits) (2 ^ bits)) in
      is ∙ ap (λ n. n * 2 ^ bits) (sym (ap (λ n. n / 2 ^ bits) is ∙ mul-div_left (q * (b.size / 2 ^ bits)) (pow_pos bits)))

  -- the block of an address that a bank holds is one of the bank's
  own_block : (i address : ℕ) → i < length banks → holds (nth banks i) address ≡ true → has_block bits (address / 2 ^ bits % 64) (nth banks i) ≡ true
  own_block i address within held =
      let b = nth banks i in
      let one = pow_pos bits in
      let first = b.base / 2 ^ bits in
      let count = b.size / 2 ^ bits in
      let block = address / 2 ^ bits in
      let from : b.base ≤ address = grind (arith, nat_tests) in
      let to : address < b.base + b.size = grind (arith, nat_tests) in
      let base = base_blocks i within in
      let size = size_blocks i within in
      let low : first ≤ block = le-div first address (2 ^ bits) one (omega arith) in
      let high : block < first + count = (div-lt_iff_lt-mul one).1 (omega (arith, add-mul first count (2 ^ bits))) in
      list_any_at (λ n. n % 64 == block % 64) (range_with_len first count) (block - first) 0
      (omega (arith, length-range_with_len first count))
      (eq-eqb _ _ (ap (λ n. n % 64) (get_or-range_with_len first count (block - first) 0 (omega arith) ∙ omega arith)))

  pub right : (guesses : List ℕ) → ((k : ℕ) → k < 64 → slice_index guesses k ≡ guess banks bits k) → GuessesRight banks bits guesses
  right guesses are i address within held before =
      let k = address / 2 ^ bits % 64 in
      are k (omega arith) ∙ sym (ap (λ o. unwrap_or o 0) (finds_first (has_block bits k) banks (Some i)
      (within, (λ d. ap (has_block bits k) (get_or_default banks i d _ within) ∙ own_block i address within held), λ j d from near. ap (has_block bits k) (get_or_default banks j d _ (omega arith)) ∙ before j near)))
