-- A line merged longword by longword under a mask.
use Rattle.std.proofs.Common.{◌≡◌, ℕ, zero, suc, ◌+◌, ◌-◌, ◌*◌, ◌/◌, ◌%◌, ◌^◌, ◌<◌, ◌≤◌, cond, false, List, length, get_or, take, drop, sym, refl, ◌∙◌, ⊎_elim, arith, rules}
use borrow.Rule.Slice.PartMut.{put_mid}
use Rattle.std.proofs.lemmas.Bool.{ne_eqb}
use Rattle.std.proofs.lemmas.List.{places}
use Rattle.std.proofs.lemmas.Nat.{shr-shr}
use Rattle.memory.specs.Content.{bit}
use Rattle.memory.proofs.PutParts.{below_or_not, put_above, put_below, put_here, put_long}

-- none of four bits is set where their number is 0
four_bits : (n i : ℕ) → n % 16 ≡ 0 → i < 4 → n / 2 ^ i % 2 ≡ 0
four_bits n zero h l = omega arith
four_bits n (suc zero) h l = omega arith
four_bits n (suc (suc zero)) h l = omega arith
four_bits n (suc (suc (suc zero))) h l = omega arith
four_bits n (suc (suc (suc (suc i)))) h l = absurd (omega arith)

pub no_bits : (mask first i : ℕ) → mask / 2 ^ first % 16 ≡ 0 → i < 4 → bit mask (first + i) ≡ false
no_bits mask first i h l =
    let z : mask / 2 ^ (first + i) % 2 ≡ 0 = rw (← shr-shr mask first i) (four_bits (mask / 2 ^ first) i h l) in
    ne_eqb _ _ (λ e. absurd (omega (arith, z, e)))

-- the bytes below n are merged, the others as they were
pub record MergedBelow (mask : ℕ) (old new now : List ℕ) (n : ℕ) : Type 0 where
  pub long : length now ≡ 32
  pub front : (j : ℕ) → j < n → get_or now j 0 ≡ cond (bit mask j) (get_or new j 0) (get_or old j 0)
  pub rest : (j : ℕ) → n ≤ j → get_or now j 0 ≡ get_or old j 0

pub longword_merged : (mask k w : ℕ) (old new now part : List ℕ) → w ≡ 4 → k < 8 → MergedBelow mask old new now (4 * k) → length part ≡ 4
    → ((i : ℕ) → i < 4 → get_or part i 0 ≡ cond (bit mask (4 * k + i)) (get_or new (4 * k + i) 0) (get_or (take w (drop (4 * k) now)) i 0))
    → MergedBelow mask old new (put_mid (4 * k) w now part) (4 * (k + 1))
longword_merged mask k w old new now part four within m long each =
    let fits : 4 * k + w ≤ length now = omega (arith, m.long) in
    let as_long : length part ≡ w = long ∙ sym four in
    let here : (j : ℕ) → 4 * k ≤ j → j < 4 * k + w → get_or part (j - 4 * k) 0 ≡ cond (bit mask j) (get_or new j 0) (get_or old j 0) =
    λ j b l. let e : 4 * k + (j - 4 * k) ≡ j = omega arith in
    let p : get_or (take w (drop (4 * k) now)) (j - 4 * k) 0 ≡ get_or now (4 * k + (j - 4 * k)) 0 = search (rules, places) in
    each (j - 4 * k) (omega arith) ∙ rw (p, e, m.rest j b) refl in
    record {
      long = put_long (4 * k) w now part as_long fits ∙ m.long;
      front = λ j h. ⊎_elim
          (λ b. put_below (4 * k) w now part as_long fits j b ∙ m.front j b)
          (λ b. put_here (4 * k) w now part as_long fits j b (omega arith) ∙ here j b (omega arith))
          (below_or_not j (4 * k));
      rest = λ j h. put_above (4 * k) w now part as_long fits j (omega arith) ∙ m.rest j (omega arith);
    }
