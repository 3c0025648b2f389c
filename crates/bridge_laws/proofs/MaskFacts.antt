-- The mask and the bytes of a card's longwords in a line.
use Rattle.std.proofs.Common.{◌≡◌, ℕ, suc, ◌+◌, ◌-◌, ◌*◌, ◌/◌, ◌%◌, ◌^◌, ◌<◌, ◌≤◌, Bool, true, false, cond, ◌&&◌, eqb, ltb, leb, List, [], ◌∷◌, length, get_or, sym, refl, ap, ◌∙◌, ⊎_elim, arith, pow_mono}
use Rattle.std.proofs.lemmas.Nat.{shl_below}
use Rattle.std.proofs.lemmas.List.FromFn.{get_or-map-range_with_len, length-map-range_with_len}
use Rattle.std.proofs.lemmas.Bool.{and_parts, cases_lt, cond-false, eqb-false, eqb-true, le-ltb, leb-true, ltb-false, or_parts}
use Rattle.memory.specs.Content.{Content, absent, all_ones, bit, good, merged, overwritten, spoiled}
use Rattle.memory.specs.LinesAt.{length_merged, ones_set}
use Rattle.bridge.specs.Bursts.{wide_enable}
use Rattle.bridge.specs.Longwords.{byte_of, enable_bits, line_byte, line_bytes, line_mask}
use Rattle.bridge.proofs.LineBytes.{mask_below}
use Rattle.bridge_laws.specs.Writes.{LineAfter, enabled_at, good_line, made_good, still_spoiled}
use Rattle.bridge_laws.proofs.BitFacts.{bit_high, bit_low, bit_of_zero, bit_up, lacks_bit}

-- bit j of the enables is bit j % 4 of that of longword j / 4
enables_bit : (enables : List ℕ) (j : ℕ) → wide_enable enables ≡ false → bit (enable_bits enables) j ≡ bit (get_or enables (j / 4) 0) (j % 4)
enables_bit [] j h = bit_of_zero j ∙ sym (bit_of_zero (j % 4))
enables_bit (e ∷ enables) j h =
    let parts = or_parts (ltb 15 e) (wide_enable enables) h in
    let narrow = ltb-false 15 e parts.0 in
    let m = enable_bits enables in
    let blocks : e + 16 * m ≡ m * 2 ^ 4 + e = omega arith in
    ⊎_elim
    (λ l. let q : j / 4 ≡ 0 = omega arith in let r : j ≡ j % 4 = omega arith in
    ap (λ n. bit n j) blocks ∙ bit_low j 4 m e l ∙ ap (bit e) r ∙ ap (λ k. bit (get_or (e ∷ enables) k 0) (j % 4)) (sym q))
    (λ g. let q : j / 4 ≡ suc ((j - 4) / 4) = omega arith in let r : (j - 4) % 4 ≡ j % 4 = omega arith in
    ap (λ n. bit n j) blocks ∙ bit_high j 4 m e (omega arith) g ∙ enables_bit enables (j - 4) parts.1
    ∙ ap (λ k. bit (get_or enables ((j - 4) / 4) 0) k) r ∙ ap (λ k. bit (get_or (e ∷ enables) k 0) (j % 4)) (sym q))
    (cases_lt j 4)

mask_bit : (offset : ℕ) (enables : List ℕ) (i : ℕ) → wide_enable enables ≡ false → bit (line_mask offset enables) i ≡ enabled_at offset enables i
mask_bit offset enables i h = bit_up offset (enable_bits enables) i ∙ ap (λ b. leb offset i && b) (enables_bit enables (i - offset) h)

-- no bit is past the line
line_mask_below : (offset : ℕ) (enables : List ℕ) → wide_enable enables ≡ false → 4 * length enables + offset ≤ 32 → line_mask offset enables < 2 ^ 32
line_mask_below offset enables h l =
    let a = shl_below (enable_bits enables) (4 * length enables) offset (mask_below enables h) in
    let b = pow_mono l in
    omega arith

-- the bytes
length_line : (offset : ℕ) (words : List ℕ) → length (line_bytes offset words) ≡ 32
unfolding line_bytes
length_line offset words = length-map-range_with_len (line_byte offset words) 0 32

line_at : (offset : ℕ) (words : List ℕ) (i : ℕ) → i < 32 → offset ≤ i → get_or (line_bytes offset words) i 0 ≡ byte_of words (i - offset)
unfolding line_bytes
line_at offset words i h g = get_or-map-range_with_len (line_byte offset words) 0 32 i i 0 h (omega arith) ∙ cond-false (ltb i offset) _ _ (le-ltb i offset g)

merged_at : (mask : ℕ) (old new : List ℕ) (i : ℕ) → i < 32 → get_or (merged mask old new) i 0 ≡ cond (bit mask i) (get_or new i 0) (get_or old i 0)
unfolding merged
merged_at mask old new i h = get_or-map-range_with_len (λ i. cond (bit mask i) (get_or new i 0) (get_or old i 0)) 0 32 i i 0 h (omega arith)

module _ (offset : ℕ) (words enables : List ℕ) (narrow : wide_enable enables ≡ false) where
  -- an enabled byte has the new value
  new_at : (i : ℕ) → i < 32 → enabled_at offset enables i ≡ true → get_or (line_bytes offset words) i 0 ≡ byte_of words (i - offset)
  new_at i h e = line_at offset words i h (leb-true offset i (and_parts _ _ e).0)

  good_at : (old : List ℕ) (i : ℕ) → i < 32 → (b : Bool) → enabled_at offset enables i ≡ b → cond b (get_or (line_bytes offset words) i 0) (get_or old i 0) ≡ cond b (byte_of words (i - offset)) (get_or old i 0)
  good_at old i h true e = new_at i h e
  good_at old i h false e = refl

  spoiled_after : 4 * length enables + offset ≤ 32 → (b : Bool) → eqb (line_mask offset enables) all_ones ≡ b → LineAfter offset words enables spoiled (cond b (good (line_bytes offset words)) spoiled)
  spoiled_after l true e =
      made_good (length_line offset words)
      (λ i h. let on : enabled_at offset enables i ≡ true = sym (mask_bit offset enables i narrow) ∙ ap (λ m. bit m i) (eqb-true _ _ e) ∙ ones_set i h in (on, new_at i h on))
  spoiled_after l false e =
      let off = lacks_bit (line_mask offset enables) (line_mask_below offset enables narrow l) (λ f. eqb-false _ _ e f) in
      still_spoiled off.0 off.1 (sym (mask_bit offset enables off.0 narrow) ∙ off.2)

  pub line_after : 4 * length enables + offset ≤ 32 → (c : Content) → (c ≡ absent → ⊥) → LineAfter offset words enables c (overwritten (line_bytes offset words) (line_mask offset enables) c)
  line_after l absent n = absurd (n refl)
  line_after l spoiled n = spoiled_after l _ refl
  line_after l (good old) n =
      good_line (length_merged _ _ _)
      (λ i h. merged_at (line_mask offset enables) old (line_bytes offset words) i h
      ∙ ap (λ b. cond b (get_or (line_bytes offset words) i 0) (get_or old i 0)) (mask_bit offset enables i narrow)
      ∙ good_at old i h (enabled_at offset enables i) refl)
