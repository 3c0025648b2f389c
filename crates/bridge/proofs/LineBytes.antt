-- What a card write puts into a line: bytes and masks.
use Rattle.std.proofs.Common.{◌≡◌, ℕ, suc, ◌+◌, ◌-◌, ◌*◌, ◌/◌, ◌%◌, ◌^◌, ◌<◌, ◌≤◌, false, ltb, List, [], ◌∷◌, ◌++◌, length, get_or, take, drop, replicate, sym, refl, ap, ◌∙◌, ⊎_elim, arith, pow_mono}
use borrow.Rule.Slice.PartMut.{put_mid}
use Rattle.std.proofs.lemmas.Bool.{cond-false, cond-true, le-ltb, lt-ltb, or_parts, ltb-false}
use Rattle.std.proofs.lemmas.List.{at_drop_more, get_or-replicate, get_or_past, length-drop, take-append-drop}
use Rattle.std.proofs.lemmas.List.Folds.{list_any-append}
use Rattle.std.proofs.lemmas.List.FromFn.{fill_by_all}
use Rattle.std.proofs.lemmas.Nat.{pow-add}
use Rattle.memory.proofs.PutParts.{below_or_not, put_above, put_below, put_here, put_long}
use Rattle.bridge.specs.Bursts.{wide_enable}
use Rattle.bridge.specs.Longwords.{enable_bits, line_byte, line_bytes, word_bytes}

mask_more : (n m e : ℕ) → e ≤ 15 → m < 2 ^ (4 * n) → e + 16 * m < 2 ^ (4 * suc n)
mask_more n m e h k =
    let p : 2 ^ (4 * suc n) ≡ 2 ^ 4 * 2 ^ (4 * n) = let q : 4 * suc n ≡ 4 + 4 * n = omega arith in rw q (pow-add 2 4 (4 * n)) in
    omega arith

pub mask_below : (es : List ℕ) → wide_enable es ≡ false → enable_bits es < 2 ^ (4 * length es)
mask_below [] h = omega arith
mask_below (e ∷ es) h =
    let p = or_parts (ltb 15 e) (wide_enable es) h in
    mask_more (length es) (enable_bits es) e (omega (arith, ltb-false 15 e p.0)) (mask_below es p.1)

-- enables that are narrow in the whole are so in each part
pub wide_parts : (a b : List ℕ) → wide_enable (a ++ b) ≡ false → (wide_enable a ≡ false) × (wide_enable b ≡ false)
wide_parts a b h = or_parts _ _ (sym (list_any-append (λ e. ltb 15 e) a b) ∙ h)

pub bits_fit : (es : List ℕ) → length es ≤ 8 → wide_enable es ≡ false → enable_bits es < 2 ^ 32
bits_fit es few narrow =
    let q : 4 * length es ≤ 32 = omega (arith, few) in
    omega (arith, mask_below es narrow, pow_mono q)

-- the bits of the numbers from a place on: those of the one before, and those behind it
pub bits_before : (es : List ℕ) (j : ℕ) → 0 < j → j ≤ length es → get_or es (j - 1) 0 + 16 * enable_bits (drop j es) ≡ enable_bits (drop (j - 1) es)
bits_before es j h k =
    let e : j ≡ j - 1 + 1 = omega arith in
    ap (λ i. get_or es (j - 1) 0 + 16 * enable_bits (drop i es)) e ∙ sym (at_drop_more enable_bits es (j - 1) 0 (omega arith))

pub bits_from_fit : (es : List ℕ) (j : ℕ) → length es ≤ 8 → wide_enable es ≡ false → enable_bits (drop j es) < 2 ^ 32
bits_from_fit es j few narrow =
    bits_fit (drop j es) (omega (arith, length-drop j es)) (wide_parts (take j es) (drop j es) (ap wide_enable (take-append-drop j es) ∙ narrow)).1

-- so many bytes of a line are those that have the longwords from an offset on, and the others are 0
pub record Filled (offset : ℕ) (words bytes : List ℕ) (n : ℕ) : Type 0 where
  pub long : length bytes ≡ 32
  pub front : (j : ℕ) → j < n → get_or bytes j 0 ≡ line_byte offset words j
  pub rest : (j : ℕ) → n ≤ j → get_or bytes j 0 ≡ 0

zeros_at : (j : ℕ) → ◌≡◌ {A = ℕ} (get_or (replicate 32 0) j 0) 0
zeros_at j = ⊎_elim (λ h. get_or-replicate 32 j 0 0 h) (λ h. get_or_past (replicate 32 0) j 0 h) (below_or_not j 32)

pub none_filled : (offset : ℕ) (words : List ℕ) → Filled offset words (replicate 32 0) (offset + 4 * 0)
none_filled offset words = record {
  long = refl;
  front = λ j h. zeros_at j ∙ sym (cond-true _ _ _ (lt-ltb j offset (omega arith)));
  rest = λ j h. zeros_at j;
}

byte_in_word : (offset k j : ℕ) (words : List ℕ) → offset + 4 * k ≤ j → j < offset + 4 * k + 4 → line_byte offset words j ≡ get_or (word_bytes (get_or words k 0)) (j - (offset + 4 * k)) 0
byte_in_word offset k j words h l =
    let q : (j - offset) / 4 ≡ k = omega arith in
    let r : (j - offset) % 4 ≡ j - (offset + 4 * k) = omega arith in
    cond-false _ _ _ (le-ltb j offset (omega arith)) ∙ rw (q, r) refl

byte_past : (offset j : ℕ) (words : List ℕ) → offset + 4 * length words ≤ j → line_byte offset words j ≡ 0
byte_past offset j words h =
    let none : get_or words ((j - offset) / 4) 0 ≡ 0 = get_or_past words ((j - offset) / 4) 0 (omega arith) in
    let m : (j - offset) % 4 < 4 = omega arith in
    cond-false _ _ _ (le-ltb j offset (omega arith)) ∙ rw none (get_or-replicate 4 ((j - offset) % 4) 0 0 m)

pub word_filled : (offset k w : ℕ) (words bytes : List ℕ) → w ≡ 4 → offset + 4 * k + w ≤ 32 → Filled offset words bytes (offset + 4 * k)
    → Filled offset words (put_mid (offset + 4 * k) w bytes (word_bytes (get_or words k 0))) (offset + 4 * (k + 1))
word_filled offset k w words bytes four fits f =
    let at = offset + 4 * k in
    let ys = word_bytes (get_or words k 0) in
    let inside : at + w ≤ length bytes = omega (arith, f.long) in
    record {
      long = put_long at w bytes ys (sym four) inside ∙ f.long;
      front = λ j h. ⊎_elim
          (λ b. put_below at w bytes ys (sym four) inside j b ∙ f.front j b)
          (λ b. put_here at w bytes ys (sym four) inside j b (omega arith) ∙ sym (byte_in_word offset k j words b (omega arith)))
          (below_or_not j at);
      rest = λ j h. put_above at w bytes ys (sym four) inside j (omega arith) ∙ f.rest j (omega arith);
    }

pub all_filled : (offset : ℕ) (words bytes : List ℕ) → Filled offset words bytes (offset + 4 * length words) → bytes ≡ line_bytes offset words
unfolding line_bytes
all_filled offset words bytes f =
    fill_by_all (line_byte offset words) bytes 32 0 f.long
    (λ j h. ⊎_elim (λ b. f.front j b) (λ b. f.rest j b ∙ sym (byte_past offset j words b)) (below_or_not j (offset + 4 * length words)))
