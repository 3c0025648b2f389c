-- The addresses bit by bit.
use Rattle.std.proofs.Common.{◌≡◌, ℕ, ◌+◌, ◌-◌, ◌*◌, ◌^◌, ◌<◌, ◌≤◌, Bool, true, false, cond, not, ◌&&◌, ◌||◌, eqb, ltb, leb, sym, refl, ap, ◌∙◌, subst, ap₂, ⊎_elim, arith}
use lib.Bits.{and_le_l, and_le_r, bit_and, bit_xor, or_lt}
use Rattle.std.proofs.lemmas.Nat.{pow-add, pow_below, pow_pos}
use Rattle.std.proofs.lemmas.Nat.Bits.{bit_at-lt, bit_at_ones, bit_at_ones_above, bit_at-pow_other, bit_at-pow_same, bit_at-zero, same_from_bits_below}
use Rattle.std.proofs.Math.Bool.{not-not}
use Rattle.std.proofs.lemmas.Bool.{and_from, and_parts, cases_eq, cases_lt, cond_both, eq-eqb, eqb-false, eqb-true, le-leb, leb-false, leb-true, lt-ltb, ltb-true, ne_eqb, both_ways}
use Rattle.std.proofs.lemmas.Bool.Decides.{nat_tests}
use Rattle.memory.specs.Content.{bit}
use Rattle.bridge.specs.declared.registers.Registers.{Registers}
use Rattle.bridge.specs.declared.registers.Window.{Window}
use Rattle.bridge_laws.specs.AddressBits.{PageBits, AddressBits, Agrees, Configuration0Bits, Configuration1Bits, DenseMemoryBits, EntryBits, LaneBits, PlainBits, SparseIoBits, SparseMemoryBits, TargetBaseBits}
use Rattle.bridge.specs.Bits.{bits}
use Rattle.bridge.specs.Processor.{configuration_0_address, device_bit, first_lane, lane_count, sparse_memory_address}
use Rattle.bridge.specs.Windows.{enabled, holds, mixed, target_base}
use Rattle.bridge_laws.proofs.BitFacts.{bit_of_and, bit_beyond, bit_complement, bit_field, bit_high, bit_low, bit_of_zero, bit_of_or, bit_of_xor, differs, field_below}

-- a field at its place i of the number that it was taken from
field_at : (high low n i j : ℕ) → i < high + 1 - low → low + i ≡ j → bit (bits high low n) i ≡ bit n j
field_at high low n i j h e = bit_field high low n i h ∙ ap (bit n) e

-- a mix of twelve bits
mixed_below : (mask a b : ℕ) → mask < 2 ^ 12 → b < 2 ^ 12 → mixed mask a b < 2 ^ 12
mixed_below mask a b h k =
    or_lt 12 (bit_and a mask) (bit_and b (0xfff - mask)) (let l = and_le_r a mask in omega arith) (let l = and_le_l b (0xfff - mask) in omega arith)

chosen : (m a b : Bool) → ((a && m) || (b && not m)) ≡ cond m a b
chosen true true true = refl
chosen true true false = refl
chosen true false true = refl
chosen true false false = refl
chosen false true true = refl
chosen false true false = refl
chosen false false true = refl
chosen false false false = refl

mixed_bit : (mask a b i : ℕ) → mask < 2 ^ 12 → i < 12 → bit (mixed mask a b) i ≡ cond (bit mask i) (bit a i) (bit b i)
mixed_bit mask a b i l h =
    bit_of_or (bit_and a mask) (bit_and b (0xfff - mask)) i
    ∙ ap₂ ◌||◌ (bit_of_and a mask i) (bit_of_and b (0xfff - mask) i ∙ ap (λ x. bit b i && x) (bit_complement 12 mask i l h))
    ∙ chosen (bit mask i) (bit a i) (bit b i)

-- three fields, the upper two with twelve bits below the first
module _ (t m l k : ℕ) (mb : m < 2 ^ 12) (lb : l < 2 ^ k) where
  lowest : (n i : ℕ) → n ≡ (t * 2 ^ 12 + m) * 2 ^ k + l → i < k → bit n i ≡ bit l i
  lowest n i e h = ap (λ x. bit x i) e ∙ bit_low i k (t * 2 ^ 12 + m) l h

  middle : (n i j : ℕ) → n ≡ (t * 2 ^ 12 + m) * 2 ^ k + l → k + j ≡ i → j < 12 → bit n i ≡ bit m j
  middle n i j e f h =
      let g : i - k ≡ j = omega arith in
      ap (λ x. bit x i) e ∙ bit_high i k (t * 2 ^ 12 + m) l lb (omega arith) ∙ ap (bit (t * 2 ^ 12 + m)) g ∙ bit_low j 12 t m h

  highest : (n i j : ℕ) → n ≡ (t * 2 ^ 12 + m) * 2 ^ k + l → k + 12 + j ≡ i → bit n i ≡ bit t j
  highest n i j e f =
      let g : i - k ≡ 12 + j = omega arith in
      let g' : 12 + j - 12 ≡ j = omega arith in
      ap (λ x. bit x i) e ∙ bit_high i k (t * 2 ^ 12 + m) l lb (omega arith) ∙ ap (bit (t * 2 ^ 12 + m)) g ∙ bit_high (12 + j) 12 t m mb (omega arith) ∙ ap (bit t) g'

plain_fields : (t m l : ℕ) → t * 2 ^ 32 + m * 2 ^ 20 + l ≡ (t * 2 ^ 12 + m) * 2 ^ 20 + l
plain_fields t m l = omega arith

entry_fields : (t m x : ℕ) → t * 2 ^ 22 + m * 2 ^ 10 + x * 2 ^ 3 ≡ (t * 2 ^ 12 + m) * 2 ^ 10 + (x * 2 ^ 3 + 0)
entry_fields t m x = omega arith

module _ (w : Window) (pci : ℕ) where
  plain_bits : PlainBits w pci
  plain_bits =
      let mask = bits 31 20 w.mask in
      let a = bits 31 20 pci in
      let b = bits 31 20 (target_base w) in
      let t = bits 32 32 (target_base w) in
      let l = bits 19 0 pci in
      let m = mixed mask a b in
      let mb : m < 2 ^ 12 = mixed_below mask a b (field_below 31 20 w.mask) (field_below 31 20 (target_base w)) in
      let lb : l < 2 ^ 20 = field_below 19 0 pci in
      let tb : t < 2 = field_below 32 32 (target_base w) in
      let e = plain_fields t m l in
      record {
        kept = λ i _ h. lowest t m l 20 mb lb _ i e (omega arith) ∙ field_at 19 0 pci i (i + 0) (omega arith) (omega arith);
        mixed = λ i g h. middle t m l 20 mb lb _ i (i - 20) e (omega arith) (omega arith)
            ∙ mixed_bit mask a b (i - 20) (field_below 31 20 w.mask) (omega arith)
            ∙ ap₂ (λ x (y : Bool × Bool). cond x y.0 y.1) (field_at 31 20 w.mask (i - 20) i (omega arith) (omega arith))
            (ap₂ (λ x y. (x, y)) (field_at 31 20 pci (i - 20) i (omega arith) (omega arith)) (field_at 31 20 (target_base w) (i - 20) i (omega arith) (omega arith)));
        top = highest t m l 20 mb lb _ 32 0 e refl ∙ field_at 32 32 (target_base w) 0 32 (omega arith) refl;
        beyond = λ i h. bit_beyond i 33 _ (omega arith) h;
      }

  entry_bits : EntryBits w pci
  entry_bits =
      let mask = bits 31 20 w.mask in
      let a = bits 31 20 pci in
      let b = bits 21 10 (target_base w) in
      let t = bits 32 22 (target_base w) in
      let x = bits 19 13 pci in
      let m = mixed mask a b in
      let mb : m < 2 ^ 12 = mixed_below mask a b (field_below 31 20 w.mask) (field_below 21 10 (target_base w)) in
      let xb : x < 2 ^ 7 = field_below 19 13 pci in
      let lb : x * 2 ^ 3 + 0 < 2 ^ 10 = omega arith in
      let tb : t < 2 ^ 11 = field_below 32 22 (target_base w) in
      let e = entry_fields t m x in
      record {
        zeros = λ i _ h. lowest t m (x * 2 ^ 3 + 0) 10 mb lb _ i e (omega arith) ∙ bit_low i 3 x 0 (omega arith) ∙ bit_of_zero i;
        index = λ i g h. lowest t m (x * 2 ^ 3 + 0) 10 mb lb _ i e (omega arith) ∙ bit_high i 3 x 0 (omega arith) g ∙ field_at 19 13 pci (i - 3) (i + 10) (omega arith) (omega arith);
        mixed = λ i g h. middle t m (x * 2 ^ 3 + 0) 10 mb lb _ i (i - 10) e (omega arith) (omega arith)
            ∙ mixed_bit mask a b (i - 10) (field_below 31 20 w.mask) (omega arith)
            ∙ ap₂ (λ x (y : Bool × Bool). cond x y.0 y.1) (field_at 31 20 w.mask (i - 10) (i + 10) (omega arith) (omega arith))
            (ap₂ (λ x y. (x, y)) (field_at 31 20 pci (i - 10) (i + 10) (omega arith) (omega arith)) (field_at 21 10 (target_base w) (i - 10) i (omega arith) (omega arith)));
        top = λ i g h. highest t m (x * 2 ^ 3 + 0) 10 mb lb _ i (i - 22) e (omega arith) ∙ field_at 32 22 (target_base w) (i - 22) (i + 0) (omega arith) (omega arith);
        beyond = λ i h. bit_beyond i 33 _ (omega arith) h;
      }

page_bits : (page pci : ℕ) → PageBits page pci
page_bits page pci = record {
  low = λ i _ h. bit_low i 13 page (bits 12 0 pci) (omega arith) ∙ field_at 12 0 pci i (i + 0) (omega arith) (omega arith);
  high = λ i h. bit_high i 13 page (bits 12 0 pci) (field_below 12 0 pci) h;
}

-- no bit set: zero
all_zero : (w n : ℕ) → n < 2 ^ w → ((i : ℕ) → i < w → bit n i ≡ false) → n ≡ 0
all_zero w n l h = same_from_bits_below w n 0 l (pow_pos w) (λ i k. let b = bit_at-lt n i in let e = eqb-false _ _ (h i k) in omega (arith, bit_at-zero i))

-- two bits that differ nowhere the mask is 0
agree_where : (x y m : Bool) → (differs x y && not m) ≡ false → m ≡ false → x ≡ y
agree_where true true m h e = refl
agree_where false false m h e = refl
agree_where true false true h e = absurd (both_ways _ e refl)
agree_where true false false h e = absurd (both_ways _ h refl)
agree_where false true true h e = absurd (both_ways _ e refl)
agree_where false true false h e = absurd (both_ways _ h refl)

where_agree : (x y m : Bool) → (m ≡ false → x ≡ y) → (differs x y && not m) ≡ false
where_agree true true m h = refl
where_agree false false m h = refl
where_agree true false true h = refl
where_agree true false false h = absurd (both_ways true (h refl) refl)
where_agree false true true h = refl
where_agree false true false h = absurd (both_ways false refl (h refl))

module _ (w : Window) (pci : ℕ) where
  -- bit i of what decides, and the three bits that it is made of
  deciding_bit : (i : ℕ) → i < 12 → bit (bit_and (bit_xor (bits 31 20 pci) (bits 31 20 w.base)) (0xfff - bits 31 20 w.mask)) i ≡ (differs (bit pci (20 + i)) (bit w.base (20 + i)) && not (bit w.mask (20 + i)))
  deciding_bit i h =
      bit_of_and (bit_xor (bits 31 20 pci) (bits 31 20 w.base)) (0xfff - bits 31 20 w.mask) i
      ∙ ap₂ ◌&&◌
      (bit_of_xor (bits 31 20 pci) (bits 31 20 w.base) i ∙ ap₂ differs (field_at 31 20 pci i (20 + i) (omega arith) refl) (field_at 31 20 w.base i (20 + i) (omega arith) refl))
      (bit_complement 12 (bits 31 20 w.mask) i (field_below 31 20 w.mask) h ∙ ap not (field_at 31 20 w.mask i (20 + i) (omega arith) refl))

  held_agrees : holds w pci ≡ true → Agrees w pci
  held_agrees h = record { on = parts.0; base = λ i g l e. agrees i (i - 20) (omega arith) (omega arith) e }
    where
      parts : (enabled w ≡ true) × (eqb (bit_and (bit_xor (bits 31 20 pci) (bits 31 20 w.base)) (0xfff - bits 31 20 w.mask)) 0 ≡ true)
      parts = and_parts _ _ h

      agrees : (i j : ℕ) → 20 + j ≡ i → j < 12 → bit w.mask i ≡ false → bit pci i ≡ bit w.base i
      agrees i j e l m =
          let none : bit (bit_and (bit_xor (bits 31 20 pci) (bits 31 20 w.base)) (0xfff - bits 31 20 w.mask)) j ≡ false = ap (λ n. bit n j) (eqb-true _ 0 parts.1) ∙ bit_of_zero j in
          subst (λ k. bit pci k ≡ bit w.base k) e (agree_where _ _ (bit w.mask (20 + j)) (sym (deciding_bit j l) ∙ none) (ap (bit w.mask) e ∙ m))

  agrees_held : Agrees w pci → holds w pci ≡ true
  agrees_held a =
      and_from _ _ a.on
      (eq-eqb _ 0 (all_zero 12 _ (let l = and_le_r (bit_xor (bits 31 20 pci) (bits 31 20 w.base)) (0xfff - bits 31 20 w.mask) in omega arith)
      (λ i h. deciding_bit i h ∙ where_agree _ _ (bit w.mask (20 + i)) (λ e. a.base (20 + i) (omega arith) (omega arith) e))))

target_base_bits : TargetBaseBits
target_base_bits w j =
    let e : w.translated * 2 ≡ w.translated * 2 ^ 1 + 0 = omega arith in
    let f : j + 1 - 1 ≡ j = omega arith in
    ap (λ n. bit n (j + 1)) e ∙ bit_high (j + 1) 1 w.translated 0 (omega arith) (omega arith) ∙ ap (bit w.translated) f

-- sparse memory
some_set : (cpu : ℕ) → eqb (bits 31 29 cpu) 0 ≡ not (bit cpu 29 || (bit cpu 30 || bit cpu 31))
some_set cpu = grind (arith, nat_tests)

bit_of_cond : (b : Bool) (y i : ℕ) → bit (cond b 0 y) i ≡ cond (not b) (bit y i) false
bit_of_cond true y i = bit_of_zero i
bit_of_cond false y i = refl

sparse_fields : (b : Bool) (h x : ℕ) → cond b 0 (h * 2 ^ 27) + x * 2 ^ 2 ≡ cond b 0 h * 2 ^ 27 + (x * 2 ^ 2 + 0)
sparse_fields true h x = omega arith
sparse_fields false h x = omega arith

cond_below : (b : Bool) (h k : ℕ) → h < k → cond b 0 h < k
cond_below true h k l = omega arith
cond_below false h k l = l

sparse_memory_bits : (r : Registers) (cpu : ℕ) → SparseMemoryBits r cpu
sparse_memory_bits r cpu =
    let b = eqb (bits 31 29 cpu) 0 in
    let h = cond b 0 (bits 31 27 r.haxr1) in
    let x = bits 31 7 cpu in
    let xb : x < 2 ^ 25 = field_below 31 7 cpu in
    let hb : h < 2 ^ 5 = cond_below b (bits 31 27 r.haxr1) (2 ^ 5) (field_below 31 27 r.haxr1) in
    let lb : x * 2 ^ 2 + 0 < 2 ^ 27 = omega arith in
    let e : sparse_memory_address r cpu ≡ h * 2 ^ 27 + (x * 2 ^ 2 + 0) = sparse_fields b (bits 31 27 r.haxr1) x in
    record {
      zeros = λ i _ l. ap (λ n. bit n i) e ∙ bit_low i 27 h (x * 2 ^ 2 + 0) (omega arith) ∙ bit_low i 2 x 0 (omega arith) ∙ bit_of_zero i;
      middle = λ i g l. ap (λ n. bit n i) e ∙ bit_low i 27 h (x * 2 ^ 2 + 0) (omega arith) ∙ bit_high i 2 x 0 (omega arith) g ∙ field_at 31 7 cpu (i - 2) (i + 5) (omega arith) (omega arith);
      high = λ i g l. ap (λ n. bit n i) e ∙ bit_high i 27 h (x * 2 ^ 2 + 0) lb g ∙ bit_of_cond b (bits 31 27 r.haxr1) (i - 27)
          ∙ ap₂ (λ c y. cond c y false) (ap not (some_set cpu) ∙ not-not _) (field_at 31 27 r.haxr1 (i - 27) i (omega arith) (omega arith));
      beyond = λ i l. ap (λ n. bit n i) e ∙ bit_beyond i 32 (h * 2 ^ 27 + (x * 2 ^ 2 + 0)) (omega arith) l;
    }

dense_memory_bits : (cpu : ℕ) → DenseMemoryBits cpu
dense_memory_bits cpu = record { all = λ i _ h. field_at 31 0 cpu i (i + 0) (omega arith) (omega arith); beyond = λ i h. bit_beyond i 32 _ (field_below 31 0 cpu) h }

sparse_io_bits : (cpu : ℕ) → SparseIoBits cpu
sparse_io_bits cpu = record { low = λ i _ h. field_at 28 5 cpu i (i + 5) (omega arith) (omega arith); beyond = λ i h. bit_beyond i 24 _ (field_below 28 5 cpu) h }

-- a power of two has one bit
pub bit_of_power : (d j : ℕ) → bit (2 ^ d) j ≡ eqb j d
bit_of_power d j =
    ⊎_elim (λ e. ap (λ k. bit (2 ^ d) k) e ∙ ap (λ b. eqb b 1) (bit_at-pow_same d) ∙ sym (eq-eqb j d e))
    (λ ne. ap (λ b. eqb b 1) (bit_at-pow_other d j ne) ∙ sym (ne_eqb j d ne))
    (cases_eq j d)

device_power : (d : ℕ) → device_bit d ≡ cond (leb d 20) (2 ^ d) 0 * 2 ^ 11
device_power d = go (leb d 20)
  where
    go : (b : Bool) → cond b (2 ^ (11 + d)) 0 ≡ cond b (2 ^ d) 0 * 2 ^ 11
    go true = let p = pow-add 2 11 d in omega arith
    go false = refl

device_below : (d : ℕ) → cond (leb d 20) (2 ^ d) 0 < 2 ^ 21
device_below d = cond_both (leb d 20) _ _ (λ x. x < 2 ^ 21) (λ e. pow_below d 21 (let l = leb-true d 20 e in omega arith)) (λ _. omega arith)

device_set : (d i : ℕ) → 11 ≤ i → i ≤ 31 → bit (cond (leb d 20) (2 ^ d) 0) (i - 11) ≡ eqb i (11 + d)
device_set d i g h =
    cond_both (leb d 20) _ _ (λ x. bit x (i - 11) ≡ eqb i (11 + d))
    (λ e. bit_of_power d (i - 11) ∙ grind (arith, nat_tests))
    (λ e. let l = leb-false d 20 e in bit_of_zero (i - 11) ∙ sym (ne_eqb i (11 + d) (λ f. omega arith)))

configuration_0_bits : (cpu : ℕ) → Configuration0Bits cpu
configuration_0_bits cpu =
    let d = bits 20 16 cpu in
    let h = cond (leb d 20) (2 ^ d) 0 in
    let x = bits 15 7 cpu in
    let xb : x < 2 ^ 9 = field_below 15 7 cpu in
    let hb : h < 2 ^ 21 = device_below d in
    let lb : x * 2 ^ 2 + 0 < 2 ^ 11 = omega arith in
    let e : configuration_0_address cpu ≡ h * 2 ^ 11 + (x * 2 ^ 2 + 0) = let p = device_power d in omega arith in
    record {
      zeros = λ i _ l. ap (λ n. bit n i) e ∙ bit_low i 11 h (x * 2 ^ 2 + 0) (omega arith) ∙ bit_low i 2 x 0 (omega arith) ∙ bit_of_zero i;
      low = λ i g l. ap (λ n. bit n i) e ∙ bit_low i 11 h (x * 2 ^ 2 + 0) (omega arith) ∙ bit_high i 2 x 0 (omega arith) g ∙ field_at 15 7 cpu (i - 2) (i + 5) (omega arith) (omega arith);
      device = λ i g l. ap (λ n. bit n i) e ∙ bit_high i 11 h (x * 2 ^ 2 + 0) lb g ∙ device_set d i g l;
      beyond = λ i l. ap (λ n. bit n i) e ∙ bit_beyond i 32 (h * 2 ^ 11 + (x * 2 ^ 2 + 0)) (omega arith) l;
    }

configuration_1_bits : (cpu : ℕ) → Configuration1Bits cpu
configuration_1_bits cpu =
    let x = bits 28 7 cpu in
    let xb : x < 2 ^ 22 = field_below 28 7 cpu in
    record {
      one = bit_low 0 2 x 1 (omega arith);
      zero = bit_low 1 2 x 1 (omega arith);
      middle = λ i g l. bit_high i 2 x 1 (omega arith) g ∙ field_at 28 7 cpu (i - 2) (i + 5) (omega arith) (omega arith);
      beyond = λ i l. bit_beyond i 24 (x * 2 ^ 2 + 1) (omega arith) l;
    }

-- n ones from place f on
ones_from : (n f j : ℕ) → bit ((2 ^ n - 1) * 2 ^ f) j ≡ (leb f j && ltb j (f + n))
ones_from n f j = ⊎_elim
    (λ l. ap (λ m. bit m j) at ∙ bit_low j f (2 ^ n - 1) 0 l ∙ bit_of_zero j ∙ grind (arith, nat_tests))
    (λ g. ap (λ m. bit m j) at ∙ bit_high j f (2 ^ n - 1) 0 (pow_pos f) g
    ∙ ⊎_elim (λ l. ap (λ b. eqb b 1) (bit_at_ones n (j - f) l) ∙ grind (arith, nat_tests)) (λ k. ap (λ b. eqb b 1) (bit_at_ones_above n (j - f) k) ∙ grind (arith, nat_tests)) (cases_lt (j - f) n))
    (cases_lt j f)
  where
    at : (2 ^ n - 1) * 2 ^ f ≡ (2 ^ n - 1) * 2 ^ f + 0
    at = omega arith

lane_bits : LaneBits
lane_bits cpu j =
    let e = ones_from (lane_count cpu) (first_lane cpu) j in
    (λ t. let p = and_parts _ _ (sym e ∙ t) in (leb-true _ _ p.0, ltb-true _ _ p.1), λ p. e ∙ and_from _ _ (le-leb _ _ p.0) (lt-ltb _ _ p.1))

pub address_bits : AddressBits
address_bits = record {
  held = λ w pci. (held_agrees w pci, agrees_held w pci);
  target_base = target_base_bits;
  plain = plain_bits;
  entry = entry_bits;
  page = page_bits;
  sparse_memory = sparse_memory_bits;
  dense_memory = dense_memory_bits;
  sparse_io = sparse_io_bits;
  configuration_0 = configuration_0_bits;
  configuration_1 = configuration_1_bits;
  lanes = lane_bits;
}
