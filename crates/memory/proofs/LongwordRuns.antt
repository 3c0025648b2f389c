-- Longwords of lines that lie one behind another in some bytes, and where a read of longwords ends.
use Rattle.std.proofs.Common.{◌≡◌, ℕ, zero, suc, ◌+◌, ◌-◌, ◌*◌, ◌/◌, ◌%◌, ◌<◌, ◌≤◌, min, true, false, List, [], ◌∷◌, ◌++◌, length, map, take, drop, Result, sym, refl, ap, ◌∙◌, subst, arith}
use mathlib.Core.Path.{fun_ext}
use Rattle.std.proofs.lemmas.Bool.{false≢true}
use Rattle.std.proofs.lemmas.List.{drop-drop, drop-take, take_all, take-take}
use Rattle.std.proofs.lemmas.List.FromFn.{length-map-range_with_len}
use Rattle.std.specs.List.{range_with_len}
use Rattle.std.specs.Result.{is_ok}
use Rattle.memory.specs.declared.MemoryFault.{MemoryFault}
use Rattle.memory.specs.Bytes.{joined}
use Rattle.memory.specs.Content.{Content, Lines, absent, good, read_answer, read_place, spoiled}
use Rattle.memory.specs.Longwords.{longword_at, longword_then, longwords, longwords_on}

pub longwords_long : (n offset : ℕ) (bytes : List ℕ) → length (longwords n offset bytes) ≡ n
longwords_long n offset bytes = length-map-range_with_len (λ k. longword_at bytes (offset + 4 * k)) 0 n

map_next : (f : ℕ → ℕ) (a n : ℕ) → map f (range_with_len (suc a) n) ≡ map (λ k. f (suc k)) (range_with_len a n)
map_next f a zero = refl
map_next f a (suc n) =
    ap (λ k. f (suc a) ∷ map f (range_with_len k n)) (let e : suc a + 1 ≡ suc (suc a) = omega arith in e) ∙ ap (λ l. f (suc a) ∷ l) (map_next f (suc a) n)
    ∙ ap (λ k. f (suc a) ∷ map (λ j. f (suc j)) (range_with_len k n)) (let e : suc a ≡ a + 1 = omega arith in e)

-- the first of some longwords, and the others
longwords_more : (n offset : ℕ) (bytes : List ℕ) → longwords (suc n) offset bytes ≡ longword_at bytes offset ∷ longwords n (offset + 4) bytes
longwords_more n offset bytes =
    ap (λ k. longword_at bytes k ∷ map (λ j. longword_at bytes (offset + 4 * j)) (range_with_len 1 n)) (let e : offset + 4 * 0 ≡ offset = omega arith in e)
    ∙ ap (λ l. longword_at bytes offset ∷ l)
    (map_next (λ j. longword_at bytes (offset + 4 * j)) 0 n
    ∙ ap (λ (f : ℕ → ℕ). map f (range_with_len 0 n)) (fun_ext (λ k. ap (longword_at bytes) (let e : offset + 4 * suc k ≡ offset + 4 + 4 * k = omega arith in e))))

-- a good line that has the longword found at some offset of other bytes
record Held (lines : Lines) (n : ℕ) (word : ℕ) : Type 0 where
  line_bytes : List ℕ
  is : lines (n / 8) ≡ good line_bytes
  word_is : longword_at line_bytes (4 * (n % 8)) ≡ word

-- longwords that are all found in some bytes, one behind another, and those after them
found : (n m first offset : ℕ) (lines : Lines) (bytes : List ℕ) → ((j : ℕ) → j < n → Held lines (first + j) (longword_at bytes (offset + 4 * j)))
    → longwords_on (n + m) first lines ≡ longwords n offset bytes ++ longwords_on m (first + n) lines
found zero m first offset lines bytes h =
    ap (λ k. longwords_on k first lines) (let e : 0 + m ≡ m = omega arith in e) ∙ ap (λ k. longwords_on m k lines) (let e : first ≡ first + 0 = omega arith in e)
found (suc n) m first offset lines bytes h =
    let here = h 0 (omega arith) in
    let at : first + 0 ≡ first = omega arith in
    let is = ap (λ k. lines (k / 8)) (sym at) ∙ here.is in
    let word : longword_at here.line_bytes (4 * (first % 8)) ≡ longword_at bytes offset =
    ap (λ k. longword_at here.line_bytes (4 * (k % 8))) (sym at) ∙ here.word_is ∙ ap (longword_at bytes) (let e : offset + 4 * 0 ≡ offset = omega arith in e) in
    let later = found n m (first + 1) (offset + 4) lines bytes
    (λ j l. subst (λ k. Held lines k (longword_at bytes (offset + 4 + 4 * j))) (let e : first + suc j ≡ first + 1 + j = omega arith in e)
    (subst (λ k. Held lines (first + suc j) (longword_at bytes k)) (let e : offset + 4 * suc j ≡ offset + 4 + 4 * j = omega arith in e) (h (suc j) (omega arith)))) in
    ap (λ k. longwords_on k first lines) (let e : suc n + m ≡ suc (n + m) = omega arith in e)
    ∙ ap (λ c. longword_then c (first % 8) (longwords_on (n + m) (first + 1) lines)) is
    ∙ ap (λ w. w ∷ longwords_on (n + m) (first + 1) lines) word
    ∙ ap (λ l. longword_at bytes offset ∷ l) (later ∙ ap (λ k. longwords n (offset + 4) bytes ++ longwords_on m k lines) (let e : first + 1 + n ≡ first + suc n = omega arith in e))
    ∙ ap (λ l. l ++ longwords_on m (first + suc n) lines) (sym (longwords_more n offset bytes))

-- a longword of a line that lies among other bytes
word_in_line : (bytes : List ℕ) (at i : ℕ) → i < 8 → longword_at (take 32 (drop at bytes)) (4 * i) ≡ longword_at bytes (at + 4 * i)
word_in_line bytes at i h =
    let whole : 32 ≡ 4 * i + (32 - 4 * i) = omega arith in
    let cut : drop (4 * i) (take 32 (drop at bytes)) ≡ take (32 - 4 * i) (drop (at + 4 * i) bytes) =
    ap (λ k. drop (4 * i) (take k (drop at bytes))) whole ∙ drop-take (4 * i) (32 - 4 * i) (drop at bytes) ∙ ap (take (32 - 4 * i)) (drop-drop (4 * i) at bytes) in
    ap joined (ap (take 4) cut ∙ take-take 4 (32 - 4 * i) (drop (at + 4 * i) bytes) (omega arith))

-- so many lines lie in some bytes, one behind another, from an offset on
abbrev pub LieAt : Lines → ℕ → List ℕ → ℕ → ℕ → Type 0
LieAt lines line bytes at count = (k : ℕ) → k < count → lines (line + k) ≡ good (take 32 (drop (at + 32 * k) bytes))

-- what is read of such lines, and what is left
pub run_read : (lines : Lines) (line : ℕ) (bytes : List ℕ) (at count : ℕ) → LieAt lines line bytes at count → (left first index offset n : ℕ) → index < 8 → first ≡ 8 * line + index → offset ≡ at + 4 * index → n ≡ min (8 * count - index) left
    → longwords_on left first lines ≡ longwords n offset bytes ++ longwords_on (left - n) (first + n) lines
run_read lines line bytes at count lie left first index offset n low is from least =
    let all : left ≡ n + (left - n) = omega arith in
    ap (λ k. longwords_on k first lines) all
    ∙ found n (left - n) first offset lines bytes (λ j h.
    let k = (index + j) / 8 in
    let i = (index + j) % 8 in
    let line_is : (first + j) / 8 ≡ line + k = omega arith in
    let index_is : (first + j) % 8 ≡ i = omega arith in
    record {
      line_bytes = take 32 (drop (at + 32 * k) bytes);
      is = ap lines line_is ∙ lie k (omega arith);
      word_is =
          ap (λ m. longword_at (take 32 (drop (at + 32 * k) bytes)) (4 * m)) index_is
          ∙ word_in_line bytes (at + 32 * k) i (omega arith)
          ∙ ap (longword_at bytes) (let e : at + 32 * k + 4 * i ≡ offset + 4 * j = omega arith in e);
    })

-- what is read of one good line, and what is left
pub line_read : (lines : Lines) (line : ℕ) (bytes : List ℕ) → lines line ≡ good bytes → (left first index n : ℕ) → index < 8 → first ≡ 8 * line + index → n ≡ min (8 - index) left
    → longwords_on left first lines ≡ longwords n (4 * index) bytes ++ longwords_on (left - n) (first + n) lines
line_read lines line bytes whole left first index n low is least =
    ap (λ k. longwords_on k first lines) (let e : left ≡ n + (left - n) = omega arith in e)
    ∙ found n (left - n) first (4 * index) lines bytes (λ j h. record {
      line_bytes = bytes;
      is = ap lines (let e : (first + j) / 8 ≡ line = omega arith in e) ∙ whole;
      word_is = ap (longword_at bytes) (let e : 4 * ((first + j) % 8) ≡ 4 * index + 4 * j = omega arith in e);
    })

-- a line that is read lies in the place for it
pub lies_read : (lines : Lines) (line : ℕ) (old bytes : List ℕ) (r : Result Unit MemoryFault) → length bytes ≡ 32 → r ≡ read_answer line (lines line) → bytes ≡ read_place (lines line) old → is_ok r ≡ true → LieAt lines line bytes 0 1
lies_read lines line old bytes r long e p t k h =
    ap lines (let z : line + k ≡ line = omega arith in z) ∙ read (lines line) (sym (ap is_ok e) ∙ t) p
    ∙ ap good (sym (ap (λ m. take 32 (drop m bytes)) (let z : 0 + 32 * k ≡ 0 = omega arith in z) ∙ take_all 32 bytes (omega arith)))
  where
    read : (c : Content) → is_ok (read_answer line c) ≡ true → bytes ≡ read_place c old → c ≡ good bytes
    read absent h p = absurd (false≢true h)
    read spoiled h p = absurd (false≢true h)
    read (good new) h p = ap good (sym p)

-- where the line of the first longword is refused, none is read
pub none_read : (lines : Lines) (left first line : ℕ) (r : Result Unit MemoryFault) → first / 8 ≡ line → r ≡ read_answer line (lines line) → is_ok r ≡ false → longwords_on left first lines ≡ []
none_read lines zero first line r at e f = refl
none_read lines (suc left) first line r at e f = ap (λ k. longword_then (lines k) (first % 8) (longwords_on left (first + 1) lines)) at ∙ none (lines line) (sym (ap is_ok e) ∙ f)
  where
    none : (c : Content) → is_ok (read_answer line c) ≡ false → longword_then c (first % 8) (longwords_on left (first + 1) lines) ≡ []
    none absent h = refl
    none spoiled h = refl
    none (good bytes) h = absurd (false≢true (sym h))

pub same_from : (lines : Lines) (left a b : ℕ) → (0 < left → a ≡ b) → longwords_on left a lines ≡ longwords_on left b lines
same_from lines zero a b h = refl
same_from lines (suc left) a b h = ap (λ k. longwords_on (suc left) k lines) (h (omega arith))

-- no more are read than there is room for
few_then : (c : Content) (index : ℕ) (later : List ℕ) (left : ℕ) → length later ≤ left → length (longword_then c index later) ≤ suc left
few_then absent index later left h = omega arith
few_then spoiled index later left h = omega arith
few_then (good bytes) index later left h = omega arith

pub longwords_few : (lines : Lines) (left first : ℕ) → length (longwords_on left first lines) ≤ left
longwords_few lines zero first = omega arith
longwords_few lines (suc left) first = few_then (lines (first / 8)) (first % 8) (longwords_on left (first + 1) lines) left (longwords_few lines left (first + 1))

-- behind those that are read, none is
module _ (lines : Lines) where
  stops_then : (left first : ℕ) (later : List ℕ) → later ≡ longwords_on left (first + 1) lines → longwords_on (left - length later) (first + 1 + length later) lines ≡ [] → (c : Content) → lines (first / 8) ≡ c
      → longwords_on (suc left - length (longword_then c (first % 8) later)) (first + length (longword_then c (first % 8) later)) lines ≡ []
  stops_then left first later is h absent e =
      ap (λ k. longwords_on k (first + 0) lines) (let z : suc left - 0 ≡ suc left = omega arith in z)
      ∙ ap (λ k. longwords_on (suc left) k lines) (let z : first + 0 ≡ first = omega arith in z) ∙ ap (λ c. longword_then c (first % 8) (longwords_on left (first + 1) lines)) e
  stops_then left first later is h spoiled e =
      ap (λ k. longwords_on k (first + 0) lines) (let z : suc left - 0 ≡ suc left = omega arith in z)
      ∙ ap (λ k. longwords_on (suc left) k lines) (let z : first + 0 ≡ first = omega arith in z) ∙ ap (λ c. longword_then c (first % 8) (longwords_on left (first + 1) lines)) e
  stops_then left first later is h (good bytes) e =
      ap (λ k. longwords_on k (first + suc (length later)) lines) (let z : suc left - suc (length later) ≡ left - length later = omega arith in z)
      ∙ ap (λ k. longwords_on (left - length later) k lines) (let z : first + suc (length later) ≡ first + 1 + length later = omega arith in z) ∙ h

  pub longwords_stop : (left first : ℕ) → longwords_on (left - length (longwords_on left first lines)) (first + length (longwords_on left first lines)) lines ≡ []
  longwords_stop zero first = refl
  longwords_stop (suc left) first = stops_then left first (longwords_on left (first + 1) lines) refl (longwords_stop left (first + 1)) (lines (first / 8)) refl
