-- A place that is filled with longwords, some lines after others.
use Rattle.std.proofs.Common.{◌≡◌, ℕ, ◌+◌, ◌-◌, ◌*◌, ◌/◌, ◌<◌, ◌≤◌, min, List, [], ◌++◌, length, take, drop, Ok, sym, refl, ap, ◌∙◌, subst, arith}
use borrow.Rule.Slice.PartMut.{put_mid}
use Rattle.std.proofs.lemmas.List.{append_assoc, append-nil, drop-append-le, drop-drop, length-drop, length-take, length-take-le, drop_all, take_all, take-append-drop}
use Rattle.std.proofs.lemmas.Slice.{take-put_mid, drop-put_mid}
use Rattle.memory.specs.Content.{Lines, read_answer}
use Rattle.memory.proofs.PutParts.{put_long}
use Rattle.memory.proofs.LongwordRuns.{LieAt, longwords_few, longwords_long, longwords_stop, run_read, same_from}
use Rattle.memory.specs.Longwords.{buffer_filled, longwords, longwords_answer, longwords_answered, longwords_on}

-- a part whose front is filled
pub put_front : (a k : ℕ) (b words : List ℕ) → length words ≤ length (take k (drop a b)) → put_mid a k b (buffer_filled words (take k (drop a b))) ≡ put_mid a (length words) b words
put_front a k b words h =
    ap (λ l. take a b ++ l)
    (append_assoc words (drop (length words) (take k (drop a b))) (drop k (drop a b))
    ∙ ap (λ l. words ++ l) (sym (drop-append-le (length words) (take k (drop a b)) (drop k (drop a b)) h) ∙ ap (drop (length words)) (take-append-drop k (drop a b))))

-- the buffer holds what was read, then what it held
pub filled_so_far : (done : ℕ) (b₀ b : List ℕ) → drop done b ≡ drop done b₀ → done ≤ length b → buffer_filled (take done b) b₀ ≡ b
filled_so_far done b₀ b e h = rw (length-take-le done b h, ← e, take-append-drop done b)

-- The first longwords of a place are filled from those of a memory: what was taken, followed by what is left, is the whole.
pub record Taken (lines : Lines) (first : ℕ) (old words : List ℕ) (moved : ℕ) : Type 0 where
  pub within : moved ≤ length words
  pub same_length : length words ≡ length old
  pub taken : take moved words ++ longwords_on (length old - moved) (first + moved) lines ≡ longwords_on (length old) first lines
  pub rest : drop moved words ≡ drop moved old

pub none_taken : (lines : Lines) (first : ℕ) (old : List ℕ) → Taken lines first old old 0
none_taken lines first old = record {
  within = omega arith;
  same_length = refl;
  taken =
      ap (λ k. longwords_on k (first + 0) lines) (let z : length old - 0 ≡ length old = omega arith in z)
      ∙ ap (λ k. longwords_on (length old) k lines) (let z : first + 0 ≡ first = omega arith in z);
  rest = refl;
}

module _ (lines : Lines) (first : ℕ) (old words : List ℕ) (moved : ℕ) (i : Taken lines first old words moved) where
  -- some more are taken
  take_more : (n : ℕ) (got : List ℕ) → length got ≡ n → n ≤ length words - moved → longwords_on (length words - moved) (first + moved) lines ≡ got ++ longwords_on (length words - moved - n) (first + moved + n) lines
      → (part : List ℕ) → part ≡ buffer_filled got (take (length words - moved) (drop moved words)) → Taken lines first old (put_mid moved (length words - moved) words part) (moved + n)
  take_more n got long few more part is =
      let put : put_mid moved (length words - moved) words part ≡ put_mid moved n words got =
      ap (put_mid moved (length words - moved) words) is
      ∙ put_front moved (length words - moved) words got (omega (arith, long, length-take (length words - moved) (drop moved words), length-drop moved words))
      ∙ ap (λ k. put_mid moved k words got) long in
      let kept : length (put_mid moved n words got) ≡ length words = put_long moved n words got long (omega (arith, i.within)) in
      let left : length words - moved - n ≡ length old - (moved + n) = omega (arith, i.same_length) in
      let on_from : first + moved + n ≡ first + (moved + n) = omega arith in
      let here : got ++ longwords_on (length old - (moved + n)) (first + (moved + n)) lines ≡ longwords_on (length old - moved) (first + moved) lines =
      ap (λ k. got ++ longwords_on k (first + (moved + n)) lines) (sym left)
      ∙ ap (λ k. got ++ longwords_on (length words - moved - n) k lines) (sym on_from)
      ∙ sym more ∙ ap (λ k. longwords_on (k - moved) (first + moved) lines) i.same_length in
      subst (λ l. Taken lines first old l (moved + n)) (sym put)
      (record {
        within = omega (arith, kept, i.within);
        same_length = kept ∙ i.same_length;
        taken =
            ap (λ l. l ++ longwords_on (length old - (moved + n)) (first + (moved + n)) lines) (take-put_mid moved n words got (moved + n) (omega arith) i.within)
            ∙ append_assoc (take moved words) got _ ∙ ap (λ l. take moved words ++ l) here ∙ i.taken;
        rest = drop-put_mid moved n words got (moved + n) (omega arith) i.within long ∙ sym (drop-drop n moved words) ∙ ap (drop n) i.rest ∙ drop-drop n moved old;
      })

  -- the longwords of some lines that lie one behind another
  pub take_run : (line : ℕ) (bytes : List ℕ) (at count : ℕ) → LieAt lines line bytes at count → (index offset n : ℕ) → index < 8 → first + moved ≡ 8 * line + index → offset ≡ at + 4 * index → n ≡ min (8 * count - index) (length words - moved)
      → (part : List ℕ) → part ≡ buffer_filled (longwords n offset bytes) (take (length words - moved) (drop moved words)) → Taken lines first old (put_mid moved (length words - moved) words part) (moved + n)
  take_run line bytes at count lie index offset n low is from least part e =
      take_more n (longwords n offset bytes) (longwords_long n offset bytes) (omega arith) (run_read lines line bytes at count lie (length words - moved) (first + moved) index offset n low is from least) part e

  module _ (none : longwords_on (length old - moved) (first + moved) lines ≡ []) where
    all_taken : take moved words ≡ longwords_on (length old) first lines
    all_taken = sym (append-nil (take moved words)) ∙ ap (λ l. take moved words ++ l) (sym none) ∙ i.taken

    pub words_taken : words ≡ buffer_filled (longwords_on (length old) first lines) old
    words_taken = sym (ap (λ l. buffer_filled l old) (sym all_taken) ∙ filled_so_far moved old words i.rest i.within)

    pub count_taken : moved ≡ length (longwords_on (length old) first lines)
    count_taken = sym (length-take-le moved words i.within) ∙ ap length all_taken

-- where the place is full, nothing is left
pub full : (lines : Lines) (first : ℕ) (old : List ℕ) (moved : ℕ) → moved ≡ length old → longwords_on (length old - moved) (first + moved) lines ≡ []
full lines first old moved e = ap (λ k. longwords_on k (first + moved) lines) (let z : length old - moved ≡ 0 = omega arith in z)

-- some were taken, and then all that are left
module _ (lines : Lines) (first : ℕ) (old words : List ℕ) (moved : ℕ) (i : Taken lines first old words moved) (from : ℕ) (at : moved < length words → first + moved ≡ from) (part : List ℕ)
    (is : part ≡ buffer_filled (longwords_on (length (take (length words - moved) (drop moved words))) from lines) (take (length words - moved) (drop moved words))) where
  abbrev left : ℕ
  left = length words - moved

  size : length (take left (drop moved words)) ≡ left
  size = simp (length-take, length-drop) (omega arith)

  abbrev behind : List ℕ
  behind = longwords_on left from lines

  same_behind : longwords_on left (first + moved) lines ≡ behind
  same_behind = same_from lines left (first + moved) from (λ h. at (omega arith))

  none_behind : longwords_on (left - length behind) (first + moved + length behind) lines ≡ []
  none_behind =
      same_from lines (left - length behind) (first + moved + length behind) (from + length behind) (λ h. omega (arith, at (omega arith)))
      ∙ longwords_stop lines left from

  all_behind : Taken lines first old (put_mid moved left words part) (moved + length behind)
  all_behind =
      take_more lines first old words moved i (length behind) behind refl (longwords_few lines left from)
      (same_behind ∙ sym (ap (λ l. behind ++ l) none_behind ∙ append-nil behind)) part
      (is ∙ ap (λ k. buffer_filled (longwords_on k from lines) (take left (drop moved words))) size)

  none_left : longwords_on (length old - (moved + length behind)) (first + (moved + length behind)) lines ≡ []
  none_left =
      ap (λ k. longwords_on k (first + (moved + length behind)) lines) (let e : length old - (moved + length behind) ≡ left - length behind = omega (arith, i.same_length) in e)
      ∙ ap (λ k. longwords_on (left - length behind) k lines) (let e : first + (moved + length behind) ≡ first + moved + length behind = omega arith in e)
      ∙ none_behind

  pub all_filled : put_mid moved left words part ≡ buffer_filled (longwords_on (length old) first lines) old
  all_filled = words_taken lines first old (put_mid moved left words part) (moved + length behind) all_behind none_left

  pub all_counted : (more : ℕ) → more ≡ length (longwords_on (length (take left (drop moved words))) from lines) → moved + more ≡ length (longwords_on (length old) first lines)
  all_counted more e =
      ap (λ k. moved + k) (e ∙ ap (λ k. length (longwords_on k from lines)) size)
      ∙ count_taken lines first old (put_mid moved left words part) (moved + length behind) all_behind none_left

-- the first ones, from a longword of the first line on
pub take_first : (lines : Lines) (first : ℕ) (old : List ℕ) (line : ℕ) (bytes : List ℕ) (at count : ℕ) → LieAt lines line bytes at count → (index offset n : ℕ) → index < 8 → first ≡ 8 * line + index → offset ≡ at + 4 * index → n ≡ min (8 * count - index) (length old)
    → (words : List ℕ) → words ≡ buffer_filled (longwords n offset bytes) old → Taken lines first old words n
take_first lines first old line bytes at count lie index offset n low is from least words e =
    let whole : put_mid 0 (length old - 0) old words ≡ words = ap (λ k. words ++ drop k old) (let z : length old - 0 ≡ length old = omega arith in z) ∙ ap (λ l. words ++ l) (drop_all (length old) old (omega arith)) ∙ append-nil words in
    subst (λ l. Taken lines first old l n) whole
    (subst (Taken lines first old (put_mid 0 (length old - 0) old words)) (let z : 0 + n ≡ n = omega arith in z)
    (take_run lines first old old 0 (none_taken lines first old) line bytes at count lie index offset n low (omega arith) from (omega arith) words (e ∙ ap (buffer_filled (longwords n offset bytes)) (sym (take_all (length old - 0) old (omega arith))))))

-- the answer, where the first line is good
pub answer_taken : (lines : Lines) (first moved left : ℕ) (bytes : List ℕ) (at count : ℕ) → LieAt lines (first / 8) bytes at count → 0 < count → moved ≡ length (longwords_on left first lines) → Ok moved ≡ longwords_answer left first lines
answer_taken lines first moved left bytes at count lie some is =
    ap Ok is
    ∙ ap (λ c. longwords_answered (length (longwords_on left first lines)) (read_answer (first / 8) c))
    (sym (lie 0 some) ∙ ap lines (let z : first / 8 + 0 ≡ first / 8 = omega arith in z))
