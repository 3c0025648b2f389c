-- Where nothing below is spoiled: which lines are spoiled, and how many.
use Rattle.std.proofs.Common.{◌≡◌, ℕ, zero, suc, ◌+◌, ◌<◌, ◌≤◌, Bool, true, false, cond, ◌||◌, eqb, count_by, List, [], ◌∷◌, length, sym, refl, ap, ◌∙◌, ⊎_elim, arith}
use mathlib.Core.Path.{fun_ext}
use Rattle.std.specs.List.{range_with_len}
use Rattle.std.proofs.lemmas.Bool.{cases_eq, cases_lt, eq-eqb, eqb-true, false≢true, ne_eqb, or_left, or_right}
use Rattle.std.proofs.lemmas.List.Sums.{sum_by-cons}
use Rattle.memory.specs.declared.marks.Mark.{Mark}
use Rattle.memory.specs.Content.{Bounded, Content, Lines, absent, good, is_present, is_spoiled, spoiled}
use Rattle.memory.specs.Marked.{AllPresent, Distinct, NeverSpoiled, mark_answer, mark_answer_of_lines, mark_checked, marked, spoil, spoiled_lines, under_marks}
use Rattle.memory.proofs.MarkLists.{alone}

-- the marked lines are the spoiled ones
spoil_of : (b : Bool) (c : Content) → is_spoiled c ≡ false → (b ≡ true → is_present c ≡ true) → is_spoiled (cond b (spoil c) c) ≡ b
spoil_of true absent h p = absurd (false≢true (p refl))
spoil_of true spoiled h p = refl
spoil_of true (good bytes) h p = refl
spoil_of false c h p = h

spoiled_is_marked : (marks : List Mark) (below : Lines) → NeverSpoiled below → AllPresent marks below → (k : ℕ) → is_spoiled (under_marks marks below k) ≡ marked marks k
spoiled_is_marked marks below never there k = spoil_of (marked marks k) (below k) (never k) (there k)

stays_present : (b : Bool) (c : Content) → is_present (cond b (spoil c) c) ≡ is_present c
stays_present true absent = refl
stays_present true spoiled = refl
stays_present true (good bytes) = refl
stays_present false c = refl

-- a mark counts once, beside the others
one : (p q : Bool) → (p ≡ true → q ≡ false) → cond {A = ℕ} (p || q) 1 0 ≡ cond {A = ℕ} p 1 0 + cond {A = ℕ} q 1 0
one true true h = absurd (false≢true (sym (h refl)))
one true false h = refl
one false true h = refl
one false false h = refl

counted_apart : (a : ℕ) (q : ℕ → Bool) → q a ≡ false → (xs : List ℕ) → count_by (λ k. eqb a k || q k) xs ≡ count_by (eqb a) xs + count_by q xs
counted_apart a q h [] = refl
counted_apart a q h (x ∷ xs) =
    let e = sum_by-cons (λ k. cond (eqb a k || q k) 1 0) x xs in
    let f = sum_by-cons (λ k. cond (eqb a k) 1 0) x xs in
    let g = sum_by-cons (λ k. cond (q k) 1 0) x xs in
    let r = counted_apart a q h xs in
    let o = one (eqb a x) (q x) (λ t. ap q (sym (eqb-true a x t)) ∙ h) in
    omega arith

none_before : (a s n : ℕ) → a < s → count_by (eqb a) (range_with_len s n) ≡ 0
none_before a s zero h = refl
none_before a s (suc n) h =
    let e = sum_by-cons (λ k. cond (eqb a k) 1 0) s (range_with_len (s + 1) n) in
    let r = none_before a (s + 1) n (omega arith) in
    let t : cond {A = ℕ} (eqb a s) 1 0 ≡ 0 = ap (λ b. cond b 1 0) (ne_eqb a s (λ q. omega arith)) in
    omega arith

once : (a s n : ℕ) → s ≤ a → a < s + n → count_by (eqb a) (range_with_len s n) ≡ 1
once a s zero h l = absurd (omega arith)
once a s (suc n) h l =
    let e = sum_by-cons (λ k. cond (eqb a k) 1 0) s (range_with_len (s + 1) n) in
    ⊎_elim
    (λ q. let r = none_before a (s + 1) n (omega arith) in let t : cond {A = ℕ} (eqb a s) 1 0 ≡ 1 = ap (λ b. cond b 1 0) (eq-eqb a s q) in omega arith)
    (λ ne. let r = once a (s + 1) n (omega arith) (omega arith) in let t : cond {A = ℕ} (eqb a s) 1 0 ≡ 0 = ap (λ b. cond b 1 0) (ne_eqb a s ne) in omega arith)
    (cases_eq a s)

nothing_counted : (xs : List ℕ) → count_by (marked []) xs ≡ 0
nothing_counted [] = refl
nothing_counted (x ∷ xs) = let e = sum_by-cons (λ k. cond (marked [] k) 1 0) x xs in let r = nothing_counted xs in omega arith

counted : (marks : List Mark) (n : ℕ) → Distinct marks → ((k : ℕ) → marked marks k ≡ true → k < n) → count_by (marked marks) (range_with_len 0 n) ≡ length marks
counted [] n d h = nothing_counted (range_with_len 0 n)
counted (m ∷ marks) n d h =
    let a = counted_apart m.line (marked marks) (alone m marks d) (range_with_len 0 n) in
    let l : m.line < n = h m.line (or_left _ _ (eq-eqb m.line m.line refl)) in
    let b = once m.line 0 n (omega arith) (omega arith) in
    let c = counted marks n (λ i j e g k. d (suc i) (suc j) e (omega arith) (omega arith)) (λ k t. h k (or_right _ _ t)) in
    omega arith

spoiled_count : (marks : List Mark) (below : Lines) → NeverSpoiled below → AllPresent marks below → Distinct marks → Bounded below → spoiled_lines (under_marks marks below) ≡ length marks
unfolding spoiled_lines
spoiled_count marks below never there apart beyond =
    ap (λ p. count_by p (range_with_len 0 0xC000000)) (fun_ext (spoiled_is_marked marks below never there))
    ∙ counted marks 0xC000000 apart
    (λ k t. ⊎_elim
    (λ l. l)
    (λ h. absurd (false≢true (sym (ap is_present (beyond k h)) ∙ there k t)))
    (cases_lt k 0xC000000))

pub answer_of_lines : (marks : List Mark) (below : Lines) (line : ℕ) → AllPresent marks below → Distinct marks → Bounded below → NeverSpoiled below → mark_answer marks below line ≡ mark_answer_of_lines (under_marks marks below) line
answer_of_lines marks below line there apart beyond never = λ i.
    mark_checked
    (sym (stays_present (marked marks line) (below line)) i)
    (sym (spoiled_is_marked marks below never there line) i)
    (sym (spoiled_count marks below never there apart beyond) i)
