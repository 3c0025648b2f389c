-- A burst's pieces have its longwords, each once and in order, and each piece lies in one line.
use Rattle.std.proofs.Common.{◌≡◌, ℕ, zero, suc, ◌+◌, ◌-◌, ◌*◌, ◌/◌, ◌%◌, ◌<◌, ◌≤◌, ◌⊎◌, List, [], ◌∷◌, ◌++◌, map, length, take, drop, sym, refl, ap, ◌∙◌, ap₂, inl, inr, arith}
use Rattle.std.proofs.ByRecursion.{All-get_or}
use Rattle.std.proofs.Math.Seq.{take-add}
use Rattle.std.proofs.lemmas.Bool.Decides.{nat_tests}
use Rattle.std.specs.List.{range_with_len, AllWithin, flat_map, AllByRecursion}
use Rattle.bridge.specs.Bursts.{Job, Piece, card_read, card_write, cut, in_line, job_front, job_rest, reading, writing}
use Rattle.bridge.proofs.BurstRuns.{cut_by}
use Rattle.bridge_laws.specs.Cuts.{CutAtLines, InOneLine, addresses, job_enables, job_words, piece_addresses}

-- so many addresses, and then some more
shifted : (pci n a b : ℕ) → map (λ k. pci + 4 * k) (range_with_len (a + b) n) ≡ map (λ k. pci + 4 * a + 4 * k) (range_with_len b n)
shifted pci zero a b = refl
shifted pci (suc n) a b =
    ap₂ (λ (x : ℕ) (l : List ℕ). x ∷ l) (omega arith) (ap (λ c. map (λ k. pci + 4 * k) (range_with_len c n)) (omega arith) ∙ shifted pci n a (b + 1))

counted_on : (f : ℕ → ℕ) (n m a : ℕ) → map f (range_with_len a (n + m)) ≡ map f (range_with_len a n) ++ map f (range_with_len (a + n) m)
counted_on f zero m a = let e : zero + m ≡ m = omega arith in let e' : a + zero ≡ a = omega arith in ap₂ (λ x y. map f (range_with_len x y)) (sym e') e
counted_on f (suc n) m a =
    let e : suc n + m ≡ suc (n + m) = omega arith in
    let e' : a + 1 + n ≡ a + suc n = omega arith in
    ap (λ x. map f (range_with_len a x)) e ∙ ap (λ l. f a ∷ l) (counted_on f n m (a + 1) ∙ ap (λ x. map f (range_with_len (a + 1) n) ++ map f (range_with_len x m)) e')

addresses_split : (pci n m : ℕ) → addresses pci n ++ addresses (pci + 4 * n) m ≡ addresses pci (n + m)
addresses_split pci n m =
    let e : n + 0 ≡ 0 + n = omega arith in
    sym (counted_on (λ k. pci + 4 * k) n m 0 ∙ ap (λ l. addresses pci n ++ l) (ap (λ x. map (λ k. pci + 4 * k) (range_with_len x m)) (sym e) ∙ shifted pci m n 0))

pub in_line_some : (pci left : ℕ) → (left ≡ 0 → ⊥) → (0 < in_line pci left) × (in_line pci left ≤ left)
in_line_some pci left h = (omega arith, omega arith)

cut_addresses : (turns pci left : ℕ) (job : Job) → left ≤ turns → flat_map piece_addresses (cut turns pci left job) ≡ addresses pci left
cut_addresses zero pci left job h = let e : 0 ≡ left = omega arith in ap (addresses pci) e
cut_addresses (suc turns) pci left job h =
    cut_by (λ ps. flat_map piece_addresses ps ≡ addresses pci left) turns pci left job (λ e. ap (addresses pci) (sym e))
    (λ ne. let n = in_line pci left in
    let s = in_line_some pci left ne in
    let e : n + (left - n) ≡ left = omega arith in
    ap (λ l. addresses pci n ++ l) (cut_addresses turns (pci + 4 * n) (left - n) (job_rest n job) (omega arith)) ∙ addresses_split pci n (left - n) ∙ ap (addresses pci) e)

-- of a write also the values, or the enables
cut_parts : (f : Job → List ℕ) (part : List ℕ → List ℕ → List ℕ)
    → ((n : ℕ) (words enables : List ℕ) → f (job_front n (writing words enables)) ≡ take n (part words enables))
    → ((n : ℕ) (words enables : List ℕ) → part (drop n words) (drop n enables) ≡ drop n (part words enables))
    → (turns pci left : ℕ) (words enables : List ℕ) → left ≤ turns → flat_map (λ (p : Piece). f p.job) (cut turns pci left (writing words enables)) ≡ take left (part words enables)
cut_parts f part front rest zero pci left words enables h = let e : 0 ≡ left = omega arith in ap (λ k. take k (part words enables)) e
cut_parts f part front rest (suc turns) pci left words enables h =
    cut_by (λ ps. flat_map (λ (p : Piece). f p.job) ps ≡ take left (part words enables)) turns pci left (writing words enables) (λ e. ap (λ k. take k (part words enables)) (sym e))
    (λ ne. let n = in_line pci left in
    let s = in_line_some pci left ne in
    let e : n + (left - n) ≡ left = omega arith in
    ap₂ ◌++◌ (front n words enables) (cut_parts f part front rest turns (pci + 4 * n) (left - n) (drop n words) (drop n enables) (omega arith) ∙ ap (take (left - n)) (rest n words enables))
    ∙ sym (take-add n (left - n) (part words enables)) ∙ ap (λ k. take k (part words enables)) e)

cut_reads : (f : Job → List ℕ) → f reading ≡ [] → (turns pci left : ℕ) → flat_map (λ (p : Piece). f p.job) (cut turns pci left reading) ≡ []
cut_reads f e zero pci left = refl
cut_reads f e (suc turns) pci left =
    cut_by (λ ps. flat_map (λ (p : Piece). f p.job) ps ≡ []) turns pci left reading (λ z. refl)
    (λ ne. ap₂ ◌++◌ e (cut_reads f e turns _ _))

-- each piece lies in one line
piece_in_line : (pci left : ℕ) → pci % 4 ≡ 0 → (left ≡ 0 → ⊥) → (pci + 4 * in_line pci left - 1) / 32 ≡ pci / 32
piece_in_line pci left a h = omega arith

pub cut_in_line : (turns pci left : ℕ) (job : Job) → pci % 4 ≡ 0 → AllByRecursion InOneLine (cut turns pci left job)
cut_in_line zero pci left job a = tt
cut_in_line (suc turns) pci left job a =
    cut_by (AllByRecursion InOneLine) turns pci left job (λ e. tt)
    (λ ne. (record { some = (in_line_some pci left ne).0; line = piece_in_line pci left a ne }, cut_in_line turns (pci + 4 * in_line pci left) (left - in_line pci left) _ (omega arith)))

-- and a piece that others follow ends at a multiple of 32
next_at_multiple : (pci left : ℕ) → pci % 4 ≡ 0 → (left - in_line pci left ≡ 0) ⊎ ((pci + 4 * in_line pci left) % 32 ≡ 0)
next_at_multiple pci left a = grind arith

cut_multiples : (turns pci left : ℕ) (job : Job) → pci % 4 ≡ 0 → (left ≡ 0) ⊎ (pci % 32 ≡ 0) → AllByRecursion (λ (p : Piece). p.pci % 32 ≡ 0) (cut turns pci left job)
cut_multiples zero pci left job a h = tt
cut_multiples (suc turns) pci left job a (inl e) = cut_by (AllByRecursion (λ (p : Piece). p.pci % 32 ≡ 0)) turns pci left job (λ _. tt) (λ ne. absurd (ne e))
cut_multiples (suc turns) pci left job a (inr m) =
    cut_by (AllByRecursion (λ (p : Piece). p.pci % 32 ≡ 0)) turns pci left job (λ e. tt)
    (λ ne. (m, cut_multiples turns (pci + 4 * in_line pci left) (left - in_line pci left) _ (omega arith) (next_at_multiple pci left a)))

rest_every : (P : Piece → Type 0) (p : Piece) (ps : List Piece) → AllByRecursion P ps → AllWithin P (p ∷ ps) 1 (length (p ∷ ps))
rest_every P p ps h zero d l u = absurd (omega arith)
rest_every P p ps h (suc k) d l u = All-get_or P ps k d (omega arith) h

cut_at_multiples : (turns pci left : ℕ) (job : Job) → pci % 4 ≡ 0 → AllWithin (λ (p : Piece). p.pci % 32 ≡ 0) (cut turns pci left job) 1 (length (cut turns pci left job))
cut_at_multiples zero pci left job a = λ k d l u. absurd (omega arith)
cut_at_multiples (suc turns) pci left job a =
    let E : List Piece → Type 0 = λ ps. AllWithin (λ (p : Piece). p.pci % 32 ≡ 0) ps 1 (length ps) in
    cut_by E turns pci left job (λ e k d l u. absurd (omega arith))
    (λ ne. rest_every (λ (p : Piece). p.pci % 32 ≡ 0) _ _ (cut_multiples turns (pci + 4 * in_line pci left) (left - in_line pci left) _ (omega arith) (next_at_multiple pci left a)))

pub cut_at_lines : CutAtLines
cut_at_lines (card_read pci count buffer) h m =
    let a : pci % 4 ≡ 0 = grind (arith, nat_tests) in
    record {
      in_order = cut_addresses count pci count reading (omega arith);
      words = cut_reads job_words refl count pci count;
      enables = cut_reads job_enables refl count pci count;
      in_line = cut_in_line count pci count reading a;
      at_multiples = cut_at_multiples count pci count reading a;
    }
cut_at_lines (card_write pci count words enables) h m =
    let a : pci % 4 ≡ 0 = grind (arith, nat_tests) in
    record {
      in_order = cut_addresses count pci count (writing words enables) (omega arith);
      words = cut_parts job_words (λ w e. w) (λ n w e. refl) (λ n w e. refl) count pci count words enables (omega arith);
      enables = cut_parts job_enables (λ w e. e) (λ n w e. refl) (λ n w e. refl) count pci count words enables (omega arith);
      in_line = cut_in_line count pci count (writing words enables) a;
      at_multiples = cut_at_multiples count pci count (writing words enables) a;
    }
