-- When a burst is refused with 1, 2, 3 or 4.
use Rattle.std.proofs.Common.{◌≡◌, ℕ, zero, suc, ◌+◌, ◌*◌, ◌%◌, ◌<◌, ◌≤◌, Bool, true, false, ltb, List, [], ◌∷◌, length, get_or, take, Some, None, sum_by, Option, sym, refl, ap, ◌∙◌, subst, ⊎_elim, arith}
use Rattle.std.proofs.lemmas.List.Sums.{sum_by-cons}
use Rattle.std.proofs.lemmas.Bool.{both_ways, cases_Bool, cases_eq, cond-false, cond-true, lt-ltb}
use Rattle.std.proofs.lemmas.Bool.Decides.{nat_tests}
use Rattle.std.specs.List.{AllByRecursion}
use Rattle.memory.specs.Answers.{Answer, success, refusal}
use Rattle.bridge.specs.declared.log.Direction.{Direction}
use Rattle.bridge.specs.Bursts.{Burst, Job, Piece, burst_start, card_read, card_write, cut, failed_check, in_line, is_unclaimed, misaligned, out_of_bounds, reading, writing}
use Rattle.bridge.specs.Calls.{burst_outcome, card, performed}
use Rattle.bridge.proofs.BurstRuns.{cut_by}
use Rattle.bridge_laws.specs.Cuts.{InOneLine}
use Rattle.bridge.specs.Pieces.{PieceReply, no_window, read_ended, words_dismissed, words_moved, words_stored}
use Rattle.bridge_laws.specs.Reads.{FaultAt, ReadEndsWith, at_absent, at_absent_table, at_entry, at_fault, at_no_window, at_spoiled, at_spoiled_table, complete, serving}
use Rattle.bridge_laws.proofs.BoundsFacts.{alignment, bounds}
use Rattle.bridge_laws.specs.Refusals.{ChecksLaw, Refusals}
use Rattle.bridge.specs.declared.bursts.WriteCounts.{WriteCounts}
use Rattle.bridge.specs.Runs.{burst_answer, answer_of_read, answer_of_write}
use Rattle.bridge.specs.State.{State}
use Rattle.bridge_laws.specs.Translated.{Translated, by_entry, by_none, by_plain_window, by_row, not_valid, table_absent, table_spoiled}
use Rattle.bridge.specs.Translation.{Located, Place, place_of, table_fault, target, unclaimed}
use Rattle.bridge.specs.Windows.{claim, holds}
use Rattle.bridge_laws.specs.Writes as W
use Rattle.bridge_laws.proofs.CutFacts.{cut_in_line, in_line_some}
use Rattle.bridge_laws.proofs.ReadFacts.{checks_passed, reads}
use Rattle.bridge_laws.proofs.TranslationFacts.{translates}
use Rattle.bridge_laws.proofs.WriteFacts.{writes}

-- an address that leads nowhere is not claimed
abbrev UnclaimedBy : State → ℕ → Place → Type 0
UnclaimedBy s pci unclaimed = is_unclaimed (claim s.control.registers pci) ≡ true
UnclaimedBy s pci (table_fault fault) = Unit {0}
UnclaimedBy s pci (target address) = Unit {0}

place_fact : (s : State) (pci : ℕ) (l : Located) → Translated s pci l → UnclaimedBy s pci l.place
place_fact s pci l (by_none f g) = ap is_unclaimed (cond-false (holds s.control.registers.first pci) _ _ f ∙ cond-false (holds s.control.registers.second pci) _ _ g)
place_fact s pci l (by_plain_window number h m) = tt
place_fact s pci l (by_row number i page f e) = tt
place_fact s pci l (by_entry number page bytes f h v e) = tt
place_fact s pci l (not_valid number bytes f h v) = tt
place_fact s pci l (table_absent number f h) = tt
place_fact s pci l (table_spoiled number f h) = tt

unheld : (s : State) (pci : ℕ) → place_of s pci ≡ unclaimed → is_unclaimed (claim s.control.registers pci) ≡ true
unheld s pci e = subst (UnclaimedBy s pci) e (place_fact s pci _ (translates s pci))

-- a fault's number is not 4
over_4 : {s : State} {pci number line : ℕ} {d : Direction} → FaultAt s pci d number line → 5 ≤ number
over_4 (at_entry line e) = omega arith
over_4 (at_absent_table line e) = omega arith
over_4 (at_spoiled_table line e) = omega arith
over_4 (at_absent address e h) = omega arith
over_4 (at_spoiled address e h) = omega arith

-- the number and the values of an answer
abbrev number_of : Answer → ℕ
number_of (success values) = 0
number_of (refusal number values) = number

abbrev values_of : Answer → List ℕ
values_of (success values) = values
values_of (refusal number values) = values

-- the first check that fails, if any
module _ (s : State) (b : Burst) where
  data Checked : Option ℕ → Type 0 where
    fails_1 : out_of_bounds b ≡ true → Checked (Some 1)
    fails_2 : out_of_bounds b ≡ false → misaligned b ≡ true → Checked (Some 2)
    fails_3 : out_of_bounds b ≡ false → misaligned b ≡ false → is_unclaimed (claim s.control.registers (burst_start b)) ≡ true → Checked (Some 3)
    passes : out_of_bounds b ≡ false → misaligned b ≡ false → is_unclaimed (claim s.control.registers (burst_start b)) ≡ false → Checked None

  checked : Checked (failed_check s.control.registers b)
  checked =
      ⊎_elim (λ o. subst Checked (sym (cond-true (out_of_bounds b) _ _ o)) (fails_1 o))
      (λ o. subst Checked (sym (cond-false (out_of_bounds b) _ _ o))
      (⊎_elim (λ m. subst Checked (sym (cond-true (misaligned b) _ _ m)) (fails_2 o m))
      (λ m. subst Checked (sym (cond-false (misaligned b) _ _ m))
      (⊎_elim (λ u. subst Checked (sym (cond-true (is_unclaimed (claim s.control.registers (burst_start b))) _ _ u)) (fails_3 o m u))
      (λ u. subst Checked (sym (cond-false (is_unclaimed (claim s.control.registers (burst_start b))) _ _ u)) (passes o m u))
      (cases_Bool (is_unclaimed (claim s.control.registers (burst_start b))))))
      (cases_Bool (misaligned b))))
      (cases_Bool (out_of_bounds b))

-- a burst that is served returns something, or succeeds
abbrev SaysSomething : Answer → Type 0
SaysSomething (success values) = Unit {0}
SaysSomething (refusal number values) = 0 < length values

read_says : (m : ℕ) (rs : List PieceReply) → SaysSomething (answer_of_read m rs)
read_says m [] = tt
read_says m (words_moved words ∷ rs) = read_says m rs
read_says m (read_ended pci fault ∷ rs) = omega arith
read_says m (words_stored count ∷ rs) = read_says m rs
read_says m (words_dismissed count ∷ rs) = read_says m rs
read_says m (no_window ∷ rs) = omega arith

write_says : (c : WriteCounts) (b : Bool) → SaysSomething (answer_of_write c b)
write_says c true = omega arith
write_says c false = tt

burst_says : (b : Burst) (rs : List PieceReply) → SaysSomething (burst_answer b rs)
burst_says (card_read pci count buffer) rs = read_says _ rs
burst_says (card_write pci count words enables) rs = write_says _ _

served_not : (b : Burst) (rs : List PieceReply) (n : ℕ) → burst_answer b rs ≡ refusal n [] → ⊥
served_not b rs n e = let h : SaysSomething (refusal n []) = subst SaysSomething e (burst_says b rs) in omega arith

unclaimed_none : (o : Option (ℕ × Bool)) → is_unclaimed o ≡ true → o ≡ None
unclaimed_none None h = refl
unclaimed_none (Some c) h = absurd (both_ways _ refl h)

module _ (s : State) (b : Burst) where
  refused_by : (o : Option ℕ) → failed_check s.control.registers b ≡ o → performed s (card b) ≡ burst_outcome s b o
  refused_by o e = ap (burst_outcome s b) e

  -- a check that fails by another number
  other : (m n : ℕ) → (m ≡ n → ⊥) → refusal m [] ≡ refusal n [] → ⊥
  other m n ne e = ne (ap number_of e)

  only_1 : (o : Option ℕ) → Checked s b o → (burst_outcome s b o).answer ≡ refusal 1 [] → out_of_bounds b ≡ true
  only_1 o (fails_1 h) e = h
  only_1 o (fails_2 h m) e = absurd (other 2 1 (λ z. omega arith) e)
  only_1 o (fails_3 h m u) e = absurd (other 3 1 (λ z. omega arith) e)
  only_1 o (passes h m u) e = absurd (served_not b _ 1 e)

  only_2 : (o : Option ℕ) → Checked s b o → (burst_outcome s b o).answer ≡ refusal 2 [] → (out_of_bounds b ≡ false) × (misaligned b ≡ true)
  only_2 o (fails_1 h) e = absurd (other 1 2 (λ z. omega arith) e)
  only_2 o (fails_2 h m) e = (h, m)
  only_2 o (fails_3 h m u) e = absurd (other 3 2 (λ z. omega arith) e)
  only_2 o (passes h m u) e = absurd (served_not b _ 2 e)

  only_3 : (o : Option ℕ) → Checked s b o → (burst_outcome s b o).answer ≡ refusal 3 [] → (out_of_bounds b ≡ false) × (misaligned b ≡ false) × (claim s.control.registers (burst_start b) ≡ None)
  only_3 o (fails_1 h) e = absurd (other 1 3 (λ z. omega arith) e)
  only_3 o (fails_2 h m) e = absurd (other 2 3 (λ z. omega arith) e)
  only_3 o (fails_3 h m u) e = (h, m, unclaimed_none _ u)
  only_3 o (passes h m u) e = absurd (served_not b _ 3 e)

  checks_law : ChecksLaw s b
  checks_law = record {
    one = record { refused = λ h. refused_by (Some 1) (cond-true (out_of_bounds b) _ _ h); only = only_1 _ (checked s b) };
    two = record { refused = λ h. refused_by (Some 2) (cond-false (out_of_bounds b) _ _ h.0 ∙ cond-true (misaligned b) _ _ h.1); only = only_2 _ (checked s b) };
    three = record {
      refused = λ h. refused_by (Some 3) (cond-false (out_of_bounds b) _ _ h.0 ∙ cond-false (misaligned b) _ _ h.1 ∙ cond-true (is_unclaimed (claim s.control.registers (burst_start b))) _ _ (ap is_unclaimed h.2));
      only = only_3 _ (checked s b);
    };
  }

-- 4 comes where no window holds an address, with what was moved or counted before
read_4 : {s : State} {pci moved left : ℕ} {a : Answer} (values : List ℕ) → ReadEndsWith s pci moved left a → a ≡ refusal 4 values → (place_of s pci ≡ unclaimed) × (moved ∷ [] ≡ values)
read_4 values (complete z) e = absurd (let n : 0 ≡ 4 = ap number_of e in omega arith)
read_4 values (at_no_window some u) e = (u, ap values_of e)
read_4 values (at_fault {number} some f) e = absurd (let n : number ≡ 4 = ap number_of e in let m = over_4 f in omega arith)

write_4 : {s : State} {ps : List Piece} {stored : List Bool} {a : Answer} (values : List ℕ) → W.WriteEndsWith s ps stored a → a ≡ refusal 4 values
    → (length stored < length ps) × (place_of s (W.nth_piece ps (length stored)).pci ≡ unclaimed) × (W.counts ps stored ≡ values)
write_4 values (W.complete z) e = absurd (let n : 0 ≡ 4 = ap number_of e in omega arith)
write_4 values (W.at_no_window h u) e = (h, u, ap values_of e)

-- the first piece
serving_first : (s : State) (turns pci left : ℕ) (job : Job) → serving s (cut turns pci left job) 0 ≡ s
serving_first s zero pci left job = refl
serving_first s (suc turns) pci left job =
    cut_by (λ ps. serving s ps 0 ≡ s) turns pci left job (λ e. refl)
    (λ ne. cond-true (ltb 0 (in_line pci left)) _ _ (lt-ltb 0 _ (in_line_some pci left ne).0))

first_piece : (turns pci left : ℕ) (job : Job) → 0 < length (cut turns pci left job) → (W.nth_piece (cut turns pci left job) 0).pci ≡ pci
first_piece zero pci left job = λ h. absurd (omega arith)
first_piece (suc turns) pci left job =
    cut_by (λ ps. 0 < length ps → (W.nth_piece ps 0).pci ≡ pci) turns pci left job (λ e. λ h. absurd (omega arith))
    (λ ne. λ h. refl)

first_taken : (ps : List Piece) (x : Bool) (l : List Bool) → AllByRecursion InOneLine ps → length (x ∷ l) < length ps → 0 < sum_by (λ (p : Piece). p.count) (take (length (x ∷ l)) ps)
first_taken [] x l h k = absurd (omega arith)
first_taken (p ∷ ps) x l h k = let a = sum_by-cons (λ (q : Piece). q.count) p (take (length l) ps) in let b = h.0.some in omega arith

module _ (s : State) where
  read_moved : (pci count : ℕ) (buffer values : List ℕ) → failed_check s.control.registers (card_read pci count buffer) ≡ None → (performed s (card (card_read pci count buffer))).answer ≡ refusal 4 values → 0 < get_or values 0 0
  read_moved pci count buffer values ok e =
      let law = reads s pci count buffer ok in
      let at = read_4 values law.end e in
      ⊎_elim
      (λ z. absurd (both_ways _ (checks_passed s (card_read pci count buffer) ok).2 (unheld s pci (none law.moved z at.0))))
      (λ ne. subst (λ v. 0 < get_or v 0 0) at.1 (omega arith))
      (cases_eq law.moved 0)
    where
      none : (m : ℕ) → m ≡ 0 → place_of (serving s (cut count pci count reading) m) (pci + 4 * m) ≡ unclaimed → place_of s pci ≡ unclaimed
      none m z u =
          let f : pci ≡ pci + 4 * m = omega arith in
          ap (place_of s) f ∙ ap (λ x. place_of x (pci + 4 * m)) (sym (ap (serving s (cut count pci count reading)) z ∙ serving_first s count pci count reading)) ∙ u

  write_taken : (pci count : ℕ) (words enables values : List ℕ) → failed_check s.control.registers (card_write pci count words enables) ≡ None → (performed s (card (card_write pci count words enables))).answer ≡ refusal 4 values → 0 < get_or values 0 0
  write_taken pci count words enables values ok e =
      let law = writes s pci count words enables ok in
      go law.stored (write_4 values law.end e)
    where
      go : (l : List Bool)
          → (length l < length (cut count pci count (writing words enables))) × (place_of (W.before_piece s (cut count pci count (writing words enables)) (length l)) (W.nth_piece (cut count pci count (writing words enables)) (length l)).pci ≡ unclaimed) × (W.counts (cut count pci count (writing words enables)) l ≡ values)
          → 0 < get_or values 0 0
      go [] (h, u, f) =
          absurd (both_ways _ (checks_passed s (card_write pci count words enables) ok).2 (unheld s pci (ap (place_of s) (sym (first_piece count pci count (writing words enables) h)) ∙ u)))
      go (x ∷ l) (h, u, f) =
          let aligned : pci % 4 ≡ 0 = grind (arith, nat_tests) in
          subst (λ v. 0 < get_or v 0 0) f (first_taken (cut count pci count (writing words enables)) x l (cut_in_line count pci count (writing words enables) aligned) h)

  some_by : (b : Burst) (values : List ℕ) (o : Option ℕ) → Checked s b o → failed_check s.control.registers b ≡ o → (performed s (card b)).answer ≡ refusal 4 values → 0 < get_or values 0 0
  some_by b values o (fails_1 h) ok e = absurd (let n : 1 ≡ 4 = ap number_of (sym (ap (λ q. (burst_outcome s b q).answer) ok) ∙ e) in omega arith)
  some_by b values o (fails_2 h m) ok e = absurd (let n : 2 ≡ 4 = ap number_of (sym (ap (λ q. (burst_outcome s b q).answer) ok) ∙ e) in omega arith)
  some_by b values o (fails_3 h m u) ok e = absurd (let n : 3 ≡ 4 = ap number_of (sym (ap (λ q. (burst_outcome s b q).answer) ok) ∙ e) in omega arith)
  some_by (card_read pci count buffer) values o (passes h m u) ok e = read_moved pci count buffer values ok e
  some_by (card_write pci count words enables) values o (passes h m u) ok e = write_taken pci count words enables values ok e

pub refusals : Refusals
refusals = record { bounds = bounds; alignment = alignment; checks = checks_law; some_before_4 = λ s b values e. some_by s b values _ (checked s b) refl e }
