-- A card read, longword by longword.
use Rattle.std.proofs.Common.{◌≡◌, ℕ, zero, suc, ◌+◌, ◌-◌, ◌*◌, ◌/◌, ◌%◌, ◌<◌, ◌≤◌, Bool, true, false, ltb, List, [], ◌∷◌, ◌++◌, length, get_or, None, sym, refl, ap, ◌∙◌, subst, ⊎_elim, arith}
use Rattle.std.proofs.lemmas.List.FromFn.{get_or-map-range_with_len, length-map-range_with_len}
use Rattle.std.proofs.lemmas.List.{get_or_append_left, get_or-append_right, get_or-drop, length-append, length-drop}
use Rattle.std.proofs.lemmas.Bool.{cases_lt, cond-false, cond-true, le-ltb, lt-ltb}
use Rattle.std.proofs.lemmas.Bool.Decides.{nat_tests}
use Rattle.memory.specs.Answers.{Answer, refusal}
use Rattle.memory.specs.Content.{Content, Lines, absent, good, spoiled}
use Rattle.memory.specs.declared.MemoryFault.TheVariants.{Absent, Spoiled}
use Rattle.bridge.specs.declared.faults.BurstFault.{BurstFault}
use Rattle.bridge.specs.declared.faults.WalkFault.{WalkFault}
use Rattle.bridge.specs.declared.faults.WalkFault.TheVariants.{Memory, NotValid}
use Rattle.bridge.specs.declared.log.Direction.{Direction}
use Rattle.bridge.specs.declared.log.Direction.TheVariants.{Read}
use Rattle.bridge.specs.declared.log.FaultLog.{FaultLog}
use Rattle.bridge.specs.declared.look_aside.LookAside.{LookAside}
use Rattle.bridge.specs.Bits.{bits}
use Rattle.bridge.specs.Bursts.{Burst, Piece, burst_start, card_read, cut, failed_check, in_line, is_unclaimed, misaligned, out_of_bounds, pieces, reading}
use Rattle.bridge.specs.Calls.{burst_outcome}
use Rattle.bridge.specs.Faults.{fault_line, fault_number, walk_line, walk_number}
use Rattle.memory.specs.Longwords.{longword_at, longwords}
use Rattle.bridge.specs.Pieces.{Edit, PieceOutcome, PieceReply, after_piece, edited, no_edit, no_window, outcome_at_content, outcome_at_place, piece_outcome, read_ended, words_moved}
use Rattle.bridge.proofs.BurstRuns.{cut_by}
use Rattle.bridge_laws.specs.Reads.{FaultAt, ReadAt, ReadEndsWith, ReadLaw, Reads, at_absent, at_absent_table, at_entry, at_fault, at_no_window, at_spoiled, at_spoiled_table, complete, serving}
use Rattle.bridge.specs.Runs.{Run, all_moved, ends, answer_of_read, run, run_piece, run_unless}
use Rattle.bridge.specs.State.{State}
use Rattle.bridge.specs.Translation.{Place, place_of, table_fault, target, unclaimed}
use Rattle.bridge.specs.Windows.{claim}
use Rattle.bridge_laws.proofs.CutFacts.{in_line_some}
use Rattle.bridge_laws.proofs.SameLine.{target_low, target_on}

-- what stops a walk is the fault that its number and line say
pub walk_met : (s : State) (pci : ℕ) {d : Direction} (fault : WalkFault) → place_of s pci ≡ table_fault fault → FaultAt s pci d (walk_number fault) (walk_line fault)
walk_met s pci (NotValid line) e = at_entry line e
walk_met s pci (Memory (Absent line)) e = at_absent_table line e
walk_met s pci (Memory (Spoiled line)) e = at_spoiled_table line e

-- what a card learns of a piece of a read
data ReadReply (s : State) (pci n : ℕ) : PieceReply → Type 0 where
  got : (address : ℕ) (bytes : List ℕ) → place_of s pci ≡ target address → s.lines (address / 32) ≡ good bytes → ReadReply s pci n (words_moved (longwords n (address % 32) bytes))
  failed : {fault : BurstFault} → FaultAt s pci Read (fault_number fault) (fault_line fault) → ReadReply s pci n (read_ended pci fault)
  unheld : place_of s pci ≡ unclaimed → ReadReply s pci n no_window

module _ (s : State) (pci n : ℕ) (t : LookAside) where
  reply_at_content : (address : ℕ) → place_of s pci ≡ target address → (c : Content) → s.lines (address / 32) ≡ c
      → ReadReply s pci n (outcome_at_content t s.control.log (record { pci = pci; count = n; job = reading }) address reading c).reply
  reply_at_content address e absent h = failed (at_absent address e h)
  reply_at_content address e spoiled h = failed (at_spoiled address e h)
  reply_at_content address e (good bytes) h = got address bytes e h

  reply_at_place : (q : Place) → place_of s pci ≡ q → ReadReply s pci n (outcome_at_place t s.control.log s.lines (record { pci = pci; count = n; job = reading }) q).reply
  reply_at_place unclaimed e = unheld e
  reply_at_place (table_fault fault) e = failed (walk_met s pci fault e)
  reply_at_place (target address) e = reply_at_content address e _ refl

read_reply : (s : State) (pci n : ℕ) → ReadReply s pci n (piece_outcome s.control s.lines (record { pci = pci; count = n; job = reading })).reply
read_reply s pci n = reply_at_place s pci n _ _ refl

-- what the replies of some pieces come to, from an address on
record Reading (s : State) (pci left : ℕ) (ps : List Piece) (rs : List PieceReply) : Type 0 where
  most : length (all_moved rs) ≤ left
  words : (k : ℕ) → k < length (all_moved rs) → ReadAt (serving s ps k) (pci + 4 * k) (get_or (all_moved rs) k 0)
  end : (m : ℕ) → ReadEndsWith (serving s ps (length (all_moved rs))) (pci + 4 * length (all_moved rs)) m (left - length (all_moved rs)) (answer_of_read m rs)

-- the same end, said of other numbers
end_at : {s t : State} {p q m l r : ℕ} {a : Answer} → s ≡ t → p ≡ q → l ≡ r → ReadEndsWith s p m l a → ReadEndsWith t q m r a
end_at {s} {t} {p} {q} {m} {l} {r} {a} e f g h =
    subst (λ x. ReadEndsWith x q m r a) e (subst (λ x. ReadEndsWith s x m r a) f (subst (λ x. ReadEndsWith s p m x a) g h))

at_same : {s t : State} {p q w x : ℕ} → s ≡ t → p ≡ q → w ≡ x → ReadAt s p w → ReadAt t q x
at_same {s} {t} {p} {q} {w} {x} e f g h = subst (λ y. ReadAt y q x) e (subst (λ y. ReadAt s y x) f (subst (λ y. ReadAt s p y) g h))

-- a longword of a piece
own_word : (s : State) (pci left : ℕ) → pci % 4 ≡ 0 → (address : ℕ) (bytes : List ℕ) → place_of s pci ≡ target address → s.lines (address / 32) ≡ good bytes
    → (k : ℕ) → k < in_line pci left → ReadAt s (pci + 4 * k) (longword_at bytes (address % 32 + 4 * k))
own_word s pci left aligned address bytes e h k l =
    let low = target_low s pci address e in
    let near : bits 4 2 pci + k < 8 = omega arith in
    let line : (address + 4 * k) / 32 ≡ address / 32 = omega arith in
    let place : (address + 4 * k) % 32 ≡ address % 32 + 4 * k = omega arith in
    record { address = address + 4 * k; bytes = bytes; led = target_on pci k aligned near s address e; held = ap s.lines line ∙ h; is = ap (longword_at bytes) (sym place) }

module _ (s : State) (p : Piece) (ps : List Piece) where
  next : State
  next = after_piece s (piece_outcome s.control s.lines p)

  serving_own : (k : ℕ) → k < p.count → serving s (p ∷ ps) k ≡ s
  serving_own k h = cond-true (ltb k p.count) _ _ (lt-ltb k p.count h)

  serving_later : (k j : ℕ) → p.count + j ≡ k → serving s (p ∷ ps) k ≡ serving next ps j
  unfolding next
  serving_later k j e =
      let f : k - p.count ≡ j = omega arith in
      cond-false (ltb k p.count) _ _ (le-ltb k p.count (omega arith)) ∙ ap (serving (after_piece s (piece_outcome s.control s.lines p)) ps) f

-- some words of a piece, and those of the later ones
module _ (s : State) (pci left : ℕ) (some : left ≡ 0 → ⊥) (ps : List Piece) (words : List ℕ) (rs : List PieceReply) where
  p : Piece
  p = record { pci = pci; count = in_line pci left; job = reading }

  read_more : length words ≡ in_line pci left → ((k : ℕ) → k < in_line pci left → ReadAt s (pci + 4 * k) (get_or words k 0)) → Reading (next s p ps) (pci + 4 * in_line pci left) (left - in_line pci left) ps rs
      → Reading s pci left (p ∷ ps) (words_moved words ∷ rs)
  unfolding p
  read_more long own later =
      let n = in_line pci left in
      let q : Piece = record { pci = pci; count = n; job = reading } in
      let rest = all_moved rs in
      let fits = in_line_some pci left some in
      let most = later.most in
      let len : length (words ++ rest) ≡ n + length rest = length-append words rest ∙ ap (λ x. x + length rest) long in
      record {
        most = omega arith;
        words = λ k h. ⊎_elim
            (λ l. at_same (sym (serving_own s q ps k l)) refl (sym (get_or_append_left words rest 0 k (omega arith))) (own k l))
            (λ g. let e : n + (k - n) ≡ k = omega arith in
            at_same (sym (serving_later s q ps k (k - n) e)) (omega arith) (sym (get_or-append_right words rest n k 0 long g)) (later.words (k - n) (omega arith)))
            (cases_lt k n);
        end = λ m. end_at (sym (serving_later s q ps (length (words ++ rest)) (length rest) (sym len))) (omega arith) (omega arith) (later.end m);
      }

reading_step : (s : State) (pci left : ℕ) → pci % 4 ≡ 0 → (left ≡ 0 → ⊥) → (ps : List Piece) (t : LookAside) (log : FaultLog) (e : Edit) {reply : PieceReply} (later : Run)
    → ReadReply s pci (in_line pci left) reply
    → Reading (next s (record { pci = pci; count = in_line pci left; job = reading }) ps) (pci + 4 * in_line pci left) (left - in_line pci left) ps later.replies
    → Reading s pci left (record { pci = pci; count = in_line pci left; job = reading } ∷ ps) (run_piece s (record { look_aside = t; log = log; reply = reply; edit = e }) later).replies
unfolding p
reading_step s pci left aligned some ps t log e later (got address bytes led held) h =
    read_more s pci left some ps _ later.replies (length-map-range_with_len _ 0 (in_line pci left))
    (λ k l. at_same refl refl (sym (get_or-map-range_with_len (λ j. longword_at bytes (address % 32 + 4 * j)) 0 (in_line pci left) k k 0 l (omega arith))) (own_word s pci left aligned address bytes led held k l)) h
reading_step s pci left aligned some ps t log e later (failed {fault} f) h =
    let fits = in_line_some pci left some in
    record {
      most = omega arith;
      words = λ k l. absurd (omega arith);
      end = λ m.
          let here : ReadEndsWith s pci m left (refusal (fault_number fault) (m ∷ pci ∷ fault_line fault ∷ [])) = at_fault (omega arith) f in
          end_at (sym (serving_own s (record { pci = pci; count = in_line pci left; job = reading }) ps 0 fits.0)) (omega arith) (omega arith) here;
    }
reading_step s pci left aligned some ps t log e later (unheld u) h =
    let fits = in_line_some pci left some in
    record {
      most = omega arith;
      words = λ k l. absurd (omega arith);
      end = λ m.
          let here : ReadEndsWith s pci m left (refusal 4 (m ∷ [])) = at_no_window (omega arith) u in
          end_at (sym (serving_own s (record { pci = pci; count = in_line pci left; job = reading }) ps 0 fits.0)) (omega arith) (omega arith) here;
    }

readings : (turns pci left : ℕ) → left ≤ turns → pci % 4 ≡ 0 → (s : State) → Reading s pci left (cut turns pci left reading) (run s (cut turns pci left reading)).replies
unfolding next
readings zero pci left h a s = record { most = omega arith; words = λ k l. absurd (omega arith); end = λ m. complete (omega arith) }
readings (suc turns) pci left h a s =
    cut_by (λ ps. Reading s pci left ps (run s ps).replies) turns pci left reading (λ e. record { most = omega arith; words = λ k l. absurd (omega arith); end = λ m. complete (omega arith) })
    (λ ne. let fits = in_line_some pci left ne in
    reading_step s pci left a ne _ _ _ _ _ (read_reply s pci (in_line pci left)) (readings turns (pci + 4 * in_line pci left) (left - in_line pci left) (omega arith) (omega arith) _))

-- a read changes no line
module _ (s : State) (pci n : ℕ) (t : LookAside) (log : FaultLog) (lines : Lines) where
  edit_at_content : (address : ℕ) (c : Content) → (outcome_at_content t log (record { pci = pci; count = n; job = reading }) address reading c).edit ≡ no_edit
  edit_at_content address absent = refl
  edit_at_content address spoiled = refl
  edit_at_content address (good bytes) = refl

  edit_at_place : (q : Place) → (outcome_at_place t log lines (record { pci = pci; count = n; job = reading }) q).edit ≡ no_edit
  edit_at_place unclaimed = refl
  edit_at_place (table_fault fault) = refl
  edit_at_place (target address) = edit_at_content address _

run_piece_lines : (s : State) (o : PieceOutcome) (later : Run) → (after_piece s o).lines ≡ s.lines → later.state.lines ≡ s.lines → (run_piece s o later).state.lines ≡ s.lines
run_piece_lines s o later here there = go (ends o.reply)
  where
    go : (b : Bool) → (run_unless b s o later).state.lines ≡ s.lines
    go true = here
    go false = there

read_lines : (turns pci left : ℕ) (s : State) → (run s (cut turns pci left reading)).state.lines ≡ s.lines
read_lines zero pci left s = refl
read_lines (suc turns) pci left s =
    cut_by (λ ps. (run s ps).state.lines ≡ s.lines) turns pci left reading (λ e. refl)
    (λ ne. let o = piece_outcome s.control s.lines (record { pci = pci; count = in_line pci left; job = reading }) in
    let here : (after_piece s o).lines ≡ s.lines = ap (λ e. edited e s.lines) (edit_at_place s pci (in_line pci left) _ _ s.lines (place_of s pci)) in
    run_piece_lines s o _ here (read_lines turns _ _ (after_piece s o) ∙ here))

pub checks_passed : (s : State) (b : Burst) → failed_check s.control.registers b ≡ None → (out_of_bounds b ≡ false) × (misaligned b ≡ false) × (is_unclaimed (claim s.control.registers (burst_start b)) ≡ false)
checks_passed s b ok = (grind arith, grind arith, grind arith)

pub reads : Reads
reads s pci count buffer ok =
    let b : Burst = card_read pci count buffer in
    let passed = checks_passed s b ok in
    let room : count ≤ length buffer = grind (arith, nat_tests) in
    let aligned : pci % 4 ≡ 0 = grind (arith, nat_tests) in
    let r = readings count pci count (omega arith) aligned s in
    let words = all_moved (run s (cut count pci count reading)).replies in
    let most = r.most in
    subst (λ o. ReadLaw s pci count buffer (pieces b) (burst_outcome s b o)) (sym ok)
    (record {
      moved = length words;
      at_most = most;
      filled = λ k h. at_same refl refl (sym (get_or_append_left words _ 0 k h)) (r.words k h);
      untouched = λ k d h. let e : length words + (k - length words) ≡ k = omega arith in get_or-append_right words _ (length words) k d refl h ∙ get_or-drop (length words) buffer (k - length words) d ∙ ap (λ j. get_or buffer j d) e;
      as_long = length-append words _ ∙ ap (λ x. length words + x) (length-drop (length words) buffer) ∙ omega arith;
      end = r.end (length words);
      memory = read_lines count pci count s;
    })
