-- A card write, line by line.
use Rattle.std.proofs.Common.{◌≡◌, ℕ, zero, suc, ◌+◌, ◌-◌, ◌*◌, ◌/◌, ◌%◌, ◌<◌, ◌≤◌, Bool, true, false, cond, not, ◌||◌, eqb, ltb, List, [], ◌∷◌, length, get_or, take, drop, sum_by, count_by, sym, refl, ap, ◌∙◌, subst, arith}
use Rattle.std.proofs.lemmas.List.{length-take}
use Rattle.std.proofs.Math.Seq.{take-add}
use Rattle.std.proofs.lemmas.List.Sums.{sum_by-cons}
use Rattle.std.proofs.lemmas.Bool.{cond-false, cond-true, eq-eqb, ne_eqb, or_parts}
use Rattle.std.proofs.lemmas.Bool.Decides.{nat_tests}
use Rattle.memory.specs.Content.{Content, absent, good, spoiled}
use Rattle.bridge.specs.declared.log.Direction.TheVariants.{Write}
use Rattle.bridge.specs.declared.look_aside.LookAside.{LookAside}
use Rattle.bridge.specs.Bursts.{Burst, Piece, card_write, cut, in_line, pieces, wide_enable, writing, wrong_count}
use Rattle.bridge.specs.Calls.{burst_outcome}
use Rattle.bridge.specs.Pieces.{PieceOutcome, PieceReply, after_piece, no_window, outcome_at_content, outcome_at_place, outcome_written, piece_outcome, words_dismissed, words_stored}
use Rattle.bridge.proofs.BurstRuns.{cut_by}
use Rattle.bridge.proofs.LineBytes.{wide_parts}
use Rattle.bridge_laws.specs.Reads.{FaultAt, at_absent}
use Rattle.bridge.specs.declared.bursts.WriteCounts.{WriteCounts}
use Rattle.bridge.specs.Runs.{Run, counted, ends, met_no_window, run, run_piece, run_unless, answer_of_write}
use Rattle.bridge.specs.State.{State}
use Rattle.bridge.specs.Translation.{Place, place_of, table_fault, target, unclaimed}
use Rattle.bridge_laws.specs.Writes.{LineAfter, LineServed, Stored, WriteEndsWith, WriteLaw, Writes, at_no_window, before_piece, complete, nth_piece, was_dismissed, was_stored}
use Rattle.bridge_laws.proofs.CutFacts.{in_line_some}
use Rattle.bridge_laws.proofs.MaskFacts.{line_after}
use Rattle.bridge_laws.proofs.ReadFacts.{checks_passed, walk_met}
use Rattle.bridge_laws.proofs.SameLine.{target_low, target_on}

-- what a piece of a write comes to
data WriteStep (s : State) (p : Piece) (o : PieceOutcome) : Type 0 where
  step_stored : o.reply ≡ words_stored p.count → Stored s (after_piece s o) p → WriteStep s p o
  step_dismissed : {number line : ℕ} → o.reply ≡ words_dismissed p.count → FaultAt s p.pci Write number line → (after_piece s o).lines ≡ s.lines → WriteStep s p o
  step_unheld : o.reply ≡ no_window → place_of s p.pci ≡ unclaimed → (after_piece s o).lines ≡ s.lines → WriteStep s p o

module _ (s : State) (pci left : ℕ) (aligned : pci % 4 ≡ 0) (words enables : List ℕ) (narrow : wide_enable enables ≡ false) (few : length enables ≤ in_line pci left) (t : LookAside) where
  at_target : (address : ℕ) → place_of s pci ≡ target address → (s.lines (address / 32) ≡ absent → ⊥)
      → Stored s (after_piece s (outcome_written t s.control.log (record { pci = pci; count = in_line pci left; job = writing words enables }) address words enables)) (record { pci = pci; count = in_line pci left; job = writing words enables })
  at_target address e there =
      let low = target_low s pci address e in
      let line = address / 32 in
      let offset = address % 32 in
      record {
        address = address;
        led = λ k l. target_on pci k aligned (omega arith) s address e;
        in_line = omega arith;
        line = subst (LineAfter offset words enables (s.lines line)) (sym (cond-true (eqb line line) _ _ (eq-eqb line line refl))) (line_after offset words enables narrow (omega arith) (s.lines line) there);
        others = λ k ne. cond-false (eqb k line) _ _ (ne_eqb k line ne);
      }

  at_content : (address : ℕ) → place_of s pci ≡ target address → (c : Content) → s.lines (address / 32) ≡ c
      → WriteStep s (record { pci = pci; count = in_line pci left; job = writing words enables }) (outcome_at_content t s.control.log (record { pci = pci; count = in_line pci left; job = writing words enables }) address (writing words enables) c)
  at_content address e absent h = step_dismissed refl (at_absent address e h) refl
  at_content address e spoiled h = step_stored refl (at_target address e (λ a. cc))
  at_content address e (good bytes) h = step_stored refl (at_target address e (λ a. cc))

  at_place : (q : Place) → place_of s pci ≡ q
      → WriteStep s (record { pci = pci; count = in_line pci left; job = writing words enables }) (outcome_at_place t s.control.log s.lines (record { pci = pci; count = in_line pci left; job = writing words enables }) q)
  at_place unclaimed e = step_unheld refl e refl
  at_place (table_fault fault) e = step_dismissed refl (walk_met s pci fault e) refl
  at_place (target address) e = at_content address e _ refl

write_step : (s : State) (pci left : ℕ) → pci % 4 ≡ 0 → (words enables : List ℕ) → wide_enable enables ≡ false → length enables ≤ in_line pci left
    → WriteStep s (record { pci = pci; count = in_line pci left; job = writing words enables }) (piece_outcome s.control s.lines (record { pci = pci; count = in_line pci left; job = writing words enables }))
write_step s pci left a words enables narrow few = at_place s pci left a words enables narrow few _ _ refl

-- the three counts as a record
abbrev summed : List Piece → List Bool → WriteCounts
summed ps stored = record { taken = sum_by (λ (p : Piece). p.count) (take (length stored) ps); stored = count_by (λ b. b) stored; dismissed = count_by not stored }

summed_stored : (p : Piece) (ps : List Piece) (l : List Bool) → summed (p ∷ ps) (true ∷ l) ≡ record { taken = p.count + (summed ps l).taken; stored = 1 + (summed ps l).stored; dismissed = (summed ps l).dismissed }
summed_stored p ps l =
    let a = sum_by-cons (λ (q : Piece). q.count) p (take (length l) ps) in
    let b = sum_by-cons (λ c. cond c 1 0) true l in
    cc (a, b)

summed_dismissed : (p : Piece) (ps : List Piece) (l : List Bool) → summed (p ∷ ps) (false ∷ l) ≡ record { taken = p.count + (summed ps l).taken; stored = (summed ps l).stored; dismissed = 1 + (summed ps l).dismissed }
summed_dismissed p ps l =
    let a = sum_by-cons (λ (q : Piece). q.count) p (take (length l) ps) in
    let d = sum_by-cons (λ c. cond (not c) 1 0) false l in
    cc (a, d)

-- a run of pieces that write
data Ending (s : State) (ps : List Piece) (l : List Bool) : Bool → Type 0 where
  whole : length l ≡ length ps → Ending s ps l false
  short : length l < length ps → place_of s (nth_piece ps (length l)).pci ≡ unclaimed → Ending s ps l true

record Writing (s : State) (ps : List Piece) (r : Run) : Type 0 where
  stored : List Bool
  served : (i : ℕ) → i < length stored → LineServed (before_piece s ps i) (before_piece s ps (suc i)) (nth_piece ps i) (get_or stored i false)
  tally : counted r.replies ≡ summed ps stored
  end : Ending (before_piece s ps (length stored)) ps stored (met_no_window r.replies)
  memory : r.state.lines ≡ (before_piece s ps (length stored)).lines

-- a run whose first piece goes on, or is the last
run_on : (s : State) (o : PieceOutcome) (later : Run) (reply : PieceReply) → o.reply ≡ reply → ends reply ≡ false → run_piece s o later ≡ record { state = later.state; replies = reply ∷ later.replies }
run_on s o later reply e f = ap (λ b. run_unless b s o later) (ap ends e ∙ f) ∙ ap (λ r. record { state = later.state; replies = r ∷ later.replies }) e

run_last : (s : State) (o : PieceOutcome) (later : Run) (reply : PieceReply) → o.reply ≡ reply → ends reply ≡ true → run_piece s o later ≡ record { state = after_piece s o; replies = reply ∷ [] }
run_last s o later reply e f = ap (λ b. run_unless b s o later) (ap ends e ∙ f) ∙ ap (λ r. record { state = after_piece s o; replies = r ∷ [] }) e

ending_more : {s : State} {p : Piece} {ps : List Piece} {l : List Bool} (x b : Bool) → Ending s ps l b → Ending s (p ∷ ps) (x ∷ l) b
ending_more x b (whole e) = whole (ap suc e)
ending_more x b (short h u) = short (omega arith) u

module _ (s : State) (p : Piece) (ps : List Piece) (later : Run) where
  writing_step : WriteStep s p (piece_outcome s.control s.lines p) → Writing (after_piece s (piece_outcome s.control s.lines p)) ps later
      → Writing s (p ∷ ps) (run_piece s (piece_outcome s.control s.lines p) later)
  writing_step (step_stored e w) h =
      subst (Writing s (p ∷ ps)) (sym (run_on s _ later (words_stored p.count) e refl))
      (record {
        stored = true ∷ h.stored;
        served = elim [ zero ↦ λ _. was_stored w | suc i ↦ λ l. h.served i (omega arith) ];
        tally = ap (λ (c : WriteCounts). record { taken = p.count + c.taken; stored = 1 + c.stored; dismissed = c.dismissed }) h.tally ∙ sym (summed_stored p ps h.stored);
        end = ending_more true _ h.end;
        memory = h.memory;
      })
  writing_step (step_dismissed e f same) h =
      subst (Writing s (p ∷ ps)) (sym (run_on s _ later (words_dismissed p.count) e refl))
      (record {
        stored = false ∷ h.stored;
        served = elim [ zero ↦ λ _. was_dismissed f same | suc i ↦ λ l. h.served i (omega arith) ];
        tally = ap (λ (c : WriteCounts). record { taken = p.count + c.taken; stored = c.stored; dismissed = 1 + c.dismissed }) h.tally ∙ sym (summed_dismissed p ps h.stored);
        end = ending_more false _ h.end;
        memory = h.memory;
      })
  writing_step (step_unheld e u same) h =
      subst (Writing s (p ∷ ps)) (sym (run_last s _ later no_window e refl))
      (record { stored = []; served = λ i l. absurd (omega arith); tally = refl; end = short (omega arith) u; memory = same })

nothing_left : (s : State) → Writing s [] (run s [])
nothing_left s = record { stored = []; served = λ i l. absurd (omega arith); tally = refl; end = whole refl; memory = refl }

writings : (turns pci left : ℕ) (words enables : List ℕ) → left ≤ turns → pci % 4 ≡ 0 → wide_enable (take left enables) ≡ false → (s : State)
    → Writing s (cut turns pci left (writing words enables)) (run s (cut turns pci left (writing words enables)))
writings zero pci left words enables h a narrow s = nothing_left s
writings (suc turns) pci left words enables h a narrow s =
    cut_by (λ ps. Writing s ps (run s ps)) turns pci left (writing words enables) (λ e. nothing_left s)
    (λ ne. let fits = in_line_some pci left ne in
    let n = in_line pci left in
    let e : n + (left - n) ≡ left = omega arith in
    let parts = wide_parts (take n enables) (take (left - n) (drop n enables)) (ap wide_enable (sym (take-add n (left - n) enables) ∙ ap (λ k. take k enables) e) ∙ narrow) in
    writing_step s _ _ _ (write_step s pci left a (take n words) (take n enables) parts.0 (simp length-take (omega arith)))
    (writings turns (pci + 4 * n) (left - n) (drop n words) (drop n enables) (omega arith) (omega arith) parts.1 _))

answer_end : {s : State} {ps : List Piece} {l : List Bool} (c : WriteCounts) (b : Bool) → c ≡ summed ps l → Ending s ps l b → WriteEndsWith s ps l (answer_of_write c b)
answer_end {s} {ps} {l} c b e (whole h) = subst (λ (d : WriteCounts). WriteEndsWith s ps l (answer_of_write d false)) (sym e) (complete h)
answer_end {s} {ps} {l} c b e (short h u) = subst (λ (d : WriteCounts). WriteEndsWith s ps l (answer_of_write d true)) (sym e) (at_no_window h u)

pub writes : Writes
writes s pci count words enables ok =
    let b : Burst = card_write pci count words enables in
    let passed = checks_passed s b ok in
    let aligned : pci % 4 ≡ 0 = grind (arith, nat_tests) in
    let narrow : wide_enable (take count enables) ≡ false = (or_parts (ltb (length enables) count) (wide_enable (take count enables)) (or_parts (wrong_count pci count words) (ltb (length enables) count || wide_enable (take count enables)) passed.0).1).1 in
    let w = writings count pci count words enables (omega arith) aligned narrow s in
    subst (λ o. WriteLaw s (pieces b) (burst_outcome s b o)) (sym ok) (record { stored = w.stored; served = w.served; end = answer_end _ _ w.tally w.end; memory = w.memory })
