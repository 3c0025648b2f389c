-- A whole burst, in two runs at once.
use Rattle.std.proofs.Common.{◌≡◌, ℕ, zero, suc, ◌+◌, ◌*◌, ◌^◌, ◌<◌, ◌≤◌, Bool, true, false, eqb, List, [], ◌∷◌, Some, None, Option, sym, refl, ap, subst, arith}
use Rattle.std.proofs.lemmas.Bool.{cond_both, eqb-false}
use Rattle.std.proofs.lemmas.Bool.Decides.{nat_tests}
use Rattle.std.specs.List.{AllByRecursion}
use Rattle.bridge.specs.Bursts.{Burst, Job, Piece, card_read, card_write, cut, failed_check, out_of_bounds, pieces}
use Rattle.bridge.specs.Calls.{Outcome, burst_outcome, card, performed}
use Rattle.bridge.specs.Isolation.{Hidden, Protected, SameBurst}
use Rattle.bridge.specs.Pieces.{PieceOutcome, after_piece, piece_outcome}
use Rattle.bridge.specs.Runs.{Run, burst_answer, burst_buffer, ends, run, run_piece, run_unless}
use Rattle.bridge.specs.State.{State}
use Rattle.bridge.proofs.PieceSteps.{Twin, Within, at_twin, edit_same, protected_within, same_outcome, within_piece, within_refl, within_trans}

-- every piece begins below the end of the PCI addresses
abbrev BeginsBelow : Piece → Type 0
BeginsBelow p = p.pci < 2 ^ 32

cut_below : (turns pci left : ℕ) (job : Job) → pci + 4 * left ≤ 2 ^ 32 → AllByRecursion BeginsBelow (cut turns pci left job)
cut_below zero pci left job h = tt
cut_below (suc turns) pci left job h =
    cond_both (eqb left 0) _ _ (AllByRecursion BeginsBelow) (λ _. tt) (λ e. let some = eqb-false left 0 e in (omega arith, cut_below turns _ _ _ (omega arith)))

pieces_below : (b : Burst) → out_of_bounds b ≡ false → AllByRecursion BeginsBelow (pieces b)
pieces_below (card_read pci count buffer) h = let fits : pci + 4 * count ≤ 2 ^ 32 = grind (arith, nat_tests) in cut_below count pci count _ fits
pieces_below (card_write pci count words enables) h = let fits : pci + 4 * count ≤ 2 ^ 32 = grind (arith, nat_tests) in cut_below count pci count _ fits

-- two runs of pieces, the left one from s
record TwinRuns (hidden : Hidden) (s : State) (r q : Run) : Type 0 where
  within : Within s r.state
  twin : Twin hidden r.state q.state
  replies : r.replies ≡ q.replies

-- a call in two runs
pub record TwinOutcomes (hidden : Hidden) (s : State) (o q : Outcome) : Type 0 where
  pub within : Within s o.state
  pub twin : Twin hidden o.state q.state
  pub same : SameBurst o q

module _ {hidden : Hidden} where
  run_both : (s t : State) (o : PieceOutcome) (last : Bool) (r q : Run) → Within s (after_piece s o) → Twin hidden (after_piece s o) (after_piece t o) → TwinRuns hidden (after_piece s o) r q
      → TwinRuns hidden s (run_unless last s o r) (run_unless last t o q)
  run_both s t o true r q w twin later = record { within = w; twin = twin; replies = refl }
  run_both s t o false r q w twin later = record { within = within_trans w later.within; twin = later.twin; replies = ap (λ l. o.reply ∷ l) later.replies }

  runs : (ps : List Piece) → AllByRecursion BeginsBelow ps → (s t : State) → Protected hidden s → Twin hidden s t → TwinRuns hidden s (run s ps) (run t ps)
  runs [] b s t k twin = record { within = within_refl s; twin = twin; replies = refl }
  runs (p ∷ ps) b s t k twin =
      at_twin (λ z. TwinRuns hidden s (run s (p ∷ ps)) (run z (p ∷ ps))) twin
      (let o = piece_outcome s.control s.lines p in
      let z : State = record { control = s.control; lines = t.lines } in
      let w = within_piece s k p b.0 in
      let next : Twin hidden (after_piece s o) (after_piece z o) = record { control = refl; agree = λ line h. edit_same s.lines t.lines o.edit line (twin.agree line h) } in
      subst (λ e. TwinRuns hidden s (run s (p ∷ ps)) (run_piece z e (run (after_piece z e) ps))) (sym (same_outcome s k p b.0 t.lines twin.agree))
      (run_both s z o (ends o.reply) _ _ w next (runs ps b.1 (after_piece s o) (after_piece z o) (protected_within k w) next)))

  outcomes : (b : Burst) (s t : State) → Protected hidden s → Twin hidden s t → (o : Option ℕ) → failed_check s.control.registers b ≡ o → TwinOutcomes hidden s (burst_outcome s b o) (burst_outcome t b o)
  outcomes b s t k twin None h =
      let fits : out_of_bounds b ≡ false = grind arith in
      let r = runs (pieces b) (pieces_below b fits) s t k twin in
      record { within = r.within; twin = r.twin; same = record { answer = ap (burst_answer b) r.replies; buffer = ap (burst_buffer b) r.replies } }
  outcomes b s t k twin (Some number) h = record { within = within_refl s; twin = twin; same = record { answer = refl; buffer = refl } }

  pub twin_bursts : (b : Burst) (s t : State) → Protected hidden s → Twin hidden s t → TwinOutcomes hidden s (performed s (card b)) (performed t (card b))
  twin_bursts b s t k twin =
      subst (λ c. TwinOutcomes hidden s (performed s (card b)) (burst_outcome t b (failed_check c.registers b))) twin.control (outcomes b s t k twin _ refl)
