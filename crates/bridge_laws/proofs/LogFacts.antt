-- The log over a run of calls.
use Rattle.std.proofs.Common.{◌≡◌, ℕ, ◌/◌, Bool, true, false, cond, List, [], ◌∷◌, ◌++◌, Some, None, Option, sym, refl, ap, ◌∙◌}
use Rattle.std.proofs.lemmas.List.{append_assoc, append-nil}
use Rattle.memory.specs.Content.{Content, Lines, absent, good, spoiled}
use Rattle.bridge.specs.declared.log.FaultLog.{FaultLog}
use Rattle.bridge.specs.declared.log.FaultRecord.{FaultRecord}
use Rattle.bridge.specs.declared.look_aside.LookAside.{LookAside}
use Rattle.bridge.specs.Bursts.{Burst, Job, Piece, failed_check, pieces, reading, writing}
use Rattle.bridge.specs.Calls.{Call, burst_outcome, card, control_written, log_clear, performed, processor, register_write}
use Rattle.bridge.specs.Isolation.{after}
use Rattle.bridge.specs.Log.{logged}
use Rattle.bridge_laws.specs.LogRuns.{LogKeepsTheFirst, burst_faults, faults_at, faults_since, faults_then, log_of, run_faults, target_faults}
use Rattle.bridge.specs.Pieces.{PieceOutcome, after_piece, outcome_at_content, outcome_at_place, piece_outcome}
use Rattle.bridge.specs.declared.registers.Register.{Register}
use Rattle.bridge.specs.Registers.{register_named}
use Rattle.bridge.specs.Runs.{Run, ends, run, run_unless}
use Rattle.bridge.specs.State.{Control, State, new_state}
use Rattle.bridge.specs.Translation.{Place, located, place_of, table_fault, target, unclaimed}

-- one fault more
logged_more : (met : List FaultRecord) (f : FaultRecord) → logged (log_of met) f ≡ log_of (met ++ f ∷ [])
logged_more [] f = refl
logged_more (a ∷ []) f = refl
logged_more (a ∷ b ∷ met) f = refl

module _ (met : List FaultRecord) (log : FaultLog) (is : log ≡ log_of met) where
  none_met : log ≡ log_of (met ++ [])
  none_met = is ∙ ap log_of (sym (append-nil met))

  one_met : (f : FaultRecord) → logged log f ≡ log_of (met ++ f ∷ [])
  one_met f = ap (λ l. logged l f) is ∙ logged_more met f

  at_content : (rows : LookAside) (p : Piece) (address : ℕ) (job : Job) (c : Content) → (outcome_at_content rows log p address job c).log ≡ log_of (met ++ target_faults p (address / 32) job c)
  at_content rows p address job absent = one_met _
  at_content rows p address reading spoiled = one_met _
  at_content rows p address (writing words enables) spoiled = none_met
  at_content rows p address reading (good bytes) = none_met
  at_content rows p address (writing words enables) (good bytes) = none_met

  at_place : (rows : LookAside) (lines : Lines) (p : Piece) (q : Place) → (outcome_at_place rows log lines p q).log ≡ log_of (met ++ faults_at lines p q)
  at_place rows lines p unclaimed = none_met
  at_place rows lines p (table_fault fault) = one_met _
  at_place rows lines p (target address) = at_content rows p address p.job (lines (address / 32))

-- the later pieces, unless the first ends the burst
after_first : (b : Bool) (s : State) (o : PieceOutcome) (later : Run) (met here then : List FaultRecord) → o.log ≡ log_of (met ++ here) → later.state.control.log ≡ log_of ((met ++ here) ++ then) → (run_unless b s o later).state.control.log ≡ log_of (met ++ (here ++ cond b [] then))
after_first true s o later met here then first rest = first ∙ ap (λ xs. log_of (met ++ xs)) (sym (append-nil here))
after_first false s o later met here then first rest = rest ∙ ap log_of (append_assoc met here then)

run_log : (ps : List Piece) (s : State) (met : List FaultRecord) → s.control.log ≡ log_of met → (run s ps).state.control.log ≡ log_of (met ++ run_faults s ps)
run_log [] s met is = is ∙ ap log_of (sym (append-nil met))
run_log (p ∷ ps) s met is =
    let o = piece_outcome s.control s.lines p in
    let here = faults_at s.lines p (place_of s p.pci) in
    let first = at_place met s.control.log is (located s.control.registers s.control.look_aside s.lines p.pci).look_aside s.lines p (place_of s p.pci) in
    after_first (ends o.reply) s o (run (after_piece s o) ps) met here (run_faults (after_piece s o) ps) first (run_log ps (after_piece s o) (met ++ here) first)

burst_log : (s : State) (b : Burst) (met : List FaultRecord) → s.control.log ≡ log_of met → (o : Option ℕ) → (burst_outcome s b o).state.control.log ≡ log_of (met ++ burst_faults s (pieces b) o)
burst_log s b met is (Some number) = is ∙ ap log_of (sym (append-nil met))
burst_log s b met is None = run_log (pieces b) s met is

-- a register write leaves the log
pub written_log : (k : Control) (o : Option Register) (v : ℕ) → (control_written k o v).log ≡ k.log
written_log k None v = refl
written_log k (Some r) v = refl

call_log : (c : Call) (s : State) (met : List FaultRecord) → s.control.log ≡ log_of met → (performed s c).state.control.log ≡ log_of (faults_then met s c)
call_log (processor (register_write n v)) s met is = written_log s.control (register_named n) v ∙ is
call_log (processor log_clear) s met is = refl
call_log (processor q) s met is = is
call_log (card b) s met is = burst_log s b met is (failed_check s.control.registers b)

calls_log : (cs : List Call) (s : State) (met : List FaultRecord) → s.control.log ≡ log_of met → (after s cs).control.log ≡ log_of (faults_since met s cs)
calls_log [] s met is = is
calls_log (c ∷ cs) s met is = calls_log cs (performed s c).state (faults_then met s c) (call_log c s met is)

pub log_keeps_the_first : LogKeepsTheFirst
log_keeps_the_first lines cs = calls_log cs (new_state lines) [] refl
