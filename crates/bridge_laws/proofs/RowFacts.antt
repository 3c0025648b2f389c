-- The look-aside rows over a run of calls.
use Rattle.std.proofs.Common.{◌≡◌, ℕ, ◌/◌, Bool, true, false, ◌⊎◌, List, [], ◌∷◌, Some, None, Option, sym, refl, ap, ◌∙◌, subst, inl, inr, ⊎_elim, arith, Ok, Err, Result}
use Rattle.std.specs.Prelude.{is_some}
use Rattle.std.proofs.lemmas.List.{get_or-set_other, get_or-set_same}
use Rattle.std.proofs.lemmas.Bool.{false≢true}
use Rattle.std.proofs.lemmas.Bool.Decides.{nat_tests}
use Rattle.memory.specs.Content.{Content, Lines, absent, good, spoiled}
use Rattle.bridge.specs.declared.faults.WalkFault.{WalkFault}
use Rattle.bridge.specs.declared.log.FaultLog.{FaultLog}
use Rattle.bridge.specs.declared.look_aside.LookAside.{LookAside}
use Rattle.bridge.specs.Bursts.{Burst, Job, Piece, failed_check, pieces, reading, writing}
use Rattle.bridge.specs.Calls.{Call, burst_outcome, card, control_written, performed, processor, register_write}
use Rattle.bridge.specs.Isolation.{after}
use Rattle.bridge.specs.LookAside.{cached_page, filled, row, zero_rows}
use Rattle.bridge.specs.Pieces.{outcome_at_content, outcome_at_place, piece_outcome}
use Rattle.bridge.specs.declared.registers.Register.{Register}
use Rattle.bridge.specs.declared.registers.Register.TheVariants.{InvalidateAll}
use Rattle.bridge.specs.Registers.{register_named, window}
use Rattle.bridge.proofs.Reach.{set_cases}
use Rattle.bridge.proofs.RowTables.{not_valid_at}
use Rattle.bridge_laws.specs.RowRuns.{FilledRow, LeavesRows, PieceFills, PiecesFill, ReadsEntry, RowsFill, RowsInRuns, RowsInvalidate, RowsLast, RowsServe, RowsValid, ServedIn, ServedOf, behind, first, in_burst, in_later, served_state}
use Rattle.bridge.specs.Runs.{ends, run, run_unless}
use Rattle.bridge.specs.State.{Control, State, new_state}
use Rattle.bridge.specs.Translation.{Place, entry_of, located, located_by_claim, located_by_entry, located_by_row, pci_page, table_fault, target, unclaimed}
use Rattle.bridge.specs.Windows.{claim, entry_address}

-- each row of t is that of s, or one that was filled where a piece was served
abbrev Filling : Type 1
Filling = State → Piece → Type 0

abbrev From : Filling → LookAside → LookAside → Type 0
From Q s t = (i : ℕ) → (row t i ≡ row s i) ⊎ FilledRow Q (row t i)

from_refl : (Q : Filling) (s : LookAside) → From Q s s
from_refl Q s i = inl refl

from_trans : (Q : Filling) (s t u : LookAside) → From Q s t → From Q t u → From Q s u
from_trans Q s t u f g i = ⊎_elim (λ e. ⊎_elim (λ d. inl (e ∙ d)) (λ r. inr (subst (FilledRow Q) (sym e) r)) (f i)) inr (g i)

from_also : (Q R : Filling) → ((t : State) (p : Piece) → Q t p → R t p) → (s t : LookAside) → From Q s t → From R s t
from_also Q R h s t f i =
    ⊎_elim inl
    (λ r. inr (record { state = r.state; piece = r.piece; page = r.page; served = h r.state r.piece r.served; entry = r.entry; is = r.is }))
    (f i)

-- a piece leaves the rows of its translation
content_rows : (t : LookAside) (log : FaultLog) (p : Piece) (address : ℕ) (job : Job) (c : Content) → (outcome_at_content t log p address job c).look_aside ≡ t
content_rows t log p address job absent = refl
content_rows t log p address reading spoiled = refl
content_rows t log p address (writing words enables) spoiled = refl
content_rows t log p address reading (good bytes) = refl
content_rows t log p address (writing words enables) (good bytes) = refl

place_rows : (t : LookAside) (log : FaultLog) (lines : Lines) (p : Piece) (q : Place) → (outcome_at_place t log lines p q).look_aside ≡ t
place_rows t log lines p unclaimed = refl
place_rows t log lines p (table_fault fault) = refl
place_rows t log lines p (target address) = content_rows t log p address p.job (lines (address / 32))

-- a piece fills a row just where its translation reads a valid entry
module _ (s : State) (p : Piece) where
  abbrev rows : LookAside
  rows = s.control.look_aside

  abbrev table : ℕ → ℕ
  table number = entry_address (window s.control.registers number) p.pci

  abbrev Fills : LookAside → Type 0
  Fills t = ((page : ℕ) × ReadsEntry s p page × (t ≡ filled rows (pci_page p.pci) page)) ⊎ (t ≡ rows)

  by_entry : (number : ℕ) → claim s.control.registers p.pci ≡ Some (number, true) → cached_page rows (pci_page p.pci) ≡ None → (e : Result ℕ WalkFault) → entry_of (s.lines (table number / 32)) (table number) ≡ e → Fills (located_by_entry rows p.pci e).look_aside
  by_entry number c m (Ok page) h = inl (page, record { number = number; claimed = c; missed = m; named = h }, refl)
  by_entry number c m (Err fault) h = inr refl

  by_row : (number : ℕ) → claim s.control.registers p.pci ≡ Some (number, true) → (o : Option ℕ) → cached_page rows (pci_page p.pci) ≡ o → Fills (located_by_row rows s.lines p.pci (table number) o).look_aside
  by_row number c (Some page) m = inr refl
  by_row number c None m = by_entry number c m _ refl

  by_claim : (o : Option (ℕ × Bool)) → claim s.control.registers p.pci ≡ o → Fills (located_by_claim s.control.registers rows s.lines p.pci o).look_aside
  by_claim None c = inr refl
  by_claim (Some (number, true)) c = by_row number c _ refl
  by_claim (Some (number, false)) c = inr refl

  translated : Fills (located s.control.registers rows s.lines p.pci).look_aside
  translated = by_claim (claim s.control.registers p.pci) refl

  rows_served : (served_state s p).control.look_aside ≡ (located s.control.registers rows s.lines p.pci).look_aside
  rows_served = let l = located s.control.registers rows s.lines p.pci in place_rows l.look_aside s.control.log s.lines p l.place

  piece_fills : PieceFills s p
  piece_fills = record {
    filled = λ page r. rows_served ∙ rw (r.claimed, r.missed, r.named);
    kept = λ none. rows_served ∙ ⊎_elim (λ f. absurd (none f.0 f.1)) (λ e. e) translated;
  }

  piece_rows : (Q : Filling) → Q s p → From Q rows (served_state s p).control.look_aside
  piece_rows Q q i =
      ⊎_elim
      (λ f.
      let same = ap (λ t. row t i) (rows_served ∙ f.2) in
      ⊎_elim
      (λ e. inr (record { state = s; piece = p; page = f.0; served = q; entry = f.1; is = same ∙ e }))
      (λ e. inl (same ∙ e))
      (set_cases rows.rows rows.pointer i _ None))
      (λ e. inl (ap (λ t. row t i) (rows_served ∙ e)))
      translated

pieces_fill : PiecesFill
pieces_fill s p = piece_fills s p

-- a run of pieces, a burst, a call, and a run of calls
unless_rows : (s : State) (p : Piece) (ps : List Piece) (b : Bool) → ends (piece_outcome s.control s.lines p).reply ≡ b → From (ServedOf (served_state s p) ps) (served_state s p).control.look_aside (run (served_state s p) ps).state.control.look_aside → From (ServedOf s (p ∷ ps)) s.control.look_aside (run_unless b s (piece_outcome s.control s.lines p) (run (served_state s p) ps)).state.control.look_aside
unless_rows s p ps true e later = piece_rows s p (ServedOf s (p ∷ ps)) (first s p ps)
unless_rows s p ps false e later =
    from_trans (ServedOf s (p ∷ ps)) s.control.look_aside (served_state s p).control.look_aside (run (served_state s p) ps).state.control.look_aside
    (piece_rows s p (ServedOf s (p ∷ ps)) (first s p ps))
    (from_also (ServedOf (served_state s p) ps) (ServedOf s (p ∷ ps)) (λ t q h. behind s p ps t q e h) (served_state s p).control.look_aside (run (served_state s p) ps).state.control.look_aside later)

run_rows : (ps : List Piece) (s : State) → From (ServedOf s ps) s.control.look_aside (run s ps).state.control.look_aside
run_rows [] s = from_refl (ServedOf s []) s.control.look_aside
run_rows (p ∷ ps) s = unless_rows s p ps _ refl (run_rows ps (served_state s p))

burst_rows : (s : State) (b : Burst) (cs : List Call) (o : Option ℕ) → failed_check s.control.registers b ≡ o → From (ServedIn s (card b ∷ cs)) s.control.look_aside (burst_outcome s b o).state.control.look_aside
burst_rows s b cs (Some number) e = from_refl (ServedIn s (card b ∷ cs)) s.control.look_aside
burst_rows s b cs None e = from_also (ServedOf s (pieces b)) (ServedIn s (card b ∷ cs)) (λ t p h. in_burst s b cs t p e h) s.control.look_aside (run s (pieces b)).state.control.look_aside (run_rows (pieces b) s)

-- only 32 names the register that invalidates all rows
pub invalidates_by_32 : (n : ℕ) → register_named n ≡ Some InvalidateAll → n ≡ 32
invalidates_by_32 n e = grind (arith, nat_tests)

-- a register write leaves the rows, unless it is that one
module _ (k : Control) (v : ℕ) where
  pub left_unless : (o : Option Register) → (o ≡ Some InvalidateAll → ⊥) → (control_written k o v).look_aside ≡ k.look_aside
  left_unless (Some InvalidateAll) ne = absurd (ne refl)
  left_unless o ne = refl

  left_or_zero : (o : Option Register) → ((control_written k o v).look_aside ≡ k.look_aside) ⊎ ((control_written k o v).look_aside ≡ zero_rows)
  left_or_zero (Some InvalidateAll) = inr refl
  left_or_zero o = inl refl

call_rows : (c : Call) (cs : List Call) (s : State) → LeavesRows c → From (ServedIn s (c ∷ cs)) s.control.look_aside (performed s c).state.control.look_aside
call_rows (processor (register_write n v)) cs s l =
    let Q = ServedIn s (processor (register_write n v) ∷ cs) in
    subst (From Q s.control.look_aside) (sym (left_unless s.control v (register_named n) (λ e. l (invalidates_by_32 n e)))) (from_refl Q s.control.look_aside)
call_rows (processor q) cs s l = from_refl (ServedIn s (processor q ∷ cs)) s.control.look_aside
call_rows (card b) cs s l = burst_rows s b cs (failed_check s.control.registers b) refl

later_also : (s : State) (c : Call) (cs : List Call) (t u : LookAside) → From (ServedIn (performed s c).state cs) t u → From (ServedIn s (c ∷ cs)) t u
later_also s c cs = from_also (ServedIn (performed s c).state cs) (ServedIn s (c ∷ cs)) (λ t p h. in_later s c cs t p h)

rows_last : RowsLast
rows_last s [] l = from_refl (ServedIn s []) s.control.look_aside
rows_last s (c ∷ cs) l =
    let t = (performed s c).state in
    from_trans (ServedIn s (c ∷ cs)) s.control.look_aside t.control.look_aside (after t cs).control.look_aside
    (call_rows c cs s l.0)
    (later_also s c cs t.control.look_aside (after t cs).control.look_aside (rows_last t cs l.1))

-- every valid row was filled
abbrev AllFilled : Filling → LookAside → Type 0
AllFilled Q t = (i : ℕ) → is_some (row t i) ≡ true → FilledRow Q (row t i)

filled_from : (Q : Filling) (s t : LookAside) → AllFilled Q s → From Q s t → AllFilled Q t
filled_from Q s t f g i v = ⊎_elim (λ e. subst (FilledRow Q) (sym e) (f i (ap is_some (sym e) ∙ v))) (λ r. r) (g i)

zero_filled : (Q : Filling) → AllFilled Q zero_rows
zero_filled Q i v = absurd (false≢true (sym (ap is_some (not_valid_at 8 i)) ∙ v))

call_filled : (Q : Filling) (c : Call) (cs : List Call) (s : State) → ((t : State) (p : Piece) → ServedIn s (c ∷ cs) t p → Q t p) → AllFilled Q s.control.look_aside → AllFilled Q (performed s c).state.control.look_aside
call_filled Q (processor (register_write n v)) cs s h f =
    ⊎_elim (λ e. subst (AllFilled Q) (sym e) f) (λ e. subst (AllFilled Q) (sym e) (zero_filled Q)) (left_or_zero s.control v (register_named n))
call_filled Q (processor q) cs s h f = f
call_filled Q (card b) cs s h f =
    let t = (performed s (card b)).state.control.look_aside in
    filled_from Q s.control.look_aside t f (from_also (ServedIn s (card b ∷ cs)) Q h s.control.look_aside t (burst_rows s b cs (failed_check s.control.registers b) refl))

calls_filled : (Q : Filling) (cs : List Call) (s : State) → ((t : State) (p : Piece) → ServedIn s cs t p → Q t p) → AllFilled Q s.control.look_aside → AllFilled Q (after s cs).control.look_aside
calls_filled Q [] s h f = f
calls_filled Q (c ∷ cs) s h f = calls_filled Q cs (performed s c).state (λ t p k. h t p (in_later s c cs t p k)) (call_filled Q c cs s h f)

rows_valid : RowsValid
rows_valid lines cs = calls_filled (ServedIn (new_state lines) cs) cs (new_state lines) (λ t p h. h) (zero_filled (ServedIn (new_state lines) cs))

rows_serve : RowsServe
rows_serve s pci number page c h lines = rw (c, h)

rows_fill : RowsFill
rows_fill t n page long = record {
  here = get_or-set_same t.rows t.pointer _ None (omega (arith, t.below));
  others = λ i ne. get_or-set_other t.rows t.pointer i _ None ne;
  next = λ low. omega arith;
  wraps = λ last. omega arith;
}

rows_invalidate : RowsInvalidate
rows_invalidate s v = record { rows = not_valid_at 8; pointer = refl }

pub rows_in_runs : RowsInRuns
rows_in_runs = record { last = rows_last; serve = rows_serve; valid = rows_valid; pieces = pieces_fill; fill = rows_fill; invalidate = rows_invalidate }
