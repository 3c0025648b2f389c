-- One piece of a burst: it keeps to the open pages, and does the same in two runs that differ in hidden lines.
use Rattle.std.proofs.Common.{◌≡◌, ℕ, ◌/◌, ◌^◌, ◌<◌, false, cond, eqb, sym, refl, ap, ◌∙◌, subst, inl, inr, ⊎_elim}
use Rattle.std.proofs.lemmas.Bool.{cases_Bool, cond_both, eqb-true}
use Rattle.memory.specs.Content.{Content, Lines, absent, good, overwritten, spoiled}
use Rattle.bridge.specs.declared.log.FaultLog.{FaultLog}
use Rattle.bridge.specs.declared.look_aside.LookAside.{LookAside}
use Rattle.bridge.specs.Bursts.{Job, Piece, reading, writing}
use Rattle.bridge.specs.Isolation.{Hidden, Protected}
use Rattle.bridge.specs.Pages.{Closed, InUse, NamedByEntry, NamedByRow, Open, line_page, page_of}
use Rattle.bridge.specs.Pieces.{Edit, PieceOutcome, after_piece, edited, line_edit, no_edit, outcome_at_content, outcome_at_place, outcome_located, piece_outcome}
use Rattle.bridge.specs.State.{State}
use Rattle.bridge.specs.Translation.{Located, Place, entry_of, table_fault, target, unclaimed}
use Rattle.bridge.proofs.Reach.{InOpen, Led, SameTables, leads, page_of_line}

-- what a burst may make of s: it opens no page, changes no line of a closed one, and no absent line
pub record Within (s t : State) : Type 0 where
  pub registers : t.control.registers ≡ s.control.registers
  pub opens : (page : ℕ) → Open t page → Open s page
  pub lines : (line : ℕ) → Closed s (line_page line) → t.lines line ≡ s.lines line
  pub lacks : (line : ℕ) → s.lines line ≡ absent → t.lines line ≡ absent

pub within_refl : (s : State) → Within s s
within_refl s = record { registers = refl; opens = λ page o. o; lines = λ line c. refl; lacks = λ line a. a }

pub within_trans : {s t u : State} → Within s t → Within t u → Within s u
within_trans v w = record {
  registers = w.registers ∙ v.registers;
  opens = λ page o. v.opens page (w.opens page o);
  lines = λ line c. w.lines line (λ o. c (v.opens _ o)) ∙ v.lines line c;
  lacks = λ line a. w.lacks line (v.lacks line a);
}

pub protected_within : {hidden : Hidden} {s t : State} → Protected hidden s → Within s t → Protected hidden t
protected_within {s = s} {t = t} p w = record {
  no_table_hidden = λ address u. p.no_table_hidden address (used address u);
  hidden_closed = λ page h o. p.hidden_closed page h (w.opens page o);
  tables_closed = λ address u o. p.tables_closed address (used address u) (w.opens _ o);
}
  where
    used : (address : ℕ) → InUse t.control.registers address → InUse s.control.registers address
    used address u = subst (λ r. InUse r address) w.registers u

-- an edit of a line in an open page
abbrev EditsOpen : State → Edit → Type 0
EditsOpen s no_edit = Unit {0}
EditsOpen s (line_edit line bytes mask) = Open s (line_page line)

edit_lines : (s : State) (e : Edit) → EditsOpen s e → (line : ℕ) → Closed s (line_page line) → edited e s.lines line ≡ s.lines line
edit_lines s no_edit o line closed = refl
edit_lines s (line_edit k bytes mask) o line closed =
    cond_both (eqb line k) _ _ (λ c. c ≡ s.lines line) (λ e. absurd (closed (subst (λ x. Open s (line_page x)) (sym (eqb-true line k e)) o))) (λ _. refl)

edit_lacks : (lines : Lines) (e : Edit) (line : ℕ) → lines line ≡ absent → edited e lines line ≡ absent
edit_lacks lines no_edit line a = a
edit_lacks lines (line_edit k bytes mask) line a = cond_both (eqb line k) _ _ (λ c. c ≡ absent) (λ _. ap (overwritten bytes mask) a) (λ _. a)

pub edit_same : (a b : Lines) (e : Edit) (line : ℕ) → b line ≡ a line → edited e b line ≡ edited e a line
edit_same a b no_edit line h = h
edit_same a b (line_edit k bytes mask) line h = ap (λ c. cond (eqb line k) (overwritten bytes mask c) c) h

-- an outcome that keeps to the open pages
record KeepsOpen (s : State) (o : PieceOutcome) : Type 0 where
  rows : (page : ℕ) → NamedByRow o.look_aside page → Open s page
  edit : EditsOpen s o.edit

module _ (s : State) (p : Piece) (l : Located) (led : Led s l) where
  at_content : (address : ℕ) → Open s (page_of address) → (job : Job) (c : Content) → KeepsOpen s (outcome_at_content l.look_aside s.control.log p address job c)
  at_content address o job absent = record { rows = led.rows; edit = tt }
  at_content address o reading spoiled = record { rows = led.rows; edit = tt }
  at_content address o reading (good bytes) = record { rows = led.rows; edit = tt }
  at_content address o (writing words enables) spoiled = record { rows = led.rows; edit = subst (Open s) (sym (page_of_line address)) o }
  at_content address o (writing words enables) (good bytes) = record { rows = led.rows; edit = subst (Open s) (sym (page_of_line address)) o }

  at_place : (q : Place) → InOpen s q → KeepsOpen s (outcome_at_place l.look_aside s.control.log s.lines p q)
  at_place unclaimed o = record { rows = led.rows; edit = tt }
  at_place (table_fault fault) o = record { rows = led.rows; edit = tt }
  at_place (target address) o = at_content address o p.job (s.lines (address / 32))

-- the same tables, and rows that name open pages, open nothing
opens_none : (s : State) (rows : LookAside) (log : FaultLog) (other : Lines) → ((page : ℕ) → NamedByRow rows page → Open s page) → SameTables s other
    → (page : ℕ) → Open (record { control = record { registers = s.control.registers; look_aside = rows; log = log }; lines = other }) page → Open s page
opens_none s rows log other named same page o = ⊎_elim inl (λ r. ⊎_elim (λ n. inr (inl (renamed n))) (named page) r) o
  where
    renamed : NamedByEntry s.control.registers other page → NamedByEntry s.control.registers s.lines page
    renamed n = record { address = n.address; in_use = n.in_use; named = ap (λ c. entry_of c n.address) (sym (same n.address n.in_use)) ∙ n.named }

-- the other run: the same control, and the same lines but for the hidden ones
pub record Twin (hidden : Hidden) (s t : State) : Type 0 where
  pub control : s.control ≡ t.control
  pub agree : (line : ℕ) → hidden (line_page line) ≡ false → t.lines line ≡ s.lines line

-- so a statement on other lines holds of the other run
pub at_twin : {hidden : Hidden} {s t : State} (P : State → Type 0) → Twin hidden s t → P (record { control = s.control; lines = t.lines }) → P t
at_twin {t = t} P twin p = subst (λ k. P (record { control = k; lines = t.lines })) twin.control p

module _ {hidden : Hidden} (s : State) (kept : Protected hidden s) where
  module _ (other : Lines) (agree : (line : ℕ) → hidden (line_page line) ≡ false → other line ≡ s.lines line) where
    shown : (address : ℕ) → hidden (page_of address) ≡ false → other (address / 32) ≡ s.lines (address / 32)
    shown address h = agree (address / 32) (ap hidden (page_of_line address) ∙ h)

    tables : SameTables s other
    tables address u = shown address (kept.no_table_hidden address u)

    pub protected_over : Protected hidden (record { control = s.control; lines = other })
    protected_over =
        let back = opens_none s s.control.look_aside s.control.log other (λ page c. inr (inr c)) tables in
        record { no_table_hidden = kept.no_table_hidden; hidden_closed = λ page h o. kept.hidden_closed page h (back page o); tables_closed = λ address u o. kept.tables_closed address u (back _ o) }

    same_place : (p : Piece) (rows : LookAside) (q : Place) → InOpen s q → outcome_at_place rows s.control.log other p q ≡ outcome_at_place rows s.control.log s.lines p q
    same_place p rows unclaimed o = refl
    same_place p rows (table_fault fault) o = refl
    same_place p rows (target address) o =
        ap (outcome_at_content rows s.control.log p address p.job) (shown address (⊎_elim (λ h. absurd (kept.hidden_closed _ h o)) (λ h. h) (cases_Bool (hidden (page_of address)))))

  module _ (p : Piece) (below : p.pci < 2 ^ 32) where
    pub same_outcome : (other : Lines) → ((line : ℕ) → hidden (line_page line) ≡ false → other line ≡ s.lines line) → piece_outcome s.control other p ≡ piece_outcome s.control s.lines p
    same_outcome other agree =
        let at_s = leads s p.pci below in
        ap (outcome_located s.control.log other p) (at_s.stable other (tables other agree)) ∙ same_place other agree p _ _ at_s.led.place

    pub within_piece : Within s (after_piece s (piece_outcome s.control s.lines p))
    within_piece = record {
      registers = refl;
      opens = opens_none s o.look_aside o.log _ keeps.rows (λ address u. edit_lines s o.edit keeps.edit (address / 32) (λ q. kept.tables_closed address u (subst (Open s) (page_of_line address) q)));
      lines = edit_lines s o.edit keeps.edit;
      lacks = edit_lacks s.lines o.edit;
    }
      where
        o : PieceOutcome
        o = piece_outcome s.control s.lines p

        keeps : KeepsOpen s o
        keeps = let at_s = leads s p.pci below in at_place s p _ at_s.led _ at_s.led.place
