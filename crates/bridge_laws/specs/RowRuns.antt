-- How long a look-aside row serves, and what can be in one.
use Rattle.std.specs.Prelude.{◌≡◌, ℕ, ◌+◌, ◌/◌, ◌<◌, true, ◌⊎◌, List, false, ◌∷◌, length, Some, None, Ok, Option, is_some, ◌≢◌}
use Rattle.memory.specs.Content.{Lines}
use Rattle.std.specs.List.{AllByRecursion}
use Rattle.bridge.specs.declared.look_aside.LookAside.{LookAside}
use Rattle.bridge.specs.declared.look_aside.LookAsideRow.{LookAsideRow}
use Rattle.bridge.specs.Bursts.{Burst, Piece, failed_check, pieces}
use Rattle.bridge.specs.Calls.{Call, card, decode, load, log_clear, log_read, performed, processor, register_read, register_write, store}
use Rattle.bridge.specs.Isolation.{after}
use Rattle.bridge.specs.LookAside.{cached_page, filled, row}
use Rattle.bridge.specs.Pieces.{after_piece, piece_outcome}
use Rattle.bridge.specs.Runs.{ends}
use Rattle.bridge.specs.State.{State, new_state}
use Rattle.bridge.specs.Translation.{entry_of, located, page_address, pci_page, target}
use Rattle.bridge.specs.Windows.{claim, entry_address}
use Rattle.bridge.specs.Registers.{window}

abbrev pub served_state : State → Piece → State
served_state s p = after_piece s (piece_outcome s.control s.lines p)

-- of pieces that are served from a state on, this one is served in that state: it comes first, or the first one does not end
-- the burst, and it is one of the others
pub data ServedOf : State → List Piece → State → Piece → Type 0 where
  first : (s : State) (p : Piece) (ps : List Piece) → ServedOf s (p ∷ ps) s p
  behind : (s : State) (p : Piece) (ps : List Piece) (t : State) (q : Piece) → ends (piece_outcome s.control s.lines p).reply ≡ false → ServedOf (served_state s p) ps t q → ServedOf s (p ∷ ps) t q

-- in a run of calls from a state on, this piece is served in that state: in a burst that passed its checks
pub data ServedIn : State → List Call → State → Piece → Type 0 where
  in_burst : (s : State) (b : Burst) (cs : List Call) (t : State) (p : Piece) → failed_check s.control.registers b ≡ None → ServedOf s (pieces b) t p → ServedIn s (card b ∷ cs) t p
  in_later : (s : State) (c : Call) (cs : List Call) (t : State) (p : Piece) → ServedIn (performed s c).state cs t p → ServedIn s (c ∷ cs) t p

-- the translation of a piece reads a valid entry: a mapped window claims it, no row answers, and the table names this page then
pub record ReadsEntry (s : State) (p : Piece) (page : ℕ) : Type 0 where
  pub number : ℕ
  pub claimed : claim s.control.registers p.pci ≡ Some (number, true)
  pub missed : cached_page s.control.look_aside (pci_page p.pci) ≡ None
  pub named : let address = entry_address (window s.control.registers number) p.pci in entry_of (s.lines (address / 32)) address ≡ Ok page

-- a row that was filled where a piece was served, with what the table named then
pub record FilledRow (Served : State → Piece → Type 0) (r : Option LookAsideRow) : Type 0 where
  pub state : State
  pub piece : Piece
  pub page : ℕ
  pub served : Served state piece
  pub entry : ReadsEntry state piece page
  pub is : r ≡ Some (record { pci_page = pci_page piece.pci; page = page })

-- the call is no write of register 32
abbrev pub LeavesRows : Call → Type 0
LeavesRows (processor (register_read n)) = Unit {0}
LeavesRows (processor (register_write n v)) = n ≡ 32 → ⊥
LeavesRows (processor (load address)) = Unit {0}
LeavesRows (processor (store address bytes)) = Unit {0}
LeavesRows (processor (decode cpu)) = Unit {0}
LeavesRows (processor log_read) = Unit {0}
LeavesRows (processor log_clear) = Unit {0}
LeavesRows (card b) = Unit {0}

-- a row stays as it is until register 32 is written or it is refilled by a piece of a burst, whatever else is called
abbrev pub RowsLast : Type 0
RowsLast = (s : State) (cs : List Call) → AllByRecursion LeavesRows cs → (i : ℕ) → (row (after s cs).control.look_aside i ≡ row s.control.look_aside i) ⊎ FilledRow (ServedIn s cs) (row (after s cs).control.look_aside i)

-- while the first row that answers for a PCI page is the same, it leads there, whatever the memory, and so the table, holds
abbrev pub RowsServe : Type 0
RowsServe =
    (s : State) (pci number page : ℕ) → claim s.control.registers pci ≡ Some (number, true) → cached_page s.control.look_aside (pci_page pci) ≡ Some page
    → (lines : Lines) → located s.control.registers s.control.look_aside lines pci ≡ record { look_aside = s.control.look_aside; place = target (page_address page pci) }

-- every valid row of a bridge was filled by a piece that was served since it was new
abbrev pub RowsValid : Type 0
RowsValid = (lines : Lines) (cs : List Call) (i : ℕ) → is_some (row (after (new_state lines) cs).control.look_aside i) ≡ true → FilledRow (ServedIn (new_state lines) cs) (row (after (new_state lines) cs).control.look_aside i)

-- the row under the pointer is filled, the others stay, and the pointer goes on by one, from 7 to 0
pub record FilledOnce (t : LookAside) (pci_page page : ℕ) : Type 0 where
  pub here : row (filled t pci_page page) t.pointer ≡ Some (record { pci_page = pci_page; page = page })
  pub others : (i : ℕ) → (i ≢ t.pointer) → row (filled t pci_page page) i ≡ row t i
  pub next : t.pointer < 7 → (filled t pci_page page).pointer ≡ t.pointer + 1
  pub wraps : t.pointer ≡ 7 → (filled t pci_page page).pointer ≡ 0

abbrev pub RowsFill : Type 0
RowsFill = (t : LookAside) (pci_page page : ℕ) → length t.rows ≡ 8 → FilledOnce t pci_page page

-- a piece fills a row exactly if its translation reads a valid entry, whatever its target holds
pub record PieceFills (s : State) (p : Piece) : Type 0 where
  pub filled : (page : ℕ) → ReadsEntry s p page → (served_state s p).control.look_aside ≡ filled s.control.look_aside (pci_page p.pci) page
  pub kept : ((page : ℕ) → ReadsEntry s p page → ⊥) → (served_state s p).control.look_aside ≡ s.control.look_aside

abbrev pub PiecesFill : Type 0
PiecesFill = (s : State) (p : Piece) → PieceFills s p

-- a write of register 32, whatever the value, leaves no row and the pointer at 0
pub record NoneLeft (t : LookAside) : Type 0 where
  pub rows : (i : ℕ) → row t i ≡ None
  pub pointer : t.pointer ≡ 0

abbrev pub RowsInvalidate : Type 0
RowsInvalidate = (s : State) (v : ℕ) → NoneLeft (performed s (processor (register_write 32 v))).state.control.look_aside

pub record RowsInRuns : Type 0 where
  pub last : RowsLast
  pub serve : RowsServe
  pub valid : RowsValid
  pub pieces : PiecesFill
  pub fill : RowsFill
  pub invalidate : RowsInvalidate
