-- What a card read comes to, longword by longword.
use Rattle.std.specs.Prelude.{◌≡◌, ℕ, ◌+◌, ◌-◌, ◌*◌, ◌/◌, ◌%◌, ◌<◌, ◌≤◌, cond, List, [], ◌∷◌, length, None, nat_lt, slice_index, slice_index_or}
use Rattle.memory.specs.Answers.{Answer, success, refusal}
use Rattle.memory.specs.Content.{absent, good, spoiled}
use Rattle.memory.specs.declared.MemoryFault.TheVariants.{Absent, Spoiled}
use Rattle.bridge.specs.declared.faults.WalkFault.TheVariants.{Memory, NotValid}
use Rattle.bridge.specs.declared.log.Direction.{Direction}
use Rattle.bridge.specs.declared.log.Direction.TheVariants.{Read}
use Rattle.bridge.specs.Bursts.{Piece, card_read, failed_check, pieces}
use Rattle.bridge.specs.Calls.{Outcome, card, performed}
use Rattle.memory.specs.Longwords.{longword_at}
use Rattle.bridge.specs.Pieces.{after_piece, piece_outcome}
use Rattle.bridge.specs.State.{State}
use Rattle.bridge.specs.Translation.{place_of, table_fault, target, unclaimed}

-- the fault that a card meets at a PCI address in a state, by its number and line. 5: the table's entry is not valid; 6 and 7: the
-- table's line is absent or spoiled; 8 and 9: the target's line is absent, or spoiled where it is read.
pub data FaultAt (s : State) (pci : ℕ) : Direction → ℕ → ℕ → Type 0 where
  at_entry : {d : Direction} (line : ℕ) → place_of s pci ≡ table_fault (NotValid line) → FaultAt s pci d 5 line
  at_absent_table : {d : Direction} (line : ℕ) → place_of s pci ≡ table_fault (Memory (Absent line)) → FaultAt s pci d 6 line
  at_spoiled_table : {d : Direction} (line : ℕ) → place_of s pci ≡ table_fault (Memory (Spoiled line)) → FaultAt s pci d 7 line
  at_absent : {d : Direction} (address : ℕ) → place_of s pci ≡ target address → s.lines (address / 32) ≡ absent → FaultAt s pci d 8 (address / 32)
  at_spoiled : (address : ℕ) → place_of s pci ≡ target address → s.lines (address / 32) ≡ spoiled → FaultAt s pci Read 9 (address / 32)

-- the memory has a longword where a PCI address leads
pub record ReadAt (s : State) (pci word : ℕ) : Type 0 where
  pub address : ℕ
  pub bytes : List ℕ
  pub led : place_of s pci ≡ target address
  pub held : s.lines (address / 32) ≡ good bytes
  pub is : word ≡ longword_at bytes (address % 32)

-- the state in which longword k of some pieces is served: that in which its piece is
abbrev pub serving : State → List Piece → ℕ → State
serving s [] k = s
serving s (p ∷ ps) k = cond (nat_lt k p.count) s (serving (after_piece s (piece_outcome s.control s.lines p)) ps (k - p.count))

-- how a read ends at a PCI address, with so many longwords moved and so many left: it is complete, no window holds the
-- address, or a fault is met there
pub data ReadEndsWith (s : State) (pci moved left : ℕ) : Answer → Type 0 where
  complete : left ≡ 0 → ReadEndsWith s pci moved left (success [])
  at_no_window : 0 < left → place_of s pci ≡ unclaimed → ReadEndsWith s pci moved left (refusal 4 (moved ∷ []))
  at_fault : {number line : ℕ} → 0 < left → FaultAt s pci Read number line → ReadEndsWith s pci moved left (refusal number (moved ∷ pci ∷ line ∷ []))

-- a read moves longwords into the first places of its buffer, each from where its address leads in the state in which it is
-- served, and ends at the first that cannot be moved; the other places and the memory stay
pub record ReadLaw (s : State) (pci count : ℕ) (buffer : List ℕ) (ps : List Piece) (o : Outcome) : Type 0 where
  pub moved : ℕ
  pub at_most : moved ≤ count
  pub filled : (k : ℕ) → k < moved → ReadAt (serving s ps k) (pci + 4 * k) (slice_index o.buffer k)
  pub untouched : (k d : ℕ) → moved ≤ k → slice_index_or o.buffer k d ≡ slice_index_or buffer k d
  pub as_long : length o.buffer ≡ length buffer
  pub end : ReadEndsWith (serving s ps moved) (pci + 4 * moved) moved (count - moved) o.answer
  pub memory : o.state.lines ≡ s.lines

abbrev pub Reads : Type 0
Reads =
    (s : State) (pci count : ℕ) (buffer : List ℕ)
    → failed_check s.control.registers (card_read pci count buffer) ≡ None
    → ReadLaw s pci count buffer (pieces (card_read pci count buffer)) (performed s (card (card_read pci count buffer)))
