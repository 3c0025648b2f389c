-- What a card write comes to, line by line.
use Rattle.std.specs.Prelude.{◌≡◌, ℕ, zero, suc, ◌+◌, ◌-◌, ◌*◌, ◌/◌, ◌%◌, ◌<◌, ◌≤◌, Bool, true, false, cond, not, ◌&&◌, List, [], ◌∷◌, length, take, None, sum_by, count_by, ◌≢◌, nat_le, slice_index, slice_index_or}
use Rattle.memory.specs.Answers.{Answer, success, refusal}
use Rattle.memory.specs.Content.{Content, bit, good, spoiled}
use Rattle.bridge.specs.declared.log.Direction.TheVariants.{Write}
use Rattle.bridge.specs.Bursts.{Piece, card_write, failed_check, pieces, reading}
use Rattle.bridge.specs.Calls.{Outcome, card, performed}
use Rattle.bridge_laws.specs.Cuts.{job_enables, job_words}
use Rattle.bridge.specs.Longwords.{byte_of}
use Rattle.bridge.specs.Pieces.{after_piece, piece_outcome}
use Rattle.bridge_laws.specs.Reads.{FaultAt}
use Rattle.bridge.specs.State.{State}
use Rattle.bridge.specs.Translation.{place_of, target, unclaimed}

-- byte i of a line that has longwords from an offset on is one of theirs, and enabled
abbrev pub enabled_at : ℕ → List ℕ → ℕ → Bool
enabled_at offset enables i = nat_le offset i && bit (slice_index enables ((i - offset) / 4)) ((i - offset) % 4)

-- a line before and after longwords are stored into it from an offset on: each enabled byte of a good line has the new
-- value, every other the old one; a spoiled line becomes good where every byte is enabled, else it stays
pub data LineAfter (offset : ℕ) (words enables : List ℕ) : Content → Content → Type 0 where
  good_line : {old new : List ℕ} → length new ≡ 32 → ((i : ℕ) → i < 32 → slice_index new i ≡ cond (enabled_at offset enables i) (byte_of words (i - offset)) (slice_index old i)) → LineAfter offset words enables (good old) (good new)
  made_good : {new : List ℕ} → length new ≡ 32 → ((i : ℕ) → i < 32 → (enabled_at offset enables i ≡ true) × (slice_index new i ≡ byte_of words (i - offset))) → LineAfter offset words enables spoiled (good new)
  still_spoiled : (i : ℕ) → i < 32 → enabled_at offset enables i ≡ false → LineAfter offset words enables spoiled spoiled

-- the longwords of a piece lead to one line, which alone changes
pub record Stored (s t : State) (p : Piece) : Type 0 where
  pub address : ℕ
  pub led : (k : ℕ) → k < p.count → place_of s (p.pci + 4 * k) ≡ target (address + 4 * k)
  pub in_line : address % 32 + 4 * p.count ≤ 32
  pub line : LineAfter (address % 32) (job_words p.job) (job_enables p.job) (s.lines (address / 32)) (t.lines (address / 32))
  pub others : (k : ℕ) → (k ≢ address / 32) → t.lines k ≡ s.lines k

-- a line is stored, or dismissed for a fault, which changes no line
pub data LineServed (s t : State) (p : Piece) : Bool → Type 0 where
  was_stored : Stored s t p → LineServed s t p true
  was_dismissed : {number line : ℕ} → FaultAt s p.pci Write number line → t.lines ≡ s.lines → LineServed s t p false

-- the state in which the piece at an index is served: that after the pieces before it
abbrev pub before_piece : State → List Piece → ℕ → State
before_piece s ps zero = s
before_piece s [] (suc i) = s
before_piece s (p ∷ ps) (suc i) = before_piece (after_piece s (piece_outcome s.control s.lines p)) ps i

abbrev pub nth_piece : List Piece → ℕ → Piece
nth_piece ps i = slice_index_or ps i (record { pci = 0; count = 0; job = reading })

-- longwords taken, lines stored, lines dismissed, where the first lines of a burst were stored or not as listed
abbrev pub counts : List Piece → List Bool → List ℕ
counts ps stored = sum_by (λ (p : Piece). p.count) (take (length stored) ps) ∷ count_by (λ b. b) stored ∷ count_by not stored ∷ []

-- a write ends with its last line, or before one that no window holds
pub data WriteEndsWith (s : State) (ps : List Piece) (stored : List Bool) : Answer → Type 0 where
  complete : length stored ≡ length ps → WriteEndsWith s ps stored (success (counts ps stored))
  at_no_window : length stored < length ps → place_of s (nth_piece ps (length stored)).pci ≡ unclaimed → WriteEndsWith s ps stored (refusal 4 (counts ps stored))

-- the lines of a write are served in order, each in the state that those before it left; nothing else touches the memory
pub record WriteLaw (s : State) (ps : List Piece) (o : Outcome) : Type 0 where
  pub stored : List Bool
  pub served : (i : ℕ) → i < length stored → LineServed (before_piece s ps i) (before_piece s ps (suc i)) (nth_piece ps i) (slice_index_or stored i false)
  pub end : WriteEndsWith (before_piece s ps (length stored)) ps stored o.answer
  pub memory : o.state.lines ≡ (before_piece s ps (length stored)).lines

abbrev pub Writes : Type 0
Writes =
    (s : State) (pci count : ℕ) (words enables : List ℕ)
    → failed_check s.control.registers (card_write pci count words enables) ≡ None
    → WriteLaw s (pieces (card_write pci count words enables)) (performed s (card (card_write pci count words enables)))
