-- A burst served piece by piece, and its answer.
use Rattle.std.specs.Prelude.{ℕ, ◌+◌, Bool, true, false, List, [], ◌∷◌, ◌++◌, length}
use Rattle.memory.specs.Answers.{Answer, success, refusal}
use Rattle.memory.specs.Longwords.{buffer_filled}
use Rattle.bridge.specs.declared.bursts.WriteCounts.{WriteCounts}
use Rattle.bridge.specs.Faults.{fault_line, fault_number}
use Rattle.bridge.specs.Bursts.{Burst, Piece, card_read, card_write}
use Rattle.bridge.specs.Pieces.{PieceOutcome, PieceReply, after_piece, no_window, piece_outcome, read_ended, words_dismissed, words_moved, words_stored}
use Rattle.bridge.specs.State.{State}

-- a fault ends a read, and no window ends every burst; a write goes on after a line that was dismissed
abbrev pub ends : PieceReply → Bool
ends (words_moved words) = false
ends (read_ended pci fault) = true
ends (words_stored count) = false
ends (words_dismissed count) = false
ends no_window = true

-- the state that some pieces leave, and what the card learned of each that was tried
pub record Run : Type 0 where
  pub state : State
  pub replies : List PieceReply

abbrev pub run_unless : Bool → State → PieceOutcome → Run → Run
run_unless true s o later = record { state = after_piece s o; replies = o.reply ∷ [] }
run_unless false s o later = record { state = later.state; replies = o.reply ∷ later.replies }

-- a piece that ends the burst is the last; after any other come the later ones
abbrev pub run_piece : State → PieceOutcome → Run → Run
run_piece s o later = run_unless (ends o.reply) s o later

abbrev pub run : State → List Piece → Run
run s [] = record { state = s; replies = [] }
run s (p ∷ ps) = let o = piece_outcome s.control s.lines p in run_piece s o (run (after_piece s o) ps)

-- Reads. The longwords that were moved:
abbrev pub all_moved : List PieceReply → List ℕ
all_moved [] = []
all_moved (words_moved words ∷ replies) = words ++ all_moved replies
all_moved (read_ended pci fault ∷ replies) = all_moved replies
all_moved (words_stored count ∷ replies) = all_moved replies
all_moved (words_dismissed count ∷ replies) = all_moved replies
all_moved (no_window ∷ replies) = all_moved replies

-- a read that no piece ended succeeds; 4 returns how many longwords were moved, a fault also its PCI address and line
abbrev pub answer_of_read : ℕ → List PieceReply → Answer
answer_of_read moved [] = success []
answer_of_read moved (words_moved words ∷ replies) = answer_of_read moved replies
answer_of_read moved (read_ended pci fault ∷ replies) = refusal (fault_number fault) (moved ∷ pci ∷ fault_line fault ∷ [])
answer_of_read moved (words_stored count ∷ replies) = answer_of_read moved replies
answer_of_read moved (words_dismissed count ∷ replies) = answer_of_read moved replies
answer_of_read moved (no_window ∷ replies) = refusal 4 (moved ∷ [])

-- Writes. Longwords taken, lines stored, lines dismissed:
abbrev pub counted : List PieceReply → WriteCounts
counted [] = record { taken = 0; stored = 0; dismissed = 0 }
counted (words_moved words ∷ replies) = counted replies
counted (read_ended pci fault ∷ replies) = counted replies
counted (words_stored count ∷ replies) = let c = counted replies in record { taken = count + c.taken; stored = 1 + c.stored; dismissed = c.dismissed }
counted (words_dismissed count ∷ replies) = let c = counted replies in record { taken = count + c.taken; stored = c.stored; dismissed = 1 + c.dismissed }
counted (no_window ∷ replies) = counted replies

abbrev pub met_no_window : List PieceReply → Bool
met_no_window [] = false
met_no_window (words_moved words ∷ replies) = met_no_window replies
met_no_window (read_ended pci fault ∷ replies) = met_no_window replies
met_no_window (words_stored count ∷ replies) = met_no_window replies
met_no_window (words_dismissed count ∷ replies) = met_no_window replies
met_no_window (no_window ∷ replies) = true

-- a write returns its three counts, where it comes to its end and with 4
abbrev pub count_values : WriteCounts → List ℕ
count_values c = c.taken ∷ c.stored ∷ c.dismissed ∷ []

abbrev pub answer_of_write : WriteCounts → Bool → Answer
answer_of_write c false = success (count_values c)
answer_of_write c true = refusal 4 (count_values c)

-- Both.
abbrev pub burst_answer : Burst → List PieceReply → Answer
burst_answer (card_read pci count buffer) replies = answer_of_read (length (all_moved replies)) replies
burst_answer (card_write pci count words enables) replies = answer_of_write (counted replies) (met_no_window replies)

-- the buffer that a read was lent, afterwards: the longwords fill it from its first place on; a write is lent none to fill
abbrev pub burst_buffer : Burst → List PieceReply → List ℕ
burst_buffer (card_read pci count buffer) replies = buffer_filled (all_moved replies) buffer
burst_buffer (card_write pci count words enables) replies = []

abbrev pub lent_buffer : Burst → List ℕ
lent_buffer (card_read pci count buffer) = buffer
lent_buffer (card_write pci count words enables) = []
