-- A read of one page: the pieces of the burst that it serves.
use Rattle.std.proofs.Common.{◌≡◌, ℕ, zero, suc, ◌+◌, ◌-◌, ◌*◌, ◌/◌, ◌%◌, ◌^◌, ◌<◌, ◌≤◌, min, Bool, List, [], ◌∷◌, ◌++◌, length, take, drop, Some, Ok, Err, Result, sym, refl, ap, ◌∙◌, subst, arith}
use borrow.Rule.Slice.PartMut.{put_mid}
use Rattle.std.proofs.lemmas.List.{append_assoc, append-nil, drop-drop, length-append, length-drop, length-take, take-append-drop}
use Rattle.std.proofs.lemmas.Slice.{take-put_mid, drop-put_mid}
use Rattle.memory.specs.Content.{Content, absent, good, read_answer, spoiled}
use Rattle.memory.specs.Longwords.{buffer_filled, longwords, longwords_answered, longwords_on}
use Rattle.memory.specs.declared.MemoryFault.TheVariants.{Absent, Spoiled}
use Rattle.memory.proofs.LongwordRuns.{line_read, longwords_long, none_read, same_from}
use Rattle.memory.proofs.TakenLongwords.{put_front}
use Rattle.bridge.specs.Bursts.{Piece, card_read, in_line, in_page, reading, third_check}
use Rattle.bridge.specs.Pieces.{OfTarget, PieceOutcome, PieceReply, ReadFrom, after_piece, no_edit, outcome_at_content, outcome_at_place, outcome_claimed, outcome_faulted, outcome_located, target_answer, words_moved}
use Rattle.bridge.specs.Registers.{window}
use Rattle.bridge.specs.Runs.{all_moved}
use Rattle.bridge.specs.State.{State, with_rows}
use Rattle.bridge.specs.Translation.{Located, Place, located_claimed, reached, table_fault, target, unclaimed}
use Rattle.bridge.specs.Windows.{claim}
use Rattle.std.specs.Result.{IsErrAnd, MatchResult}
use Rattle.bridge.specs.Log.{log_served}
use Rattle.bridge.specs.declared.bursts.BurstRefusal.{BurstRefusal}
use Rattle.bridge.specs.declared.bursts.ReadEnd.{ReadEnd}
use Rattle.bridge.specs.declared.log.Direction.TheVariants.{Read}
use Rattle.bridge.specs.declared.log.FaultLog.{FaultLog}
use Rattle.bridge.specs.Calls.{burst_outcome, read_outcome}
use Rattle.bridge.specs.declared.bursts.BurstRefusal.TheVariants.{Ended}
use Rattle.bridge.specs.declared.bursts.ReadEnd.TheVariants.{Fault}
use Rattle.bridge.specs.declared.faults.BurstFault.{BurstFault}
use Rattle.bridge.specs.declared.faults.BurstFault.TheVariants.{Target}
use Rattle.memory.specs.declared.MemoryFault.{MemoryFault}
use Rattle.bridge.proofs.BurstRuns.{Progress, piece_at, step}
use Rattle.bridge.proofs.ReadBursts.{Reading, fault_next, moved_append}
use Rattle.bridge.proofs.SamePage.{same_claim, window_on}

-- some longwords more of a read are moved, after those of these replies
record MovedOn (s₀ : State) (pci count : ℕ) (s : State) (moved : ℕ) (replies : List PieceReply) (words : List ℕ) : Type 0 where
  later : List PieceReply
  all : all_moved later ≡ all_moved replies ++ words
  progress : Progress s₀ pci count reading s (moved + length words) later

none_more : (s₀ : State) (pci count : ℕ) (s : State) (moved : ℕ) (replies : List PieceReply) → Progress s₀ pci count reading s moved replies → MovedOn s₀ pci count s moved replies []
none_more s₀ pci count s moved replies i = record {
  later = replies;
  all = sym (append-nil (all_moved replies));
  progress = let same : moved ≡ moved + 0 = omega arith in subst (λ n. Progress s₀ pci count reading s n replies) same i;
}

-- one piece, and those after it
piece_then : (s₀ : State) (pci count : ℕ) (s : State) (moved : ℕ) (replies : List PieceReply) (words rest : List ℕ) → MovedOn s₀ pci count s (moved + length words) (replies ++ words_moved words ∷ []) rest → MovedOn s₀ pci count s moved replies (words ++ rest)
piece_then s₀ pci count s moved replies words rest on = record {
  later = on.later;
  all =
      on.all
      ∙ ap (λ l. l ++ rest) (moved_append replies (words_moved words ∷ []) ∙ ap (λ l. all_moved replies ++ l) (append-nil words))
      ∙ append_assoc (all_moved replies) words rest;
  progress =
      let long : moved + length words + length rest ≡ moved + length (words ++ rest) = omega (arith, length-append words rest) in
      subst (λ k. Progress s₀ pci count reading s k on.later) long on.progress;
}

-- the lines of a page behind an address that leads to a physical one and leaves the rows
module _ (s₀ : State) (pci count : ℕ) (s : State) (here number : ℕ) (mapped : Bool) (held : claim s.control.registers here ≡ Some (number, mapped))
    (address : ℕ) (again : located_claimed s here number mapped ≡ reached s.control.look_aside address) (low : address % 32 ≡ here % 32) where
  abbrev moves : List ℕ → PieceOutcome
  moves words = record { look_aside = s.control.look_aside; log = s.control.log; reply = words_moved words; edit = no_edit }

  line_moved : (d line n : ℕ) (bytes : List ℕ) → here % 2 ^ 13 + d < 2 ^ 13 → address + d ≡ 32 * line → s.lines line ≡ good bytes
      → moves (longwords n 0 bytes) ≡ outcome_claimed s (piece_at (here + d) n reading) number mapped
  line_moved d line n bytes near at whole =
      let p = piece_at (here + d) n reading in
      let led : located_claimed s (here + d) number mapped ≡ reached s.control.look_aside (32 * line) =
      window_on here d near s.control.look_aside s.lines address (window s.control.registers number) mapped again ∙ ap (reached s.control.look_aside) at in
      let found : s.lines (32 * line / 32) ≡ good bytes = ap s.lines (omega arith) ∙ whole in
      let front : 32 * line % 32 ≡ 0 = omega arith in
      sym (ap (outcome_located s.control.log s.lines p) led
      ∙ ap (outcome_at_content s.control.look_aside s.control.log p (32 * line) reading) found
      ∙ ap (λ k. moves (longwords n k bytes)) front)

  -- the longwords that are left in the page
  record Ahead (left d line moved : ℕ) : Type 0 where
    near : here % 2 ^ 13 + d < 2 ^ 13
    page : left ≡ in_page (pci + 4 * moved) (count - moved)
    led : address + d ≡ 32 * line

  -- a line that is good, and what follows it; any other ends the read
  line_on : (left d line moved n : ℕ) (replies : List PieceReply) → Progress s₀ pci count reading s moved replies → here + d ≡ pci + 4 * moved → 0 < left → Ahead left d line moved → n ≡ min 8 left
      → ((next : List PieceReply) → Progress s₀ pci count reading s (moved + n) next → MovedOn s₀ pci count s (moved + n) next (longwords_on (left - n) (8 * (line + 1)) s.lines))
      → (c : Content) → s.lines line ≡ c → MovedOn s₀ pci count s moved replies (longwords_on left (8 * line) s.lines)
  line_on left d line moved n replies i at more a least on absent e =
      subst (MovedOn s₀ pci count s moved replies) (sym (none_read s.lines left (8 * line) line (Err (Absent line)) (omega arith) (sym (ap (read_answer line) e)) refl)) (none_more s₀ pci count s moved replies i)
  line_on left d line moved n replies i at more a least on spoiled e =
      subst (MovedOn s₀ pci count s moved replies) (sym (none_read s.lines left (8 * line) line (Err (Spoiled line)) (omega arith) (sym (ap (read_answer line) e)) refl)) (none_more s₀ pci count s moved replies i)
  line_on left d line moved n replies i at more a least on (good bytes) e =
      let words = longwords n 0 bytes in
      let claimed : claim s.control.registers (pci + 4 * moved) ≡ Some (number, mapped) = ap (claim s.control.registers) (sym at) ∙ same_claim here d a.near s.control.registers ∙ held in
      let o : moves words ≡ outcome_claimed s (piece_at (pci + 4 * moved) n reading) number mapped =
      line_moved d line n bytes a.near a.led e ∙ ap (λ k. outcome_claimed s (piece_at k n reading) number mapped) at in
      let whole : n ≡ in_line (pci + 4 * moved) (count - moved) = omega (arith, a.page, a.led, a.near) in
      let some : moved < count = omega (arith, a.page) in
      let next = on (replies ++ words_moved words ∷ []) (step s₀ pci count reading s moved replies i n some whole number mapped claimed (moves words) o refl s refl) in
      let split : longwords_on left (8 * line) s.lines ≡ words ++ longwords_on (left - n) (8 * (line + 1)) s.lines =
      line_read s.lines line bytes e left (8 * line) 0 n (omega arith) (omega arith) least
      ∙ ap (λ l. words ++ l) (same_from s.lines (left - n) (8 * line + n) (8 * (line + 1)) (λ h. omega arith)) in
      subst (MovedOn s₀ pci count s moved replies) (sym split)
      (piece_then s₀ pci count s moved replies words (longwords_on (left - n) (8 * (line + 1)) s.lines)
      (subst (λ m. MovedOn s₀ pci count s (moved + m) (replies ++ words_moved words ∷ []) (longwords_on (left - n) (8 * (line + 1)) s.lines)) (sym (longwords_long n 0 bytes)) next))

  lines_read : (k left d line moved : ℕ) (replies : List PieceReply) → Progress s₀ pci count reading s moved replies → here + d ≡ pci + 4 * moved → k ≡ (left + 7) / 8
      → (0 < left → Ahead left d line moved) → MovedOn s₀ pci count s moved replies (longwords_on left (8 * line) s.lines)
  lines_read zero left d line moved replies i at turns ahead =
      let none : left ≡ 0 = omega arith in
      subst (λ n. MovedOn s₀ pci count s moved replies (longwords_on n (8 * line) s.lines)) (sym none) (none_more s₀ pci count s moved replies i)
  lines_read (suc k) left d line moved replies i at turns ahead =
      let a = ahead (omega arith) in
      let n = min 8 left in
      line_on left d line moved n replies i at (omega arith) a refl
      (λ next j. lines_read k (left - n) (d + 4 * n) (line + 1) (moved + n) next j (omega arith) (omega arith)
      (λ h. record { near = omega (arith, a.page, a.led, a.near); page = omega (arith, a.page, a.led, a.near); led = omega (arith, a.led) })) (s.lines line) refl

-- the page's answer as the log takes it
abbrev pub without_count : Result ℕ BurstFault → Result Unit BurstFault
without_count (Ok count) = Ok tt
without_count (Err fault) = Err fault

-- what the loop makes of the page's answer
abbrev pub AnswerOf : (BurstFault → ReadEnd) → Result ℕ BurstFault → Result ℕ (BurstRefusal ReadEnd) → Type 0
AnswerOf end r y = MatchResult r (λ count. y ≡ Ok count) (λ fault. IsErrAnd y (λ x. x ≡ Ended (end fault)))

ok_of : (end : BurstFault → ReadEnd) (r : Result ℕ BurstFault) (y : Result ℕ (BurstRefusal ReadEnd)) → AnswerOf end r y → (more : ℕ) → y ≡ Ok more → r ≡ Ok more
ok_of end (Ok count) y a more e = let same : count ≡ more = cc in ap Ok same
ok_of end (Err fault) (Ok count) a more e = absurd a
ok_of end (Err fault) (Err x) a more e = absurd (let z : ◌≡◌ {A = ℕ} 0 1 = cc in omega arith)

err_of : (end : BurstFault → ReadEnd) (r : Result ℕ BurstFault) (y : Result ℕ (BurstRefusal ReadEnd)) → AnswerOf end r y → (x : BurstRefusal ReadEnd) → y ≡ Err x → (fault : BurstFault) × (r ≡ Err fault) × (x ≡ Ended (end fault))
err_of end (Ok count) y a x e = absurd (let z : ◌≡◌ {A = ℕ} 0 1 = cc in omega arith)
err_of end (Err fault) (Ok count) a x e = absurd a
err_of end (Err fault) (Err z) a x e = (fault, refl, (let f : z ≡ x = cc in sym f ∙ a))

-- a state with another log
abbrev with_log : FaultLog → State → State
with_log log s = record { control = record { registers = s.control.registers; look_aside = s.control.look_aside; log = log }; lines = s.lines }

not_ok : (n : ℕ) (fault : BurstFault) → ◌≡◌ {A = Result ℕ BurstFault} (Ok n) (Err fault) → ⊥
not_ok n fault e = let z : ◌≡◌ {A = ℕ} 0 1 = cc in omega arith

same_fault : (f g : BurstFault) → ◌≡◌ {A = Result ℕ BurstFault} (Err f) (Err g) → f ≡ g
same_fault f g e = cc

same_count : (m n : ℕ) → ◌≡◌ {A = Result ℕ BurstFault} (Ok m) (Ok n) → m ≡ n
same_count m n e = cc

-- a burst that has come to an address which a window claims reads what its page holds from there on
module _ (s₀ : State) (pci count : ℕ) (b₀ : List ℕ) (s : State) (b : List ℕ) (moved : ℕ) (i : Reading s₀ pci count b₀ s b moved) (room : count ≤ length b) (aligned : pci % 4 ≡ 0) (some : moved < count)
    (number : ℕ) (mapped : Bool) (held : claim s.control.registers (pci + 4 * moved) ≡ Some (number, mapped)) (end : ℕ) (page : end ≡ moved + in_page (pci + 4 * moved) (count - moved)) (new : List ℕ) where
  abbrev here : ℕ
  here = pci + 4 * moved

  abbrev part : List ℕ
  part = take (end - moved) (drop moved b)

  abbrev led : Located
  led = located_claimed s here number mapped

  abbrev after : State
  after = with_rows led.look_aside s

  abbrev n : ℕ
  n = in_line here (count - moved)

  abbrev piece : Piece
  piece = piece_at here n reading

  size : length part ≡ end - moved
  size = simp (length-take, length-drop) (omega arith)

  -- it leads to a good line
  module _ (address : ℕ) (there : led.place ≡ target address) (again : located_claimed after here number mapped ≡ reached led.look_aside address) (low : address % 32 ≡ here % 32) (bytes : List ℕ) (whole : s.lines (address / 32) ≡ good bytes) where
    abbrev words : List ℕ
    words = longwords_on (length part) (address / 4) s.lines

    abbrev own : List ℕ
    own = longwords n (address % 32) bytes

    abbrev done : PieceOutcome
    done = record { look_aside = led.look_aside; log = s.control.log; reply = words_moved own; edit = no_edit }

    is_done : done ≡ outcome_claimed s piece number mapped
    is_done =
        sym (ap (outcome_at_place led.look_aside s.control.log s.lines piece) there
        ∙ ap (outcome_at_content led.look_aside s.control.log piece address reading) whole)

    split : words ≡ own ++ longwords_on (length part - n) (8 * (address / 32 + 1)) s.lines
    split =
        line_read s.lines (address / 32) bytes whole (length part) (address / 4) (address / 4 % 8) n (omega arith) (omega arith) (omega (arith, size))
        ∙ ap (λ k. longwords n k bytes ++ longwords_on (length part - n) (address / 4 + n) s.lines) (let e : 4 * (address / 4 % 8) ≡ address % 32 = omega arith in e)
        ∙ ap (λ l. own ++ l) (same_from s.lines (length part - n) (address / 4 + n) (8 * (address / 32 + 1)) (λ h. omega (arith, size)))

    first : Progress s₀ pci count reading after (moved + n) (i.replies ++ words_moved own ∷ [])
    first = step s₀ pci count reading s moved i.replies i.progress n some refl number mapped held done is_done refl after refl

    moved_on : MovedOn s₀ pci count after moved i.replies words
    moved_on =
        subst (MovedOn s₀ pci count after moved i.replies) (sym split)
        (piece_then s₀ pci count after moved i.replies own (longwords_on (length part - n) (8 * (address / 32 + 1)) s.lines)
        (subst (λ m. MovedOn s₀ pci count after (moved + m) (i.replies ++ words_moved own ∷ []) (longwords_on (length part - n) (8 * (address / 32 + 1)) s.lines)) (sym (longwords_long n (address % 32) bytes))
        (lines_read s₀ pci count after here number mapped held address again low ((length part - n + 7) / 8) (length part - n) (4 * n) (address / 32 + 1) (moved + n) (i.replies ++ words_moved own ∷ []) first (omega arith) refl
        (λ h. record { near = omega (arith, size, page); page = omega (arith, size, page); led = omega (arith, size, page) }))))

    -- one longword at least
    some_moved : 0 < length words
    some_moved = omega (arith, ap length split, length-append own (longwords_on (length part - n) (8 * (address / 32 + 1)) s.lines), longwords_long n (address % 32) bytes, size)

    page_moved : new ≡ buffer_filled words part → length new ≡ length part → (more : ℕ) → more ≡ length words → Reading s₀ pci count b₀ after (put_mid moved (end - moved) b new) (moved + more)
    page_moved filled kept more counted =
        let short : length words ≤ length part = omega (arith, ap length filled, length-append words (drop (length words) part), length-drop (length words) part) in
        let put : put_mid moved (end - moved) b new ≡ put_mid moved (length words) b words = ap (put_mid moved (end - moved) b) filled ∙ put_front moved (end - moved) b words short in
        record {
          rest =
              ap (drop (moved + more)) put ∙ drop-put_mid moved (length words) b words (moved + more) (omega arith) (omega (arith, i.progress.within)) refl
              ∙ sym (drop-drop more moved b) ∙ ap (drop more) i.rest ∙ drop-drop more moved b₀;
          replies = moved_on.later;
          words = rw (moved_on.all, i.words, put, take-put_mid moved (length words) b words (moved + more) (omega arith) (omega (arith, i.progress.within))) refl;
          progress = let same : moved + length words ≡ moved + more = omega arith in subst (λ k. Progress s₀ pci count reading after k moved_on.later) same moved_on.progress;
        }

  -- what the page's answer makes of the burst
  abbrev Moved : ℕ → Type 0
  Moved more = Reading s₀ pci count b₀ after (put_mid moved (end - moved) b new) (moved + more) × (0 < more)

  module _ (kept : length new ≡ length part) (more : ℕ) (r : Result ℕ BurstFault) (ok : r ≡ Ok more) where
    by_content : (address : ℕ) → led.place ≡ target address → located_claimed after here number mapped ≡ reached led.look_aside address → address % 32 ≡ here % 32
        → (c : Content) → s.lines (address / 32) ≡ c → r ≡ target_answer (longwords_answered (length (longwords_on (length part) (address / 4) s.lines)) (read_answer (address / 4 / 8) c)) → new ≡ buffer_filled (longwords_on (length part) (address / 4) s.lines) part → Moved more
    by_content address there again low absent e is filled = absurd (not_ok more _ (sym ok ∙ is))
    by_content address there again low spoiled e is filled = absurd (not_ok more _ (sym ok ∙ is))
    by_content address there again low (good bytes) e is filled =
        let counted : more ≡ length (longwords_on (length part) (address / 4) s.lines) = same_count more _ (sym ok ∙ is) in
        (page_moved address there again low bytes e filled kept more counted, omega (arith, counted, some_moved address there again low bytes e))

    by_place : (p : Place) → led.place ≡ p → ReadFrom p s.lines part new r → OfTarget p (λ address. located_claimed after here number mapped ≡ reached led.look_aside address) → OfTarget p (λ address. address % 32 ≡ here % 32) → Moved more
    by_place unclaimed e read again low = absurd read
    by_place (table_fault fault) e read again low = absurd (not_ok more _ (sym ok ∙ read.0))
    by_place (target address) e read again low =
        let line : address / 4 / 8 ≡ address / 32 = omega arith in
        by_content address e again low (s.lines (address / 32)) refl
        (read.0 ∙ ap (λ k. target_answer (longwords_answered (length (longwords_on (length part) (address / 4) s.lines)) (read_answer (address / 4 / 8) (s.lines k)))) line) read.1

  -- a fault of the page is that of its first piece
  module _ (fault : BurstFault) (r : Result ℕ BurstFault) (err : r ≡ Err fault) where
    abbrev faulted : PieceOutcome
    faulted = outcome_faulted led.look_aside s.control.log piece fault

    abbrev Faulted : Type 0
    Faulted = (faulted ≡ outcome_claimed s piece number mapped) × (new ≡ part)

    content_faulted : (address : ℕ) → led.place ≡ target address → (c : Content) → s.lines (address / 32) ≡ c → (f : MemoryFault) → read_answer (address / 32) c ≡ Err f → fault ≡ Target f
        → outcome_at_content led.look_aside s.control.log piece address reading c ≡ outcome_faulted led.look_aside s.control.log piece (Target f) → new ≡ buffer_filled (longwords_on (length part) (address / 4) s.lines) part → Faulted
    content_faulted address there c e f refused is outcome filled = (
      ap (outcome_faulted led.look_aside s.control.log piece) is ∙ sym outcome
          ∙ sym (ap (outcome_at_place led.look_aside s.control.log s.lines piece) there ∙ ap (outcome_at_content led.look_aside s.control.log piece address reading) e),
      filled
          ∙ ap (λ words. buffer_filled words part)
          (none_read s.lines (length part) (address / 4) (address / 32) (Err f) (omega arith) (sym refused ∙ sym (ap (read_answer (address / 32)) e)) refl),
    )

    fault_at_content : (address : ℕ) → led.place ≡ target address → (c : Content) → s.lines (address / 32) ≡ c → r ≡ target_answer (longwords_answered (length (longwords_on (length part) (address / 4) s.lines)) (read_answer (address / 4 / 8) c))
        → new ≡ buffer_filled (longwords_on (length part) (address / 4) s.lines) part → Faulted
    fault_at_content address there absent e is filled = content_faulted address there absent e (Absent (address / 32)) refl (same_fault fault _ (sym err ∙ is) ∙ ap (λ k. Target (Absent k)) (omega arith)) refl filled
    fault_at_content address there spoiled e is filled = content_faulted address there spoiled e (Spoiled (address / 32)) refl (same_fault fault _ (sym err ∙ is) ∙ ap (λ k. Target (Spoiled k)) (omega arith)) refl filled
    fault_at_content address there (good bytes) e is filled = absurd (not_ok _ fault (sym is ∙ err))

    fault_at_place : (p : Place) → led.place ≡ p → ReadFrom p s.lines part new r → Faulted
    fault_at_place unclaimed e read = absurd read
    fault_at_place (table_fault f) e read = (
      ap (outcome_faulted led.look_aside s.control.log piece) (same_fault fault _ (sym err ∙ read.0)) ∙ sym (ap (outcome_at_place led.look_aside s.control.log s.lines piece) e),
      read.1,
    )
    fault_at_place (target address) e read =
        let line : address / 4 / 8 ≡ address / 32 = omega arith in
        fault_at_content address e (s.lines (address / 32)) refl
        (read.0 ∙ ap (λ k. target_answer (longwords_answered (length (longwords_on (length part) (address / 4) s.lines)) (read_answer (address / 4 / 8) (s.lines k)))) line) read.1

  -- the state that the page's read leaves, and then the log
  module _ (t : State) (left : t ≡ after) (log : FaultLog) (r : Result ℕ BurstFault) (u : Result Unit BurstFault) (same : u ≡ without_count r) (noted : log ≡ log_served t.control.log Read here u) (read : ReadFrom led.place s.lines part new r) where
    pub page_goes_on : length new ≡ length part → (y : Result ℕ (BurstRefusal ReadEnd)) → AnswerOf (Fault moved here) r y → (more : ℕ) → y ≡ Ok more
        → OfTarget led.place (λ address. located_claimed t here number mapped ≡ reached t.control.look_aside address) → OfTarget led.place (λ address. address % 32 ≡ here % 32)
        → Reading s₀ pci count b₀ (with_log log t) (put_mid moved (end - moved) b new) (moved + more) × (0 < more)
    page_goes_on kept y made more was again low =
        let ok = ok_of (Fault moved here) r y made more was in
        let state : with_log log t ≡ after =
        ap (λ l. with_log l t) (noted ∙ ap (log_served t.control.log Read here) (same ∙ ap without_count ok)) ∙ left in
        subst (λ x. Reading s₀ pci count b₀ x (put_mid moved (end - moved) b new) (moved + more) × (0 < more)) (sym state)
        (by_place kept more r ok led.place refl read (subst (λ x. OfTarget led.place (λ address. located_claimed x here number mapped ≡ reached x.control.look_aside address)) left again) low)

    -- where it is a fault, the burst ends, and its buffer is as it was
    ends_with : (fault : BurstFault) → r ≡ Err fault → (x : BurstRefusal ReadEnd) → x ≡ Ended (Fault moved here fault)
        → read_outcome (with_log log t) (put_mid moved (end - moved) b new) (Err x) ≡ burst_outcome s₀ (card_read pci count b₀) (third_check s₀.control.registers pci)
    ends_with fault err x is =
        let f = fault_at_place fault r err led.place refl read in
        let p = faulted fault r err in
        let state : with_log log t ≡ after_piece s p =
        ap (λ l. with_log l t) (noted ∙ ap (log_served t.control.log Read here) (same ∙ ap without_count err)) ∙ ap (λ z. with_log (log_served z.control.log Read here (Err fault)) z) left in
        let back : put_mid moved (end - moved) b new ≡ b = rw (f.1, take-append-drop (end - moved) (drop moved b), take-append-drop moved b) refl in
        ap (λ z. read_outcome z (put_mid moved (end - moved) b new) (Err x)) state
        ∙ ap (λ l. read_outcome (after_piece s p) l (Err x)) back
        ∙ ap (λ z. read_outcome (after_piece s p) b (Err z)) is
        ∙ fault_next s₀ pci count b₀ s b moved i room n some refl number mapped held p f.0 fault refl

    pub page_ends : (y : Result ℕ (BurstRefusal ReadEnd)) → AnswerOf (Fault moved here) r y → (x : BurstRefusal ReadEnd) → y ≡ Err x
        → read_outcome (with_log log t) (put_mid moved (end - moved) b new) (Err x) ≡ burst_outcome s₀ (card_read pci count b₀) (third_check s₀.control.registers pci)
    page_ends y made x was = let e = err_of (Fault moved here) r y made x was in ends_with e.0 e.1 x e.2
