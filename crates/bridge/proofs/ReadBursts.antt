-- A card read, piece by piece: its buffer, and its answer.
use Rattle.std.proofs.Common.{◌≡◌, ℕ, ◌+◌, ◌-◌, ◌*◌, ◌<◌, ◌≤◌, Bool, true, false, cond, eqb, List, [], ◌∷◌, ◌++◌, length, take, drop, Some, None, Ok, Err, Result, sym, refl, ap, ◌∙◌, subst, ⊎_elim, arith, eq-eqb}
use Rattle.std.proofs.lemmas.List.{append_assoc, append-nil, length-take-le}
use Rattle.std.proofs.lemmas.Bool.{cond-false, cond-true, ne_eqb}
use Rattle.std.specs.List.{AllByRecursion}
use Rattle.memory.specs.Answers.{Answer, refusal}
use Rattle.memory.specs.Longwords.{buffer_filled}
use Rattle.bridge.specs.declared.bursts.BurstRefusal.{BurstRefusal}
use Rattle.bridge.specs.declared.bursts.BurstRefusal.TheVariants.{Ended, Unclaimed}
use Rattle.bridge.specs.declared.bursts.ReadEnd.{ReadEnd}
use Rattle.bridge.specs.declared.bursts.ReadEnd.TheVariants.{Fault, NoWindow}
use Rattle.bridge.specs.declared.faults.BurstFault.{BurstFault}
use Rattle.bridge.specs.BurstAnswers.{read_answered}
use Rattle.bridge.specs.Bursts.{card_read, in_line, is_unclaimed, pieces, reading, third_check}
use Rattle.bridge.specs.Calls.{burst_outcome, read_outcome}
use Rattle.bridge.specs.Faults.{fault_line, fault_number}
use Rattle.bridge.specs.Pieces.{PieceOutcome, PieceReply, after_piece, no_window, outcome_claimed, read_ended, words_dismissed, words_moved, words_stored}
use Rattle.memory.proofs.TakenLongwords.{filled_so_far}
use Rattle.bridge.specs.Runs.{all_moved, answer_of_read, ends, run}
use Rattle.bridge.specs.State.{State}
use Rattle.bridge.specs.Windows.{claim}
use Rattle.bridge.proofs.BurstRuns.{GoesOn, Progress, finish, first_held, held_outcome, piece_at, start, stop, stop_unheld, stopped, unheld_outcome}

-- replies in a row
pub moved_append : (a b : List PieceReply) → all_moved (a ++ b) ≡ all_moved a ++ all_moved b
moved_append [] b = refl
moved_append (words_moved words ∷ a) b = ap (λ l. words ++ l) (moved_append a b) ∙ sym (append_assoc words (all_moved a) (all_moved b))
moved_append (read_ended pci fault ∷ a) b = moved_append a b
moved_append (words_stored count ∷ a) b = moved_append a b
moved_append (words_dismissed count ∷ a) b = moved_append a b
moved_append (no_window ∷ a) b = moved_append a b

-- the first reply that ends a read decides its answer
ended_by : (m : ℕ) (a b : List PieceReply) → AllByRecursion GoesOn a → answer_of_read m (a ++ b) ≡ answer_of_read m b
ended_by m [] b h = refl
ended_by m (words_moved words ∷ a) b h = ended_by m a b h.1
ended_by m (read_ended pci fault ∷ a) b h = absurd (let z : true ≡ false = h.0 in let y : ◌≡◌ {A = ℕ} 0 1 = cc in omega arith)
ended_by m (words_stored count ∷ a) b h = ended_by m a b h.1
ended_by m (words_dismissed count ∷ a) b h = ended_by m a b h.1
ended_by m (no_window ∷ a) b h = absurd (let z : true ≡ false = h.0 in let y : ◌≡◌ {A = ℕ} 0 1 = cc in omega arith)

pub record Reading (s₀ : State) (pci count : ℕ) (b₀ : List ℕ) (s : State) (b : List ℕ) (moved : ℕ) : Type 0 where
  pub rest : drop moved b ≡ drop moved b₀
  pub replies : List PieceReply
  pub words : all_moved replies ≡ take moved b
  pub progress : Progress s₀ pci count reading s moved replies

pub begin : (s : State) (pci count : ℕ) (b : List ℕ) → Reading s pci count b s b 0
begin s pci count b = record { rest = refl; replies = []; words = refl; progress = start s pci count reading }

module _ (s₀ : State) (pci count : ℕ) (b₀ : List ℕ) (s : State) (b : List ℕ) (moved : ℕ) (i : Reading s₀ pci count b₀ s b moved) (room : count ≤ length b) where
  abbrev goal : State → List ℕ → Result Unit (BurstRefusal ReadEnd) → Type 0
  goal t buffer r = read_outcome t buffer r ≡ burst_outcome s₀ (card_read pci count b₀) (third_check s₀.control.registers pci)

  short : moved ≤ length b
  short = omega (arith, i.progress.within)

  -- the replies so far and one that moves nothing
  moved_then : (r : PieceReply) → all_moved (r ∷ []) ≡ [] → all_moved (i.replies ++ r ∷ []) ≡ take moved b
  moved_then r e = moved_append i.replies (r ∷ []) ∙ ap (λ l. all_moved i.replies ++ l) e ∙ append-nil (all_moved i.replies) ∙ i.words

  ended : (t : State) (r : PieceReply) (a : ℕ → Answer) (x : Result Unit (BurstRefusal ReadEnd)) → all_moved (r ∷ []) ≡ [] → ((m : ℕ) → answer_of_read m (r ∷ []) ≡ a m) → read_answered x ≡ a moved
      → is_unclaimed (claim s₀.control.registers pci) ≡ false → run s₀ (pieces (card_read pci count b₀)) ≡ stopped t (i.replies ++ r ∷ []) → goal t b x
  ended t r a x none says told held e =
      let words = moved_then r none in
      let count_is : length (all_moved (i.replies ++ r ∷ [])) ≡ moved = ap length words ∙ length-take-le moved b short in
      sym (held_outcome s₀ (card_read pci count b₀) pci _ held e
      ∙ ap (λ (l : List ℕ). record { state = t; answer = answer_of_read (length l) (i.replies ++ r ∷ []); buffer = buffer_filled l b₀ }) words
      ∙ ap (λ (l : List ℕ). record { state = t; answer = answer_of_read (length (take moved b)) (i.replies ++ r ∷ []); buffer = l }) (filled_so_far moved b₀ b i.rest short)
      ∙ ap (λ (y : Answer). record { state = t; answer = y; buffer = b })
      (ended_by (length (take moved b)) i.replies (r ∷ []) i.progress.go_on ∙ says (length (take moved b)) ∙ ap a (length-take-le moved b short) ∙ sym told))

  pub no_window_next : moved < count → claim s.control.registers (pci + 4 * moved) ≡ None → (x : BurstRefusal ReadEnd) → x ≡ cond (eqb moved 0) Unclaimed (Ended (NoWindow moved)) → goal s b (Err x)
  no_window_next some none x e =
      ⊎_elim
      (λ z. let p : pci + 4 * moved ≡ pci = omega (arith, z.0) in
      let unheld : claim s₀.control.registers pci ≡ None = ap (λ r. claim r pci) (sym i.progress.registers) ∙ ap (claim s.control.registers) (sym p) ∙ none in
      let same : b ≡ b₀ = subst (λ k. drop k b ≡ drop k b₀) z.0 i.rest in
      let is : x ≡ Unclaimed = e ∙ cond-true (eqb moved 0) _ _ (eq-eqb moved 0 z.0) in
      ap (λ y. read_outcome s b (Err y)) is ∙ ap (λ t. read_outcome t b (Err Unclaimed)) z.1 ∙ ap (λ l. read_outcome s₀ l (Err Unclaimed)) same
      ∙ sym (unheld_outcome s₀ (card_read pci count b₀) pci unheld))
      (λ z. let is : x ≡ Ended (NoWindow moved) = e ∙ cond-false (eqb moved 0) _ _ (ne_eqb moved 0 (λ k. omega (arith, z.0))) in
      ended s no_window (λ m. refusal 4 (m ∷ [])) (Err x) refl (λ m. refl) (ap (λ y. read_answered (Err y)) is) z.1 (stop_unheld s₀ pci count reading s moved i.replies i.progress some none))
      i.progress.begun

  -- a fault ends it
  pub fault_next : (n : ℕ) → moved < count → n ≡ in_line (pci + 4 * moved) (count - moved) → (number : ℕ) (mapped : Bool) → claim s.control.registers (pci + 4 * moved) ≡ Some (number, mapped)
      → (o : PieceOutcome) → o ≡ outcome_claimed s (piece_at (pci + 4 * moved) n reading) number mapped → (fault : BurstFault) → o.reply ≡ read_ended (pci + 4 * moved) fault
      → goal (after_piece s o) b (Err (Ended (Fault moved (pci + 4 * moved) fault)))
  fault_next n some near number mapped held o is fault e =
      ended (after_piece s o) (read_ended (pci + 4 * moved) fault) (λ m. refusal (fault_number fault) (m ∷ (pci + 4 * moved) ∷ fault_line fault ∷ [])) (Err (Ended (Fault moved (pci + 4 * moved) fault))) refl (λ m. refl) refl
      (first_held s₀ pci count reading s moved i.replies i.progress number mapped held)
      (stop s₀ pci count reading s moved i.replies i.progress n some near number mapped held o is (ap ends e) ∙ ap (λ r. stopped (after_piece s o) (i.replies ++ r ∷ [])) e)

  pub complete : 0 < count → count ≤ moved → goal s b (Ok tt)
  complete some h =
      let held : is_unclaimed (claim s₀.control.registers pci) ≡ false = ⊎_elim (λ z. absurd (omega (arith, z.0))) (λ z. z.1) i.progress.begun in
      sym (held_outcome s₀ (card_read pci count b₀) pci _ held (finish s₀ pci count reading s moved i.replies i.progress h)
      ∙ ap (λ (l : List ℕ). record { state = s; answer = answer_of_read (length l) i.replies; buffer = buffer_filled l b₀ }) i.words
      ∙ ap (λ (l : List ℕ). record { state = s; answer = answer_of_read (length (take moved b)) i.replies; buffer = l }) (filled_so_far moved b₀ b i.rest short)
      ∙ ap (λ (y : Answer). record { state = s; answer = y; buffer = b })
      (ap (answer_of_read (length (take moved b))) (sym (append-nil i.replies)) ∙ ended_by (length (take moved b)) i.replies [] i.progress.go_on))
