-- A card write, piece by piece: what it counts, and its answer.
use Rattle.std.proofs.Common.{◌≡◌, ℕ, ◌+◌, ◌-◌, ◌*◌, ◌<◌, ◌≤◌, Bool, true, false, cond, eqb, List, [], ◌∷◌, ◌++◌, length, take, drop, is_ok, Some, None, Ok, Err, Result, sym, refl, ap, ◌∙◌, subst, ⊎_elim, add-zero, add_assoc, zero-add, arith, eq-eqb}
use Rattle.std.proofs.lemmas.List.{append-nil, length-drop, length-take, take-append-drop, take-take}
use Rattle.std.proofs.Math.Seq.{take-add}
use Rattle.std.proofs.lemmas.Bool.{cond-false, cond-true, ne_eqb}
use Rattle.std.specs.List.{AllByRecursion}
use Rattle.bridge.specs.declared.bursts.BurstRefusal.{BurstRefusal}
use Rattle.bridge.specs.declared.bursts.BurstRefusal.TheVariants.{Ended, Unclaimed}
use Rattle.bridge.specs.declared.bursts.WriteCounts.{WriteCounts}
use Rattle.bridge.specs.declared.bursts.WriteEnd.{WriteEnd}
use Rattle.bridge.specs.declared.faults.BurstFault.{BurstFault}
use Rattle.bridge.specs.declared.log.FaultLog.{FaultLog}
use Rattle.bridge.specs.declared.look_aside.LookAside.{LookAside}
use Rattle.bridge.specs.BurstAnswers.{tallied}
use Rattle.bridge.specs.Bursts.{Piece, card_write, in_line, is_unclaimed, piece_to_write, third_check, wide_enable, writing}
use Rattle.bridge.specs.Calls.{burst_outcome, write_outcome}
use Rattle.bridge.specs.Pieces.{Edit, PieceOutcome, PieceReply, after_piece, no_window, outcome_by_write, outcome_claimed, read_ended, words_dismissed, words_moved, words_stored}
use Rattle.bridge.specs.Runs.{answer_of_write, counted, ends, met_no_window}
use Rattle.bridge.specs.State.{State}
use Rattle.bridge.specs.Windows.{claim}
use Rattle.bridge.proofs.BurstRuns.{GoesOn, Progress, finish, held_outcome, piece_at, start, step, stop_unheld, unheld_outcome}
use Rattle.bridge.proofs.LineBytes.{wide_parts}

-- the part of a buffer that a piece is written from
abbrev pub part : ℕ → ℕ → List ℕ → List ℕ
part done n b = take (done + n - done) (drop done b)

pub part_length : (done n : ℕ) (b : List ℕ) → done + n ≤ length b → length (part done n b) ≡ n
part_length done n b h = simp (length-take, length-drop) (omega arith)

-- and so are those of a piece
pub wide_part : (es : List ℕ) (count done n : ℕ) → done + n ≤ count → wide_enable (take count es) ≡ false → wide_enable (part done n es) ≡ false
wide_part es count done n l h =
    let k : done + n - done ≡ n = omega arith in
    let whole : take (done + n) (take count es) ++ drop (done + n) (take count es) ≡ take count es = take-append-drop (done + n) (take count es) in
    let first : take (done + n) (take count es) ≡ take done es ++ take n (drop done es) = take-take (done + n) count es l ∙ take-add done n es in
    let upto = wide_parts (take (done + n) (take count es)) (drop (done + n) (take count es)) (ap wide_enable whole ∙ h) in
    rw k (wide_parts (take done es) (take n (drop done es)) (ap wide_enable (sym first) ∙ upto.0)).1

-- counts side by side
abbrev summed : WriteCounts → WriteCounts → WriteCounts
summed a b = record { taken = a.taken + b.taken; stored = a.stored + b.stored; dismissed = a.dismissed + b.dismissed }

counted_append : (a b : List PieceReply) → counted (a ++ b) ≡ summed (counted a) (counted b)
counted_append [] b = simp zero-add
counted_append (words_moved words ∷ a) b = counted_append a b
counted_append (read_ended pci fault ∷ a) b = counted_append a b
counted_append (words_stored count ∷ a) b = ap (λ (c : WriteCounts). record { taken = count + c.taken; stored = 1 + c.stored; dismissed = c.dismissed }) (counted_append a b) ∙ simp add_assoc
counted_append (words_dismissed count ∷ a) b = ap (λ (c : WriteCounts). record { taken = count + c.taken; stored = c.stored; dismissed = 1 + c.dismissed }) (counted_append a b) ∙ simp add_assoc
counted_append (no_window ∷ a) b = counted_append a b

-- only the last reply can say that no window held a longword
met_by : (a b : List PieceReply) → AllByRecursion GoesOn a → met_no_window (a ++ b) ≡ met_no_window b
met_by [] b h = refl
met_by (words_moved words ∷ a) b h = met_by a b h.1
met_by (read_ended pci fault ∷ a) b h = met_by a b h.1
met_by (words_stored count ∷ a) b h = met_by a b h.1
met_by (words_dismissed count ∷ a) b h = met_by a b h.1
met_by (no_window ∷ a) b h = absurd (let z : true ≡ false = h.0 in let y : ◌≡◌ {A = ℕ} 0 1 = cc in omega arith)

abbrev reply_of : ℕ → Bool → PieceReply
reply_of n true = words_stored n
reply_of n false = words_dismissed n

counted_one : (c : WriteCounts) (n : ℕ) (b : Bool) → summed c (counted (reply_of n b ∷ [])) ≡ tallied c n b
counted_one c n true = simp add-zero
counted_one c n false = simp add-zero

-- what a piece of a write replies
reply_is : (rows : LookAside) (log : FaultLog) (pci : ℕ) (words enables : List ℕ) (edit : Edit) (n : ℕ) (r : Result Unit BurstFault) → length words ≡ n
    → (outcome_by_write rows log (piece_to_write pci words enables) edit r).reply ≡ reply_of n (is_ok r)
reply_is rows log pci words enables edit n (Ok done) e = ap words_stored e
reply_is rows log pci words enables edit n (Err fault) e = ap words_dismissed e

reply_goes_on : (n : ℕ) (b : Bool) → GoesOn (reply_of n b)
reply_goes_on n true = refl
reply_goes_on n false = refl

pub record Writing (s₀ : State) (pci count : ℕ) (words enables : List ℕ) (s : State) (counts : WriteCounts) : Type 0 where
  pub fewer : counts.stored + counts.dismissed ≤ counts.taken
  pub replies : List PieceReply
  pub tally : counted replies ≡ counts
  pub progress : Progress s₀ pci count (writing words enables) s counts.taken replies

pub begin : (s : State) (pci count : ℕ) (words enables : List ℕ) → Writing s pci count words enables s (record { taken = 0; stored = 0; dismissed = 0 })
begin s pci count words enables = record { fewer = omega arith; replies = []; tally = refl; progress = start s pci count (writing words enables) }

fewer_still : (c d : WriteCounts) (n : ℕ) (b : Bool) → 0 < n → c.stored + c.dismissed ≤ c.taken → d ≡ tallied c n b → d.stored + d.dismissed ≤ d.taken
fewer_still c d n true some h e = subst (λ (x : WriteCounts). x.stored + x.dismissed ≤ x.taken) (sym e) (omega arith)
fewer_still c d n false some h e = subst (λ (x : WriteCounts). x.stored + x.dismissed ≤ x.taken) (sym e) (omega arith)

taken_is : (c d : WriteCounts) (n : ℕ) (b : Bool) → d ≡ tallied c n b → c.taken + n ≡ d.taken
taken_is c d n true e = sym (ap (λ (x : WriteCounts). x.taken) e)
taken_is c d n false e = sym (ap (λ (x : WriteCounts). x.taken) e)

module _ (s₀ : State) (pci count : ℕ) (words enables : List ℕ) (s : State) (counts : WriteCounts) (i : Writing s₀ pci count words enables s counts) where
  abbrev goal : State → Result WriteCounts (BurstRefusal WriteEnd) → Type 0
  goal t r = write_outcome t r ≡ burst_outcome s₀ (card_write pci count words enables) (third_check s₀.control.registers pci)

  pub no_window_next : counts.taken < count → claim s.control.registers (pci + 4 * counts.taken) ≡ None → (x : BurstRefusal WriteEnd) → x ≡ cond (eqb counts.taken 0) Unclaimed (Ended (record { counts = counts })) → goal s (Err x)
  no_window_next some none x e =
      ⊎_elim
      (λ z. let p : pci + 4 * counts.taken ≡ pci = omega (arith, z.0) in
      let unheld : claim s₀.control.registers pci ≡ None = ap (λ r. claim r pci) (sym i.progress.registers) ∙ ap (claim s.control.registers) (sym p) ∙ none in
      let is : x ≡ Unclaimed = e ∙ cond-true (eqb counts.taken 0) _ _ (eq-eqb counts.taken 0 z.0) in
      ap (λ y. write_outcome s (Err y)) is ∙ ap (λ t. write_outcome t (Err Unclaimed)) z.1 ∙ sym (unheld_outcome s₀ (card_write pci count words enables) pci unheld))
      (λ z. let is : x ≡ Ended (record { counts = counts }) = e ∙ cond-false (eqb counts.taken 0) _ _ (ne_eqb counts.taken 0 (λ k. omega (arith, z.0))) in
      let all = i.replies ++ no_window ∷ [] in
      let sum : counted all ≡ counts = counted_append i.replies (no_window ∷ []) ∙ simp add-zero i.tally in
      ap (λ y. write_outcome s (Err y)) is
      ∙ sym (held_outcome s₀ (card_write pci count words enables) pci _ z.1 (stop_unheld s₀ pci count (writing words enables) s counts.taken i.replies i.progress some none)
      ∙ ap (λ (c : WriteCounts). record { state = s; answer = answer_of_write c (met_no_window all); buffer = [] }) sum
      ∙ ap (λ b. record { state = s; answer = answer_of_write counts b; buffer = [] }) (met_by i.replies (no_window ∷ []) i.progress.go_on)))
      i.progress.begun

  module _ (n : ℕ) (some : counts.taken < count) (room : count ≤ length words) (near : n ≡ in_line (pci + 4 * counts.taken) (count - counts.taken)) (number : ℕ) (mapped : Bool) (held : claim s.control.registers (pci + 4 * counts.taken) ≡ Some (number, mapped))
      (t : State) (rows : LookAside) (log : FaultLog) (r : Result Unit BurstFault) where
    abbrev own : Piece
    own = piece_to_write (pci + 4 * counts.taken) (part counts.taken n words) (part counts.taken n enables)

    abbrev done : PieceOutcome
    done = outcome_by_write rows log own (outcome_claimed s own number mapped).edit r

    long : length (part counts.taken n words) ≡ n
    long = part_length counts.taken n words (omega (arith, near))

    -- the piece is that of the cut
    own_is : own ≡ piece_at (pci + 4 * counts.taken) n (writing (drop counts.taken words) (drop counts.taken enables))
    own_is =
        let k : counts.taken + n - counts.taken ≡ n = omega arith in
        λ j. record { pci = pci + 4 * counts.taken; count = long j; job = writing (take (k j) (drop counts.taken words)) (take (k j) (drop counts.taken enables)) }

    pub go_on : done ≡ outcome_claimed s own number mapped → t ≡ after_piece s (outcome_claimed s own number mapped) → (next : WriteCounts) → next ≡ tallied counts n (is_ok r) → Writing s₀ pci count words enables t next
    go_on h after next e =
        let reply = reply_is rows log (pci + 4 * counts.taken) (part counts.taken n words) (part counts.taken n enables) (outcome_claimed s own number mapped).edit n r long in
        record {
          fewer = fewer_still counts next n (is_ok r) (omega (arith, near)) i.fewer e;
          replies = i.replies ++ done.reply ∷ [];
          tally = counted_append i.replies (done.reply ∷ []) ∙ ap (λ x. summed (counted i.replies) (counted (x ∷ []))) reply ∙ ap (λ c. summed c (counted (reply_of n (is_ok r) ∷ []))) i.tally ∙ counted_one counts n (is_ok r) ∙ sym e;
          progress = subst (λ k. Progress s₀ pci count (writing words enables) t k (i.replies ++ done.reply ∷ [])) (taken_is counts next n (is_ok r) e)
              (step s₀ pci count (writing words enables) s counts.taken i.replies i.progress n some near number mapped held done (h ∙ ap (λ p. outcome_claimed s p number mapped) own_is) (ap ends reply ∙ reply_goes_on n (is_ok r)) t (after ∙ sym (ap (after_piece s) h)));
        }

  pub complete : 0 < count → count ≤ counts.taken → goal s (Ok counts)
  complete some h =
      let held : is_unclaimed (claim s₀.control.registers pci) ≡ false = ⊎_elim (λ z. absurd (omega (arith, z.0))) (λ z. z.1) i.progress.begun in
      sym (held_outcome s₀ (card_write pci count words enables) pci _ held (finish s₀ pci count (writing words enables) s counts.taken i.replies i.progress h)
      ∙ ap (λ (c : WriteCounts). record { state = s; answer = answer_of_write c (met_no_window i.replies); buffer = [] }) i.tally
      ∙ ap (λ b. record { state = s; answer = answer_of_write counts b; buffer = [] }) (ap met_no_window (sym (append-nil i.replies)) ∙ met_by i.replies [] i.progress.go_on))
