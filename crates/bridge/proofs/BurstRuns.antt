-- A burst served piece by piece: what was served, followed by a run of what is left, is the whole run.
use Rattle.std.proofs.Common.{◌≡◌, ℕ, zero, suc, ◌+◌, ◌-◌, ◌*◌, ◌<◌, ◌≤◌, Bool, true, false, cond, eqb, ◌⊎◌, List, [], ◌∷◌, ◌++◌, Some, None, sym, refl, ap, ◌∙◌, inl, inr, ⊎_elim, arith}
use Rattle.std.proofs.ByRecursion.{All-push}
use Rattle.std.proofs.lemmas.Bool.{cond_both, cond-false, eqb-false, eqb-true}
use Rattle.std.proofs.lemmas.List.{append_assoc, append-nil, drop-drop}
use Rattle.std.specs.List.{AllByRecursion}
use Rattle.bridge.specs.Bursts.{Burst, Job, Piece, cut, in_line, is_unclaimed, job_front, job_rest, pieces, reading, third_check, writing}
use Rattle.bridge.specs.Calls.{burst_outcome, burst_served}
use Rattle.bridge.specs.Pieces.{PieceOutcome, PieceReply, after_piece, no_window, outcome_claimed, outcome_located, piece_outcome}
use Rattle.bridge.specs.Runs.{Run, ends, run, run_piece, run_unless}
use Rattle.bridge.specs.State.{State}
use Rattle.bridge.specs.Translation.{located_by_claim}
use Rattle.bridge.specs.Windows.{claim}

-- some replies before those of a run
abbrev pub resumed : List PieceReply → Run → Run
resumed replies r = record { state = r.state; replies = replies ++ r.replies }

abbrev pub stopped : State → List PieceReply → Run
stopped s replies = record { state = s; replies = replies }

resumed_twice : (a b : List PieceReply) (r : Run) → resumed a (resumed b r) ≡ resumed (a ++ b) r
resumed_twice a b r = ap (stopped r.state) (sym (append_assoc a b r.replies))

-- a run whose first piece goes on, or is the last
pub run_on : (s : State) (p : Piece) (ps : List Piece) (o : PieceOutcome) → piece_outcome s.control s.lines p ≡ o → ends o.reply ≡ false
    → run s (p ∷ ps) ≡ resumed (o.reply ∷ []) (run (after_piece s o) ps)
run_on s p ps o e f = ap (λ x. run_piece s x (run (after_piece s x) ps)) e ∙ ap (λ b. run_unless b s o (run (after_piece s o) ps)) f

pub run_last : (s : State) (p : Piece) (ps : List Piece) (o : PieceOutcome) → piece_outcome s.control s.lines p ≡ o → ends o.reply ≡ true
    → run s (p ∷ ps) ≡ stopped (after_piece s o) (o.reply ∷ [])
run_last s p ps o e f = ap (λ x. run_piece s x (run (after_piece s x) ps)) e ∙ ap (λ b. run_unless b s o (run (after_piece s o) ps)) f

-- the first piece of what is left
abbrev pub piece_at : ℕ → ℕ → Job → Piece
piece_at pci n job = record { pci = pci; count = n; job = job_front n job }

-- what a cut comes to, turn by turn: nothing of no longwords, else the first piece and the cut of the rest
pub cut_by : (P : List Piece → Type 0) (turns pci left : ℕ) (job : Job) → (left ≡ 0 → P [])
    → ((left ≡ 0 → ⊥) → P (piece_at pci (in_line pci left) job ∷ cut turns (pci + 4 * in_line pci left) (left - in_line pci left) (job_rest (in_line pci left) job)))
    → P (cut (suc turns) pci left job)
cut_by P turns pci left job none more = cond_both (eqb left 0) _ _ P (λ e. none (eqb-true left 0 e)) (λ e. more (eqb-false left 0 e))

cut_one : (turns pci left n pci' left' : ℕ) (job job' : Job) → 0 < left → left ≤ turns → n ≡ in_line pci left → pci' ≡ pci + 4 * n → left' ≡ left - n → job' ≡ job_rest n job
    → (u : ℕ) × (left' ≤ u) × (cut turns pci left job ≡ piece_at pci n job ∷ cut u pci' left' job')
cut_one zero pci left n pci' left' job job' h k e p q r = absurd (omega arith)
cut_one (suc u) pci left n pci' left' job job' h k e p q r = (
  u,
  omega arith,
  rw (p, q, r, e) (cut_by (λ ps. ps ≡ piece_at pci (in_line pci left) job ∷ cut u (pci + 4 * in_line pci left) (left - in_line pci left) (job_rest (in_line pci left) job)) u pci left job (λ z. absurd (omega arith)) (λ ne. refl)),
)

cut_none : (turns pci left : ℕ) (job : Job) → left ≡ 0 → cut turns pci left job ≡ []
cut_none zero pci left job e = refl
cut_none (suc u) pci left job e = rw e refl

rest_of_rest : (n done : ℕ) (job : Job) → job_rest (done + n) job ≡ job_rest n (job_rest done job)
rest_of_rest n done reading = refl
rest_of_rest n done (writing words enables) = λ i. writing (sym (drop-drop n done words) i) (sym (drop-drop n done enables) i)

rest_of_all : (job : Job) → job_rest 0 job ≡ job
rest_of_all reading = refl
rest_of_all (writing words enables) = refl

-- a piece that a window claims
claimed : (s : State) (p : Piece) (number : ℕ) (mapped : Bool) → claim s.control.registers p.pci ≡ Some (number, mapped) → piece_outcome s.control s.lines p ≡ outcome_claimed s p number mapped
claimed s p number mapped e = ap (λ c. outcome_located s.control.log s.lines p (located_by_claim s.control.registers s.control.look_aside s.lines p.pci c)) e

-- and one that none does
abbrev unheld : State → PieceOutcome
unheld s = outcome_located s.control.log s.lines (piece_at 0 0 reading) (located_by_claim s.control.registers s.control.look_aside s.lines 0 None)

not_claimed : (s : State) (p : Piece) → claim s.control.registers p.pci ≡ None → piece_outcome s.control s.lines p ≡ unheld s
not_claimed s p e = ap (λ c. outcome_located s.control.log s.lines p (located_by_claim s.control.registers s.control.look_aside s.lines p.pci c)) e

abbrev pub GoesOn : PieceReply → Type 0
GoesOn r = ends r ≡ false

-- nothing was served yet, or a window holds the first longword
abbrev Begun : State → ℕ → State → ℕ → Type 0
Begun s₀ pci s done = ((done ≡ 0) × (s ≡ s₀)) ⊎ ((0 < done) × (is_unclaimed (claim s₀.control.registers pci) ≡ false))

-- so many longwords of a burst are served, with these replies, and none of them ended it
pub record Progress (s₀ : State) (pci count : ℕ) (job : Job) (s : State) (done : ℕ) (replies : List PieceReply) : Type 0 where
  pub within : done ≤ count
  pub turns : ℕ
  pub enough : count - done ≤ turns
  pub served : run s₀ (cut count pci count job) ≡ resumed replies (run s (cut turns (pci + 4 * done) (count - done) (job_rest done job)))
  pub registers : s.control.registers ≡ s₀.control.registers
  pub go_on : AllByRecursion GoesOn replies
  pub begun : Begun s₀ pci s done

pub start : (s : State) (pci count : ℕ) (job : Job) → Progress s pci count job s 0 []
start s pci count job =
    let p : pci + 4 * 0 ≡ pci = omega arith in
    let l : count - 0 ≡ count = omega arith in
    record {
      within = omega arith;
      turns = count;
      enough = omega arith;
      served = rw (p, l, rest_of_all job) refl;
      registers = refl;
      go_on = tt;
      begun = inl (refl, refl);
    }

module _ (s₀ : State) (pci count : ℕ) (job : Job) (s : State) (done : ℕ) (replies : List PieceReply) (i : Progress s₀ pci count job s done replies) where
  -- the first longword is held where this one is
  pub first_held : (number : ℕ) (mapped : Bool) → claim s.control.registers (pci + 4 * done) ≡ Some (number, mapped) → is_unclaimed (claim s₀.control.registers pci) ≡ false
  first_held number mapped e =
      ⊎_elim
      (λ b. let p : pci + 4 * done ≡ pci = omega (arith, b.0) in
      ap is_unclaimed (ap (λ r. claim r pci) (sym i.registers) ∙ ap (claim s.control.registers) (sym p) ∙ e))
      (λ b. b.1) i.begun

  module _ (n : ℕ) (some : done < count) (near : n ≡ in_line (pci + 4 * done) (count - done)) where
    left : (u : ℕ) × (count - (done + n) ≤ u) × (cut i.turns (pci + 4 * done) (count - done) (job_rest done job) ≡ piece_at (pci + 4 * done) n (job_rest done job) ∷ cut u (pci + 4 * (done + n)) (count - (done + n)) (job_rest (done + n) job))
    left = cut_one i.turns (pci + 4 * done) (count - done) n (pci + 4 * (done + n)) (count - (done + n)) (job_rest done job) (job_rest (done + n) job) (omega arith) i.enough near (omega arith) (omega arith) (rest_of_rest n done job)

    -- one piece more, which goes on
    pub step : (number : ℕ) (mapped : Bool) → claim s.control.registers (pci + 4 * done) ≡ Some (number, mapped) → (o : PieceOutcome) → o ≡ outcome_claimed s (piece_at (pci + 4 * done) n (job_rest done job)) number mapped
        → GoesOn o.reply → (t : State) → t ≡ after_piece s o → Progress s₀ pci count job t (done + n) (replies ++ o.reply ∷ [])
    step number mapped c o e f t g =
        let p = piece_at (pci + 4 * done) n (job_rest done job) in
        record {
          within = omega (arith, near);
          turns = left.0;
          enough = left.1;
          served =
              i.served ∙ ap (λ ps. resumed replies (run s ps)) left.2
              ∙ ap (resumed replies) (run_on s p _ o (claimed s p number mapped c ∙ sym e) f)
              ∙ resumed_twice replies (o.reply ∷ []) _
              ∙ ap (λ x. resumed (replies ++ o.reply ∷ []) (run x (cut left.0 (pci + 4 * (done + n)) (count - (done + n)) (job_rest (done + n) job)))) (sym g);
          registers = ap (λ x. x.control.registers) g ∙ i.registers;
          go_on = All-push GoesOn replies o.reply i.go_on f;
          begun = inr (omega (arith, near), first_held number mapped c);
        }

    -- a piece that ends the burst
    pub stop : (number : ℕ) (mapped : Bool) → claim s.control.registers (pci + 4 * done) ≡ Some (number, mapped) → (o : PieceOutcome) → o ≡ outcome_claimed s (piece_at (pci + 4 * done) n (job_rest done job)) number mapped
        → ends o.reply ≡ true → run s₀ (cut count pci count job) ≡ stopped (after_piece s o) (replies ++ o.reply ∷ [])
    stop number mapped c o e f =
        let p = piece_at (pci + 4 * done) n (job_rest done job) in
        i.served ∙ ap (λ ps. resumed replies (run s ps)) left.2 ∙ ap (resumed replies) (run_last s p _ o (claimed s p number mapped c ∙ sym e) f)

  -- no window holds the next longword
  pub stop_unheld : done < count → claim s.control.registers (pci + 4 * done) ≡ None → run s₀ (cut count pci count job) ≡ stopped s (replies ++ no_window ∷ [])
  stop_unheld some c =
      let n = in_line (pci + 4 * done) (count - done) in
      let p = piece_at (pci + 4 * done) n (job_rest done job) in
      i.served ∙ ap (λ ps. resumed replies (run s ps)) (left n some refl).2 ∙ ap (resumed replies) (run_last s p _ (unheld s) (not_claimed s p c) refl)

  -- the last piece is served
  pub finish : count ≤ done → run s₀ (cut count pci count job) ≡ stopped s replies
  finish h =
      i.served ∙ ap (λ ps. resumed replies (run s ps)) (cut_none i.turns (pci + 4 * done) (count - done) (job_rest done job) (omega arith))
      ∙ ap (stopped s) (append-nil replies)

-- what a burst comes to once its first longword is held, or not
pub held_outcome : (s : State) (b : Burst) (pci : ℕ) (r : Run) → is_unclaimed (claim s.control.registers pci) ≡ false → run s (pieces b) ≡ r → burst_outcome s b (third_check s.control.registers pci) ≡ burst_served b r
held_outcome s b pci r h e = ap (burst_outcome s b) (cond-false _ _ _ h) ∙ ap (burst_served b) e

pub unheld_outcome : (s : State) (b : Burst) (pci : ℕ) → claim s.control.registers pci ≡ None → burst_outcome s b (third_check s.control.registers pci) ≡ burst_outcome s b (Some 3)
unheld_outcome s b pci e = ap (λ c. burst_outcome s b (cond (is_unclaimed c) (Some 3) None)) e
