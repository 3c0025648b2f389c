-- Lists of calls, in two runs at once.
use Rattle.std.proofs.Common.{◌≡◌, ℕ, zero, suc, ◌*◌, ◌/◌, ◌≤◌, Bool, true, false, cond, eqb, List, ◌∷◌, length, get_or, take, replicate, Some, None, sym, refl, ap, ◌∙◌, subst, ap₂, ⊎_elim, arith}
use Rattle.std.proofs.lemmas.Bool.{both_ways, cases_Bool, cond_both, cond-false, ne_eqb}
use Rattle.std.proofs.lemmas.Bool.Decides.{nat_tests}
use Rattle.std.proofs.lemmas.Option.{none-some}
use Rattle.std.specs.List.{AllByRecursion}
use Rattle.memory.specs.Content.{Bounded, Content, Lawful, Lines, absent, all_ones, good, overwritten, spoiled, written}
use Rattle.memory.specs.LinesAt.{merged_full}
use Rattle.bridge.specs.Calls.{Call, Request, card, control_after, is_burst, lines_after, performed, processor, store}
use Rattle.bridge.specs.Isolation.{AllAlike, Alike, CarriesALine, Hidden, Isolated, IsolatedRuns, Protected, ProtectedThroughout, SameBurst, hidden_stores, more_calls, no_calls, replaced, same_call, stored_by, stored_by_all}
use Rattle.bridge.specs.LookAside.{page_in}
use Rattle.bridge.specs.Pages.{Closed, Held, NamedByEntry, NamedByRow, PlainlyReached, line_page}
use Rattle.bridge.specs.Processor.{no_line}
use Rattle.bridge.specs.Registers.{window, zero_registers, zero_window}
use Rattle.bridge.specs.State.{State, new_state}
use Rattle.bridge.specs.Windows.{holds}
use Rattle.bridge.proofs.PieceSteps.{Twin, at_twin, protected_over, protected_within}
use Rattle.bridge.proofs.Reach.{page_of_line}
use Rattle.bridge.proofs.RowTables.{not_valid_at}
use Rattle.bridge.proofs.TwinBursts.{twin_bursts}

-- a store of 32 bytes under a full mask replaces a line that is there
overwritten_full : (bytes : List ℕ) (c : Content) → length bytes ≡ 32 → overwritten bytes all_ones c ≡ replaced bytes c
overwritten_full bytes absent h = refl
overwritten_full bytes spoiled h = refl
overwritten_full bytes (good old) h = ap good (sym (merged_full old bytes h))

-- the processor changes lines by stores alone; a refused one leaves its line, which is absent if it has the number at all
request_lines : (q : Request) (lines : Lines) → CarriesALine (processor q) → Bounded lines → (line : ℕ) → lines_after q lines line ≡ stored_by line (processor q) (lines line)
request_lines (store a bytes) lines sized bound line =
    cond_both (no_line a) _ _ (λ (after : Lines). after line ≡ stored_by line (processor (store a bytes)) (lines line))
    (λ bad. cond_both (eqb a (32 * line)) _ _ (λ c. lines line ≡ c)
    (λ e. let far : 0xC000000 ≤ line = grind (arith, nat_tests) in let gone = bound line far in gone ∙ ap (replaced bytes) (sym gone)) (λ _. refl))
    (λ fine. let hit : eqb line (a / 32) ≡ eqb a (32 * line) = grind (arith, nat_tests) in ap₂ (λ b c. cond b c (lines line)) hit (overwritten_full bytes (lines line) sized))
request_lines q lines sized bound line = refl

-- what the processor makes of a line depends on that line alone
request_same : (q : Request) (a b : Lines) (line : ℕ) → b line ≡ a line → lines_after q b line ≡ lines_after q a line
request_same (store x bytes) a b line h = go (no_line x)
  where
    go : (bad : Bool) → cond bad b (written (x / 32) bytes all_ones b) line ≡ cond bad a (written (x / 32) bytes all_ones a) line
    go true = h
    go false = ap (λ c. cond (eqb line (x / 32)) (overwritten bytes all_ones c) c) h
request_same q a b line h = h

request_lacks : (q : Request) (lines : Lines) (line : ℕ) → lines line ≡ absent → lines_after q lines line ≡ absent
request_lacks (store a bytes) lines line h =
    cond_both (no_line a) _ _ (λ (after : Lines). after line ≡ absent) (λ _. h) (λ _. cond_both (eqb line (a / 32)) _ _ (λ c. c ≡ absent) (λ _. ap (overwritten bytes all_ones) h) (λ _. h))
request_lacks q lines line h = h

-- one call in one run
record Alone (hidden : Hidden) (s : State) (c : Call) : Type 0 where
  lines : (line : ℕ) → hidden (line_page line) ≡ true → (performed s c).state.lines line ≡ stored_by line c (s.lines line)
  bound : Bounded (performed s c).state.lines
  opens : is_burst c ≡ true → (page : ℕ) → Closed s page → Closed (performed s c).state page
  kept : is_burst c ≡ true → Protected hidden (performed s c).state

-- one call in two runs
record Together (hidden : Hidden) (s t : State) (c d : Call) : Type 0 where
  twin : Twin hidden (performed s c).state (performed t d).state
  same : is_burst c ≡ true → SameBurst (performed s c) (performed t d)

module _ {hidden : Hidden} (s : State) (k : Protected hidden s) where
  alone : Bounded s.lines → (c : Call) → CarriesALine c → Alone hidden s c
  alone bound (processor q) z = record {
    lines = λ line h. request_lines q s.lines z bound line;
    bound = λ line far. request_lacks q s.lines line (bound line far);
    opens = λ b. absurd (both_ways _ refl b);
    kept = λ b. absurd (both_ways _ refl b);
  }
  alone bound (card b) z =
      let w = (twin_bursts b s s k (record { control = refl; agree = λ line _. refl })).within in
      record { lines = λ line h. w.lines line (k.hidden_closed _ h); bound = λ line far. w.lacks line (bound line far); opens = λ _ page c o. c (w.opens page o); kept = λ _. protected_within k w }

  together : (t : State) → Twin hidden s t → {c d : Call} → Alike hidden c d → Together hidden s t c d
  together t twin (same_call (processor q)) = record {
    twin = record { control = ap (control_after q) twin.control; agree = λ line h. request_same q s.lines t.lines line (twin.agree line h) };
    same = λ b. absurd (both_ways _ refl b);
  }
  together t twin (same_call (card b)) = let a = twin_bursts b s t k twin in record { twin = a.twin; same = λ _. a.same }
  together t twin (hidden_stores address left right h) = record {
    twin = record { control = twin.control; agree = λ x shown. elsewhere x shown t.lines right ∙ twin.agree x shown ∙ sym (elsewhere x shown s.lines left) };
    same = λ b. absurd (both_ways _ refl b);
  }
    where
      elsewhere : (x : ℕ) → hidden (line_page x) ≡ false → (lines : Lines) (bytes : List ℕ) → lines_after (store address bytes) lines x ≡ lines x
      elsewhere x shown lines bytes =
          cond_both (no_line address) _ _ (λ (after : Lines). after x ≡ lines x) (λ _. refl)
          (λ _. cond-false _ _ _ (ne_eqb x (address / 32) (λ e. both_ways _ shown (ap (λ y. hidden (line_page y)) e ∙ ap hidden (page_of_line address) ∙ h))))

first_call : {hidden : Hidden} {c d : Call} {cs ds : List Call} (s t : State) → s.control ≡ t.control → Alone hidden s c → Alone hidden t d → Together hidden s t c d
    → Isolated hidden (performed s c).state (performed t d).state cs ds → Isolated hidden s t (c ∷ cs) (d ∷ ds)
first_call {cs = cs} {ds = ds} s t control left right both later = record {
  same_bursts = elim [ zero ↦ λ _ b. both.same b | suc n ↦ λ h b. later.same_bursts n (omega arith) b ];
  same_control = elim [ zero ↦ λ _. control | suc n ↦ λ h. later.same_control n (omega arith) ];
  left_only_stores = elim [ zero ↦ λ _ line h. refl | suc n ↦ λ h line hid. later.left_only_stores n (omega arith) line hid ∙ ap (stored_by_all line (take n cs)) (left.lines line hid) ];
  right_only_stores = elim [ zero ↦ λ _ line h. refl | suc n ↦ λ h line hid. later.right_only_stores n (omega arith) line hid ∙ ap (stored_by_all line (take n ds)) (right.lines line hid) ];
  left_opens_none = elim [ zero ↦ λ _ b. left.opens b | suc n ↦ λ h b. later.left_opens_none n (omega arith) b ];
  right_opens_none = elim [ zero ↦ λ _ b. right.opens b | suc n ↦ λ h b. later.right_opens_none n (omega arith) b ];
}

isolated : {hidden : Hidden} {cs ds : List Call} → AllAlike hidden cs ds → (s t : State) → Protected hidden s → Twin hidden s t → Bounded s.lines → Bounded t.lines
    → AllByRecursion CarriesALine cs → AllByRecursion CarriesALine ds → ProtectedThroughout hidden s cs → Isolated hidden s t cs ds
isolated no_calls s t k twin bs bt zs zt premise = record {
  same_bursts = λ n h. absurd (omega arith);
  same_control = elim [ zero ↦ λ _. twin.control | suc n ↦ λ _. twin.control ];
  left_only_stores = elim [ zero ↦ λ _ line h. refl | suc n ↦ λ _ line h. refl ];
  right_only_stores = elim [ zero ↦ λ _ line h. refl | suc n ↦ λ _ line h. refl ];
  left_opens_none = λ n h. absurd (omega arith);
  right_opens_none = λ n h. absurd (omega arith);
}
isolated {hidden} (more_calls {c} {d} alike rest) s t k twin bs bt zs zt premise =
    let left = alone s k bs c zs.0 in
    let kt = at_twin (Protected hidden) twin (protected_over s k t.lines twin.agree) in
    let right = alone t kt bt d zt.0 in
    let both = together s k t twin alike in
    let kept = ⊎_elim left.kept (premise 0 (omega arith)) (cases_Bool (is_burst c)) in
    first_call s t twin.control left right both
    (isolated rest (performed s c).state (performed t d).state kept both.twin left.bound right.bound zs.1 zt.1 (λ n h b. premise (suc n) (omega arith) b))

-- a new bridge has no window and no valid row
none_held : (m : Lines) (number pci : ℕ) → Held (new_state m).control.registers number pci → ⊥
none_held m number pci h =
    let same : window zero_registers number ≡ zero_window = cond_both (eqb number 1) _ _ (λ w. w ≡ zero_window) (λ _. refl) (λ _. refl) in
    both_ways (holds zero_window pci) refl (ap (λ w. holds w pci) (sym same) ∙ h.held)

pub none_valid : (n index page : ℕ) → page_in (get_or (replicate n None) index None) ≡ Some page → ⊥
none_valid n index page h = none-some page (sym (ap page_in (not_valid_at n index)) ∙ h)

none_open : (m : Lines) (page : ℕ) → Closed (new_state m) page
none_open m page o =
    ⊎_elim (λ (p : PlainlyReached _ _). none_held m _ _ p.held) (λ r. ⊎_elim (λ (n : NamedByEntry _ _ _). none_held m _ _ n.in_use.held) (λ (c : NamedByRow _ _). none_valid 8 c.index page c.named) r) o

pub isolation : (m w : Lines) → Lawful m → Lawful w → IsolatedRuns (new_state m) (new_state w)
isolation m w lm lw hidden cs ds outside alike zs zt premise =
    isolated alike (new_state m) (new_state w)
    (record { no_table_hidden = λ address u. absurd (none_held m _ _ u.held); hidden_closed = λ page h. none_open m page; tables_closed = λ address u. none_open m _ })
    (record { control = refl; agree = λ line h. sym (outside line h) }) lm.beyond lw.beyond zs zt premise

-- so of every two states that are those of new bridges
pub isolated_new : {s t : State} {m w : Lines} → s ≡ new_state m → t ≡ new_state w → Lawful m → Lawful w → IsolatedRuns s t
isolated_new {s} {t} {m} {w} e f lm lw =
    let P : State → Type 0 = λ x. IsolatedRuns x t in
    let Q : State → Type 0 = λ x. IsolatedRuns (new_state m) x in
    subst P (sym e) (subst Q (sym f) (isolation m w lm lw))
