-- Byte enables over 255 are taken as 255: a burst with an enable over 15 is refused, whichever it is.
use Rattle.std.proofs.Common.{◌≡◌, ℕ, suc, ◌≤◌, min, Bool, true, false, cond, ◌||◌, ltb, List, [], ◌∷◌, map, length, take, Some, Err, Result, sym, refl, ap, ◌∙◌, arith, ltb-false}
use Rattle.std.proofs.lemmas.List.{length-map, take_all}
use Rattle.std.proofs.lemmas.Bool.{or_parts, or_right}
use Rattle.std.proofs.lemmas.Bool.Decides.{nat_tests}
use Rattle.memory.specs.Answers.{refusal}
use Rattle.bridge.specs.declared.bursts.BurstRefusal.{BurstRefusal}
use Rattle.bridge.specs.declared.bursts.BurstRefusal.TheVariants.{Alignment, Bounds, Ended, Unclaimed}
use Rattle.bridge.specs.declared.bursts.WriteCounts.{WriteCounts}
use Rattle.bridge.specs.declared.bursts.WriteEnd.{WriteEnd}
use Rattle.bridge.specs.BurstAnswers.{write_answered}
use Rattle.bridge.specs.Bursts.{card_write, misaligned, third_check, wide_enable, wrong_count}
use Rattle.bridge.specs.Calls.{Outcome, burst_outcome, card, performed}
use Rattle.bridge.specs.State.{State}
use Rattle.session.specs.declared.forms.Pair.{Pair}
use Rattle.session.specs.Forms.{pair_of}
use Rattle.session.specs.declared.forms.Name.TheVariants as N
use Rattle.session.specs.declared.replies.FormRefusal.TheVariants as F
use Rattle.session.specs.declared.replies.Reply.{Reply}
use Rattle.session.specs.declared.replies.Reply.TheVariants.{Refused}
use Rattle.session.specs.declared.session.Session.{Session}
use Rattle.session.specs.Replies.{ok_text, reply_answer, reply_text, write_labels}
use Rattle.session.specs.Sessions.{Does, RefusedFor, answer_text, is_kind, served, session_state, write_burst, write_text}

-- a burst with an enable over 15 is refused with 1
wide_refused : (s : State) (pci count : ℕ) (words enables : List ℕ) → wide_enable (take count enables) ≡ true → performed s (card (card_write pci count words enables)) ≡ record { state = s; answer = refusal 1 []; buffer = [] }
wide_refused s pci count words enables wide =
    let b = card_write pci count words enables in
    ap (λ t. burst_outcome s b (cond t (Some 1) (cond (misaligned b) (Some 2) (third_check s.control.registers pci)))) (or_right (wrong_count pci count words) _ (or_right (ltb (length enables) count) _ wide))

abbrev narrowed : List Pair → List ℕ
narrowed pairs = map (λ (p : Pair). min p.enables 255) pairs

abbrev written : List Pair → List ℕ
written pairs = map (λ (p : Pair). p.enables) pairs

test_same : (e : ℕ) → ltb 15 (min e 255) ≡ ltb 15 e
test_same e = grind (arith, nat_tests)

wide_same : (pairs : List Pair) → wide_enable (narrowed pairs) ≡ wide_enable (written pairs)
wide_same [] = refl
wide_same (p ∷ pairs) = λ i. test_same p.enables i || wide_same pairs i

narrow_same : (pairs : List Pair) → wide_enable (written pairs) ≡ false → narrowed pairs ≡ written pairs
narrow_same [] none = refl
narrow_same (p ∷ pairs) none =
    let both = or_parts (ltb 15 p.enables) (wide_enable (written pairs)) none in
    let few : p.enables ≤ 15 = ltb-false 15 p.enables both.0 in
    let same : min p.enables 255 ≡ p.enables = omega arith in
    λ i. same i ∷ narrow_same pairs both.1 i

all_taken : (pairs : List Pair) (f : Pair → ℕ) → take (length pairs) (map f pairs) ≡ map f pairs
all_taken pairs f = take_all (length pairs) (map f pairs) (let l = length-map pairs f in omega arith)

performed_narrowed : (s : State) (pci : ℕ) (words : List ℕ) (pairs : List Pair) (wide : Bool) → wide_enable (written pairs) ≡ wide → performed s (card (card_write pci (length pairs) words (narrowed pairs))) ≡ performed s (card (card_write pci (length pairs) words (written pairs)))
performed_narrowed s pci words pairs true e =
    wide_refused s pci (length pairs) words (narrowed pairs) (ap wide_enable (all_taken pairs (λ p. min p.enables 255)) ∙ wide_same pairs ∙ e)
    ∙ sym (wide_refused s pci (length pairs) words (written pairs) (ap wide_enable (all_taken pairs (λ p. p.enables)) ∙ e))
performed_narrowed s pci words pairs false e = ap (λ l. performed s (card (card_write pci (length pairs) words l))) (narrow_same pairs e)

pairs_apart : (pci : ℕ) (pairs : List Pair) → card_write pci (length pairs) (map (λ (p : Pair). p.longword) pairs) (written pairs) ≡ write_burst pci (map pair_of pairs)
pairs_apart pci pairs = λ i. card_write pci (counts pairs i) (firsts pairs i) (seconds pairs i)
  where
    counts : (ps : List Pair) → length ps ≡ length (map pair_of ps)
    counts [] = refl
    counts (p ∷ ps) = ap suc (counts ps)

    firsts : (ps : List Pair) → map (λ (p : Pair). p.longword) ps ≡ map (λ (q : ℕ × ℕ). q.0) (map pair_of ps)
    firsts [] = refl
    firsts (p ∷ ps) = ap (λ l. p.longword ∷ l) (firsts ps)

    seconds : (ps : List Pair) → written ps ≡ map (λ (q : ℕ × ℕ). q.1) (map pair_of ps)
    seconds [] = refl
    seconds (p ∷ ps) = ap (λ l. p.enables ∷ l) (seconds ps)

-- what is performed with the longwords and enables as the code has them is the burst of the line
same_write : (s : State) (pci : ℕ) (pairs : List Pair) (words enables : List ℕ) → words ≡ map (λ (p : Pair). p.longword) pairs → enables ≡ map (λ (p : Pair). min p.enables 255) pairs → performed s (card (card_write pci (length pairs) words enables)) ≡ performed s (card (write_burst pci (map pair_of pairs)))
same_write s pci pairs words enables w e =
    (λ i. performed s (card (card_write pci (length pairs) (w i) (e i))))
    ∙ performed_narrowed s pci (map (λ (p : Pair). p.longword) pairs) pairs (wide_enable (written pairs)) refl
    ∙ ap (λ b. performed s (card b)) (pairs_apart pci pairs)

pub refused_text : (e : BurstRefusal WriteEnd) → reply_text (Refused (F.Write e)) ≡ answer_text ok_text write_labels (write_answered (Err e))
refused_text Bounds = refl
refused_text Alignment = refl
refused_text Unclaimed = refl
refused_text (Ended e) = refl

-- the code's answer and state are what a card-write does
pub write_does : (s t : Session) (pci : ℕ) (pairs : List Pair) (words enables : List ℕ) (r x : Result WriteCounts (BurstRefusal WriteEnd)) (reply : Reply) → words ≡ map (λ (p : Pair). p.longword) pairs → enables ≡ map (λ (p : Pair). min p.enables 255) pairs → write_answered r ≡ (served (session_state s) (card_write pci (length pairs) words enables)).answer → session_state t ≡ (served (session_state s) (card_write pci (length pairs) words enables)).state → r ≡ x → is_kind N.CardWrite reply ≡ true → reply_answer reply ≡ write_answered x → reply_text reply ≡ answer_text ok_text write_labels (write_answered x) → RefusedFor (N.CardWrite, (pci, map pair_of pairs)) reply → Does s (N.CardWrite, (pci, map pair_of pairs)) reply t
write_does s t pci pairs words enables r x reply w e a after is kind answer text refused =
    let same = same_write (session_state s) pci pairs words enables w e in
    let got = ap write_answered (sym is) ∙ a in
    record {
      kind = kind;
      answer = answer ∙ got ∙ ap (λ (o : Outcome). o.answer) same;
      text = text ∙ ap (answer_text ok_text write_labels) got ∙ ap write_text same;
      refused = refused;
      state = after ∙ ap (λ (o : Outcome). o.state) same;
    }
