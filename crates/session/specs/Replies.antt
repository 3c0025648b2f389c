-- The text of a reply.
use Rattle.std.specs.Prelude.{ℕ, ◌+◌, ◌^◌, ◌<◌, cond, List, [], ◌∷◌, ◌++◌, map, vec_items, codes, ◌==◌, ◌≢◌, nat_lt, slice_index}
use Prim.Native.String.{String}
use Rattle.std.specs.Int.Digits.{digits_of}
use Rattle.memory.specs.Answers.{Answer, Cause, bare, refusal, success}
use Rattle.memory.specs.Marked.{mark_cause}
use Rattle.bridge.specs.declared.bursts.BurstRefusal.{BurstRefusal}
use Rattle.bridge.specs.declared.bursts.BurstRefusal.TheVariants.{Alignment, Bounds, Ended, Unclaimed}
use Rattle.bridge.specs.declared.log.Direction.{Direction}
use Rattle.bridge.specs.declared.log.Direction.TheVariants as D
use Rattle.bridge.specs.BurstAnswers.{burst_cause, read_end_cause, write_end_cause}
use Rattle.bridge.specs.Log.{reading_values}
use Rattle.bridge.specs.Processor.{access_cause, cycle_values, decode_cause}
use Rattle.bridge.specs.Registers.{register_cause}
use Rattle.bridge.specs.Runs.{count_values}
use Rattle.bridge.specs.Words.{direction_text, space_text}
use Rattle.session.specs.declared.replies.FormRefusal.{FormRefusal}
use Rattle.session.specs.declared.replies.FormRefusal.TheVariants as F
use Rattle.session.specs.declared.replies.Reply.{Reply}
use Rattle.session.specs.declared.replies.Reply.TheVariants.{Done, Value, Decoded, Log, Longwords, Counts, Refused}
use Rattle.session.specs.Hex.{Reads}

-- a digit below 16, in lower case
abbrev pub digit : ℕ → ℕ
digit d = cond (nat_lt d 10) (48 + d) (87 + d)

-- the digits of a number, the highest first; `digits_of 16 n` has none for 0
unfoldable pub hex : ℕ → List ℕ
hex n = cond (n == 0) (48 ∷ []) (map digit (digits_of 16 n))

-- the parts, each behind one space, and the closing parenthesis
abbrev pub parts_text : List (List ℕ) → List ℕ
parts_text [] = 41 ∷ []
parts_text (part ∷ parts) = 32 ∷ (part ++ parts_text parts)

-- a word and further parts in parentheses
abbrev pub parenthesized : String → List (List ℕ) → List ℕ
parenthesized word parts = 40 ∷ (codes word ++ parts_text parts)

-- a number with its label, as (pci 40002000)
abbrev pub labelled : String → ℕ → List ℕ
labelled label n = parenthesized label (hex n ∷ [])

-- success with numbers, as (ok 55667788 11223344)
abbrev pub ok_text : List ℕ → List ℕ
ok_text numbers = parenthesized "ok" (map hex numbers)

-- parts, each behind a space
abbrev pub spaced : List (List ℕ) → List ℕ
spaced [] = []
spaced (part ∷ parts) = 32 ∷ (part ++ spaced parts)

-- numbers, each behind a space
abbrev pub spaced_numbers : List ℕ → List ℕ
spaced_numbers numbers = spaced (map hex numbers)

-- the words that say what the values of a refusal are
abbrev pub Labels : Type 0
Labels = List String

-- values, each with its label; without a label none is printed
abbrev pub labelled_values : Labels → List ℕ → List (List ℕ)
labelled_values [] values = []
labelled_values (label ∷ labels) [] = []
labelled_values (label ∷ labels) (n ∷ values) = labelled label n ∷ labelled_values labels values

-- a refusal: its number, and what it returns under these labels
abbrev pub refusal_text : Labels → ℕ → List ℕ → List ℕ
refusal_text labels number values = parenthesized "no" (hex number ∷ labelled_values labels values)

abbrev pub cause_text : Labels → Cause → List ℕ
cause_text labels cause = refusal_text labels cause.number cause.values

-- the labels of what the refusals of a card read return, and those of a card write
abbrev pub read_labels : Labels
read_labels = "moved" ∷ "pci" ∷ "line" ∷ []

abbrev pub write_labels : Labels
write_labels = "taken" ∷ "stored" ∷ "dismissed" ∷ []

-- what a refusal returns, each value behind a space and with its label
abbrev pub returned_text : Labels → Cause → List ℕ
returned_text labels cause = spaced (labelled_values labels cause.values)

-- the refusal of a burst returns what ended it; a check that fails returns nothing but its number
abbrev pub burst_labels : {E : Type 0} → (E → Labels) → BurstRefusal E → Labels
burst_labels end Bounds = []
burst_labels end Alignment = []
burst_labels end Unclaimed = []
burst_labels end (Ended e) = end e

-- the refusals of a form: a line that spells none has number 18, any other its own
abbrev pub form_cause : FormRefusal → Cause
form_cause F.Malformed = bare 18
form_cause (F.Access e) = access_cause e
form_cause (F.Mark e) = mark_cause e
form_cause (F.Register e) = register_cause e
form_cause (F.Decode e) = decode_cause e
form_cause (F.Read e) = burst_cause read_end_cause e
form_cause (F.Write e) = burst_cause write_end_cause e

-- only those of a card's burst return anything
abbrev pub form_labels : FormRefusal → Labels
form_labels F.Malformed = []
form_labels (F.Access e) = []
form_labels (F.Mark e) = []
form_labels (F.Register e) = []
form_labels (F.Decode e) = []
form_labels (F.Read e) = burst_labels (λ _. read_labels) e
form_labels (F.Write e) = burst_labels (λ _. write_labels) e

-- a log: number, direction, PCI address, line and 1 where others were missed, or no values where it is empty
abbrev pub direction_numbered : ℕ → Direction
direction_numbered n = cond (n == 0) D.Read D.Write

abbrev pub log_text : List ℕ → List ℕ
log_text [] = parenthesized "log" []
log_text (number ∷ values) = parenthesized "log" (hex number ∷ direction_text (direction_numbered (slice_index values 0)) ∷ labelled "pci" (slice_index values 1) ∷ labelled "line" (slice_index values 2) ∷ labelled "missed" (slice_index values 3) ∷ [])

-- how a reply is printed
abbrev pub reply_text : Reply → List ℕ
reply_text Done = codes "(ok)"
reply_text (Value n) = codes "(ok " ++ (hex n ++ codes ")")
reply_text (Decoded c) = parenthesized "ok" (space_text c.space ∷ hex c.pci ∷ hex c.lanes ∷ [])
reply_text (Log reading) = log_text (reading_values reading)
reply_text (Longwords words) = ok_text (vec_items words)
reply_text (Counts c) = ok_text (count_values c)
reply_text (Refused e) = cause_text (form_labels e) (form_cause e)

-- what a reply answers: success with its values, or a refusal with its number and values; the longwords of a card read are
-- in its buffer, and no values of its answer
abbrev pub reply_answer : Reply → Answer
reply_answer Done = success []
reply_answer (Value n) = success (n ∷ [])
reply_answer (Decoded c) = success (cycle_values c)
reply_answer (Log reading) = success (reading_values reading)
reply_answer (Longwords words) = success []
reply_answer (Counts c) = success (count_values c)
reply_answer (Refused e) = refusal (form_cause e).number (form_cause e).values

-- a number that is printed reads as itself
abbrev pub ReadsBack : Type 0
ReadsBack = (n : ℕ) → n < 2 ^ 64 → Reads 64 (hex n) n

-- and only 0 begins with the digit 0
abbrev pub NoLeadingZero : Type 0
NoLeadingZero = (n : ℕ) → 0 < n → slice_index (hex n) 0 ≢ 48
