-- The code's calls and answers, by the definitions of the device.
use Rattle.std.specs.Prelude.{◌≡◌, ℕ, ◌/◌, List, [], ◌∷◌, vec_items, IfErr, Option, Result}
use Rattle.memory.specs.Answers.{Answer, answered, no_values, success}
use Rattle.bridge.specs.declared.bursts.BurstRefusal.{BurstRefusal}
use Rattle.bridge.specs.declared.bursts.ReadEnd.{ReadEnd}
use Rattle.bridge.specs.declared.bursts.WriteCounts.{WriteCounts}
use Rattle.bridge.specs.declared.bursts.WriteEnd.{WriteEnd}
use Rattle.bridge.specs.declared.decode.Cycle.{Cycle}
use Rattle.bridge.specs.declared.decode.DecodeRefusal.{DecodeRefusal}
use Rattle.bridge.specs.declared.log.LogReading.{LogReading}
use Rattle.bridge.specs.declared.processor.AccessRefusal.{AccessRefusal}
use Rattle.bridge.specs.declared.registers.RegisterRefusal.{RegisterRefusal}
use Rattle.bridge.specs.declared.registers.RegisterRefusal.TheVariants.{NotListed}
use Rattle.bridge.specs.declared.calls.Call as Code
use Rattle.bridge.specs.declared.calls.Call.TheVariants.{Card, Processor}
use Rattle.bridge.specs.declared.calls.Request as CodeRequest
use Rattle.bridge.specs.declared.calls.Request.TheVariants as Q
use Rattle.bridge.specs.declared.calls.Burst as CodeBurst
use Rattle.bridge.specs.declared.calls.Burst.TheVariants.{CardRead, CardWrite}
use Rattle.bridge.specs.declared.calls.CallAnswer.{CallAnswer}
use Rattle.bridge.specs.declared.calls.CallAnswer.TheVariants as A
use Rattle.bridge.specs.BurstAnswers.{read_answered, write_answered}
use Rattle.bridge.specs.Bursts.{Burst, card_read, card_write}
use Rattle.bridge.specs.Calls.{Call, Request, card, decode, load, log_clear, log_read, processor, register_read, register_write, store}
use Rattle.bridge.specs.Log.{reading_values}
use Rattle.bridge.specs.Processor.{OfLine, access_cause, cycle_values, decode_cause}
use Rattle.bridge.specs.Registers.{register_cause, register_named, write_refusal}

abbrev pub request_of : CodeRequest.Request → Request
request_of (Q.RegisterRead n) = register_read n
request_of (Q.RegisterWrite n value) = register_write n value
request_of (Q.Load address) = load address
request_of (Q.Store address bytes) = store address bytes
request_of (Q.Decode cpu) = decode cpu
request_of Q.LogRead = log_read
request_of Q.LogClear = log_clear

abbrev pub burst_of : CodeBurst.Burst → Burst
burst_of (CardRead pci count buffer) = card_read pci count (vec_items buffer)
burst_of (CardWrite pci count words enables) = card_write pci count (vec_items words) (vec_items enables)

abbrev pub call_of : Code.Call → Call
call_of (Processor request) = processor (request_of request)
call_of (Card burst) = card (burst_of burst)

-- a call with another buffer: only a card read has one
abbrev pub burst_with_buffer : List ℕ → Burst → Burst
burst_with_buffer buffer (card_read pci count old) = card_read pci count buffer
burst_with_buffer buffer (card_write pci count words enables) = card_write pci count words enables

abbrev pub with_buffer : List ℕ → Call → Call
with_buffer buffer (processor q) = processor q
with_buffer buffer (card b) = card (burst_with_buffer buffer b)

abbrev pub answer_of : CallAnswer → Answer
answer_of (A.RegisterRead r) = answered (λ value. value ∷ []) register_cause r
answer_of (A.RegisterWrite r) = answered no_values register_cause r
answer_of (A.Load r) = answered (λ bytes. bytes) access_cause r
answer_of (A.Store r) = answered no_values access_cause r
answer_of (A.Decode r) = answered cycle_values decode_cause r
answer_of (A.LogRead r) = success (reading_values r)
answer_of A.LogClear = success []
answer_of (A.CardRead r) = read_answered r
answer_of (A.CardWrite r) = write_answered r

-- the kind of an answer is that of its call; where a number does not tell which refusal it is, it is the one that the call has
abbrev pub AnswersRequest : CodeRequest.Request → CallAnswer → Type 0
AnswersRequest (Q.RegisterRead n) a = (r : Result ℕ RegisterRefusal) × (a ≡ A.RegisterRead r) × IfErr r (λ e. e ≡ NotListed)
AnswersRequest (Q.RegisterWrite n value) a = (r : Result Unit RegisterRefusal) × (a ≡ A.RegisterWrite r) × IfErr r (λ e. e ≡ write_refusal (register_named n))
AnswersRequest (Q.Load address) a = (r : Result (List ℕ) AccessRefusal) × (a ≡ A.Load r) × IfErr r (OfLine (address / 32))
AnswersRequest (Q.Store address bytes) a = (r : Result Unit AccessRefusal) × (a ≡ A.Store r) × IfErr r (OfLine (address / 32))
AnswersRequest (Q.Decode cpu) a = (r : Result Cycle DecodeRefusal) × (a ≡ A.Decode r)
AnswersRequest Q.LogRead a = (r : Option LogReading) × (a ≡ A.LogRead r)
AnswersRequest Q.LogClear a = a ≡ A.LogClear

abbrev pub AnswersBurst : CodeBurst.Burst → CallAnswer → Type 0
AnswersBurst (CardRead pci count buffer) a = (r : Result Unit (BurstRefusal ReadEnd)) × (a ≡ A.CardRead r)
AnswersBurst (CardWrite pci count words enables) a = (r : Result WriteCounts (BurstRefusal WriteEnd)) × (a ≡ A.CardWrite r)

abbrev pub Answers : Code.Call → CallAnswer → Type 0
Answers (Processor request) a = AnswersRequest request a
Answers (Card burst) a = AnswersBurst burst a
