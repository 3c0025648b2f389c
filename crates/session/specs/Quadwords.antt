-- cpu-load and cpu-store carry a quadword: eight bytes, low end first, at a multiple of 8, else 11.
use Rattle.std.specs.Prelude.{ℕ, ◌*◌, ◌/◌, ◌%◌, cond, List, [], ◌∷◌, ◌==◌}
use borrow.Rule.Slice.PartMut.{put_mid}
use Rattle.memory.specs.Answers.{Answer, success, refusal}
use Rattle.memory.specs.Bytes.{low_bytes}
use Rattle.bridge.specs.Longwords.{quadword_at}
use Rattle.bridge.specs.State.{State}
use Rattle.bridge.specs.Calls.{Outcome, load, performed, processor, store}

-- the line with another quadword there
abbrev pub with_quadword : ℕ → ℕ → List ℕ → List ℕ
with_quadword offset value line = put_mid offset 8 line (low_bytes 8 value)

-- the address of the line that an address lies in
abbrev pub line_start : ℕ → ℕ
line_start address = address / 32 * 32

-- the load of the line of an address
abbrev pub line_load : State → ℕ → Answer
line_load s address = (performed s (processor (load (line_start address)))).answer

abbrev pub quadword_from : ℕ → Answer → Answer
quadword_from offset (success line) = success (quadword_at line offset ∷ [])
quadword_from offset (refusal number values) = refusal number values

-- cpu-load: the line is loaded and the quadword taken out, refused as the load is
abbrev pub cpu_load : State → ℕ → Answer
cpu_load s address = cond (address % 8 == 0) (quadword_from (address % 32) (line_load s address)) (refusal 11 [])

-- an answer and the state afterwards, where no buffer is lent
abbrev pub outcome_of : Answer → State → Outcome
outcome_of answer state = record { answer = answer; buffer = []; state = state }

-- a call that is turned down changes nothing
abbrev pub turned_down : State → ℕ → List ℕ → Outcome
turned_down s number values = record { answer = refusal number values; buffer = []; state = s }

abbrev pub store_back : State → ℕ → ℕ → Answer → Outcome
store_back s address value (success line) = performed s (processor (store (line_start address) (with_quadword (address % 32) value line)))
store_back s address value (refusal number values) = turned_down s number values

-- cpu-store: the line is loaded, the eight bytes put in, and the line stored, refused as these are
abbrev pub cpu_store : State → ℕ → ℕ → Outcome
cpu_store s address value = cond (address % 8 == 0) (store_back s address value (line_load s address)) (turned_down s 11 [])
