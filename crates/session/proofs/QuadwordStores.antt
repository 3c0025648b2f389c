-- A quadword stored by way of its line: the load leaves the state, so the store finds it as it was.
use Rattle.std.proofs.Common.{◌≡◌, ℕ, ◌%◌, cond, List, [], sym, ap, ◌∙◌, eq-eqb}
use Rattle.memory.specs.Answers.{success}
use Rattle.bridge.specs.Calls.{performed, processor, store}
use Rattle.bridge.specs.State.{State}
use Rattle.session.specs.Quadwords.{cpu_store, line_load, line_start, store_back, turned_down, with_quadword}

pub line_stored : (s t : State) (address value : ℕ) (line : List ℕ) → address % 8 ≡ 0 → success line ≡ line_load s address → t ≡ s → performed t (processor (store (line_start address) (with_quadword (address % 32) value line))) ≡ cpu_store s address value
line_stored s t address value line aligned loaded same =
    ap (λ x. performed x (processor (store (line_start address) (with_quadword (address % 32) value line)))) same
    ∙ ap (store_back s address value) loaded
    ∙ sym (ap (λ b. cond b (store_back s address value (line_load s address)) (turned_down s 11 [])) (eq-eqb (address % 8) 0 aligned))
