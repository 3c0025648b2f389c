-- What the cards cannot learn, alter or open.
use Rattle.std.specs.Prelude.{◌≡◌, ℕ, suc, ◌*◌, ◌<◌, ◌≤◌, Bool, true, false, cond, List, [], ◌∷◌, length, take, ◌==◌, slice_index_or}
use Rattle.memory.specs.Content.{Content, Lines, absent, good, spoiled}
use Rattle.std.specs.List.{AllByRecursion}
use Rattle.bridge.specs.Calls.{Call, Outcome, card, decode, is_burst, load, log_clear, log_read, performed, processor, register_read, register_write, store}
use Rattle.bridge.specs.Pages.{Closed, InUse, line_page, page_of}
use Rattle.bridge.specs.State.{State}

-- any set of pages, given by its test
abbrev pub Hidden : Type 0
Hidden = ℕ → Bool

-- Runs of calls: the state after a list, the state before the call at an index of it, and the outcome of that call.
abbrev pub after : State → List Call → State
after s [] = s
after s (c ∷ cs) = after (performed s c).state cs

abbrev pub before : State → List Call → ℕ → State
before s cs n = after s (take n cs)

-- what stands past the end of a list
abbrev pub no_call : Call
no_call = processor log_read

abbrev pub nth_call : List Call → ℕ → Call
nth_call cs n = slice_index_or cs n no_call

abbrev pub outcome : State → List Call → ℕ → Outcome
outcome s cs n = performed (before s cs n) (nth_call cs n)

-- a store carries a line: 32 bytes
abbrev pub CarriesALine : Call → Type 0
CarriesALine (processor (register_read n)) = Unit {0}
CarriesALine (processor (register_write n v)) = Unit {0}
CarriesALine (processor (load address)) = Unit {0}
CarriesALine (processor (store address bytes)) = length bytes ≡ 32
CarriesALine (processor (decode cpu)) = Unit {0}
CarriesALine (processor log_read) = Unit {0}
CarriesALine (processor log_clear) = Unit {0}
CarriesALine (card b) = Unit {0}

-- a call of one list beside that of the other: the same, or two stores at one address in a hidden page
pub data Alike (hidden : Hidden) : Call → Call → Type 0 where
  same_call : (c : Call) → Alike hidden c c
  hidden_stores : (address : ℕ) (left right : List ℕ) → hidden (page_of address) ≡ true → Alike hidden (processor (store address left)) (processor (store address right))

-- the two lists, call by call
pub data AllAlike (hidden : Hidden) : List Call → List Call → Type 0 where
  no_calls : AllAlike hidden [] []
  more_calls : {c d : Call} {cs ds : List Call} → Alike hidden c d → AllAlike hidden cs ds → AllAlike hidden (c ∷ cs) (d ∷ ds)

-- The premise: no hidden page has a part of a table in use, and all hidden pages and all pages of tables in use are closed.
pub record Protected (hidden : Hidden) (s : State) : Type 0 where
  pub no_table_hidden : (address : ℕ) → InUse s.control.registers address → hidden (page_of address) ≡ false
  pub hidden_closed : (page : ℕ) → hidden page ≡ true → Closed s page
  pub tables_closed : (address : ℕ) → InUse s.control.registers address → Closed s (page_of address)

-- it holds after each call of the processor
abbrev pub ProtectedThroughout : Hidden → State → List Call → Type 0
ProtectedThroughout hidden s cs = (n : ℕ) → n < length cs → is_burst (nth_call cs n) ≡ false → Protected hidden (before s cs (suc n))

-- What stores alone make of a line: a store at 32 times its number replaces a content that is there by its 32 bytes; every
-- other call, refused or not, leaves the line.
abbrev pub replaced : List ℕ → Content → Content
replaced bytes absent = absent
replaced bytes spoiled = good bytes
replaced bytes (good old) = good bytes

abbrev pub stored_by : ℕ → Call → Content → Content
stored_by line (processor (register_read n)) c = c
stored_by line (processor (register_write n v)) c = c
stored_by line (processor (load address)) c = c
stored_by line (processor (store address bytes)) c = cond (address == 32 * line) (replaced bytes c) c
stored_by line (processor (decode cpu)) c = c
stored_by line (processor log_read) c = c
stored_by line (processor log_clear) c = c
stored_by line (card b) c = c

abbrev pub stored_by_all : ℕ → List Call → Content → Content
stored_by_all line [] c = c
stored_by_all line (call ∷ calls) c = stored_by_all line calls (stored_by line call c)

-- after each call every line of a hidden page is what the stores alone made of its first content
abbrev pub OnlyStores : Hidden → State → List Call → Type 0
OnlyStores hidden s cs = (n : ℕ) → n ≤ length cs → (line : ℕ) → hidden (line_page line) ≡ true → (before s cs n).lines line ≡ stored_by_all line (take n cs) (s.lines line)

-- no burst opens a page that was closed before it
abbrev pub OpensNone : State → List Call → Type 0
OpensNone s cs = (n : ℕ) → n < length cs → is_burst (nth_call cs n) ≡ true → (page : ℕ) → Closed (before s cs n) page → Closed (before s cs (suc n)) page

-- every burst has the same answer and buffer from both bridges
pub record SameBurst (o q : Outcome) : Type 0 where
  pub answer : o.answer ≡ q.answer
  pub buffer : o.buffer ≡ q.buffer

-- The conclusion for two runs: bursts tell nothing apart; registers, rows with their pointer, and logs are equal after each
-- call; in both runs hidden lines are changed by stores alone, and no burst opens a page.
pub record Isolated (hidden : Hidden) (s t : State) (cs ds : List Call) : Type 0 where
  pub same_bursts : (n : ℕ) → n < length cs → is_burst (nth_call cs n) ≡ true → SameBurst (outcome s cs n) (outcome t ds n)
  pub same_control : (n : ℕ) → n ≤ length cs → (before s cs n).control ≡ (before t ds n).control
  pub left_only_stores : OnlyStores hidden s cs
  pub right_only_stores : OnlyStores hidden t ds
  pub left_opens_none : OpensNone s cs
  pub right_opens_none : OpensNone t ds

-- two memories that are equal outside hidden pages
abbrev pub EqualOutside : Hidden → Lines → Lines → Type 0
EqualOutside hidden m w = (line : ℕ) → hidden (line_page line) ≡ false → m line ≡ w line

-- for every choice of hidden pages and every two lists of calls of any length
abbrev pub IsolatedRuns : State → State → Type 0
IsolatedRuns s t =
    (hidden : Hidden) (cs ds : List Call)
    → EqualOutside hidden s.lines t.lines
    → AllAlike hidden cs ds
    → AllByRecursion CarriesALine cs
    → AllByRecursion CarriesALine ds
    → ProtectedThroughout hidden s cs
    → Isolated hidden s t cs ds
