-- Bank lists: which are admitted, what is wrong with any other, and where the lines of banks lie.
use Rattle.std.specs.Prelude.{◌≡◌, ℕ, ◌+◌, ◌-◌, ◌*◌, ◌/◌, ◌%◌, ◌^◌, ◌<◌, ◌≤◌, Bool, true, cond, ◌&&◌, ◌||◌, List, [], ◌∷◌, ◌++◌, length, take, Some, None, Decides, sum_by, Option, ◌==◌, ◌≢◌, nat_le, nat_lt, slice_index_or}
use Rattle.std.specs.Int.{is_power_of_two}
use Rattle.std.specs.List.{list_all}
use Rattle.memory.specs.declared.banks.Bank.{Bank}
use Rattle.memory.specs.declared.banks.BankFault.{BankFault}
use Rattle.memory.specs.declared.banks.BankFault.TheVariants.{Size, Base, End, Overlap}
use Rattle.memory.specs.declared.banks.BankListRefusal.{BankListRefusal}
use Rattle.memory.specs.declared.banks.BankListRefusal.TheVariants as R
use Rattle.memory.specs.Answers.{Answer, Cause, success, refusal}
use Rattle.memory.specs.Content.{Lines, is_present}
use Rattle.memory.specs.Layouts.{Places, laid_out}
use Rattle.memory.specs.Rows.{first_index}

-- bank k of a list
abbrev pub nth : List Bank → ℕ → Bank
nth banks k = slice_index_or banks k (record { base = 0; size = 0 })

abbrev pub total : List Bank → ℕ
total banks = sum_by (λ b. b.size) banks

-- a bank holds the addresses from its base up to base + size
abbrev pub holds : Bank → ℕ → Bool
holds b address = nat_le b.base address && nat_lt address (b.base + b.size)

-- The checks. A size has one bit set, and lies from 2000h to 4000_0000h.
abbrev pub size_fits : ℕ → Bool
size_fits size = is_power_of_two size && (nat_le 0x2000 size && nat_le size 0x4000_0000)

-- one of two banks ends where the other begins, or before
abbrev pub apart : Bank → Bank → Bool
apart a b = nat_le (a.base + a.size) b.base || nat_le (b.base + b.size) a.base

abbrev pub clear : List Bank → Bank → Bool
clear before b = list_all (λ a. apart a b) before

-- what is wrong with a bank behind others: its size, its base, its end, an overlap with one before it, in this order
abbrev pub bank_fault : List Bank → Bank → Option BankFault
bank_fault before b =
    cond (size_fits b.size)
    (cond (b.base % b.size == 0)
    (cond (nat_le (b.base + b.size) 0x1_8000_0000)
    (cond (clear before b) None (Some Overlap))
    (Some End))
    (Some Base))
    (Some Size)

abbrev pub blamed : ℕ → Option BankFault → Option BankListRefusal → Option BankListRefusal
blamed i (Some fault) later = Some (R.Bank i fault)
blamed i None later = later

-- the first bank at fault, of banks from index i on that stand behind others
abbrev pub fault_from : ℕ → List Bank → List Bank → Option BankListRefusal
fault_from i before [] = None
fault_from i before (b ∷ banks) = blamed i (bank_fault before b) (fault_from (i + 1) (before ++ b ∷ []) banks)

abbrev pub unless_total : List Bank → ℕ → Option BankListRefusal → Option BankListRefusal
unless_total banks n None = cond (nat_le (total banks) n) None (Some R.Total)
unless_total banks n (Some fault) = Some fault

abbrev pub count_fits : ℕ → Bool
count_fits count = nat_lt 0 count && nat_le count 8

-- what is wrong with a list for n bytes: the count, then the first bank at fault, then the total
abbrev pub list_fault : List Bank → ℕ → Option BankListRefusal
list_fault banks n = cond (count_fits (length banks)) (unless_total banks n (fault_from 0 [] banks)) (Some R.Count)

-- every refusal of a bank list is number 16, with the index of the bank, or 8 for the count or the total
abbrev pub list_cause : BankListRefusal → Cause
list_cause R.Count = record { number = 16; values = 8 ∷ [] }
list_cause (R.Bank i fault) = record { number = 16; values = i ∷ [] }
list_cause R.Total = record { number = 16; values = 8 ∷ [] }

abbrev pub answer_by : Option BankListRefusal → Answer
answer_by None = success []
answer_by (Some fault) = refusal (list_cause fault).number (list_cause fault).values

abbrev pub list_answer : List Bank → ℕ → Answer
list_answer banks n = answer_by (list_fault banks n)

-- The rules. Sizes are the powers of two from 2000h to 4000_0000h.
pub record PowerSize (size : ℕ) : Type 0 where
  pub exponent : ℕ
  pub least : 13 ≤ exponent
  pub most : exponent ≤ 30
  pub is : size ≡ 2 ^ exponent

-- a bank behind others: its base is a multiple of its size, it lies below 1_8000_0000h, and it shares no address with one before
pub record Sound (before : List Bank) (b : Bank) : Type 0 where
  pub size : PowerSize b.size
  pub base : b.base % b.size ≡ 0
  pub below : b.base + b.size ≤ 0x1_8000_0000
  pub alone : (k address : ℕ) → k < length before → holds (nth before k) address ≡ true → holds b address ≢ true

abbrev pub SoundUntil : List Bank → ℕ → Type 0
SoundUntil banks i = (k : ℕ) → k < i → Sound (take k banks) (nth banks k)

abbrev pub Counted : List Bank → Type 0
Counted banks = (0 < length banks) × (length banks ≤ 8)

pub record Admitted (banks : List Bank) (n : ℕ) : Type 0 where
  pub counted : Counted banks
  pub sound : SoundUntil banks (length banks)
  pub room : total banks ≤ n

-- a list is turned down with the index i
pub data TurnedDown (banks : List Bank) (n : ℕ) : ℕ → Type 0 where
  by_count : (Counted banks → ⊥) → TurnedDown banks n 8
  by_bank : {i : ℕ} → Counted banks → i < length banks → SoundUntil banks i → (Sound (take i banks) (nth banks i) → ⊥) → TurnedDown banks n i
  by_total : Counted banks → SoundUntil banks (length banks) → n < total banks → TurnedDown banks n 8

-- an answer is the one that the rules ask for: it accepts just the admitted lists, and names the first bank that is not sound
abbrev pub Judged : List Bank → ℕ → Answer → Type 0
Judged banks n (success values) = Admitted banks n × (values ≡ [])
Judged banks n (refusal number values) = (number ≡ 16) × ((i : ℕ) × (values ≡ i ∷ []) × TurnedDown banks n i)

-- of every list, however large its numbers
abbrev pub BankListsJudged : Type 0
BankListsJudged = (banks : List Bank) (n : ℕ) → Judged banks n (list_answer banks n)

-- Where the lines lie: the banks stand one behind the other, so a line lies in the first bank that holds its address,
-- behind the bytes of the banks before that one.
abbrev pub bank_offset : List Bank → ℕ → Option ℕ → Option ℕ
bank_offset banks address None = None
bank_offset banks address (Some i) = Some (total (take i banks) + (address - (nth banks i).base))

abbrev pub bank_places : List Bank → Places
bank_places banks line = cond (nat_lt line 0xC000000) (bank_offset banks (32 * line) (first_index (λ b. holds b (32 * line)) banks)) None

-- what n bytes hold under a list of banks
abbrev pub banked : List Bank → ℕ → List ℕ → Lines
banked banks n bytes = laid_out (bank_places banks) n bytes

-- some bank of the list holds the address
pub record InABank (banks : List Bank) (address : ℕ) : Type 0 where
  pub index : ℕ
  pub within : index < length banks
  pub held : holds (nth banks index) address ≡ true

-- exactly the addresses that a bank holds are there, and no two banks hold one address
pub record ExactBanks (banks : List Bank) (lines : Lines) : Type 0 where
  pub present : (address : ℕ) → Decides (is_present (lines (address / 32))) (InABank banks address)
  pub single : (j k address : ℕ) → j < length banks → k < length banks → holds (nth banks j) address ≡ true → holds (nth banks k) address ≡ true → j ≡ k
