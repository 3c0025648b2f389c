-- The register map: which numbers name a register, what a read gives and what a write keeps.
use Rattle.std.specs.Prelude.{ℕ, ◌+◌, ◌-◌, ◌*◌, ◌^◌, Bool, true, false, cond, [], ◌∷◌, Some, None, Ok, Err, Option, Result, ◌==◌}
use Rattle.memory.specs.Answers.{Answer, Cause, bare, success, refusal}
use Rattle.bridge.specs.declared.look_aside.LookAsideRow.{LookAsideRow}
use Rattle.bridge.specs.declared.look_aside.LookAside.{LookAside}
use Rattle.bridge.specs.declared.registers.Register.{Register}
use Rattle.bridge.specs.declared.registers.Register.TheVariants.{Haxr0, Haxr1, Haxr2, InvalidateAll, PciBase, PciMask, RowData, RowTag, TranslatedBase}
use Rattle.bridge.specs.declared.registers.RegisterRefusal.{RegisterRefusal}
use Rattle.bridge.specs.declared.registers.RegisterRefusal.TheVariants.{NotListed, ReadOnly}
use Rattle.bridge.specs.declared.registers.Window.{Window}
use Rattle.bridge.specs.declared.registers.Registers.{Registers}
use Rattle.bridge.specs.Bits.{bits, bits_kept, in_range}
use Rattle.bridge.specs.LookAside.{row, zero_rows}

abbrev pub zero_window : Window
zero_window = record { base = 0; mask = 0; translated = 0 }

abbrev pub zero_registers : Registers
zero_registers = record { first = zero_window; second = zero_window; haxr1 = 0; haxr2 = 0 }

-- window 1, or window 2 under any other number
abbrev pub window : Registers → ℕ → Window
window r number = cond (number == 1) r.first r.second

abbrev pub with_window : Registers → ℕ → Window → Registers
with_window r number w =
    cond (number == 1)
    (record { first = w; second = r.second; haxr1 = r.haxr1; haxr2 = r.haxr2 })
    (record { first = r.first; second = w; haxr1 = r.haxr1; haxr2 = r.haxr2 })

-- 6 and 7, 8 and 9, 10 and 11 for windows 1 and 2; 12, 13, 14; 16 to 23 and 24 to 31 for the eight rows; 32
abbrev pub register_named : ℕ → Option Register
register_named n =
    cond (in_range 6 7 n) (Some (TranslatedBase (n - 5)))
    (cond (in_range 8 9 n) (Some (PciBase (n - 7)))
    (cond (in_range 10 11 n) (Some (PciMask (n - 9)))
    (cond (n == 12) (Some Haxr0)
    (cond (n == 13) (Some Haxr1)
    (cond (n == 14) (Some Haxr2)
    (cond (in_range 16 23 n) (Some (RowTag (n - 16)))
    (cond (in_range 24 31 n) (Some (RowData (n - 24)))
    (cond (n == 32) (Some InvalidateAll) None))))))))

-- a valid row's tag has the PCI page in bits 31:13 and 1 in bit 12, its data register the page number in bits 20:1; a row that
-- is not valid reads 0 in both
abbrev pub tag_value : Option LookAsideRow → ℕ
tag_value None = 0
tag_value (Some r) = bits 18 0 r.pci_page * 2 ^ 13 + 2 ^ 12

abbrev pub data_value : Option LookAsideRow → ℕ
data_value None = 0
data_value (Some r) = bits 19 0 r.page * 2

abbrev pub register_value : Registers → LookAside → Register → ℕ
register_value r t (TranslatedBase number) = (window r number).translated
register_value r t (PciBase number) = (window r number).base
register_value r t (PciMask number) = (window r number).mask
register_value r t Haxr0 = 0
register_value r t Haxr1 = r.haxr1
register_value r t Haxr2 = r.haxr2
register_value r t (RowTag i) = tag_value (row t i)
register_value r t (RowData i) = data_value (row t i)
register_value r t InvalidateAll = 0

-- the rows' registers can only be read
abbrev pub read_only : Register → Bool
read_only (TranslatedBase number) = false
read_only (PciBase number) = false
read_only (PciMask number) = false
read_only Haxr0 = false
read_only Haxr1 = false
read_only Haxr2 = false
read_only (RowTag i) = true
read_only (RowData i) = true
read_only InvalidateAll = false

abbrev pub with_translated : Window → ℕ → Window
with_translated w value = record { base = w.base; mask = w.mask; translated = value }

abbrev pub with_base : Window → ℕ → Window
with_base w value = record { base = value; mask = w.mask; translated = w.translated }

abbrev pub with_mask : Window → ℕ → Window
with_mask w value = record { base = w.base; mask = value; translated = w.translated }

-- a write keeps the named bits, drops the others, and changes no other register: 31:9 of a translated base; 31:20 (base),
-- 19 (enable) and 18 (mapped) of a PCI base; 31:20 of a PCI mask; none of HAXR0; 31:27 of HAXR1; 31:24 and 1:0 of HAXR2
abbrev pub registers_written : Registers → Register → ℕ → Registers
registers_written r (TranslatedBase number) v = with_window r number (with_translated (window r number) (bits_kept 31 9 v))
registers_written r (PciBase number) v = with_window r number (with_base (window r number) (bits_kept 31 18 v))
registers_written r (PciMask number) v = with_window r number (with_mask (window r number) (bits_kept 31 20 v))
registers_written r Haxr0 v = r
registers_written r Haxr1 v = record { first = r.first; second = r.second; haxr1 = bits_kept 31 27 v; haxr2 = r.haxr2 }
registers_written r Haxr2 v = record { first = r.first; second = r.second; haxr1 = r.haxr1; haxr2 = bits_kept 31 24 v + bits_kept 1 0 v }
registers_written r (RowTag i) v = r
registers_written r (RowData i) v = r
registers_written r InvalidateAll v = r

-- a write of the last register, whatever the value, zeroes all rows and the pointer; no other write touches them
abbrev pub rows_written : LookAside → Register → LookAside
rows_written t (TranslatedBase number) = t
rows_written t (PciBase number) = t
rows_written t (PciMask number) = t
rows_written t Haxr0 = t
rows_written t Haxr1 = t
rows_written t Haxr2 = t
rows_written t (RowTag i) = t
rows_written t (RowData i) = t
rows_written t InvalidateAll = zero_rows

-- a number that names no register is refused, and so is a write of one that can only be read
abbrev pub register_read_answer : Registers → LookAside → Option Register → Answer
register_read_answer r t None = refusal 10 []
register_read_answer r t (Some register) = success (register_value r t register ∷ [])

abbrev pub register_write_answer : Option Register → Answer
register_write_answer None = refusal 10 []
register_write_answer (Some register) = cond (read_only register) (refusal 10 []) (success [])

-- both causes of a refusal have number 10
abbrev pub register_cause : RegisterRefusal → Cause
register_cause NotListed = bare 10
register_cause ReadOnly = bare 10

-- which of them it is: a write that is refused names no register, or one that can only be read
abbrev pub write_refusal : Option Register → RegisterRefusal
write_refusal None = NotListed
write_refusal (Some register) = ReadOnly

-- what the code answers: the register of a number, and to a write of a register
abbrev pub listed : Option Register → Result Register RegisterRefusal
listed None = Err NotListed
listed (Some register) = Ok register

abbrev pub write_result : Register → Result Unit RegisterRefusal
write_result register = cond (read_only register) (Err ReadOnly) (Ok tt)
