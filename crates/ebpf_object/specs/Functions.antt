-- The functions of an object, and what changes its bytes.
use Rattle.std.specs.Prelude.{ℕ, ◌<◌, ◌≤◌, ◌+◌, ◌*◌, ◌/◌, ◌==◌, List, length, take, drop, Option, None, Some, if◌then◌else◌}
use Rattle.ebpf_object.specs.declared.function.Function.{Function}
use Rattle.ebpf_object.specs.declared.relocation.Relocation.{Relocation}
use Rattle.ebpf_object.specs.declared.symbol.Place.{Place}
use Rattle.ebpf_object.specs.declared.symbol.Place.TheVariants as places
use Rattle.ebpf_object.specs.declared.symbol.Symbol.{Symbol}
use Rattle.ebpf_object.specs.First.{IsFirst, NoneHas}
use Rattle.ebpf_object.specs.Objects.{relocations_in, section_count}
use Rattle.ebpf_object.specs.Relocations.{relocation_at}
use Rattle.ebpf_object.specs.Sections.{contents, section_at}
use Rattle.ebpf_object.specs.Symbols.{is_function}

-- ---- functions

-- the part of a section that a symbol is, in slots of 8 bytes (RFC 9669, 3)
abbrev pub part_of : Symbol → Place → Option Function
part_of symbol (places.Section section) = Some (record { section = section; offset = symbol.value; slots = symbol.size / 8 })
part_of symbol _ = None

-- the function that a symbol stands for, where it stands for one of this object
abbrev pub function_of : Symbol → Option Function
function_of symbol = if is_function symbol.kind then part_of symbol symbol.place else None

-- the bytes of a function
abbrev pub code_of : List ℕ → Function → List ℕ
code_of bytes function = take (8 * function.slots) (drop function.offset (contents bytes (section_at bytes function.section)))

-- a function lies in a section that is there
pub record LiesIn (bytes : List ℕ) (function : Function) : Type 0 where
  pub there : function.section < section_count bytes
  pub inside : function.offset + 8 * function.slots ≤ length (contents bytes (section_at bytes function.section))

-- ---- what changes a byte

-- how many relocations a section has that are of this other section
abbrev pub changes_in : List ℕ → ℕ → ℕ → ℕ
changes_in bytes section of = if (section_at bytes of).info == section then relocations_in bytes of else 0

-- the relocation with this number of a section of them, where what it changes begins at this byte
abbrev pub change_at : List ℕ → ℕ → ℕ → ℕ → Option Relocation
change_at bytes byte of number =
    let relocation = relocation_at bytes (section_at bytes of) number in if relocation.offset == byte then Some relocation else None

-- no relocation of the sections below a number changes what begins at this byte of a section
abbrev pub NoChange : List ℕ → ℕ → ℕ → ℕ → Type 0
NoChange bytes section byte count = (of : ℕ) → of < count → NoneHas (change_at bytes byte of) (changes_in bytes section of)

-- the first relocation that changes what begins at this byte of a section: the section that has it, its number there, and itself
pub record IsFirstChange (bytes : List ℕ) (section byte of number : ℕ) (relocation : Relocation) : Type 0 where
  pub within : of < section_count bytes
  pub before : NoChange bytes section byte of
  pub here : IsFirst (change_at bytes byte of) (changes_in bytes section of) number relocation
