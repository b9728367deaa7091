-- Symbols (gABI, chapter 4, Symbol Table): entries of 24 bytes.
use Rattle.std.specs.Prelude.{ℕ, ◌+◌, ◌*◌, ◌/◌, ◌%◌, ◌==◌, ◌&&◌, ◌||◌, nat_le, Bool, true, false, not, List, slice_index, if◌then◌else◌}
use Rattle.common_definitions.specs.Bytes.{field}
use Rattle.ebpf_object.specs.declared.section.Section.{Section}
use Rattle.ebpf_object.specs.declared.section.SectionKind.{SectionKind}
use Rattle.ebpf_object.specs.declared.section.SectionKind.TheVariants.{ProgramBits}
use Rattle.ebpf_object.specs.declared.symbol.Binding.{Binding}
use Rattle.ebpf_object.specs.declared.symbol.Binding.TheVariants as bindings
use Rattle.ebpf_object.specs.declared.symbol.Place.{Place}
use Rattle.ebpf_object.specs.declared.symbol.Place.TheVariants as places
use Rattle.ebpf_object.specs.declared.symbol.Symbol.{Symbol}
use Rattle.ebpf_object.specs.declared.symbol.SymbolKind.{SymbolKind}
use Rattle.ebpf_object.specs.declared.symbol.SymbolKind.TheVariants as kinds
use Rattle.ebpf_object.specs.declared.symbol.TheConstants.{LOWEST_RESERVED, SYMBOL_BYTES}

-- who sees a symbol, by its binding's number
abbrev pub binding : ℕ → Binding
binding number =
    if number == 0 then bindings.Local
    else if number == 1 then bindings.Global
    else if number == 2 then bindings.Weak
    else bindings.Other number

-- what it stands for, by its type's number
abbrev pub symbol_kind : ℕ → SymbolKind
symbol_kind number =
    if number == 0 then kinds.Untold
    else if number == 1 then kinds.Data
    else if number == 2 then kinds.Function
    else if number == 3 then kinds.Section
    else if number == 4 then kinds.File
    else kinds.Other number

-- where it is, by st_shndx
abbrev pub symbol_place : ℕ → Place
symbol_place number =
    if number == 0 then places.Undefined
    else if nat_le LOWEST_RESERVED number then places.Reserved number
    else places.Section number

-- the symbol whose entry is at this byte; st_info has the binding in its upper half, and the type in its lower one
abbrev pub symbol_entry : List ℕ → ℕ → Symbol
symbol_entry bytes at = record {
  name = field bytes at 4;
  binding = binding (slice_index bytes (at + 4) / 16);
  kind = symbol_kind (slice_index bytes (at + 4) % 16);
  place = symbol_place (field bytes (at + 6) 2);
  value = field bytes (at + 8) 8;
  size = field bytes (at + 16) 8;
}

-- how many symbols a symbol table has
abbrev pub symbol_count : Section → ℕ
symbol_count table = table.size / SYMBOL_BYTES

-- the symbol with this number of a symbol table
abbrev pub symbol_at : List ℕ → Section → ℕ → Symbol
symbol_at bytes table number = symbol_entry bytes (table.offset + SYMBOL_BYTES * number)

-- does it stand for a function?
abbrev pub is_function : SymbolKind → Bool
is_function kinds.Function = true
is_function _ = false

-- has a section of this kind what a program has in it?
abbrev pub is_program : SectionKind → Bool
is_program ProgramBits = true
is_program _ = false

-- is a symbol in a section of this kind no function, or one that is whole slots of 8 bytes? (RFC 9669, 3)
abbrev pub is_whole : Symbol → SectionKind → Bool
is_whole symbol kind =
    not (is_function symbol.kind) || (symbol.value % 8 == 0 && symbol.size % 8 == 0 && is_program kind)
