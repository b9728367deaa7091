-- Functions by where they begin, by their names, and the one that a program starts with.
use Rattle.std.specs.Prelude.{ℕ, ℤ, pos, ◌+ℤ◌, ◌*ℤ◌, ◌==◌, ◌&&◌, Bool, true, false, List, Option, None, Some, option_map, Result, Ok, Err, if◌then◌else◌}
use Rattle.std.specs.Ordering.{int_eq}
use Rattle.std.specs.Str.{bytes_eq}
use Rattle.ebpf_gather.specs.declared.fault.StartFault.{StartFault}
use Rattle.ebpf_gather.specs.declared.fault.StartFault.TheVariants as faults
use Rattle.ebpf_gather.specs.First.{first_of}
use Rattle.ebpf_object.specs.declared.function.Function.{Function}
use Rattle.ebpf_object.specs.declared.symbol.Binding.{Binding}
use Rattle.ebpf_object.specs.declared.symbol.Binding.TheVariants.{Global}
use Rattle.ebpf_object.specs.declared.symbol.Symbol.{Symbol}
use Rattle.ebpf_object.specs.Functions.{function_of}
use Rattle.ebpf_object.specs.Objects.{symbol_name}
use Rattle.ebpf_object.specs.Sections.{section_at}
use Rattle.ebpf_object.specs.Symbols.{symbol_at, symbol_count}

-- ---- symbols, where the symbol table is the section with this number

-- how many there are
abbrev pub symbols_in : List ℕ → ℕ → ℕ
symbols_in bytes symbols = symbol_count (section_at bytes symbols)

-- the one with this number
abbrev pub symbol_in : List ℕ → ℕ → ℕ → Symbol
symbol_in bytes symbols number = symbol_at bytes (section_at bytes symbols) number

-- the function that it stands for
abbrev pub function_in : List ℕ → ℕ → ℕ → Option Function
function_in bytes symbols number = function_of (symbol_in bytes symbols number)

-- ---- by where they begin

-- The byte to which a call leads that stands at a byte, or whose symbol does (RFC 9669, 4.3.1): the immediate counts slots, from the
-- one behind.
abbrev pub led_to : ℕ → ℤ → ℤ
led_to from immediate = pos from +ℤ pos 8 *ℤ (immediate +ℤ pos 1)

-- does a function begin at this byte of a section?
abbrev pub begins_at : ℕ → ℤ → Function → Bool
begins_at section byte function = function.section == section && int_eq (pos function.offset) byte

-- the function, where it begins there
abbrev pub where_begins : ℕ → ℤ → Option Function → Option Function
where_begins section byte None = None
where_begins section byte (Some function) = if begins_at section byte function then Some function else None

-- the function that the symbol with this number stands for, where it begins there
abbrev pub function_numbered : List ℕ → ℕ → ℕ → ℤ → ℕ → Option Function
function_numbered bytes symbols section byte number = where_begins section byte (function_in bytes symbols number)

-- the function that begins there: that of the first symbol
abbrev pub function_at : List ℕ → ℕ → ℕ → ℤ → Option Function
function_at bytes symbols section byte = first_of (function_numbered bytes symbols section byte) (symbols_in bytes symbols)

-- ---- by their names

-- the function that the symbol with this number stands for, where that has this name
abbrev pub named_at : List ℕ → ℕ → List ℕ → ℕ → Option Function
named_at bytes symbols name number =
    if bytes_eq (symbol_name bytes symbols number) name then function_in bytes symbols number else None

-- the function with this name: that of the first symbol
abbrev pub named_function : List ℕ → ℕ → List ℕ → Option Function
named_function bytes symbols name = first_of (named_at bytes symbols name) (symbols_in bytes symbols)

-- ---- the one that a program starts with

-- can it be seen from outside the object?
abbrev pub is_global : Binding → Bool
is_global Global = true
is_global _ = false

-- the function that the symbol with this number stands for, with that number
abbrev pub with_number : List ℕ → ℕ → ℕ → Option (ℕ × Function)
with_number bytes symbols number = option_map (λ function. (number, function)) (function_in bytes symbols number)

-- the same, where it can be seen from outside
abbrev pub global_at : List ℕ → ℕ → ℕ → Option (ℕ × Function)
global_at bytes symbols number =
    if is_global (symbol_in bytes symbols number).binding then with_number bytes symbols number else None

-- the first such function
abbrev pub first_global : List ℕ → ℕ → Option (ℕ × Function)
first_global bytes symbols = first_of (global_at bytes symbols) (symbols_in bytes symbols)

-- the number of a symbol, where it stands for such a function and is another than this one
abbrev pub other_global : List ℕ → ℕ → ℕ → ℕ → Option ℕ
other_global bytes symbols first number =
    if number == first then None else option_map (λ found. found.0) (global_at bytes symbols number)

-- the first such symbol
abbrev pub second_global : List ℕ → ℕ → ℕ → Option ℕ
second_global bytes symbols first = first_of (other_global bytes symbols first) (symbols_in bytes symbols)

-- the function, unless there is another
abbrev pub unless_several : ℕ → Function → Option ℕ → Result Function StartFault
unless_several first function None = Ok function
unless_several first function (Some second) = Err (faults.Several first second)

-- the only one of several functions
abbrev pub the_only : (ℕ → Option ℕ) → Option (ℕ × Function) → Result Function StartFault
the_only second None = Err faults.NoFunction
the_only second (Some found) = unless_several found.0 found.1 (second found.0)

-- the only function that can be seen from outside
abbrev pub only_function : List ℕ → ℕ → Result Function StartFault
only_function bytes symbols = the_only (second_global bytes symbols) (first_global bytes symbols)
