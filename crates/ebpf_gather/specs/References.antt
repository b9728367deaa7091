-- What a slot of a function refers to.
use Rattle.std.specs.Prelude.{ℕ, ℤ, ◌<◌, ⊤, ◌≤◌, ◌+◌, ◌*◌, ◌%◌, ◌^◌, ◌==◌, ◌&&◌, nat_le, Bool, true, false, List, [], ◌∷◌, Option, None, Some, Result, Ok, Err, if◌then◌else◌}
use Rattle.std.specs.Int.{w32, cast_unsigned}
use Rattle.common_definitions.specs.Checks.{demand, first_failed, unless_failed}
use Rattle.ebpf_gather.specs.declared.fault.ReferenceFault.{ReferenceFault}
use Rattle.ebpf_gather.specs.declared.fault.ReferenceFault.TheVariants as faults
use Rattle.ebpf_gather.specs.declared.reference.Reference.{Reference}
use Rattle.ebpf_gather.specs.declared.reference.Reference.TheVariants as references
use Rattle.ebpf_gather.specs.declared.reference.TheConstants.{CALL_OPCODE, LOCAL_CALL, WIDE_OPCODE}
use Rattle.ebpf_gather.specs.First.{first_of}
use Rattle.ebpf_gather.specs.Functions.{function_at, led_to, symbol_in}
use Rattle.ebpf_decode.specs.Reading.{fields_in, immediate_of}
use Rattle.ebpf_object.specs.declared.function.Function.{Function}
use Rattle.ebpf_object.specs.declared.relocation.Relocation.{Relocation}
use Rattle.ebpf_object.specs.declared.relocation.RelocationKind.{RelocationKind}
use Rattle.ebpf_object.specs.declared.relocation.RelocationKind.TheVariants as relocations
use Rattle.ebpf_object.specs.declared.section.Section.{Section}
use Rattle.ebpf_object.specs.declared.section.SectionKind.{SectionKind}
use Rattle.ebpf_object.specs.declared.section.SectionKind.TheVariants.{NoBits, ProgramBits}
use Rattle.ebpf_object.specs.declared.symbol.Place.{Place}
use Rattle.ebpf_object.specs.declared.symbol.Place.TheVariants as places
use Rattle.ebpf_object.specs.Functions.{LiesIn, change_at, changes_in, code_of}
use Rattle.ebpf_object.specs.Objects.{section_count}
use Rattle.ebpf_object.specs.Sections.{section_at}
use Rattle.instruction_set.specs.declared.fields.Fields.{Fields}

-- ---- slots

-- the byte of its section at which a slot of a function begins
abbrev pub byte_of : Function → ℕ → ℕ
byte_of function slot = function.offset + 8 * slot

-- the first relocation that changes what begins at this byte of a section
abbrev pub change_of : List ℕ → ℕ → ℕ → Option Relocation
change_of bytes section byte =
    first_of (λ of. first_of (change_at bytes byte of) (changes_in bytes section of)) (section_count bytes)

-- does it call a function of the program? (RFC 9669, 4.3.2)
abbrev pub is_local_call : Fields → Bool
is_local_call f = f.opcode == CALL_OPCODE && f.src == LOCAL_CALL

-- is it a wide instruction that gives a number? (RFC 9669, 5.4)
abbrev pub is_wide_number : Fields → Bool
is_wide_number f = f.opcode == WIDE_OPCODE && f.src == 0

-- the number of a wide instruction: its lower half stands in the first slot, the upper one in the next (RFC 9669, 5.4)
abbrev pub wide_value : Fields → Option Fields → ℕ
wide_value f next = cast_unsigned w32 f.immediate + 2 ^ 32 * immediate_of next

-- ---- calls

-- the function, where there is one
abbrev pub to_function : Option Function → Result Reference ReferenceFault
to_function None = Err faults.NoFunction
to_function (Some function) = Ok (references.Function function)

-- what a call refers to that leads to this byte of a section
abbrev pub called : List ℕ → ℕ → ℕ → ℤ → Result Reference ReferenceFault
called bytes symbols section byte = to_function (function_at bytes symbols section byte)

-- ---- addresses

-- has a section of this kind data?
abbrev pub is_data : SectionKind → Bool
is_data ProgramBits = true
is_data NoBits = true
is_data _ = false

-- of data at a byte of a section: it is data, which is never changed (SHF_WRITE), and the byte is one of it, or the one behind
abbrev pub data_checks : Section → ℕ → List (Option ReferenceFault)
data_checks section byte =
    demand (is_data section.kind) faults.NoData
    ∷ demand (section.flags % 2 == 0) faults.Writable
    ∷ demand (nat_le byte section.size) faults.Outside
    ∷ []

-- what an address is of, which is so many bytes behind a symbol
abbrev pub address : Section → ℕ → ℕ → ℕ → Result Reference ReferenceFault
address section number value more =
    unless_failed (first_failed (data_checks section (value + more))) (references.Data number (value + more))

-- ---- with a relocation

-- what is referred to by a symbol: what is in its section, or what isn't in this object
abbrev pub by_symbol : (ℕ → Result Reference ReferenceFault) → ℕ → Place → Result Reference ReferenceFault
by_symbol within symbol places.Undefined = Ok (references.Missing symbol)
by_symbol within symbol (places.Section section) = within section
by_symbol within symbol (places.Reserved number) = Err faults.Symbol

-- what a call refers to whose relocation has the symbol with this number
abbrev pub called_by : List ℕ → ℕ → ℕ → ℤ → Result Reference ReferenceFault
called_by bytes symbols symbol immediate =
    let told = symbol_in bytes symbols symbol in
    by_symbol (λ section. called bytes symbols section (led_to told.value immediate)) symbol told.place

-- what a wide instruction with this number refers to whose relocation has the symbol with that one
abbrev pub addressed_by : List ℕ → ℕ → ℕ → ℕ → Result Reference ReferenceFault
addressed_by bytes symbols symbol more =
    let told = symbol_in bytes symbols symbol in
    by_symbol (λ section. address (section_at bytes section) section told.value more) symbol told.place

-- what an instruction refers to, by what its relocation changes
abbrev pub changed_as : List ℕ → ℕ → Fields → Option Fields → ℕ → Option RelocationKind → Result Reference ReferenceFault
changed_as bytes symbols f next symbol (Some relocations.Call) =
    if is_local_call f then called_by bytes symbols symbol f.immediate else Err faults.Relocation
changed_as bytes symbols f next symbol (Some relocations.WideImmediate) =
    if is_wide_number f then addressed_by bytes symbols symbol (wide_value f next) else Err faults.Relocation
changed_as bytes symbols f next symbol _ = Err faults.Relocation

-- what an instruction refers to that this relocation changes
abbrev pub changed : List ℕ → ℕ → Fields → Option Fields → Relocation → Result Reference ReferenceFault
changed bytes symbols f next relocation = changed_as bytes symbols f next relocation.symbol relocation.kind

-- ---- without one, and all

-- what an instruction at this byte of a section refers to that no relocation changes
abbrev pub unchanged : List ℕ → ℕ → ℕ → ℕ → Fields → Result Reference ReferenceFault
unchanged bytes symbols section byte f =
    if is_local_call f then called bytes symbols section (led_to byte f.immediate) else Ok references.Nothing

-- what an instruction at this byte of a section refers to
abbrev pub with_change : List ℕ → ℕ → ℕ → ℕ → Fields → Option Fields → Option Relocation → Result Reference ReferenceFault
with_change bytes symbols section byte f next None = unchanged bytes symbols section byte f
with_change bytes symbols section byte f next (Some relocation) = changed bytes symbols f next relocation

-- what a slot refers to, by its fields
abbrev pub with_fields : List ℕ → ℕ → Function → ℕ → Option Fields → Result Reference ReferenceFault
with_fields bytes symbols function slot None = Ok references.Nothing
with_fields bytes symbols function slot (Some f) =
    let byte = byte_of function slot in
    let next = fields_in (slot + 1) (code_of bytes function) in
    with_change bytes symbols function.section byte f next (change_of bytes function.section byte)

-- what a slot of a function refers to
abbrev pub reference_of : List ℕ → ℕ → Function → ℕ → Result Reference ReferenceFault
reference_of bytes symbols function slot = with_fields bytes symbols function slot (fields_in slot (code_of bytes function))

-- a function that is referred to lies in a section that is there, and data is in one
abbrev pub LiesWithin : List ℕ → Reference → Type 0
LiesWithin bytes (references.Function function) = LiesIn bytes function
LiesWithin bytes (references.Data section byte) = (section < section_count bytes) × (byte ≤ (section_at bytes section).size)
LiesWithin bytes _ = ⊤
