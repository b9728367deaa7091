-- Which functions a function calls, and so on: the tree of its calls.
use Rattle.std.specs.Prelude.{◌≡◌, ◌<◌, ◌≤◌, ⊤, ℕ, zero, suc, ◌+◌, nat_le, List, [], ◌∷◌, length, Result, Ok, Err, if◌then◌else◌}
use Rattle.common_definitions.specs.Readings.{◌>>=◌}
use Rattle.ebpf_gather.specs.declared.fault.CallFault.{CallFault}
use Rattle.ebpf_gather.specs.declared.fault.CallFault.TheVariants as faults
use Rattle.ebpf_gather.specs.declared.fault.ReferenceFault.{ReferenceFault}
use Rattle.ebpf_gather.specs.declared.reference.Reference.{Reference}
use Rattle.ebpf_gather.specs.declared.reference.Reference.TheVariants as references
use Rattle.ebpf_gather.specs.References.{reference_of}
use Rattle.ebpf_object.specs.declared.function.Function.{Function}
use Rattle.program_interface.specs.declared.TheConstants.{MOST_SLOTS}

-- ---- calls

-- a slot of a function calls another one
abbrev pub CallsAt : List ℕ → ℕ → Function → ℕ → Function → Type 0
CallsAt bytes symbols function slot callee =
    (slot < function.slots) × (reference_of bytes symbols function slot ≡ Ok (references.Function callee))

-- a function calls another one
abbrev pub Calls : List ℕ → ℕ → Function → Function → Type 0
Calls bytes symbols function callee = (slot : ℕ) × CallsAt bytes symbols function slot callee

-- functions behind a first one, each of which the one before calls
abbrev pub IsChain : List ℕ → ℕ → Function → List Function → Type 0
IsChain bytes symbols function [] = ⊤
IsChain bytes symbols function (callee ∷ rest) = Calls bytes symbols function callee × IsChain bytes symbols callee rest

-- from a function on no chain of calls has more than so many functions; so none of them calls itself, directly or by others
abbrev pub IsShallow : List ℕ → ℕ → ℕ → Function → Type 0
IsShallow bytes symbols depth function = (rest : List Function) → IsChain bytes symbols function rest → 1 + length rest ≤ depth

-- ---- the slots of all that is called, each as often as it is called

-- so many slots, unless that is more than a program can have
abbrev pub few_slots : ℕ → Result ℕ CallFault
few_slots slots = if nat_le slots MOST_SLOTS then Ok slots else Err faults.TooLong

-- the slots that a slot stands for: its own, and those of a function that it calls
abbrev pub slots_of : (Function → Result ℕ CallFault) → Function → ℕ → Result Reference ReferenceFault → Result ℕ CallFault
slots_of tree function slot (Ok (references.Function callee)) = tree callee
slots_of tree function slot (Ok _) = Ok 0
slots_of tree function slot (Err fault) = Err (faults.Reference function slot fault)

-- those that this slot of a function stands for
abbrev pub slots_at : (Function → Result ℕ CallFault) → List ℕ → ℕ → Function → ℕ → Result ℕ CallFault
slots_at tree bytes symbols function slot = slots_of tree function slot (reference_of bytes symbols function slot)

-- those of so many first slots of a function
abbrev pub slots_before : (ℕ → Result ℕ CallFault) → ℕ → Result ℕ CallFault
slots_before of zero = Ok 0
slots_before of (suc slot) = slots_before of slot >>= λ before. of slot >>= λ called. few_slots (before + 1 + called)

-- those of a function
abbrev pub body_slots : (Function → Result ℕ CallFault) → List ℕ → ℕ → Function → Result ℕ CallFault
body_slots tree bytes symbols function = slots_before (slots_at tree bytes symbols function) function.slots

-- Those of a function, where no chain of calls has more than so many functions: the first fault is that of the lowest slot, and of a
-- function that is called as if it stood there.
unfoldable pub tree_slots : List ℕ → ℕ → ℕ → Function → Result ℕ CallFault
tree_slots bytes symbols zero function = Err (faults.TooDeep function)
tree_slots bytes symbols (suc depth) function = body_slots (tree_slots bytes symbols depth) bytes symbols function
