-- What the examples share: programs, blocks, namespaces and entries.
use Rattle.std.proofs.Common.{ℕ, List, [], ◌∷◌, ◌++◌, replicate, Option, Some, None, Result, Ok, Err}
use Rattle.ebpf_decode.specs.Reading.{decoded_program}
use Rattle.ebpf_decode.specs.declared.fault.Fault.{Fault}
use Rattle.instruction_set.specs.declared.instruction.Instruction.{Instruction}
use Rattle.image_store.specs.Namespace.{ZoneWithBlocks, ZonedNamespace}
use Rattle.device_meaning.specs.Admission.{Loaded}
use Rattle.device_meaning.specs.BlockRuns.{no_scratch}

-- a block that begins with this byte, the others zeros
abbrev pub block_of : ℕ → List ℕ
block_of byte = byte ∷ replicate 511 0

-- ---- programs

abbrev pub program_of : Result (List (Option Instruction)) Fault → List (Option Instruction)
program_of (Ok program) = program
program_of (Err fault) = []

-- mov r0, 0
abbrev pub move : List ℕ
move = 0xb7 ∷ replicate 7 0

-- exit
abbrev pub leave : List ℕ
leave = 0x95 ∷ replicate 7 0

-- mov r0, 0; exit
abbrev pub passes : List (Option Instruction)
passes = program_of (decoded_program (move ++ leave))

-- emits a block's first 8 bytes, where its first byte is 7:
-- ldxb r6, [r2+0]; jne r6, 7, +3; mov r1, r2; mov r2, 8; call 1; mov r0, 0; exit
abbrev pub sevens : List (Option Instruction)
sevens = program_of (decoded_program (
    0x71 ∷ 0x26 ∷ replicate 6 0
    ++ 0x55 ∷ 0x06 ∷ 3 ∷ 0 ∷ 7 ∷ 0 ∷ 0 ∷ 0
    ∷ 0xbf ∷ 0x21 ∷ replicate 6 0
    ++ 0xb7 ∷ 0x02 ∷ 0 ∷ 0 ∷ 8 ∷ 0 ∷ 0 ∷ 0
    ∷ 0x85 ∷ 0 ∷ 0 ∷ 0 ∷ 1 ∷ 0 ∷ 0 ∷ 0
    ∷ move ++ leave))

-- adds the first bytes of its blocks up in the scratch bytes, and ends the run at the block of index 2:
-- ldxb r4, [r2+0]; ldxdw r5, [r3+0]; add r5, r4; stxdw [r3+0], r5; ldxw r6, [r1+8]; mov r0, 0;
-- jne r6, 2, +1; mov r0, 1; exit
abbrev pub sums : List (Option Instruction)
sums = program_of (decoded_program (
    0x71 ∷ 0x24 ∷ replicate 6 0
    ++ 0x79 ∷ 0x35 ∷ replicate 6 0
    ++ 0x0f ∷ 0x45 ∷ replicate 6 0
    ++ 0x7b ∷ 0x53 ∷ replicate 6 0
    ++ 0x61 ∷ 0x16 ∷ 8 ∷ replicate 5 0
    ++ move
    ++ 0x55 ∷ 0x06 ∷ 1 ∷ 0 ∷ 2 ∷ 0 ∷ 0 ∷ 0
    ∷ 0xb7 ∷ 0 ∷ 0 ∷ 0 ∷ 1 ∷ 0 ∷ 0 ∷ 0
    ∷ leave))

-- emits a block's first byte twice:
-- mov r6, r2; mov r1, r6; mov r2, 1; call 1; mov r1, r6; mov r2, 1; call 1; exit
abbrev pub twice : List (Option Instruction)
twice = program_of (decoded_program (
    0xbf ∷ 0x26 ∷ replicate 6 0
    ++ 0xbf ∷ 0x61 ∷ replicate 6 0
    ++ 0xb7 ∷ 0x02 ∷ 0 ∷ 0 ∷ 1 ∷ 0 ∷ 0 ∷ 0
    ∷ 0x85 ∷ 0 ∷ 0 ∷ 0 ∷ 1 ∷ 0 ∷ 0 ∷ 0
    ∷ 0xbf ∷ 0x61 ∷ replicate 6 0
    ++ 0xb7 ∷ 0x02 ∷ 0 ∷ 0 ∷ 1 ∷ 0 ∷ 0 ∷ 0
    ∷ 0x85 ∷ 0 ∷ 0 ∷ 0 ∷ 1 ∷ 0 ∷ 0 ∷ 0
    ∷ leave))

-- emits the context: mov r2, 32; call 1; exit
abbrev pub tells : List (Option Instruction)
tells = program_of (decoded_program (
    0xb7 ∷ 0x02 ∷ 0 ∷ 0 ∷ 32 ∷ 0 ∷ 0 ∷ 0
    ∷ 0x85 ∷ 0 ∷ 0 ∷ 0 ∷ 1 ∷ 0 ∷ 0 ∷ 0
    ∷ leave))

-- emits a block's first 510 bytes, and can't go on where the first is 9, at a load from address 0; the
-- verifier refuses it:
-- ldxb r6, [r2+0]; jeq r6, 9, +5; mov r1, r2; mov r2, 510; call 1; mov r0, 0; exit; ldxdw r0, [r0+0]; exit
abbrev pub traps : List (Option Instruction)
traps = program_of (decoded_program (
    0x71 ∷ 0x26 ∷ replicate 6 0
    ++ 0x15 ∷ 0x06 ∷ 5 ∷ 0 ∷ 9 ∷ 0 ∷ 0 ∷ 0
    ∷ 0xbf ∷ 0x21 ∷ replicate 6 0
    ++ 0xb7 ∷ 0x02 ∷ 0 ∷ 0 ∷ 0xfe ∷ 0x01 ∷ 0 ∷ 0
    ∷ 0x85 ∷ 0 ∷ 0 ∷ 0 ∷ 1 ∷ 0 ∷ 0 ∷ 0
    ∷ move
    ++ leave
    ++ 0x79 ∷ replicate 7 0
    ++ leave))

-- goes back for ever, and is refused too: ja -1; exit
abbrev pub loops : List (Option Instruction)
loops = program_of (decoded_program (0x05 ∷ 0 ∷ 0xff ∷ 0xff ∷ replicate 4 0 ++ leave))

-- the frame that `sevens` emits of a block of 7 and zeros
abbrev pub frame : List ℕ
frame = 8 ∷ 0 ∷ 7 ∷ replicate 7 0

-- one program in slot 0
abbrev pub slots_with : List (Option Instruction) → ℕ → List (Option Loaded)
slots_with program limit = Some (record { program = program; limit = limit; result = no_scratch }) ∷ replicate 7 None

-- ---- namespaces

-- four zones of 8 blocks, of which 6 can be written; two may be open, and three active
abbrev pub four_zones : List ZoneWithBlocks → ZonedNamespace
four_zones zones = record { block = 512; size = 8; capacity = 6; limits = record { open_limit = 2; active_limit = 3 }; zones = zones }

-- two zones of 64 blocks
abbrev pub two_zones : List ZoneWithBlocks → ZonedNamespace
two_zones zones = record { block = 512; size = 64; capacity = 64; limits = record { open_limit = 2; active_limit = 2 }; zones = zones }

-- twelve zones of 8 blocks, of which ten may be open
abbrev pub twelve_zones : List ZoneWithBlocks → ZonedNamespace
twelve_zones zones = record { block = 512; size = 8; capacity = 8; limits = record { open_limit = 10; active_limit = 10 }; zones = zones }

-- ---- entries

-- a number below 256 as eight bytes
abbrev word : ℕ → List ℕ
word n = n ∷ replicate 7 0

-- an entry with this opcode, identifier, logical block, and further dwords
abbrev pub entry_of : ℕ → ℕ → ℕ → List ℕ → List ℕ
entry_of opcode cid lba more = opcode ∷ 0 ∷ cid ∷ 0 ∷ 1 ∷ 0 ∷ 0 ∷ 0 ∷ replicate 32 0 ++ word lba ++ more

-- Run of the program in slot 0, over this many blocks and one more
abbrev pub run_entry : ℕ → ℕ → ℕ → ℕ → List ℕ
run_entry cid lba more destination = entry_of 0xc0 cid lba (word more ++ word destination)
