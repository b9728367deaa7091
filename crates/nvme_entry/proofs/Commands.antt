-- The commands that the fields of an entry tell.
use Rattle.std.proofs.Common.{◌≡◌, ℕ, ◌+◌, ◌*◌, ◌%◌, ◌^◌, ◌<◌, ◌≤◌, ◌==◌, Bool, true, false, List, Some, Ok, slice_index, ap, sym, ◌∙◌, arith}
use mir.Val.{bool_byte}
use Rattle.zone_state.specs.declared.action.Action.{Action}
use Rattle.nvme_entry.specs.steps.EntryFields.{HasFields}
use Rattle.zone_state.specs.Transition.{action_of}
use Rattle.nvme_entry.specs.Entry.{asked_blocks, decoded, dwords_of}
use Rattle.nvme_entry.specs.EntryLaws.{Spells}
use Rattle.nvme_entry.specs.Dwords.{dword}
use Rattle.nvme_entry.specs.Filter.{filter_of}
use Rattle.nvme_entry.specs.declared.command.Command.{Command}
use Rattle.nvme_entry.specs.declared.command.Command.TheVariants as command
use Rattle.nvme_entry.specs.declared.command.LoadCommand.{LoadCommand}
use Rattle.nvme_entry.specs.declared.command.Opcode.{Opcode}
use Rattle.nvme_entry.specs.declared.command.Opcode.TheVariants as opcode
use Rattle.nvme_entry.specs.declared.command.RunCommand.{RunCommand}
use Rattle.nvme_entry.specs.declared.command.StandardCommand.TheVariants.{Send, Receive}
use Rattle.nvme_entry.specs.declared.command.TheConstants.{MOST_TRANSFER}
use Rattle.nvme_entry.specs.declared.encoding.CommandDwords.{CommandDwords}
use Rattle.nvme_entry.specs.declared.filter.ZoneFilter.{ZoneFilter}
use Rattle.nvme_entry.proofs.Encodings.{fuse_is}
use Rattle.nvme_entry.proofs.Opcodes.{code_told, opcode_code}
use Rattle.nvme_entry.proofs.Spelled.{count_told, spelled_entries_are_decoded}

flag_back : (flag : Bool) (n : ℕ) → n ≡ bool_byte flag → flag ≡ (n % 2 == 1)
flag_back true n is = ap (λ (k : ℕ). k % 2 == 1) (sym is)
flag_back false n is = ap (λ (k : ℕ). k % 2 == 1) (sym is)

pub bit_small : (flag : Bool) → bool_byte flag ≤ 1
bit_small true = omega arith
bit_small false = omega arith

-- an entry is decoded to the command that it spells behind its opcode's code
told : (entry : List ℕ) (o : Opcode) (cid : ℕ) (d : CommandDwords) (c : Command) → HasFields entry o cid d → (slice_index entry 0 ≡ opcode_code o → Spells entry c)
    → decoded entry ≡ Ok c
told entry o cid d c has spells = spelled_entries_are_decoded entry c (fuse_is entry has.second_byte, has.namespace, spells (code_told (slice_index entry 0) o has.code))

pub told_send : (entry : List ℕ) (d : CommandDwords) (cid lba code : ℕ) (what : Action) (all : Bool) → HasFields entry opcode.ZoneManagementSend cid d
    → d.cdw10 + d.cdw11 * 2 ^ 32 ≡ lba → d.cdw13 ≡ code + bool_byte all * 2 ^ 8 → code < 2 ^ 8 → action_of code ≡ Some what
    → decoded entry ≡ Ok (command.Standard (Send lba what all))
told_send entry d cid lba code what all has is_lba is_13 small is_what =
    let bounded = bit_small all in
    let low : slice_index entry 52 ≡ code = omega (arith, has.first_of_13) in
    let next : slice_index entry 53 ≡ bool_byte all = omega (arith, has.second_of_13) in
    told entry opcode.ZoneManagementSend cid d (command.Standard (Send lba what all)) has
    (λ is. (is, sym (has.starting_lba ∙ is_lba), ap action_of low ∙ is_what, flag_back all (slice_index entry 53) next))

pub told_receive : (entry : List ℕ) (d : CommandDwords) (cid lba dwords code : ℕ) (filter : ZoneFilter) (partial : Bool) → HasFields entry opcode.ZoneManagementReceive cid d
    → d.cdw10 + d.cdw11 * 2 ^ 32 ≡ lba → dwords_of d.cdw12 ≡ Some dwords → d.cdw13 ≡ code * 2 ^ 8 + bool_byte partial * 2 ^ 16 → code < 2 ^ 8 → filter_of code ≡ Some filter
    → decoded entry ≡ Ok (command.Standard (Receive lba dwords filter partial))
told_receive entry d cid lba dwords code filter partial has is_lba is_dwords is_13 small is_which =
    let bounded = bit_small partial in
    let low : slice_index entry 52 ≡ 0 = omega (arith, has.first_of_13) in
    let next : slice_index entry 53 ≡ code = omega (arith, has.second_of_13) in
    let third : slice_index entry 54 ≡ bool_byte partial = omega (arith, has.third_of_13) in
    let count = count_told (dword entry 12) dwords (ap dwords_of has.cdw12 ∙ is_dwords) in
    told entry opcode.ZoneManagementReceive cid d (command.Standard (Receive lba dwords filter partial)) has
    (λ is. (is, sym (has.starting_lba ∙ is_lba), count.0, count.1, low, ap filter_of next ∙ is_which, flag_back partial (slice_index entry 54) third))

pub told_result : (entry : List ℕ) (d : CommandDwords) (cid slot : ℕ) → HasFields entry opcode.Result cid d → d.cdw10 ≡ slot → slot < 8
    → decoded entry ≡ Ok (command.Result slot)
told_result entry d cid slot has is_slot few =
    told entry opcode.Result cid d (command.Result slot) has (λ is. (is, sym (has.cdw10 ∙ is_slot), few))

pub told_load : (entry : List ℕ) (d : CommandDwords) (cid : ℕ) (load : LoadCommand) → HasFields entry opcode.Load cid d → d.cdw10 ≡ load.slot → load.slot < 8
    → d.cdw11 ≡ load.limit → d.cdw12 ≡ load.bytes → load.bytes ≤ MOST_TRANSFER
    → decoded entry ≡ Ok (command.Load load)
told_load entry d cid load has is_slot few is_limit is_bytes fits =
    told entry opcode.Load cid d (command.Load load) has
    (λ is. (is, sym (has.cdw10 ∙ is_slot), few, sym (has.cdw11 ∙ is_limit), sym (has.cdw12 ∙ is_bytes), fits))

pub told_run : (entry : List ℕ) (d : CommandDwords) (cid field_12 : ℕ) (run : RunCommand) → HasFields entry opcode.Run cid d → d.cdw10 + d.cdw11 * 2 ^ 32 ≡ run.lba
    → field_12 + 1 ≡ run.blocks → field_12 < 2 ^ 16 → d.cdw12 ≡ field_12 + run.slot * 2 ^ 16 → run.slot < 8 → d.cdw13 ≡ run.argument → d.cdw14 + d.cdw15 * 2 ^ 32 ≡ run.destination
    → decoded entry ≡ Ok (command.Run run)
told_run entry d cid field_12 run has is_lba is_blocks half is_12 few is_argument is_destination =
    let third : run.slot ≡ slice_index entry 50 = omega (arith, has.third_byte) in
    let blocks : run.blocks ≡ asked_blocks entry = omega (arith, has.low_half) in
    told entry opcode.Run cid d (command.Run run) has
    (λ is. (is, sym (has.starting_lba ∙ is_lba), blocks, third, few, sym (has.cdw13 ∙ is_argument), sym (has.destination ∙ is_destination)))
