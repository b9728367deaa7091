-- The bits of an entry that no field has are 0.
use Rattle.std.proofs.Common.{◌≡◌, ℕ, ◌^◌, ◌<◌, Bool, List, sym, subst, ◌∙◌, arith}
use Rattle.nvme_entry.specs.Encoding.{AreZero, unused}
use Rattle.common_definitions.specs.Bytes.{field}
use Rattle.nvme_entry.specs.steps.EntryFields.{HasFields}
use Rattle.nvme_entry.specs.declared.command.Command.TheVariants as command
use Rattle.nvme_entry.specs.declared.command.LoadCommand.{LoadCommand}
use Rattle.nvme_entry.specs.declared.command.Opcode.{Opcode}
use Rattle.nvme_entry.specs.declared.command.RunCommand.{RunCommand}
use Rattle.nvme_entry.specs.declared.command.StandardCommand.TheVariants.{Write, Send, Receive}
use Rattle.nvme_entry.specs.declared.encoding.CommandDwords.{CommandDwords}
use Rattle.nvme_entry.specs.declared.filter.ZoneFilter.{ZoneFilter}
use Rattle.zone_state.specs.declared.action.Action.{Action}

-- a field that is 0 has no bit that is set
none : (n : ℕ) → n ≡ 0 → n < 2 ^ 0
none n is = omega (arith, is)

-- a field that is a dword is below what the dword is below
fits : (n dword bits : ℕ) → n ≡ dword → dword < 2 ^ bits → n < 2 ^ bits
fits n dword bits is few = subst (λ (k : ℕ). k < 2 ^ bits) (sym is) few

-- two dwords that are 0 are so as one number
no_second : (entry : List ℕ) (o : Opcode) (cid : ℕ) (d : CommandDwords) → HasFields entry o cid d → d.cdw14 ≡ 0 → d.cdw15 ≡ 0 → field entry 56 8 < 2 ^ 0
no_second entry o cid d has none14 none15 = omega (arith, has.destination, none14, none15)

pub unused_transfer : (entry : List ℕ) (o : Opcode) (cid : ℕ) (d : CommandDwords) (lba blocks : ℕ) → HasFields entry o cid d → d.cdw12 < 2 ^ 16 → d.cdw13 ≡ 0 → d.cdw14 ≡ 0 → d.cdw15 ≡ 0
    → AreZero entry (unused (command.Standard (Write lba blocks)))
unused_transfer entry o cid d lba blocks has half none13 none14 none15 =
    (none _ has.second_byte, (none _ has.pointers, (fits _ d.cdw12 16 has.cdw12 half, (none _ (has.cdw13 ∙ none13), (no_second entry o cid d has none14 none15, tt)))))

pub unused_send : (entry : List ℕ) (o : Opcode) (cid : ℕ) (d : CommandDwords) (lba : ℕ) (what : Action) (all : Bool) → HasFields entry o cid d → d.cdw12 ≡ 0 → d.cdw13 < 2 ^ 9 → d.cdw14 ≡ 0 → d.cdw15 ≡ 0
    → AreZero entry (unused (command.Standard (Send lba what all)))
unused_send entry o cid d lba what all has none12 few none14 none15 =
    (none _ has.second_byte, (none _ has.pointers, (none _ (has.cdw12 ∙ none12), (fits _ d.cdw13 9 has.cdw13 few, (no_second entry o cid d has none14 none15, tt)))))

pub unused_receive : (entry : List ℕ) (o : Opcode) (cid : ℕ) (d : CommandDwords) (lba dwords : ℕ) (filter : ZoneFilter) (partial : Bool) → HasFields entry o cid d → d.cdw13 < 2 ^ 17 → d.cdw14 ≡ 0 → d.cdw15 ≡ 0
    → AreZero entry (unused (command.Standard (Receive lba dwords filter partial)))
unused_receive entry o cid d lba dwords filter partial has few none14 none15 =
    (none _ has.second_byte, (none _ has.pointers, (fits _ d.cdw13 17 has.cdw13 few, (no_second entry o cid d has none14 none15, tt))))

pub unused_run : (entry : List ℕ) (o : Opcode) (cid : ℕ) (d : CommandDwords) (run : RunCommand) → HasFields entry o cid d → d.cdw12 < 2 ^ 24
    → AreZero entry (unused (command.Run run))
unused_run entry o cid d run has few = (none _ has.second_byte, (none _ has.pointers, (fits _ d.cdw12 24 has.cdw12 few, tt)))

pub unused_load : (entry : List ℕ) (o : Opcode) (cid : ℕ) (d : CommandDwords) (load : LoadCommand) → HasFields entry o cid d → d.cdw13 ≡ 0 → d.cdw14 ≡ 0 → d.cdw15 ≡ 0
    → AreZero entry (unused (command.Load load))
unused_load entry o cid d load has none13 none14 none15 =
    (none _ has.second_byte, (none _ has.pointers, (none _ (has.cdw13 ∙ none13), (no_second entry o cid d has none14 none15, tt))))

pub unused_result : (entry : List ℕ) (o : Opcode) (cid : ℕ) (d : CommandDwords) (slot : ℕ) → HasFields entry o cid d → d.cdw11 ≡ 0 → d.cdw12 ≡ 0 → d.cdw13 ≡ 0 → d.cdw14 ≡ 0 → d.cdw15 ≡ 0
    → AreZero entry (unused (command.Result slot))
unused_result entry o cid d slot has none11 none12 none13 none14 none15 =
    (none _ has.second_byte, (none _ has.pointers, (none _ (has.cdw11 ∙ none11), (none _ (has.cdw12 ∙ none12), (none _ (has.cdw13 ∙ none13), (no_second entry o cid d has none14 none15, tt))))))
