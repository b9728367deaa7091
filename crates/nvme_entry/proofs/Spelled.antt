-- An entry that is decoded spells its command, and one that spells a command is decoded to it.
use Rattle.std.proofs.Common.{◌≡◌, ℕ, ◌+◌, ◌*◌, ◌%◌, ◌==◌, nat_le, nat_lt, Bool, true, false, cond, List, Option, Some, None, Ok, slice_index, refl, ap, sym, subst, ◌∙◌, ◌≤◌, ◌<◌, arith}
use Rattle.std.specs.Option.{ok_or, option_and_then, option_map}
use Rattle.std.proofs.lemmas.Bool.{eqb-true, leb-true, le-leb, lt-ltb, ltb-true}
use Rattle.std.proofs.lemmas.Option.{cond_some, option_and_then_some}
use Rattle.zone_state.specs.declared.action.Action.{Action}
use Rattle.zone_state.specs.declared.status.TheConstants.Status.{INVALID_FIELD_IN_COMMAND, INVALID_NAMESPACE_OR_FORMAT}
use Rattle.zone_state.specs.Transition.{action_of}
use Rattle.common_definitions.proofs.Proved.{demanded, found_where_ok, no_fault, passed as check_passed}
use Rattle.common_definitions.specs.Checks.{first_failed}
use Rattle.nvme_entry.specs.Entry.{asked, asked_blocks, command_of, decoded_by, dwords_of, entry_checks, fuse_of, namespace_identifier, opcode_of, starting_lba}
use Rattle.nvme_entry.specs.EntryLaws.{AsksFor, FieldsAreSpelled, SpelledEntriesAreDecoded, Spells}
use Rattle.common_definitions.specs.Bytes.{field}
use Rattle.nvme_entry.specs.Dwords.{dword}
use Rattle.nvme_entry.specs.Filter.{filter_of}
use Rattle.nvme_entry.specs.ProgramSlot.{program_slot_of}
use Rattle.nvme_entry.specs.declared.command.Command.{Command}
use Rattle.nvme_entry.specs.declared.command.Command.TheVariants as command
use Rattle.nvme_entry.specs.declared.command.Opcode.{Opcode}
use Rattle.nvme_entry.specs.declared.command.Opcode.TheVariants as opcode
use Rattle.nvme_entry.specs.declared.command.StandardCommand.TheVariants.{Write, Read, Send, Receive, Append}
use Rattle.nvme_entry.specs.declared.command.TheConstants.{MOST_TRANSFER}
use Rattle.nvme_entry.specs.declared.filter.ZoneFilter.{ZoneFilter}
use Rattle.nvme_entry.proofs.Encodings.{decoded_is}
use Rattle.nvme_entry.proofs.Opcodes.{code_told, opcode_code}

one : (P : Command → Type 0) (x c : Command) → P x → Some x ≡ Some c → P c
one P x c has e =
    let same : x ≡ c = cc in
    subst P same has

mapped : {X : Type 0} (P : Command → Type 0) (f : X → Command) (o : Option X) (c : Command) → ((x : X) → o ≡ Some x → P (f x)) → option_map f o ≡ Some c → P c
mapped P f None c each e = absurd cc
mapped P f (Some x) c each e = one P (f x) c (each x refl) e

passed : (P : Command → Type 0) (test : Bool) (found : Option Command) (c : Command) → (test ≡ true → found ≡ Some c → P c) → cond test found None ≡ Some c → P c
passed P true found c each e = each refl e
passed P false found c each e = absurd cc

-- a slot that there is
slot_told : (number slot : ℕ) → program_slot_of number ≡ Some slot → (slot ≡ number) × (slot < 8)
slot_told number slot e =
    let told = cond_some (nat_lt number 8) number slot e in
    let few = ltb-true number 8 told.0 in (sym told.1, omega (arith, told.1, few))

-- a number of dwords that one command moves
pub count_told : (count dwords : ℕ) → dwords_of count ≡ Some dwords → (dwords ≡ count + 1) × (4 * dwords ≤ MOST_TRANSFER)
count_told count dwords e =
    let told = cond_some (nat_le (4 * (count + 1)) MOST_TRANSFER) (count + 1) dwords e in
    let few = leb-true (4 * (count + 1)) MOST_TRANSFER told.0 in (sym told.1, omega (arith, told.1, few))

pub spelled_by : (o : Opcode) (entry : List ℕ) (c : Command) → slice_index entry 0 ≡ opcode_code o → command_of o entry ≡ Some c → Spells entry c
spelled_by opcode.Write entry c is e = one (Spells entry) (command.Standard (Write (starting_lba entry) (asked_blocks entry))) c (is, refl, refl) e
spelled_by opcode.Read entry c is e = one (Spells entry) (command.Standard (Read (starting_lba entry) (asked_blocks entry))) c (is, refl, refl) e
spelled_by opcode.ZoneAppend entry c is e = one (Spells entry) (command.Standard (Append (starting_lba entry) (asked_blocks entry))) c (is, refl, refl) e
spelled_by opcode.ZoneManagementSend entry c is e =
    mapped (Spells entry) (λ (what : Action). command.Standard (Send (starting_lba entry) what (slice_index entry 53 % 2 == 1))) (action_of (slice_index entry 52)) c
    (λ what told. (is, refl, told, refl)) e
spelled_by opcode.ZoneManagementReceive entry c is e =
    let made = λ (dwords : ℕ) (filter : ZoneFilter). command.Standard (Receive (starting_lba entry) dwords filter (slice_index entry 54 % 2 == 1)) in
    option_and_then_some (λ (dwords : ℕ). cond (slice_index entry 52 == 0x00) (option_map (made dwords) (filter_of (slice_index entry 53))) None) (dwords_of (dword entry 12)) c e
    (λ dwords count. passed (Spells entry) (slice_index entry 52 == 0x00) (option_map (made dwords) (filter_of (slice_index entry 53))) c
    (λ reports. mapped (Spells entry) (made dwords) (filter_of (slice_index entry 53)) c
    (λ filter told.
    let number = count_told (dword entry 12) dwords count in
    (is, refl, number.0, number.1, eqb-true (slice_index entry 52) 0x00 reports, told, refl))))
spelled_by opcode.Run entry c is e =
    mapped (Spells entry)
    (λ (slot : ℕ). command.Run record { lba = starting_lba entry; blocks = asked_blocks entry; slot = slot; argument = dword entry 13; destination = field entry 56 8 })
    (program_slot_of (slice_index entry 50)) c
    (λ slot told. let number = slot_told (slice_index entry 50) slot told in (is, refl, refl, number.0, number.1, refl, refl)) e
spelled_by opcode.Load entry c is e =
    let made = λ (slot : ℕ). command.Load record { slot = slot; limit = dword entry 11; bytes = dword entry 12 } in
    passed (Spells entry) (nat_le (dword entry 12) MOST_TRANSFER) (option_map made (program_slot_of (dword entry 10))) c
    (λ fits. mapped (Spells entry) made (program_slot_of (dword entry 10)) c
    (λ slot told.
    let number = slot_told (dword entry 10) slot told in
    (is, number.0, number.1, refl, refl, leb-true (dword entry 12) MOST_TRANSFER fits)))
    e
spelled_by opcode.Result entry c is e =
    mapped (Spells entry) (λ (slot : ℕ). command.Result slot) (program_slot_of (dword entry 10)) c
    (λ slot told. let number = slot_told (dword entry 10) slot told in (is, number.0, number.1)) e

decoded_as : (entry : List ℕ) (found : Option Opcode) (c : Command) → opcode_of (slice_index entry 0) ≡ found → decoded_by found entry ≡ Ok c
    → AsksFor entry c
decoded_as entry None c is e = absurd cc
decoded_as entry (Some o) c is e =
    let checks = entry_checks entry in
    let read = no_fault (first_failed checks) (asked o entry) c e in (
      eqb-true (fuse_of entry) 0 (demanded (fuse_of entry == 0) INVALID_FIELD_IN_COMMAND (check_passed checks 0 read.0)),
      eqb-true (namespace_identifier entry) 1 (demanded (namespace_identifier entry == 1) INVALID_NAMESPACE_OR_FORMAT (check_passed checks 1 read.0)),
      spelled_by o entry c (code_told (slice_index entry 0) o is) (found_where_ok (command_of o entry) INVALID_FIELD_IN_COMMAND c read.1),
    )

pub fields_are_spelled : FieldsAreSpelled
fields_are_spelled entry c e = decoded_as entry (opcode_of (slice_index entry 0)) c refl e

-- the opcode and the fields of an entry name a command
pub record Names (entry : List ℕ) (c : Command) : Type 0 where
  pub named : Opcode
  pub is : opcode_of (slice_index entry 0) ≡ Some named
  pub command : command_of named entry ≡ Some c

count_back : (count dwords : ℕ) → dwords ≡ count + 1 → 4 * dwords ≤ MOST_TRANSFER → dwords_of count ≡ Some dwords
count_back count dwords is few =
    ap (λ (b : Bool). cond b (Some (count + 1)) None) (le-leb (4 * (count + 1)) MOST_TRANSFER (omega (arith, is, few)))
    ∙ ap (λ (n : ℕ). Some n) (sym is)

-- the slot of a field, where it is one that there is
slot_is : (number slot : ℕ) → slot ≡ number → slot < 8 → program_slot_of number ≡ Some slot
slot_is number slot is few = ap program_slot_of (sym is) ∙ ap (λ (b : Bool). cond b (Some slot) None) (lt-ltb slot 8 few)

-- the report that is asked for, of so many dwords and with a filter, if there is one
abbrev reported : List ℕ → ℕ → Option ZoneFilter → Option Command
reported entry dwords told = option_map (λ (filter : ZoneFilter). command.Standard (Receive (starting_lba entry) dwords filter (slice_index entry 54 % 2 == 1))) told

-- what an entry spells is what its fields name
pub named_by : (c : Command) (entry : List ℕ) → Spells entry c → Names entry c
named_by (command.Standard (Write lba blocks)) entry h = record { named = opcode.Write; is = ap opcode_of h.0; command = rw (h.1, h.2) refl }
named_by (command.Standard (Read lba blocks)) entry h = record { named = opcode.Read; is = ap opcode_of h.0; command = rw (h.1, h.2) refl }
named_by (command.Standard (Append lba blocks)) entry h = record { named = opcode.ZoneAppend; is = ap opcode_of h.0; command = rw (h.1, h.2) refl }
named_by (command.Standard (Send lba action select_all)) entry h = record {
  named = opcode.ZoneManagementSend;
  is = ap opcode_of h.0;
  command = rw (h.2, h.1, h.3) refl;
}
named_by (command.Standard (Receive lba dwords filter partial)) entry h =
    let count = count_back (dword entry 12) dwords h.2 h.3 in
    record {
      named = opcode.ZoneManagementReceive;
      is = ap opcode_of h.0;
      command =
          ap (λ (o : Option ℕ). option_and_then (λ (k : ℕ). cond (slice_index entry 52 == 0) (reported entry k (filter_of (slice_index entry 53))) None) o) count
          ∙ (ap (λ (n : ℕ). cond (n == 0) (reported entry dwords (filter_of (slice_index entry 53))) None) h.4
          ∙ (ap (reported entry dwords) h.5
          ∙ (ap (λ (n : ℕ). Some (command.Standard (Receive n dwords filter (slice_index entry 54 % 2 == 1)))) (sym h.1)
          ∙ ap (λ (b : Bool). Some (command.Standard (Receive lba dwords filter b))) (sym h.6))));
    }
named_by (command.Run run) entry h =
    let found = slot_is (slice_index entry 50) run.slot h.3 h.4 in
    record {
      named = opcode.Run;
      is = ap opcode_of h.0;
      command =
          ap (λ (o : Option ℕ). option_map (λ (n : ℕ). command.Run record { lba = starting_lba entry; blocks = asked_blocks entry; slot = n; argument = dword entry 13; destination = field entry 56 8 }) o) found
          ∙ (ap (λ (n : ℕ). Some (command.Run record { lba = n; blocks = asked_blocks entry; slot = run.slot; argument = dword entry 13; destination = field entry 56 8 })) (sym h.1)
          ∙ (ap (λ (n : ℕ). Some (command.Run record { lba = run.lba; blocks = n; slot = run.slot; argument = dword entry 13; destination = field entry 56 8 })) (sym h.2)
          ∙ (ap (λ (n : ℕ). Some (command.Run record { lba = run.lba; blocks = run.blocks; slot = run.slot; argument = n; destination = field entry 56 8 })) (sym h.5)
          ∙ ap (λ (n : ℕ). Some (command.Run record { lba = run.lba; blocks = run.blocks; slot = run.slot; argument = run.argument; destination = n })) (sym h.6))));
    }
named_by (command.Load load) entry h =
    let found = slot_is (dword entry 10) load.slot h.1 h.2 in
    let fits = le-leb (dword entry 12) MOST_TRANSFER (omega (arith, h.4, h.5)) in
    record {
      named = opcode.Load;
      is = ap opcode_of h.0;
      command =
          ap (λ (b : Bool). cond b (option_map (λ (n : ℕ). command.Load record { slot = n; limit = dword entry 11; bytes = dword entry 12 }) (program_slot_of (dword entry 10))) None) fits
          ∙ (ap (λ (o : Option ℕ). option_map (λ (n : ℕ). command.Load record { slot = n; limit = dword entry 11; bytes = dword entry 12 }) o) found
          ∙ (ap (λ (n : ℕ). Some (command.Load record { slot = load.slot; limit = n; bytes = dword entry 12 })) (sym h.3)
          ∙ ap (λ (n : ℕ). Some (command.Load record { slot = load.slot; limit = load.limit; bytes = n })) (sym h.4)));
    }
named_by (command.Result slot) entry h = record {
  named = opcode.Result;
  is = ap opcode_of h.0;
  command = ap (λ (o : Option ℕ). option_map (λ (n : ℕ). command.Result n) o) (slot_is (dword entry 10) slot h.1 h.2);
}

pub spelled_entries_are_decoded : SpelledEntriesAreDecoded
spelled_entries_are_decoded entry c asks =
    let names = named_by c entry asks.2 in
    decoded_is entry names.named names.is asks.0 asks.1 ∙ ap (λ (o : Option Command). ok_or o INVALID_FIELD_IN_COMMAND) names.command
