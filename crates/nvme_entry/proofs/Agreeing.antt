-- Entries that agree in opcode, FUSE and namespace, and in what they spell, are decoded alike.
use Rattle.std.proofs.Common.{◌≡◌, ℕ, ◌==◌, List, [], ◌∷◌, Option, Some, None, slice_index, refl, ap, sym, subst, ◌∙◌}
use Rattle.std.proofs.lemmas.Option.{same_Some}
use Rattle.std.specs.Option.{ok_or}
use Rattle.zone_state.specs.declared.status.TheConstants.Status.{INVALID_FIELD_IN_COMMAND, INVALID_NAMESPACE_OR_FORMAT}
use Rattle.common_definitions.specs.Readings.{unless_fault}
use Rattle.common_definitions.specs.Checks.{demand, first_failed}
use Rattle.nvme_entry.specs.Entry.{asked, command_of, decoded_by, entry_checks, fuse_of, namespace_identifier, opcode_of}
use Rattle.nvme_entry.specs.EntryLaws.{OnlyNamedFieldsCount, Spells}
use Rattle.nvme_entry.specs.declared.command.Command.{Command}
use Rattle.nvme_entry.specs.declared.command.Opcode.{Opcode}
use Rattle.nvme_entry.proofs.Opcodes.{code_told}
use Rattle.nvme_entry.proofs.Spelled.{named_by, spelled_by}

-- two that are some for the same commands are one
same_found : (a b : Option Command) → ((c : Command) → a ≡ Some c → b ≡ Some c) → ((c : Command) → b ≡ Some c → a ≡ Some c) → a ≡ b
same_found (Some c) b there back = sym (there c refl)
same_found None (Some d) there back = back d refl
same_found None None there back = refl

-- where the entry spells what another does, its fields name what the other's do
names_too : (o : Opcode) (e f : List ℕ) → opcode_of (slice_index e 0) ≡ Some o → opcode_of (slice_index f 0) ≡ Some o → ((c : Command) → Spells e c → Spells f c)
    → (c : Command) → command_of o e ≡ Some c → command_of o f ≡ Some c
names_too o e f is too spells c named =
    let names = named_by c f (spells c (spelled_by o e c (code_told (slice_index e 0) o is) named)) in
    let same : names.named ≡ o = same_Some names.named o (sym names.is ∙ too) in
    subst (λ (x : Opcode). command_of x f ≡ Some c) same names.command

decoded_same : (found : Option Opcode) (e f : List ℕ) → opcode_of (slice_index e 0) ≡ found → opcode_of (slice_index f 0) ≡ found → fuse_of e ≡ fuse_of f → namespace_identifier e ≡ namespace_identifier f
    → ((c : Command) → (Spells e c → Spells f c) × (Spells f c → Spells e c)) → decoded_by found e ≡ decoded_by found f
decoded_same None e f is too fuse namespace fields = refl
decoded_same (Some o) e f is too fuse namespace fields =
    ap (λ (n : ℕ). unless_fault (first_failed (demand (n == 0) INVALID_FIELD_IN_COMMAND ∷ demand (namespace_identifier e == 1) INVALID_NAMESPACE_OR_FORMAT ∷ [])) (asked o e)) fuse
    ∙ ap (λ (n : ℕ). unless_fault (first_failed (demand (fuse_of f == 0) INVALID_FIELD_IN_COMMAND ∷ demand (n == 1) INVALID_NAMESPACE_OR_FORMAT ∷ [])) (asked o e)) namespace
    ∙ ap (λ (c : Option Command). unless_fault (first_failed (entry_checks f)) (ok_or c INVALID_FIELD_IN_COMMAND))
    (same_found (command_of o e) (command_of o f) (names_too o e f is too (λ c. (fields c).0)) (names_too o f e too is (λ c. (fields c).1)))

pub only_named_fields_count : OnlyNamedFieldsCount
only_named_fields_count entry other agree =
    decoded_same (opcode_of (slice_index entry 0)) entry other refl (ap opcode_of (sym agree.opcode)) agree.fuse agree.namespace agree.fields
    ∙ ap (λ (n : ℕ). decoded_by (opcode_of n) other) agree.opcode
