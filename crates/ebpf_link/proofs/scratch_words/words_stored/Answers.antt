use Rattle.std.proofs.Common.{◌∙◌, sym, w16}
use Rattle.std.proofs.lemmas.Int.{to_z-of_z}
use Rattle.ebpf_link.proofs.StoredWords.{stored_covered}
use Rattle.ebpf_link.proofs.scratch_words.words_stored.Goals as goal

pub returns-in-Store : goal.returns-in-Store
returns-in-Store c =
    let offset = to_z-of_z w16 c.offset_of.result (record { sfits = c.offset_of.type_inv }) in
    stored_covered c.args.known.now.facts c.args.instruction.now c.in-Some.access c.get.result c.offsets-told.result _ c.words_at.result
    (sym c.in-Some.ensures) c.get.ensures c.offsets-told.ensures (offset ∙ c.offset_of.ensures) c.words_at.ensures
