use Rattle.std.proofs.Common.{◌∙◌, rules, w16, w64}
use Rattle.std.proofs.lemmas.Int.{to_z-of_z}
use Rattle.ebpf_link.proofs.StoredWords.{all, in_scratch}
use Rattle.ebpf_link.proofs.scratch_words.words_at.Goals as goal

pub returns-in-None : goal.returns-in-None
returns-in-None c = rw c.in-None.is all

pub returns-in-Some-2 : goal.returns-in-Some-2
returns-in-Some-2 c =
    rw c.in-Some-2.is
    (in_scratch c.in-Some-2.told c.args.offset _ _ _ c.args.size c.words_in_scratch.result (search rules)
    (to_z-of_z w64 c.least.result (record { sfits = c.least.type_inv }) ∙ c.least.ensures)
    (to_z-of_z w64 c.greatest.result (record { sfits = c.greatest.type_inv }) ∙ c.greatest.ensures)
    (to_z-of_z w16 c.args.offset c.ranges.offset) c.words_in_scratch.ensures)
