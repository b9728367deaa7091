use Rattle.std.proofs.Common.{ℕ, ap, ◌∙◌, ◌-◌, drop, length, take}
use Rattle.std.proofs.lemmas.List.{take_rest}
use Rattle.record_questions.proofs.ChunkSizes.{slots_after}
use Rattle.record_questions.proofs.chunks.after_chunk.Goals as goal

pub returns-clause-slots : goal.returns-clause-slots
returns-clause-slots c =
    let xs = c.args.bytes.now in
    let n = c.from.result in
    slots_after xs (take (length xs - n) (drop n xs)) c.args.size c.requires.some c.requires.first
    (take_rest xs n ∙ ap (λ (k : ℕ). drop k xs) (c.from.ensures ∙ c.bytes_of.ensures.value))
