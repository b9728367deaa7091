use Rattle.std.proofs.Common.{List, [], ◌∷◌, ℕ, ap, ◌∙◌}
use Rattle.device_meaning.specs.Happenings.{added}
use Rattle.runner.proofs.Appends.{one_appended}
use Rattle.runner.proofs.turn.release.Goals as goal

pub returns-clause-namespace : goal.returns-clause-namespace
returns-clause-namespace c =
    let ns = c.args.namespace.now in
    let z = c.args.active.now.destination in
    c.append_blocks.ensures
    ∙ one_appended ns z c.padded.result.now c.requires.room.some (c.padded.ensures.whole ∙ c.requires.block)
    ∙ ap (λ (bytes : List ℕ). added ns z (bytes ∷ [])) c.padded.ensures.value
