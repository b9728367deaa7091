use Rattle.std.proofs.Common.{rules, ◌≡◌, ◌++◌, map}
use Rattle.durable_machine.specs.Batches.{bytes_of}
use Rattle.kept_device.specs.Kept.{place_told, slot_told}
use Rattle.durable_device.specs.Machine.{SpellPrograms, SpellRuns}
use Rattle.durable_device.proofs.Kept.{joined_spell}
use Rattle.durable_device.proofs.sections.sections_of.Goals as goal

pub returns-clause-spelled : goal.returns-clause-spelled
returns-clause-spelled c =
    let kept = c.args.kept.now in
    let front = c.in_ok-sections.sections.items in
    let behind = c.in_ok-run_sections.field-0.items in
    let programs : SpellPrograms (bytes_of front) (map slot_told kept.programs.items) = search rules in
    let runs : SpellRuns (bytes_of behind) (map place_told kept.runs.items) = search rules in
    let all : c.append.new.self.items ≡ front ++ behind = search rules in
    joined_spell front behind c.append.new.self.items kept c.requires.programs programs runs all
