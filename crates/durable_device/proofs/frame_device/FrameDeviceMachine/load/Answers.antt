use Rattle.std.proofs.Common.{rules, map}
use Rattle.durable_machine.specs.Bases.{BeginsBase}
use Rattle.durable_machine.specs.Batches.{bytes_of}
use Rattle.image_base.specs.Base.{IsBaseOf}
use Rattle.image_base.specs.Loaded.{told_by}
use Rattle.kept_device.specs.Kept.{place_told, slot_told}
use Rattle.runner.specs.Restored.{TellNone}
use Rattle.durable_device.specs.Spelled.{SpellKept, SpellNothingKept}
use Rattle.durable_device.proofs.Kept.{damaged_device, no_device, unrestored_device}
use Rattle.durable_device.proofs.frame_device.FrameDeviceMachine.load.Goals as goal

pub returns-in_default : goal.returns-in_default
returns-in_default c = no_device c.args.file.now (rw c.in_default.is at c.in_ok-base.ensures)

pub returns-in-Err-Damaged : goal.returns-in-Err-Damaged
returns-in-Err-Damaged c =
    let base = c.in-Some.base in
    let begins : BeginsBase IsBaseOf (told_by base) c.in-Some.length c.args.file.now = search rules in
    let nothing : SpellNothingKept (bytes_of base.sections.items) = search rules in
    damaged_device c.args.file.now (told_by base) c.in-Some.length begins nothing

pub returns-in_default-2 : goal.returns-in_default-2
returns-in_default-2 c =
    let base = c.in-Some.base in
    let kept = c.in-Ok.kept in
    let begins : BeginsBase IsBaseOf (told_by base) c.in-Some.length c.args.file.now = search rules in
    let spell : SpellKept (bytes_of base.sections.items) kept = search rules in
    let none : TellNone base.image (map slot_told kept.programs.items) (map place_told kept.runs.items) = search rules in
    unrestored_device c.args.file.now (told_by base) c.in-Some.length begins kept spell none
