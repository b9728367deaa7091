use Rattle.std.proofs.Common.{rules, ◌≡◌, length, vec_len, ◌∙◌, ap}
use Rattle.durable_machine.specs.Files.{whole_sectors}
use Rattle.device_salvage.proofs.NewJournal.{base_alone}
use Rattle.device_salvage.proofs.new_journal.Goals as goal

pub returns : goal.returns
returns c =
    let base = c.in_ok-file.file in
    let counted : vec_len base ≡ length base.items = search rules in
    let size : c.in_sectors-front.result ≡ whole_sectors (length base.items) = c.in_sectors-front.ensures ∙ ap whole_sectors (search rules) in
    base_alone base.items c.resize.new.self.items c.args.device.now c.in_sectors-front.result (vec_len base) c.in_ok-file.ensures size counted
    c.in_ok-resize.ensures.items
