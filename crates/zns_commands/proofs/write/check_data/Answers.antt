use Rattle.std.proofs.Common.{◌≡◌, ◌*◌, length, ◌∙◌}
use Rattle.std.proofs.lemmas.Result.{on_ok_weaker}
use Rattle.zns_commands.proofs.WrittenZones.{count_of}
use Rattle.zns_commands.proofs.write.check_data.Goals as goal

pub returns-clause-whole : goal.returns-clause-whole
returns-clause-whole c =
    let bytes = c.bytes_of_blocks-bytes.ensures in
    on_ok_weaker c.check_transfer.result
    (λ whole.
    let size : length c.args.input.now ≡ c.args.blocks * c.args.image.now.block = whole ∙ bytes.value in
    record { count = count_of c.args.blocks c.args.image.now.block c.args.input.now bytes.some size; size = size })
    c.check_transfer.ensures.whole
