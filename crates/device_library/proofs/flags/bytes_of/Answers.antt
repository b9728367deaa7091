use Rattle.std.proofs.Common.{◌≡◌, length, map, sym, take, ap, ◌∙◌, arith}
use Rattle.std.proofs.lemmas.List.{length-set, take_all}
use Rattle.device_library.specs.Flags.{byte_of}
use Rattle.device_library.proofs.Mapped.{mapped_more}
use Rattle.device_library.proofs.flags.bytes_of.Goals as goal

pub loop-place-preserved : goal.loop-place-preserved
loop-place-preserved c =
    let l = c.loop-place in
    record {
      bytes = mapped_more byte_of c.args.flags l.bytes l.place c.byte_of.result _ (omega arith) (omega arith) l.invariant.bytes c.byte_of.ensures;
      all = length-set l.bytes l.place c.byte_of.result ∙ l.invariant.all;
    }

pub returns : goal.returns
returns c =
    let l = c.loop-place in
    let all = take_all l.place c.args.flags (omega arith) in
    sym (take_all l.place l.bytes (omega arith)) ∙ (l.invariant.bytes ∙ ap (map byte_of) all)
