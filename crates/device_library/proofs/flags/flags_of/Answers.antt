use Rattle.std.proofs.Common.{◌≡◌, length, map, sym, take, ap, ◌∙◌, arith}
use Rattle.std.proofs.lemmas.List.{length-set, take_all}
use Rattle.device_library.specs.Flags.{is_set}
use Rattle.device_library.proofs.Mapped.{mapped_more}
use Rattle.device_library.proofs.flags.flags_of.Goals as goal

pub loop-place-preserved : goal.loop-place-preserved
loop-place-preserved c =
    let l = c.loop-place in
    record {
      flags = mapped_more is_set c.args.bytes l.flags l.place c.is_set.result _ (omega arith) (omega arith) l.invariant.flags c.is_set.ensures;
      all = length-set l.flags l.place c.is_set.result ∙ l.invariant.all;
    }

pub returns : goal.returns
returns c =
    let l = c.loop-place in
    let all = take_all l.place c.args.bytes (omega arith) in
    sym (take_all l.place l.flags (omega arith)) ∙ (l.invariant.flags ∙ ap (map is_set) all)
