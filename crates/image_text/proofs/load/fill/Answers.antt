use Rattle.std.proofs.Common.{◌-◌, length, ◌∙◌}
use Rattle.image_text.proofs.FilledBuffers.{fill_bytes, fill_within}
use Rattle.image_text.proofs.load.fill.Goals as goal

pub loop-at-preserved : goal.loop-at-preserved
loop-at-preserved g c =
    let l = c.loop-at in
    let left = length l.to - l.at in
    let read = c.in_ok-count.ensures in
    record {
      bytes = λ told. fill_bytes l.at c.in_ok-count.count left l.to c.read.new.to (g.R.Source.rest c.args.source.now) (g.R.Source.rest l.source) (g.R.Source.rest c.read.new.self) l.invariant.within read.bound (l.invariant.bytes told) (read.read told);
      within = fill_within l.at c.in_ok-count.count left l.to c.read.new.to l.invariant.within read.bound;
      count = read.count ∙ l.invariant.count;
    }
