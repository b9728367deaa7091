use Rattle.std.proofs.Common.{length}
use Rattle.image_text.proofs.SameTexts.{has_room, is_within, none_came, others_came, same_came, tell_others, tell_same}
use Rattle.image_text.proofs.same_text.compare_piece.Goals.{then-count-eq0-via-then-count-eq0, then-count-eq0-via-else-count-eq0+then-ne}
use Rattle.image_text.proofs.same_text.compare_piece.Goals as goal

pub returns-then-count-eq0-clause-compares : goal.returns-then-count-eq0-clause-compares
returns-then-count-eq0-clause-compares g c = λ told.
    let before = g.R.Source.rest c.args.source.now in
    let after = g.R.Source.rest c.read.new.self in
    let read = c.in_ok-count.ensures.read told in
    elim c.then-count-eq0.branch [
      | then-count-eq0-via-then-count-eq0 w ↦ none_came before after c.read.new.to c.args.bytes.now c.in_ok-count.count w.if-count-eq0.true c.requires.some
          (has_room c.args.piece.now c.read.new.to c.min-most.result (length c.args.bytes.now) c.min-most.ensures c.requires.some c.requires.piece c.read.auto.to) read
      | then-count-eq0-via-else-count-eq0+then-ne w ↦ others_came before after c.read.new.to c.args.bytes.now c.in_ok-count.count
          (is_within c.args.piece.now c.read.new.to c.min-most.result (length c.args.bytes.now) c.in_ok-count.count c.min-most.ensures c.read.auto.to c.in_ok-count.ensures.bound)
          c.in_ok-count.ensures.bound (tell_others _ _ w.if-ne.ensures) read
    ]

pub returns-clause-compares : goal.returns-clause-compares
returns-clause-compares g c = λ told.
    same_came (g.R.Source.rest c.args.source.now) (g.R.Source.rest c.read.new.self) c.read.new.to c.args.bytes.now c.in_ok-count.count (tell_same _ _ c.if-ne.ensures) (c.in_ok-count.ensures.read told)
