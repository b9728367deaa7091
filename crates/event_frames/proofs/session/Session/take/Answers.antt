use Rattle.std.proofs.Common.{ap, subst}
use Rattle.event_frames.specs.Streams.{IsPartial, SessionState}
use Rattle.event_frames.proofs.Growing.{is_begun, is_partial, takes}
use Rattle.event_frames.proofs.session.Session.take.Goals as goal

pub returns-in-Some-clause-partial : goal.returns-in-Some-clause-partial
returns-in-Some-clause-partial c =
    subst IsPartial (ap (λ (s : SessionState). s.pending) c.self.view_is) (is_partial c.self.inside.parts c.self.invariant.begun)

pub returns-in-Ok-clause-taken : goal.returns-in-Ok-clause-taken
returns-in-Ok-clause-taken c =
    takes c.args.self.now c.self.inside.parts c.grow.new.parts c.finish-request.new.parts
    c.self.inside.place c.saturating_add-self-inside.result c.finish-request.result.1 c.in-Ok.count c.args.piece.now
    (ap (λ (s : SessionState). s.pending) c.self.view_is) (ap (λ (s : SessionState). s.place) c.self.view_is)
    c.self.invariant.begun c.in-Ok.ensures.grown c.self.invariant.small c.saturating_add-self-inside.ensures
    c.finish-request.result.0 c.self.inside.fault c.finish-request.ensures

pub returns-in-Ok-clause-partial : goal.returns-in-Ok-clause-partial
returns-in-Ok-clause-partial c =
    is_partial c.finish-request.new.parts
    (is_begun c.grow.new.parts c.finish-request.new.parts c.finish-request.result.0 c.finish-request.result.1 c.in-Ok.ensures.grown.held c.finish-request.ensures)
