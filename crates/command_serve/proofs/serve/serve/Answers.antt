use Rattle.std.proofs.Common.{ℕ, List, Option, sym, ◌∙◌}
use Rattle.command_files.specs.Surroundings.{around}
use Rattle.command_files.specs.declared.failure.Failure.{Failure}
use Rattle.command_images.specs.Images.{image_of}
use Rattle.command_serve.specs.Served.{FailsDurably, FailsImage}
use Rattle.command_serve.proofs.Endings.{taken_fails}
use Rattle.command_serve.proofs.serve.serve.Goals as goal

pub returns-in-Some-clause-stopped : goal.returns-in-Some-clause-stopped
returns-in-Some-clause-stopped g c = λ asked some.
    taken_fails g.I.Read.remaining c.args.input.now c.in-Some.input (g.I.Read.remaining c.serve_asked.new.input)
    (λ (unread left : Option (List ℕ)) (failure : Failure).
    FailsImage g.F.Files (around g.F.Files g.F.Reader.Source.tells g.F.Writer.Sink.tells c.args.files.now c.serve_asked.new.files) c.args.matches.now unread
    (g.O.Write.contents c.args.out.now) (g.O.Write.contents c.serve_asked.new.out) left failure)
    c.serve_asked.result (sym c.replace.ensures.value ∙ c.in-Some.is) (c.serve_asked.ensures.stopped asked)

pub returns-in-Some-clause-stopped_durably : goal.returns-in-Some-clause-stopped_durably
returns-in-Some-clause-stopped_durably g c = λ asked some.
    let path = image_of c.args.matches.now in
    taken_fails g.I.Read.remaining c.args.input.now c.in-Some.input (g.I.Read.remaining c.serve_asked.new.input)
    (λ (unread left : Option (List ℕ)) (failure : Failure).
    FailsDurably g.F.Stored.StoredFile.told (g.F.Files.contents c.args.files.now path) (g.F.Files.contents c.serve_asked.new.files path) c.args.matches.now unread
    (g.O.Write.contents c.args.out.now) (g.O.Write.contents c.serve_asked.new.out) left failure)
    c.serve_asked.result (sym c.replace.ensures.value ∙ c.in-Some.is) (c.serve_asked.ensures.stopped_durably asked)
