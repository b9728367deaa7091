use Rattle.std.proofs.Common.{ap, sym, ◌∙◌}
use Rattle.command_images.specs.Images.{image_of}
use Rattle.zscli.proofs.commands.perform_serve.Goals as goal

pub returns-in-Ok-clause-name : goal.returns-in-Ok-clause-name
returns-in-Ok-clause-name g c = (image_of c.args.matches.now, c.serve.ensures.made)

pub returns-in-Ok-clause-made : goal.returns-in-Ok-clause-made
returns-in-Ok-clause-made g c = λ same. ap g.F.Files.made (c.serve.ensures.untaken (sym same ∙ c.serve.ensures.taken))

pub returns-in-Ok-clause-contents : goal.returns-in-Ok-clause-contents
returns-in-Ok-clause-contents g c = λ same. ap g.F.Files.contents (c.serve.ensures.untaken (sym same ∙ c.serve.ensures.taken))

pub returns-in-Err-clause-name : goal.returns-in-Err-clause-name
returns-in-Err-clause-name g c = (image_of c.args.matches.now, c.serve.ensures.made)

pub returns-in-Err-clause-made : goal.returns-in-Err-clause-made
returns-in-Err-clause-made g c = λ same. ap g.F.Files.made (c.serve.ensures.untaken (sym same ∙ c.serve.ensures.taken))

pub returns-in-Err-clause-contents : goal.returns-in-Err-clause-contents
returns-in-Err-clause-contents g c = λ same. ap g.F.Files.contents (c.serve.ensures.untaken (sym same ∙ c.serve.ensures.taken))
