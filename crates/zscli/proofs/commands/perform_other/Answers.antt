use Rattle.std.proofs.lemmas.Result.{on_err_weaker, on_ok_weaker}
use Rattle.command_serve.specs.Salvaging.{made_by}
use Rattle.zscli.proofs.Makes.{one_where_done}
use Rattle.zscli.proofs.commands.perform_other.Goals as goal

pub returns-in-fold-clause-one : goal.returns-in-fold-clause-one
returns-in-fold-clause-one g c =
    one_where_done c.fold.result (made_by c.args.matches.now) (g.F.Files.made c.args.files.now) (g.F.Files.made c.fold.new.files)
    (on_ok_weaker c.fold.result (λ replaced. replaced.0) c.fold.ensures.replaced) (on_err_weaker c.fold.result (λ kept. kept.0) c.fold.ensures.kept)

pub returns-in-fold-clause-kept : goal.returns-in-fold-clause-kept
returns-in-fold-clause-kept g c = on_err_weaker c.fold.result (λ kept. kept.0) c.fold.ensures.kept

pub returns-in-fold-clause-contents : goal.returns-in-fold-clause-contents
returns-in-fold-clause-contents g c = on_err_weaker c.fold.result (λ kept. kept.1) c.fold.ensures.kept
