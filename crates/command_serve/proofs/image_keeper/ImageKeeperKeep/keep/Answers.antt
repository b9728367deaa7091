use Rattle.std.proofs.Common.{refl}
use Rattle.command_serve.proofs.Keeping.{changed, unsaved}
use Rattle.command_serve.proofs.image_keeper.ImageKeeperKeep.keep.Goals as goal

pub returns-in-Ok-clause-becomes : goal.returns-in-Ok-clause-becomes
returns-in-Ok-clause-becomes g c = record {
  same_files = refl;
  same_path = refl;
  changes = changed g.F.Files g.F.Writer.Sink.tells c.args.self.now.path.now c.args.self.now.files.now c.save_changes.new.files c.args.image.now
      c.in-Ok.ensures.made c.save_changes.ensures.crash c.in-Ok.ensures.others c.in-Ok.ensures.modes;
}

pub returns-in-Err-clause-becomes : goal.returns-in-Err-clause-becomes
returns-in-Err-clause-becomes g c = record {
  same_files = refl;
  same_path = refl;
  changes = unsaved g.F.Files g.F.Writer.Sink.tells c.args.self.now.path.now c.args.self.now.files.now c.save_changes.new.files c.args.image.now
      c.in-Err.ensures.kept c.save_changes.ensures.crash c.in-Err.ensures.contents c.in-Err.ensures.modes_left;
}
