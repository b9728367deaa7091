use Rattle.handed_file.specs.Left.{left_of}
use Rattle.handed_file.proofs.Left.{left}
use Rattle.handed_file.proofs.handed_file.HandedFile.leaves.Goals as goal

pub returns : goal.returns
returns c = (left_of c.args.self.now.notes.calls, left c.args.self.now.notes.calls c.args.self.now.long)
