use Rattle.std.proofs.Common.{rules, tests}
use Rattle.std.specs.Prelude.{string_bytes, bytes_eq}
use Rattle.std.proofs.lemmas.Iterator.Adapters.{YieldsList-from_rev_slice}
use Rattle.std.proofs.lemmas.Iterator.Search.{find_from_yields_List}
use Rattle.command_files.specs.declared.memory_files.NamedFile.{NamedFile}
use Rattle.command_files.proofs.memory_files.MemoryFiles.named.Goals as goal

pub returns : goal.returns
returns c =
    find_from_yields_List (λ (file : NamedFile). bytes_eq (string_bytes file.path) c.args.path.now) _ _ c.find.result c.find.ensures.ran
    (YieldsList-from_rev_slice c.args.self.now.files.items cc) (λ x b q k. search (rules, tests))
