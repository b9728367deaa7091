use Rattle.ebpf_link.proofs.StoredWords.{between}
use Rattle.ebpf_link.proofs.scratch_words.words_from_to.Goals as goal

pub returns : goal.returns
returns c = between c.args.first c.args.last c.requires.first c.requires.last
