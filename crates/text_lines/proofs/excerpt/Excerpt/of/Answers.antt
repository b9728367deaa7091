use Rattle.std.proofs.Common.{rules}
use Rattle.std.proofs.lemmas.List.{drop-replicate}
use Rattle.text_lines.specs.declared.excerpt.TheConstants.{MOST}
use Rattle.text_lines.proofs.Excerpts.{bytes_of_excerpt}
use Rattle.text_lines.proofs.excerpt.Excerpt.of.Goals as goal

pub returns : goal.returns
returns c = record {
  bytes = bytes_of_excerpt c.min-kept.result MOST c.copy_from_slice.new.self _ c.args.text.now c.copy_from_slice.ensures.after c.min-kept.ensures (drop-replicate c.min-kept.result MOST 0);
  kept = c.min-kept.ensures;
  rest = search rules;
}
