-- The laws of this crate that the proofs of other crates cite, proved, and the lemmas that they cite.
use Rattle.text_lines.specs.Laws.{CutIsAfterFirstPart, LinesAreCut, SomePartIsThere, UncutIsOnePart}
pub use Rattle.text_lines.proofs.Blanks.{ascii_behind, blank_is_ascii, blank_is_code, end_stays}
pub use Rattle.text_lines.proofs.Comments.{uncommented-comment, uncommented-cons, uncommented-same}
use Rattle.text_lines.proofs.LineLemmas.{cut_line}
use Rattle.text_lines.proofs.PartLemmas.{split_more, split_some, split_whole}
pub use Rattle.text_lines.proofs.NumberLemmas.{all_digits, number_again, number_read}
pub use Rattle.text_lines.proofs.Trimming.{back_goes, front_goes, no_blank_first, without_end_blanks-cons, without_first_blanks-cons}

pub uncut_is_one_part : UncutIsOnePart
uncut_is_one_part = split_whole

pub cut_is_after_first_part : CutIsAfterFirstPart
cut_is_after_first_part = split_more

pub some_part_is_there : SomePartIsThere
some_part_is_there = split_some

pub lines_are_cut : LinesAreCut
lines_are_cut = cut_line
