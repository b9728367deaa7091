use Rattle.std.proofs.Common.{◌≡◌, ◌+◌, ◌≤◌, ◌++◌, length, map}
use Rattle.std.specs.Str.Lines.{lines}
use Rattle.std.specs.List.{All, AllPass}
use Rattle.event_text.specs.ReplyFile.{HasItsData, can_be_given, reply_of, told_text}
use Rattle.event_text.proofs.reply_file.replies.Given as goal

abbrev pub invariant-loop-rest : goal.invariant-loop-rest
invariant-loop-rest l = record {
  read : lines l.file ≡ map told_text l.told.items ++ lines l.rest;
  whole : All HasItsData l.told.items;
  given : AllPass (λ told. can_be_given (reply_of told)) l.told.items;
  counted : l.number + length l.rest ≤ length l.file + 1;
}

abbrev pub decreases-loop-rest : goal.decreases-loop-rest
decreases-loop-rest l = length l.rest
