use Rattle.std.proofs.Common.{◌≡◌, ◌≤◌, ◌+◌, ◌++◌, length, map}
use Rattle.std.specs.Str.Lines.{lines}
use Rattle.common_definitions.specs.Readings.{with_front}
use Rattle.device_events.specs.ToldEvents.{told_of}
use Rattle.event_text.specs.CommandFile.{events_in, events_from, worded_from, worded_lines}
use Rattle.event_text.proofs.command_file.parse.Given as goal

abbrev pub invariant-loop-rest : goal.invariant-loop-rest
invariant-loop-rest l = record {
  read : events_in l.file ≡ with_front (map told_of l.events.items) (events_from l.number (lines l.rest));
  lined : worded_lines l.file ≡ l.lines.items ++ worded_from l.number (lines l.rest);
  counted : l.number + length l.rest ≤ length l.file + 1;
}

abbrev pub decreases-loop-rest : goal.decreases-loop-rest
decreases-loop-rest l = length l.rest
