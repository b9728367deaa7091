use Rattle.std.proofs.Common.{◌≡◌, length}
use Rattle.std.specs.Str.Lines.{lines}
use Rattle.nvme_entry.specs.declared.command.TheConstants.{MOST_TRANSFER}
use Rattle.device_serve.proofs.LineTexts.{ServedFirst}
use Rattle.device_serve.proofs.line_events.LineDoer.serve_text.Given as goal

abbrev pub invariant-loop-rest : goal.invariant-loop-rest
invariant-loop-rest g l = record {
  served : ServedFirst l.fn.self.drains (lines l.text) (lines l.rest) l.fn.before l.count l.fn.kept.device.value l.kept.device.value
      l.fn.answer.items l.answer.items;
  room : length l.self.output.items ≡ MOST_TRANSFER;
  drains : l.self.drains ≡ l.fn.self.drains;
  kept : g.S.Store.keeps l.kept.device.value (g.S.Store.waits l.kept.events) (g.S.Store.disk l.kept.events);
  same : g.S.Store.disk l.kept.events ≡ g.S.Store.disk l.fn.kept.events;
}

abbrev pub decreases-loop-rest : goal.decreases-loop-rest
decreases-loop-rest g l = length l.rest
