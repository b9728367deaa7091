use Rattle.std.proofs.Common.{◌≡◌, ◌≤◌, ◌+◌, ◌-◌}
use Rattle.std.specs.Io.KnownBytes.{IsAtEnd}
use Rattle.device_serve.specs.Rounds.{on}
use Rattle.device_serve.specs.steps.UnderWay.{IsReading}
use Rattle.device_serve.proofs.UnderWay.{counted}
use Rattle.device_serve.proofs.round.serve_round.Given as goal

abbrev pub invariant-loop-kept : goal.invariant-loop-kept
invariant-loop-kept g l =
    let store = g.S.Store in record {
      reading : IsReading g.C.Codec.does store.told store.settled (g.R.Read.remaining l.fn.reader) (g.R.Read.remaining l.reader)
          (on l.fn.codec l.fn.kept.device.value (g.W.Write.contents l.fn.out) (store.disk l.fn.kept.events))
          (on l.codec l.kept.device.value (g.W.Write.contents l.out) (store.disk l.kept.events)) l.answer.items;
      end : l.count ≡ 0 → IsAtEnd (g.R.Read.remaining l.reader);
      kept : store.keeps l.kept.device.value (store.waits l.kept.events) (store.disk l.kept.events);
      ready : g.C.Codec.is_ready l.codec;
      faults : (store.told (store.disk l.fn.kept.events)).faults ≤ (store.told (store.disk l.kept.events)).faults;
    }

abbrev pub decreases-loop-kept : goal.decreases-loop-kept
decreases-loop-kept g l = (1048576 - l.come) + counted l.count
