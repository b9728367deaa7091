use Rattle.std.proofs.Common.{◌≤◌, ◌<◌, length}
use Rattle.device_serve.specs.Rounds.{on}
use Rattle.device_serve.specs.declared.codec.TheConstants.{MOST_WAITING}
use Rattle.device_serve.proofs.UnderWay.{ServedFront}
use Rattle.device_serve.proofs.round.serve_piece.Given as goal

abbrev pub invariant-loop-rest : goal.invariant-loop-rest
invariant-loop-rest g l =
    let store = g.S.Store in record {
      front : ServedFront g.C.Codec.does store.told store.settled l.piece l.rest
          (on l.fn.codec l.fn.kept.device.value (g.W.Write.contents l.fn.out) (store.disk l.fn.kept.events)) l.fn.answer.items
          (on l.codec l.kept.device.value (g.W.Write.contents l.out) (store.disk l.kept.events)) l.answer.items;
      few : 0 < length l.rest → length l.answer.items < MOST_WAITING;
      kept : store.keeps l.kept.device.value (store.waits l.kept.events) (store.disk l.kept.events);
      ready : g.C.Codec.is_ready l.codec;
      faults : (store.told (store.disk l.fn.kept.events)).faults ≤ (store.told (store.disk l.kept.events)).faults;
    }

abbrev pub decreases-loop-rest : goal.decreases-loop-rest
decreases-loop-rest g l = length l.rest
