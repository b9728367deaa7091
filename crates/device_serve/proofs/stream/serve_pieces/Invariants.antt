use Rattle.std.proofs.Common.{◌≡◌, ◌≤◌, []}
use Rattle.device_serve.specs.Rounds.{on}
use Rattle.device_serve.specs.steps.UnderWay.{ReadSoFar}
use Rattle.device_serve.proofs.stream.serve_pieces.Given as goal

abbrev pub invariant-loop : goal.invariant-loop
invariant-loop g l =
    let store = g.S.Store in record {
      so_far : ReadSoFar g.C.Codec.does store.told store.settled (g.R.Read.remaining l.fn.reader) (g.R.Read.remaining l.reader)
          (on l.fn.codec l.fn.kept.device.value (g.W.Write.contents l.fn.out) (store.disk l.fn.kept.events))
          (on l.codec l.kept.device.value (g.W.Write.contents l.out) (store.disk l.kept.events));
      empty : l.answer.items ≡ [];
      none : store.waits l.kept.events ≡ [];
      settled : store.settled l.kept.device.value (store.disk l.kept.events);
      ready : g.C.Codec.is_ready l.codec;
      faults : (store.told (store.disk l.fn.kept.events)).faults ≤ (store.told (store.disk l.kept.events)).faults;
    }
