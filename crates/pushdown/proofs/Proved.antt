-- Laws of this crate, proved: what the proofs of other crates cite of it.
use Rattle.device_meaning.specs.Judging.{IsSoundJudge, Judge}
use Rattle.pushdown.specs.AnyOrder.{TurnsInAnyOrder}
use Rattle.pushdown.specs.Laws.{LastTurnCompletes, OnlyLoadsChangeSlots, RefusedEventsLeaveState, RefusedLeavesState}
use Rattle.pushdown.specs.Pushdown.{Pushdown, PushdownFromAnyBeginning}
use Rattle.pushdown.specs.ReadBack.{AppendedBlocksReadBack, AppendedByRunsReadsBack, ResultsReadBack, WrittenBlocksReadBack}
use Rattle.pushdown.proofs.Answered as answered
use Rattle.pushdown.proofs.AnyOrder as any_order
use Rattle.pushdown.proofs.LastTurns as last_turns
use Rattle.pushdown.proofs.Pushdown as theorem
use Rattle.pushdown.proofs.ReadBack as read_back
use Rattle.pushdown.proofs.Refused as refused
use Rattle.pushdown.proofs.Results as results
use Rattle.pushdown.proofs.RunsRead as runs_read

module _ (judge : Judge) where
  pub refused_leaves_state : RefusedLeavesState judge
  refused_leaves_state = answered.refused_leaves_state judge

  pub only_loads_change_slots : OnlyLoadsChangeSlots judge
  only_loads_change_slots = answered.only_loads_change_slots judge

  pub appended_blocks_read_back : AppendedBlocksReadBack judge
  appended_blocks_read_back = read_back.appended_blocks_read_back judge

  pub written_blocks_read_back : WrittenBlocksReadBack judge
  written_blocks_read_back = read_back.written_blocks_read_back judge

  module _ (sound : IsSoundJudge judge) where
    pub refused_events_leave_state : RefusedEventsLeaveState judge
    refused_events_leave_state = refused.refused_events_leave_state judge sound

    pub last_turn_completes : LastTurnCompletes judge
    last_turn_completes = last_turns.last_turn_completes judge sound

    pub turns_in_any_order : TurnsInAnyOrder judge
    turns_in_any_order = any_order.turns_in_any_order judge sound

    pub appended_by_runs_reads_back : AppendedByRunsReadsBack judge
    appended_by_runs_reads_back = runs_read.appended_by_runs_reads_back judge sound

    pub results_read_back : ResultsReadBack judge
    results_read_back = results.results_read_back judge sound

    pub pushdown : Pushdown judge
    pushdown = theorem.pushdown judge sound

    pub pushdown_from_any_beginning : PushdownFromAnyBeginning judge
    pushdown_from_any_beginning = theorem.from_any_beginning judge sound
