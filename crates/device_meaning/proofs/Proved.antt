-- Laws of this crate, proved, and lemmas: what the proofs of other crates cite of it.
use Rattle.std.proofs.Common.{List}
use Rattle.device_meaning.specs.Judging.{IsSoundJudge, Judge}
use Rattle.device_events.specs.Replies.{Joins, ReplyWithData}
use Rattle.device_meaning.specs.Beginning.{LeftIsWithinNeed}
use Rattle.device_meaning.specs.Completions.{EachIsCompletedOnce, NoCompletionIsLost}
use Rattle.device_meaning.specs.JoinedEvents.{EventsInParts, ServedAndDrained}
use Rattle.device_meaning.specs.Laws.{BlocksLeaveOthers, DrainingEnds, EventsKeepForRuns, NoReplyIsTrapped, RestEnds, RestGoesOn, RestIsFew, RoomIsOpen, RoomStays, StatesAreSound, TurnsLeaveFewer}
use Rattle.device_meaning.specs.Reached.{BeginningIsReached, EventsKeepReached, NewIsReached, TurnsKeepReached}
use Rattle.device_meaning.specs.View.{SeenAtAdmission, SeenStays}
use Rattle.device_meaning.proofs.Added as added
pub use Rattle.device_meaning.proofs.Added.{added_grows, added_leaves, added_shape, is_added, open_on}
use Rattle.device_meaning.proofs.Beginnings as beginnings
pub use Rattle.device_meaning.proofs.Beginnings.{new_may_begin}
pub use Rattle.device_meaning.proofs.BlockRuns.{IsDone, few_block_runs, few_frames}
pub use Rattle.device_meaning.proofs.Changes.{HoldsOfEach, after_event, after_turn, of_entry, of_turn, turned_is}
use Rattle.device_meaning.proofs.Completions as completions
use Rattle.device_meaning.proofs.Drained as drained
use Rattle.device_meaning.proofs.JoinedEvents as joined
use Rattle.device_meaning.proofs.KeptForRuns as kept
pub use Rattle.device_meaning.proofs.Judging.{domains_judge_soundly, judged_is_spelled, judged_is_unrefused}
pub use Rattle.device_meaning.proofs.KeptForRuns.{left_program, not_loaded, same_program}
pub use Rattle.device_meaning.proofs.GrantedAreas.{IsGrantedRun}
pub use Rattle.device_meaning.proofs.Loads.{IsLoad, is_pending}
pub use Rattle.device_meaning.proofs.Outcomes.{outcome_is_packed}
pub use Rattle.device_meaning.proofs.Places.{AreApart, event_apart, held_at, turned_apart, turned_older}
use Rattle.device_meaning.proofs.Reached as reached
use Rattle.device_meaning.proofs.Rests as rests
pub use Rattle.device_meaning.proofs.Spelled.{HasBlocks, decoded_has}
use Rattle.device_meaning.proofs.SoundStates as states
pub use Rattle.device_meaning.proofs.SoundStates.{reached_fine}
pub use Rattle.device_meaning.proofs.States.{IsFine, admitted_room, all_exit, all_granted, block_runs_all_done, events_fine, few_source, groups_within, ready, some_block_run, turn_fine, turns_are, written}
use Rattle.device_meaning.proofs.TurnsFit as fitting
use Rattle.device_meaning.proofs.Untrapped as untrapped
pub use Rattle.device_meaning.proofs.Statuses.{success_other}
pub use Rattle.device_meaning.proofs.Untrapped.{ends_with_success}
use Rattle.device_meaning.proofs.Views as views

pub rest_goes_on : RestGoesOn
rest_goes_on = rests.rest_goes_on

pub rest_ends : RestEnds
rest_ends = rests.rest_ends

pub rest_is_few : RestIsFew
rest_is_few = rests.rest_is_few

pub seen_at_admission : SeenAtAdmission
seen_at_admission = views.seen_at_admission

pub seen_stays : SeenStays
seen_stays = views.seen_stays

pub blocks_leave_others : BlocksLeaveOthers
blocks_leave_others = added.blocks_leave_others

pub room_is_open : RoomIsOpen
room_is_open = fitting.room_is_open

pub room_stays : RoomStays
room_stays = fitting.room_stays

module _ (judge : Judge) where
  pub beginning_is_reached : BeginningIsReached judge
  beginning_is_reached = reached.beginning_is_reached judge

  pub new_is_reached : NewIsReached judge
  new_is_reached = reached.new_is_reached judge

  pub events_keep_reached : EventsKeepReached judge
  events_keep_reached = reached.events_keep_reached judge

  pub turns_keep_reached : TurnsKeepReached judge
  turns_keep_reached = reached.turns_keep_reached judge

  pub events_in_parts : EventsInParts judge
  events_in_parts = joined.events_in_parts judge

  pub served_and_drained : {T : Type 0} (took : T → T → List ReplyWithData → Type 0) → Joins took → ServedAndDrained judge took
  served_and_drained = joined.served_and_drained judge

  pub no_completion_is_lost : NoCompletionIsLost judge
  no_completion_is_lost = completions.no_completion_is_lost judge

  pub each_is_completed_once : EachIsCompletedOnce judge
  each_is_completed_once = completions.each_is_completed_once judge

  pub events_keep_for_runs : EventsKeepForRuns judge
  events_keep_for_runs = kept.events_keep_for_runs judge

  module _ (sound : IsSoundJudge judge) where
    pub left_is_within_need : LeftIsWithinNeed judge
    left_is_within_need = beginnings.left_is_within_need judge sound

    pub states_are_sound : StatesAreSound judge
    states_are_sound = states.states_are_sound judge sound

    pub no_reply_is_trapped : NoReplyIsTrapped judge
    no_reply_is_trapped = untrapped.no_reply_is_trapped judge sound

    pub turns_leave_fewer : TurnsLeaveFewer judge
    turns_leave_fewer = drained.turns_leave_fewer judge sound

    pub draining_ends : DrainingEnds judge
    draining_ends = drained.draining_ends judge sound
