-- The states that events leave from an image on.
use Rattle.interval_domain.proofs.Proved.{intervals_sound}
use Rattle.device_meaning.specs.Judging.{IsSoundJudge, JudgedIsSpelled, interval_judge}
use Rattle.interval_domain.specs.Intervals.{intervals}
use Rattle.accepted_programs.proofs.Proved.{accepted_never_traps}
use Rattle.image_text.proofs.Proved.{loaded_texts_are_namespaces, saved_texts_load}
use Rattle.zns_commands.proofs.Proved.{empty_is_namespace}
use Rattle.device_meaning.specs.Laws.{StatesAreSound}
use Rattle.device_meaning.proofs.Proved.{domains_judge_soundly, judged_is_spelled, new_is_reached, states_are_sound}
use Rattle.device_laws.specs.Laws.{EmptyIsReached, LoadedIsReached, SavedStatesLoad}

-- the programs that a device accepts never trap
pub sound : IsSoundJudge interval_judge
sound = domains_judge_soundly intervals (accepted_never_traps intervals_sound)

-- and the bytes of their Loads spell them
pub spelled : JudgedIsSpelled intervals
spelled = judged_is_spelled intervals

pub empty_is_reached : EmptyIsReached
empty_is_reached shape is = new_is_reached interval_judge _ (empty_is_namespace shape is)

pub loaded_is_reached : LoadedIsReached
loaded_is_reached bytes ns are loads = new_is_reached interval_judge ns (loaded_texts_are_namespaces bytes ns are loads)

pub reached_is_sound : StatesAreSound interval_judge
reached_is_sound = states_are_sound interval_judge sound

pub saved_states_load : SavedStatesLoad
saved_states_load s reached = saved_texts_load s.namespace (reached_is_sound s reached).namespace
