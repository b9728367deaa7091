use Rattle.zns_commands.proofs.SoundEvents.{events_keep_namespaces_sound, empty_is_namespace}
use Rattle.zns_commands.proofs.laws.events_keep_namespaces_sound.Goals as goal

pub returns-clause-kept : goal.returns-clause-kept
returns-clause-kept c = events_keep_namespaces_sound

pub returns-clause-start : goal.returns-clause-start
returns-clause-start c = empty_is_namespace
