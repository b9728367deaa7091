-- Each queue has a connection of its own, in every state that a served target comes to.
use Rattle.tcp_target.specs.Apart.{HasQueuesApart, QueuesStayApart}
use Rattle.tcp_device.specs.Laws.{QueuesAreApart}
use Rattle.tcp_device.specs.State.{begun_on}
use Rattle.tcp_device.proofs.Reached.{Stays, reached}

stay_apart : QueuesStayApart → Stays HasQueuesApart
stay_apart law = record {
  opens = law.opens;
  receives = law.receives;
  serves = law.serves;
  sends = law.sends;
  hands_over = λ number execution t ready. law.hands_over number t;
  executes = law.executes;
  ends_run = law.ends_run;
  closes = law.closes;
  ticks = law.ticks;
}

pub queues_are_apart : QueuesStayApart → QueuesAreApart
queues_are_apart law device subsystem format deeds new done =
    reached HasQueuesApart (stay_apart law) deeds (begun_on device subsystem format) new done (law.begins subsystem format)
