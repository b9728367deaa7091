-- A number that is kept in a file.
use Rattle.stored_file.specs.Tearing.{told_of}
use Rattle.stored_file.specs.declared.tearing_file.TearingFile.{TearingFile}
use Rattle.durable_machine.specs.Seals.{events_of}
use Rattle.durable_machine.specs.Waiting.{IsCommittedBut}
use Rattle.durable_machine.specs.declared.opening.Durable.{Durable}
use Rattle.durable_machine_tests.specs.Number.{IsBaseOf, number_after}
use Rattle.durable_machine_tests.specs.declared.number.Number.{Number}

-- what the file stands for and the events that wait lead to the number
abbrev pub IsKept : Durable Number TearingFile → Type 0
IsKept store =
    IsCommittedBut IsBaseOf (λ number _ event. number_after number event) (events_of store.events.waiting) store.machine
    store.events.journal.gate (told_of store.events.journal.file)
