-- What is wrong at a byte of a journal.
use Rattle.std.specs.Prelude.{ℕ, List, ◌++◌, codes}
use Rattle.std.specs.Fmt.{decimal}
use Rattle.command_files.specs.declared.journal_fault.JournalFault.{JournalFault}
use Rattle.command_files.specs.declared.journal_fault.JournalFault.TheVariants.{Damaged, MadeBy, NoBase, OpenGate, Undone}

-- what a user is told of it (profile)
abbrev pub fault_words : JournalFault → List ℕ
fault_words NoBase = codes "no whole base of a device"
fault_words OpenGate = codes "an open gate, and no whole batch of events after it"
fault_words (Damaged whole readable) =
    codes "batches up to number " ++ decimal whole ++ codes " are whole, " ++ decimal readable
    ++ codes " after it are readable; `zscli fold IMAGE --salvage TO` saves the whole ones"
fault_words Undone = codes "an event that changes nothing when it is done again"
fault_words (MadeBy version profile) =
    codes "made by version " ++ decimal version ++ codes " of the device (profile " ++ decimal profile ++ codes "); open it with that"
