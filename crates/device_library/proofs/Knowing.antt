-- What is known of a file whose calls are all told.
use Rattle.std.proofs.Common.{◌≡◌, List, ap}
use Rattle.stored_file.specs.Calls.{Call}
use Rattle.handed_file.specs.Handed.{made_calls, noted, told_of}
use Rattle.handed_file.specs.declared.handed_file.HandedFile.{HandedFile}
use Rattle.device_library.specs.Files.{known_by, promised_of}

pub known_alone : (file : HandedFile) → made_calls file ≡ noted file → promised_of file ≡ known_by (noted file)
known_alone file settled = ap (λ (made : List Call). record (told_of (noted file)) { made = made }) settled
