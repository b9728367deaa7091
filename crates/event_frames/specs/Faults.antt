-- How faults of a stream are told (profile).
use Rattle.std.specs.Prelude.{ℕ, List, codes, Option, None, Some}
use Rattle.event_frames.specs.declared.fault.Field.{Field}
use Rattle.event_frames.specs.declared.fault.Field.TheVariants.{Kind, Part, Queue, Number, Length, Zeros}
use Rattle.event_frames.specs.declared.fault.StreamFault.{StreamFault}
use Rattle.event_frames.specs.declared.fault.StreamFault.TheVariants.{Byte, CutOff, Memory}

-- the number of a wrong byte is that of its field
abbrev pub field_number : Field → ℕ
field_number Kind = 1
field_number Part = 2
field_number Queue = 3
field_number Number = 4
field_number Length = 5
field_number Zeros = 6

-- what a wrong byte was to be a part of
abbrev pub expected_words : Field → List ℕ
expected_words Kind = codes "a kind of request, from 1 to 5"
expected_words Part = codes "the run of a turn, or 1 or 2 of a fault, or else 0"
expected_words Queue = codes "the queue of a submission, or else 0"
expected_words Number = codes "the zone of a fault or the turns of a drain, or else 0"
expected_words Length = codes "the bytes of a submission's data, at most 131072, or else 0"
expected_words Zeros = codes "0"

-- where a stream is refused, and the number of the fault; none where memory ran out
abbrev pub refused_at : StreamFault → Option (ℕ × ℕ)
refused_at (Byte place part) = Some (place, field_number part)
refused_at (CutOff place) = Some (place, 7)
refused_at Memory = None
