-- Data that no command moves (profile).
use Rattle.std.specs.Prelude.{◌<◌, length}
use Rattle.event_frames.specs.Requests.{ToldRequest, Submitted}

-- beside an entry there is more data than a command moves, and than a frame carries
abbrev pub IsLong : ToldRequest → Type 0
IsLong (Submitted queue entry input) = 131072 < length input
IsLong _ = ⊥
