-- What `zones` prints (profile).
use Rattle.std.specs.Prelude.{ℕ, ◌+◌, List, [], ◌∷◌, ◌++◌, codes, Option}
use Rattle.std.specs.Fmt.{decimal}
use Rattle.std.specs.Io.KnownBytes.{Appends}
use Rattle.image_store.specs.Geometry.{Shape}
use Rattle.zone_state.specs.Words.{state_word}
use Rattle.zone_state.specs.Zone.{CountedZone}
use Rattle.command_images.specs.Devices.{TellTable}

-- the line of a zone: its number, the word for its state, and how many of its blocks are written
abbrev pub zone_line : ℕ → CountedZone → List ℕ
zone_line number zone = decimal number ++ codes " " ++ state_word zone.state ++ codes " " ++ decimal zone.written ++ codes "\n"

-- the lines of zones in their order, of which the first has this number
abbrev pub zone_lines_from : ℕ → List CountedZone → List ℕ
zone_lines_from number [] = []
zone_lines_from number (zone ∷ rest) = zone_line number zone ++ zone_lines_from (number + 1) rest

-- the lines of zones are printed, and nothing else, where the output tells what it has: of those of the device that the bytes of this
-- file stand for, where these and what is read of them are told
pub record PrintsZones (reads : Type 0) (bytes before after : Option (List ℕ)) : Type 0 where
  pub shape : Shape
  pub zones : List CountedZone
  pub held : reads → TellTable bytes shape zones
  pub printed : Appends before after (zone_lines_from 0 zones)
