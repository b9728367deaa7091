-- Which guard ended a run, as the scratch of the run says (profile).
use Rattle.std.specs.Prelude.{ℕ, ◌==◌, ◌||◌, nat_lt, if◌then◌else◌, List, length, drop, Option, Some, None}
use Rattle.byteorder.specs.Endian.{little_number}
use Rattle.link_notes.specs.declared.ended.Ended.{Ended}

-- the guard's number, its slot and the block's index, of 4, 4 and 8 bytes, the lowest first; number 0 is no guard
abbrev pub ended_of : List ℕ → Option Ended
ended_of written = if nat_lt (length written) 16 || little_number 4 written == 0 then None else Some (record {
  number = little_number 4 written;
  slot = little_number 4 (drop 4 written);
  block = little_number 8 (drop 8 written);
})
