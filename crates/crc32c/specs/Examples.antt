-- The examples of RFC 3720, appendix B.4.
use Rattle.std.specs.Prelude.{◌≡◌, List, ℕ, [], ◌∷◌, replicate, reverse}
use Rattle.std.specs.List.{range_with_len}
use Rattle.crc32c.specs.Crc.{sum_of}

-- a command of SCSI, as iSCSI carries it
abbrev pub command : List ℕ
command =
    1 ∷ 192 ∷ 0 ∷ 0 ∷ 0 ∷ 0 ∷ 0 ∷ 0 ∷ 0 ∷ 0 ∷ 0 ∷ 0 ∷ 0 ∷ 0 ∷ 0 ∷ 0 ∷ 20 ∷ 0 ∷ 0 ∷ 0 ∷ 0 ∷ 0 ∷ 4 ∷ 0 ∷ 0 ∷ 0 ∷ 0 ∷ 20 ∷ 0 ∷ 0 ∷ 0 ∷ 24 ∷ 40 ∷ 0 ∷ 0 ∷ 0 ∷ 0 ∷ 0 ∷ 0 ∷ 0 ∷ 2
    ∷ 0 ∷ 0 ∷ 0 ∷ 0 ∷ 0 ∷ 0 ∷ 0 ∷ []

-- each has the sum that the appendix gives
pub record GivesTheExamples : Type 0 where
  pub zeros : sum_of (replicate 32 0) ≡ 2324772522
  pub ones : sum_of (replicate 32 255) ≡ 1655221059
  pub rising : sum_of (range_with_len 0 32) ≡ 1188919630
  pub falling : sum_of (reverse (range_with_len 0 32)) ≡ 289397596
  pub read : sum_of command ≡ 3650501206
