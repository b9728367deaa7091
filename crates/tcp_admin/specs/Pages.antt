-- Pages of data, as tables of the standards tell them: fields in their places, and zeros elsewhere.
use Rattle.std.specs.Prelude.{ℕ, List, [], ◌∷◌, take, drop, replicate}
use Rattle.byteorder.specs.Endian.{little_bytes}
use Rattle.common_definitions.specs.Bytes.{padded, spliced}

-- a field: the place of its first byte, and its bytes
pub record Field : Type 0 where
  pub at : ℕ
  pub bytes : List ℕ

-- a field of one byte, of a number in so many bytes, and of any bytes
abbrev pub byte_at : ℕ → ℕ → Field
byte_at at byte = record { at = at; bytes = byte ∷ [] }

abbrev pub number_at : ℕ → ℕ → ℕ → Field
number_at at count number = record { at = at; bytes = little_bytes count number }

abbrev pub bytes_at : ℕ → List ℕ → Field
bytes_at at bytes = record { at = at; bytes = bytes }

-- fields put in their places
abbrev pub laid : List Field → List ℕ → List ℕ
laid [] bytes = bytes
laid (field ∷ fields) bytes = laid fields (spliced field.at field.bytes bytes)

-- zeros, and a page of so many bytes
unfoldable pub zeros : ℕ → List ℕ
zeros size = replicate size 0

abbrev pub page : ℕ → List Field → List ℕ
page size fields = laid fields (zeros size)

-- a part of a page, and zeros behind its end
abbrev pub part_of : ℕ → ℕ → List ℕ → List ℕ
part_of offset size bytes = padded size (take size (drop offset bytes))
