-- The names that come of a UUID (RFC 9562): subsystems with other UUIDs have other names, and so have their namespaces.
use Rattle.std.specs.Prelude.{ℕ, ◌≡◌, List, ◌∷◌, ◌++◌, codes, take, drop}
use Rattle.hex.specs.Hex.{encode_lower}
use Rattle.tcp_admin.specs.declared.subsystem.Subsystem.{Subsystem}

-- in text: 8, 4, 4, 4 and 12 hexadecimal digits, with hyphens between
abbrev pub uuid_text : List ℕ → List ℕ
uuid_text uuid =
    encode_lower (take 4 uuid)
    ++ (45 ∷ (encode_lower (take 2 (drop 4 uuid))
    ++ (45 ∷ (encode_lower (take 2 (drop 6 uuid)) ++ (45 ∷ (encode_lower (take 2 (drop 8 uuid)) ++ (45 ∷ encode_lower (drop 10 uuid))))))))

-- the NVMe Qualified Name of a UUID (NVMe Base 2.0, 4.5)
abbrev pub uuid_name : List ℕ → List ℕ
uuid_name uuid = codes "nqn.2014-08.org.nvmexpress:uuid:" ++ uuid_text uuid

-- SUBNQN is that name; the serial number, of 20 bytes, is the first ten bytes of the UUID in hexadecimal; NGUID is the UUID
pub record IsNamedBy (uuid : List ℕ) (s : Subsystem) : Type 0 where
  pub name : s.nqn ≡ uuid_name uuid
  pub serial_number : s.serial_number ≡ encode_lower (take 10 uuid)
  pub nguid : s.nguid ≡ uuid
