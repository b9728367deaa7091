-- Blocks of bytes are bytes.
use Rattle.std.proofs.Common.{ℕ, ◌*◌, zero, suc, List, [], ◌∷◌, get_or, drop, arith}
use Rattle.zone_state.specs.Zone.{CountedZone}
use Rattle.common_definitions.specs.Bytes.{AreBytes, pieces}
use Rattle.common_definitions.proofs.Proved.{bytes_from, bytes_to}
use Rattle.image_store.specs.ImageInMemory.{zones_of}
use Rattle.image_store.specs.Namespace.{no_zone}

-- each block that bytes are cut into is bytes
pub blocks_are_bytes : (b n : ℕ) (xs : List ℕ) → AreBytes xs → (i : ℕ) → AreBytes (get_or (pieces b n xs) i [])
blocks_are_bytes b zero xs fit i = λ k. omega arith
blocks_are_bytes b (suc n) xs fit zero = bytes_to b xs fit
blocks_are_bytes b (suc n) xs fit (suc i) = blocks_are_bytes b n (drop b xs) (bytes_from b xs fit) i

pub zones_are_bytes : (b c : ℕ) (zs : List CountedZone) (xs : List ℕ) → AreBytes xs
    → (z i : ℕ) → AreBytes (get_or (get_or (zones_of b c zs xs) z no_zone).blocks i [])
zones_are_bytes b c [] xs fit z i = λ k. omega arith
zones_are_bytes b c (r ∷ zs) xs fit zero i = blocks_are_bytes b r.written xs fit i
zones_are_bytes b c (r ∷ zs) xs fit (suc z) i = zones_are_bytes b c zs (drop (c * b) xs) (bytes_from (c * b) xs fit) z i
