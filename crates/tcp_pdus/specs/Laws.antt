-- What holds of PDUs.
use Rattle.std.specs.Prelude.{ℕ, ◌≡◌, ◌+◌, ◌*◌, ◌≤◌}
use Rattle.tcp_pdus.specs.Initialize.{data_begin}

-- of the multiples of a number, this is the least that is at least so much
pub record IsLeastMultiple (unit least value : ℕ) : Type 0 where
  pub is : (times : ℕ) × (value ≡ times * unit)
  pub enough : least ≤ value
  pub none_below : (times : ℕ) → least ≤ times * unit → value ≤ times * unit

-- data begins at the least multiple of HPDA + 1 dwords that isn't within the header of 24 bytes (NVMe over TCP Transport 1.0, 3.6)
abbrev pub DataBeginsAligned : Type 0
DataBeginsAligned = (alignment : ℕ) → IsLeastMultiple (4 * (alignment + 1)) 24 (data_begin alignment)
