-- What is known of a file of the system that is read, by the calls for it.
use Rattle.std.specs.Prelude.{◌≡◌, ◌≤◌, ℕ, ◌+◌, List, length}
use Rattle.std.proofs.Common.{arith}
use Rattle.stored_file.specs.Calls.{Call, told_of}
use Rattle.durable_device.specs.Kept.{MayBeLeft}

-- the bytes that were read
abbrev pub read_of : List Call → List ℕ
read_of calls = (told_of MayBeLeft calls).seen

-- how often a call failed or wasn't made
abbrev pub faults_of : List Call → ℕ
faults_of calls = (told_of MayBeLeft calls).faults

-- no more are read than there are
pub is_within : (calls : List Call) (at left : ℕ) → length (read_of calls) ≡ at → length (read_of calls) ≤ at + left
is_within calls at left counted = omega (arith, counted)
