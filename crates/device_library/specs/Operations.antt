-- Operations by their numbers, as target/pifnjarl_loop.h has them.
use Rattle.std.specs.Prelude.{ℕ, Bool, true, false, List, map, replicate}
use Rattle.device_library.specs.Flags.{byte_of}
use Rattle.device_library.specs.declared.operation_head.OperationHead.{OperationHead}
use Rattle.tcp_loop.specs.declared.operation.Operation.{Operation}
use Rattle.tcp_loop.specs.declared.operation.Operation.TheVariants as operation
use Rattle.tcp_loop.specs.declared.operation.Which.{Which}
use Rattle.tcp_loop.specs.declared.operation.Which.TheVariants as which

abbrev pub head : ℕ → ℕ → Bool → OperationHead
head kind number flag = record { kind = kind; number = number; flag = flag }

-- is it the new file?
abbrev pub is_beside : Which → Bool
is_beside which.Held = false
is_beside which.Beside = true

abbrev pub head_of : Operation → OperationHead
head_of (operation.Poll watched milliseconds) = head 0 milliseconds watched.accepts
head_of operation.Signal = head 1 0 false
head_of operation.Now = head 2 0 false
head_of (operation.Accept place) = head 3 place false
head_of (operation.Read place) = head 4 place false
head_of (operation.Write place) = head 5 place false
head_of (operation.Close place) = head 6 place false
head_of (operation.Pwrite file «at») = head 7 «at» (is_beside file)
head_of (operation.Ftruncate len) = head 8 len false
head_of (operation.Fsync file) = head 9 0 (is_beside file)
head_of operation.Create = head 10 0 false
head_of operation.Rename = head 11 0 false
head_of operation.SyncFolder = head 12 0 false
head_of operation.Discard = head 13 0 false
head_of (operation.Log cause) = head 14 0 cause
head_of (operation.End done) = head 15 0 done

-- 1 for each place on which bytes may come, where something is waited for
abbrev pub reads_of : Operation → List ℕ
reads_of (operation.Poll watched milliseconds) = map byte_of watched.reads
reads_of _ = replicate 40 0

-- and for each that may take bytes
abbrev pub writes_of : Operation → List ℕ
writes_of (operation.Poll watched milliseconds) = map byte_of watched.writes
writes_of _ = replicate 40 0
