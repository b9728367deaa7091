-- What stands in a place for an R2T.
use Rattle.std.specs.Prelude.{ℕ, ◌≡◌, ◌≤◌, List, [], IfSome, length, Option, None, Some, Vec, vec_capacity}
use Rattle.std.specs.declared.alloc.Global.{Global}
use Rattle.tcp_pdus.specs.declared.transfer.ReadyToTransfer.{ReadyToTransfer}
use Rattle.tcp_connection.specs.Transfers.{Transfer}

abbrev pub transfer_in : List ℕ → Option ReadyToTransfer → Option Transfer
transfer_in came None = None
transfer_in came (Some wanted) = Some (record { wanted = wanted; came = came })

-- there is room for all of its data, and no more has come than it wants
pub record IsPlace (wanted : Option ReadyToTransfer) (came : Vec ℕ Global) : Type 0 where
  pub room : 131072 ≤ vec_capacity came
  pub most : IfSome wanted (λ it. it.length ≤ 131072)
  pub within : IfSome wanted (λ it. length came.items ≤ it.length)
