-- The R2Ts that are under way on a connection, by their tags (NVMe over TCP Transport 1.0, 3.6: R2T and H2CData).
use Rattle.std.specs.Prelude.{ℕ, Bool, nat_lt, false, is_none, ◌==◌, List, [], ◌++◌, length, position, Option, Some, None, if◌then◌else◌, slice_index_or, slice_set}
use Rattle.std.specs.List.{list_any}
use Rattle.tcp_pdus.specs.declared.transfer.ReadyToTransfer.{ReadyToTransfer}

-- an R2T, and the data that came for it in whole PDUs
pub record Transfer : Type 0 where
  pub wanted : ReadyToTransfer
  pub came : List ℕ

abbrev pub begun : ReadyToTransfer → Transfer
begun wanted = record { wanted = wanted; came = [] }

-- it is outstanding until all of its data has come
abbrev pub is_outstanding : Transfer → Bool
is_outstanding t = nat_lt (length t.came) t.wanted.length

-- ---- by tags

-- transfers stand in places, of which the number is the tag
abbrev pub transfer_at : ℕ → List (Option Transfer) → Option Transfer
transfer_at tag transfers = slice_index_or transfers tag None

-- the lowest tag that none has
abbrev pub free_tag : List (Option Transfer) → Option ℕ
free_tag transfers = position (λ place. is_none place) transfers

-- the one with a tag, where it is outstanding
abbrev pub outstanding_in : Option Transfer → Option Transfer
outstanding_in None = None
outstanding_in (Some t) = if is_outstanding t then Some t else None

abbrev pub outstanding : ℕ → List (Option Transfer) → Option Transfer
outstanding tag transfers = outstanding_in (transfer_at tag transfers)

-- an R2T is sent with its tag
abbrev pub with_wanted : ReadyToTransfer → List (Option Transfer) → List (Option Transfer)
with_wanted wanted transfers = slice_set transfers wanted.tag (Some (begun wanted))

-- data that comes for a tag joins what came for it before, and changes no other
abbrev pub joined_in : List ℕ → Option Transfer → Option Transfer
joined_in sent None = None
joined_in sent (Some t) = Some (record t { came = t.came ++ sent })

abbrev pub with_data : ℕ → List ℕ → List (Option Transfer) → List (Option Transfer)
with_data tag sent transfers = slice_set transfers tag (joined_in sent (transfer_at tag transfers))

-- ---- by commands

abbrev pub is_for : ℕ → Option Transfer → Bool
is_for command None = false
is_for command (Some t) = t.wanted.command == command

-- a command has one
abbrev pub has_transfer : ℕ → List (Option Transfer) → Bool
has_transfer command transfers = list_any (λ place. is_for command place) transfers

-- all of its data, once that has come
abbrev pub whole_in : Option Transfer → Option (List ℕ)
whole_in None = None
whole_in (Some t) = if is_outstanding t then None else Some t.came

abbrev pub place_of : ℕ → List (Option Transfer) → Option ℕ
place_of command transfers = position (λ place. is_for command place) transfers

abbrev pub data_at : Option ℕ → List (Option Transfer) → Option (List ℕ)
data_at None transfers = None
data_at (Some tag) transfers = whole_in (transfer_at tag transfers)

abbrev pub data_of_command : ℕ → List (Option Transfer) → Option (List ℕ)
data_of_command command transfers = data_at (place_of command transfers) transfers

-- it goes
abbrev pub without_at : Option ℕ → List (Option Transfer) → List (Option Transfer)
without_at None transfers = transfers
without_at (Some tag) transfers = slice_set transfers tag None

abbrev pub without_command : ℕ → List (Option Transfer) → List (Option Transfer)
without_command command transfers = without_at (place_of command transfers) transfers
