-- What tenants of one device share, whatever they own, so that the law on tenants says nothing of it: an example of each.
use Rattle.std.specs.Prelude.{ℕ, false, ◌≡◌, ◌==◌, nat_lt, List, [], ◌∷◌, ◌++◌, get_or, replicate}
use Rattle.zone_state.specs.declared.state.ZoneState.{ZoneState}
use Rattle.zone_state.specs.declared.state.ZoneState.TheVariants.{Closed, ImplicitlyOpened}
use Rattle.zone_state.specs.declared.status.TheConstants.Status.{SUCCESS, TOO_MANY_ACTIVE_ZONES}
use Rattle.nvme_entry.specs.Entry.{decoded}
use Rattle.image_store.specs.Geometry.{Shape}
use Rattle.image_store.specs.Namespace.{all_empty, zone_at}
use Rattle.device_meaning.specs.EventReplies.{completion}
use Rattle.device_meaning.specs.Events.{Occurrence, state_after}
use Rattle.device_meaning.specs.Happenings.{happens}
use Rattle.device_meaning.specs.Judging.{interval_judge}
use Rattle.device_meaning.specs.State.{State, new_state}
use Rattle.device_events.specs.Replies.{ReplyWithData, without_data}
use Rattle.device_events.specs.ToldEvents as told
use Rattle.device_events.specs.declared.reply.Reply.TheVariants as reply
use Rattle.pushdown.specs.Pushdown.{blocks_at}
use Rattle.device_laws.specs.Tenants.{AllRespect, RunsUseOwn, Tenant, everyone_else, names_own}

-- ---- entries, each with identifier 1

-- an entry of this opcode for namespace 1, with a logical block below 256 in Command Dwords 10 and 11, and Command Dwords 12 to 15
-- (NVMe Base 2.0, 3.3.3.1)
abbrev pub entry_of : ℕ → ℕ → List ℕ → List ℕ
entry_of opcode lba more = opcode ∷ 0 ∷ 1 ∷ 0 ∷ 1 ∷ 0 ∷ 0 ∷ 0 ∷ replicate 32 0 ++ lba ∷ replicate 7 0 ++ more

-- Zone Append of one block to the zone that begins there
abbrev pub append_to : ℕ → List ℕ
append_to lba = entry_of 0x7d lba (replicate 16 0)

-- Zone Management Send of Open Zone
abbrev pub open_at : ℕ → List ℕ
open_at lba = entry_of 0x79 lba (0 ∷ 0 ∷ 0 ∷ 0 ∷ 3 ∷ replicate 11 0)

-- Zone Management Send of Reset Zone, with Select All
abbrev pub reset_all : List ℕ
reset_all = entry_of 0x79 0 (0 ∷ 0 ∷ 0 ∷ 0 ∷ 4 ∷ 1 ∷ replicate 10 0)

-- Report Zones from there on, of 32 dwords: the header and one descriptor
abbrev pub report_from : ℕ → List ℕ
report_from lba = entry_of 0x7a lba (31 ∷ replicate 15 0)

-- Load of 16 bytes into a slot; its program may emit nothing
abbrev pub load_into : ℕ → List ℕ
load_into slot = entry_of 0xc1 slot (16 ∷ replicate 15 0)

-- Run of a slot's program over one block, which appends to the zone that begins at `to`
abbrev pub run_of : ℕ → ℕ → ℕ → List ℕ
run_of slot lba to = entry_of 0xc0 lba (0 ∷ 0 ∷ slot ∷ replicate 5 0 ++ to ∷ replicate 7 0)

-- mov r0, 0; exit
abbrev pub passes : List ℕ
passes = 0xb7 ∷ replicate 7 0 ++ 0x95 ∷ replicate 7 0

-- a submission of one of these to a queue, with bytes beside it
abbrev pub asks : ℕ → List ℕ → List ℕ → Occurrence
asks queue entry bytes = record { event = told.Submitted queue entry bytes; starved = false }

abbrev pub left_by : List Occurrence → State → State
left_by events s = state_after interval_judge events s

abbrev pub reply_to : Occurrence → State → ReplyWithData
reply_to o s = (happens interval_judge s o.starved o.event).reply

abbrev pub state_of : State → ℕ → ZoneState
state_of s z = (zone_at s.namespace z).state

-- ---- two tenants: the first has queue 1, zones 0 and 1 and slot 0, and the second all else

abbrev pub first_tenant : Tenant
first_tenant = record { queues = λ queue. queue == 1; zones = λ z. nat_lt z 2; slots = λ slot. slot == 0 }

abbrev pub second_tenant : Tenant
second_tenant = everyone_else first_tenant

-- four zones of 8 blocks, of which 6 can be written
abbrev pub four : ℕ → ℕ → Shape
four open_limit active_limit =
    record { block = 512; zones = 4; size = 8; capacity = 6; limits = record { open_limit = open_limit; active_limit = active_limit } }

-- one zone may be open, and two active: the first has written a block to its zone 0
abbrev pub written : State
written = left_by (asks 1 (append_to 0) (replicate 512 7) ∷ []) (new_state (all_empty (four 1 2)))

-- and then the second one to its zone 2
abbrev pub second_writes : List Occurrence
second_writes = asks 2 (append_to 16) (replicate 512 7) ∷ []

abbrev pub both_written : State
both_written = left_by second_writes written

-- two may be open, and four active: each has a block to read, an open zone, and a program
abbrev pub can_run : State
can_run = left_by (
    asks 1 (append_to 0) (replicate 512 7)
    ∷ asks 1 (open_at 8) []
    ∷ asks 2 (append_to 16) (replicate 512 7)
    ∷ asks 2 (open_at 24) []
    ∷ asks 1 (load_into 0) passes
    ∷ asks 2 (load_into 1) passes
    ∷ []) (new_state (all_empty (four 2 4)))

-- the Run of the first
abbrev pub first_runs : List Occurrence
first_runs = asks 1 (run_of 0 0 8) [] ∷ []

pub record TenantsShare : Type 0 where
  -- no run is active, and what the second writes and the first runs respects what each owns
  pub no_runs : RunsUseOwn second_tenant written × RunsUseOwn first_tenant can_run
  pub write_respects : AllRespect second_tenant interval_judge second_writes written
  pub run_respects : AllRespect first_tenant interval_judge first_runs can_run
  -- the resources: to make room for the second's zone, the first's is closed (ZNS 1.1, 2.1.1)
  pub opened : state_of written 0 ≡ ImplicitlyOpened
  pub closed : state_of both_written 0 ≡ Closed
  -- and an Append to another zone of its own, which would have been taken, is refused
  pub would_append : reply_to (asks 1 (append_to 8) (replicate 512 7)) written ≡ completion 1 1 SUCCESS 8 0 []
  pub cannot_append : reply_to (asks 1 (append_to 8) (replicate 512 7)) both_written ≡ completion 1 1 TOO_MANY_ACTIVE_ZONES 0 0 []
  -- the reports: one of the second's zone 2 tells the first its state, Empty and then Implicitly Opened (ZNS 1.1, 3.4.2)
  pub reported : get_or (reply_to (asks 1 (report_from 16) []) written).bytes 65 0 ≡ 0x10
  pub reported_then : get_or (reply_to (asks 1 (report_from 16) []) both_written).bytes 65 0 ≡ 0x20
  -- Select All: that of the second takes the first's zone too, which loses its block (ZNS 1.1, 3.4.3); so it doesn't respect what it owns
  pub names_all : names_own second_tenant written.namespace (decoded reset_all) ≡ false
  pub had : blocks_at written 0 ≡ replicate 512 7 ∷ []
  pub lost : blocks_at (left_by (asks 2 reset_all [] ∷ []) written) 0 ≡ []
  -- the numbers of runs: the lowest that is free is that of the next Run, whoever asks for it
  pub would_be_first : reply_to (asks 2 (run_of 1 16 24) []) can_run ≡ without_data (reply.Pending 0)
  pub is_second : reply_to (asks 2 (run_of 1 16 24) []) (left_by first_runs can_run) ≡ without_data (reply.Pending 1)
