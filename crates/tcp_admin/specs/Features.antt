-- Set Features and Get Features (NVMe Base 2.0, 5.27 and 5.15).
use Rattle.std.specs.Prelude.{ℕ, ◌+◌, ◌*◌, ◌^◌, ◌==◌, List, Option, Some, None, Result, Ok, Err, if◌then◌else◌, slice_index}
use Rattle.std.specs.Option.{ok_or}
use Rattle.common_definitions.specs.Bytes.{field}
use Rattle.common_definitions.specs.Checks.{unless_failed}
use Rattle.common_definitions.specs.Readings.{◌>>=◌}
use Rattle.zone_state.specs.declared.status.Status.{Status}
use Rattle.zone_state.specs.declared.status.TheConstants.Status.{INVALID_FIELD_IN_COMMAND}
use Rattle.tcp_admin.specs.declared.controller.Controller.{Controller}
use Rattle.tcp_admin.specs.declared.features.Feature.{Feature}
use Rattle.tcp_admin.specs.declared.features.Feature.TheVariants.{NumberOfQueues, AsynchronousEventConfiguration, KeepAliveTimer}
use Rattle.tcp_admin.specs.Transfers.{has_length}

-- FID in byte 40
abbrev pub feature_of : ℕ → Option Feature
feature_of fid =
    if fid == 0x07 then Some NumberOfQueues else
    if fid == 0x0B then Some AsynchronousEventConfiguration else
    if fid == 0x0F then Some KeepAliveTimer else None

abbrev pub feature_in : List ℕ → Result Feature Status
feature_in entry = ok_or (feature_of (slice_index entry 40)) INVALID_FIELD_IN_COMMAND

-- NSQA (15:0) and NCQA (31:16), both zero-based: 8 I/O queues are allocated, however many are asked for
abbrev pub queues_allocated : ℕ
queues_allocated = 7 + 7 * 2 ^ 16

-- Dword 11 in bytes 44 to 47 is kept,
abbrev pub feature_set : Feature → ℕ → Controller → Controller
feature_set NumberOfQueues value c = c
feature_set AsynchronousEventConfiguration value c = record c { event_configuration = value }
feature_set KeepAliveTimer value c = record c { keep_alive = value }

-- and Dword 0 of the completion tells what was allocated,
abbrev pub told_when_set : Feature → ℕ
told_when_set NumberOfQueues = queues_allocated
told_when_set AsynchronousEventConfiguration = 0
told_when_set KeepAliveTimer = 0

-- or what was kept
abbrev pub told_when_got : Feature → Controller → ℕ
told_when_got NumberOfQueues c = queues_allocated
told_when_got AsynchronousEventConfiguration c = c.event_configuration
told_when_got KeepAliveTimer c = c.keep_alive

abbrev pub set_by : Result Feature Status → ℕ → Controller → Controller × Result ℕ Status
set_by (Ok feature) value c = (feature_set feature value c, Ok (told_when_set feature))
set_by (Err status) value c = (c, Err status)

abbrev pub features_set : List ℕ → Controller → Controller × Result ℕ Status
features_set entry c = set_by (feature_in entry) (field entry 44 4) c

-- Get Features gives no data
abbrev pub feature_got : List ℕ → Controller → Result ℕ Status
feature_got entry c = feature_in entry >>= λ feature. unless_failed (has_length entry 0) (told_when_got feature c)
