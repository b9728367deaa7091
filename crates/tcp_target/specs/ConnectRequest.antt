-- What the entry of a Connect says (NVMe Base 2.0, 6.3).
use Rattle.std.specs.Prelude.{ℕ, Bool, nat_lt, ◌&&◌, ◌==◌, ◌/◌, ◌%◌, List, slice_index, if◌then◌else◌}
use Rattle.common_definitions.specs.Bytes.{field}
use Rattle.tcp_target.specs.declared.connect_request.ConnectRequest.{ConnectRequest}

-- RECFMT in bytes 40 and 41, QID in 42 and 43, SQSIZE in 44 and 45, CATTR in 46, KATO in 48 to 51
abbrev pub request_in : List ℕ → ConnectRequest
request_in entry = record {
  record_format = field entry 40 2;
  queue = field entry 42 2;
  size = field entry 44 2;
  attributes = slice_index entry 46;
  keep_alive_timeout = field entry 48 4;
}

-- the most entries of the admin queue, and of an I/O queue: MQES and one (profile)
abbrev pub most_entries : ℕ → ℕ
most_entries queue = if queue == 0 then 32 else 128

-- SQSIZE is zero-based: a queue has at least 2 entries
abbrev pub has_size : ConnectRequest → Bool
has_size request = nat_lt 0 request.size && nat_lt request.size (most_entries request.queue)

-- CATTR bit 2 disables the submission queue's flow control
abbrev pub has_flow_control : ConnectRequest → Bool
has_flow_control request = request.attributes / 4 % 2 == 0
