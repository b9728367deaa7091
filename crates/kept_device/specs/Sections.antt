-- How what is kept is spelled (profile): a section of bytes for each slot and each place, empty where nothing is there.
use Rattle.std.specs.Prelude.{ℕ, ◌≡◌, ◌<◌, ◌+◌, ◌^◌, ◌==◌, nat_le, List, [], ◌++◌, length, take, drop, Option, Some, None, option_map, Result, Ok, Err, if◌then◌else◌}
use Rattle.byteorder.specs.Endian.{little_bytes}
use Rattle.common_definitions.specs.Bytes.{field}
use Rattle.program_interface.specs.declared.area.TheConstants.{SCRATCH_BYTES}
use Rattle.nvme_entry.specs.Entry.{decoded, identifier_of}
use Rattle.nvme_entry.specs.declared.command.Command.{Command}
use Rattle.nvme_entry.specs.declared.command.Command.TheVariants as command
use Rattle.nvme_entry.specs.declared.command.RunCommand.{RunCommand}
use Rattle.zone_state.specs.declared.status.Status.{Status}
use Rattle.device_meaning.specs.View.{Active}
use Rattle.kept_device.specs.Kept.{SavedProgram}

-- ---- programs

-- the limit in 4 bytes, the result, and the bytes of the program
abbrev pub program_section : Option SavedProgram → List ℕ
program_section None = []
program_section (Some p) = little_bytes 4 p.limit ++ p.result ++ p.bytes

-- a program that can be spelled so
pub record IsSpellable (p : SavedProgram) : Type 0 where
  pub limit : p.limit < 2 ^ 32
  pub result : length p.result ≡ SCRATCH_BYTES

-- what a section spells of a slot; no value where it spells nothing
abbrev pub slot_in : List ℕ → Option (Option SavedProgram)
slot_in section =
    if length section == 0 then Some None else
    if nat_le (4 + SCRATCH_BYTES) (length section)
    then Some (Some (record { bytes = drop (4 + SCRATCH_BYTES) section; limit = field section 0 4; result = take SCRATCH_BYTES (drop 4 section) }))
    else None

-- ---- runs

-- what stands before the scratch bytes: the queue in 2 bytes, the entry of the Run, with its command identifier, and in 4 bytes each how
-- many blocks are done, how many frames were emitted and how many blocks appended
abbrev pub run_header : ℕ → List ℕ → ℕ → ℕ → ℕ → List ℕ
run_header queue entry index frames appended =
    little_bytes 2 queue ++ entry ++ little_bytes 4 index ++ little_bytes 4 frames ++ little_bytes 4 appended

-- how many bytes these are
abbrev pub header_bytes : ℕ
header_bytes = 78

-- the section of a run: that, the scratch bytes, and the bytes that are pending
pub record IsRunSection (section : List ℕ) (a : Active) : Type 0 where
  pub entry : List ℕ
  pub long : length entry ≡ 64
  pub asks : decoded entry ≡ Ok (command.Run a.command)
  pub identifier : identifier_of entry ≡ a.cid
  pub spelled : section ≡ run_header a.queue entry a.so_far.index a.so_far.frames a.so_far.appended ++ a.so_far.scratch ++ a.so_far.pending

-- the Run that an entry asks for
abbrev pub run_asked : Result Command Status → Option RunCommand
run_asked (Ok (command.Run asked)) = Some asked
run_asked (Ok (command.Standard asked)) = None
run_asked (Ok (command.Load asked)) = None
run_asked (Ok (command.Result slot)) = None
run_asked (Err status) = None

-- the run of a section, of whose entry this is asked
abbrev pub run_by : List ℕ → List ℕ → RunCommand → Active
run_by section entry asked = record {
  queue = field section 0 2;
  cid = identifier_of entry;
  command = asked;
  so_far = record {
    index = field section 66 4;
    scratch = take SCRATCH_BYTES (drop header_bytes section);
    pending = drop (header_bytes + SCRATCH_BYTES) section;
    frames = field section 70 4;
    appended = field section 74 4;
  };
}

-- what a section spells of a place
abbrev pub place_in : List ℕ → Option (Option Active)
place_in section =
    if length section == 0 then Some None else
    if nat_le (header_bytes + SCRATCH_BYTES) (length section)
    then option_map (λ asked. Some (run_by section (take 64 (drop 2 section)) asked)) (run_asked (decoded (take 64 (drop 2 section))))
    else None

-- ---- what is spelled reads back

abbrev pub ProgramsReadBack : Type 0
ProgramsReadBack = (p : SavedProgram) → IsSpellable p → slot_in (program_section (Some p)) ≡ Some (Some p)

-- a run that can be spelled so
pub record IsSpellableRun (a : Active) : Type 0 where
  pub queue : a.queue < 2 ^ 16
  pub index : a.so_far.index < 2 ^ 32
  pub frames : a.so_far.frames < 2 ^ 32
  pub appended : a.so_far.appended < 2 ^ 32
  pub scratch : length a.so_far.scratch ≡ SCRATCH_BYTES

abbrev pub RunsReadBack : Type 0
RunsReadBack = (section : List ℕ) (a : Active) → IsSpellableRun a → IsRunSection section a → place_in section ≡ Some (Some a)
