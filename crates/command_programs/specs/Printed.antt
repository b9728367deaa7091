-- What `disasm`, `unpack` and `verify` print (profile).
use Rattle.std.specs.Prelude.{◌≡◌, ℕ, Bool, true, false, List, [], ◌++◌, codes, length, map, Option, Some, None, Ok, IfSome}
use Rattle.std.specs.Fmt.{decimal}
use Rattle.std.specs.Io.KnownBytes.{Appends}
use Rattle.std.specs.List.{flat_map, join_with_byte}
use Rattle.clap.specs.declared.parser.matches.ArgMatches.{ArgMatches}
use Rattle.hex.specs.Hex.{encode_lower}
use Rattle.accepted_programs.specs.Accepted.{reason_number, refusal}
use Rattle.accepted_programs.specs.Emitted.{most_emitted}
use Rattle.accepted_programs.specs.declared.reason.Refusal.{Refusal}
use Rattle.ebpf_asm.specs.Listing.{listing, listing_with_slots}
use Rattle.emit_append.specs.Unpacking.{unpacked}
use Rattle.instruction_set.specs.Program.{instruction_count}
use Rattle.instruction_set.specs.declared.instruction.Instruction.{Instruction}
use Rattle.interval_domain.specs.declared.fact.Fact.{Fact}
use Rattle.program_interface.specs.RunSizes.{Sizes}
use Rattle.word_domain.specs.Domain.{Operations}
use Rattle.command_files.specs.Arguments.{number_of, value_of}
use Rattle.command_files.specs.Lines.{GrowsAround}
use Rattle.command_programs.specs.Asked.{AsksForSizes, Spell, is_set}
use Rattle.command_files.specs.Profile.{operations_of, profile_number}
use Rattle.command_files.specs.declared.profile.Profile.{Profile}
use Rattle.command_programs.specs.declared.unpack.TheConstants.{FILE}
use Rattle.command_programs.specs.declared.verify.Form.{Form}
use Rattle.command_programs.specs.declared.verify.Form.TheVariants.{Json, Line, Worded}

-- the listing of a program, with the slot of each instruction before it or without
abbrev pub listed : Bool → List (Option Instruction) → List ℕ
listed true program = listing_with_slots program
listed false program = listing program

-- the listing of the program that a file's bytes spell, where these are told, is printed, and nothing else, where the output tells
-- what it has; with slots where these are asked for
pub record PrintsListing (matches : ArgMatches) (bytes before after : Option (List ℕ)) : Type 0 where
  pub program : List (Option Instruction)
  pub spelled : Spell bytes program
  pub printed : Appends before after (listed (is_set matches (codes "slots")) program)

-- records, each in hexadecimal on a line
abbrev pub record_lines : List (List ℕ) → List ℕ
record_lines records = flat_map (λ bytes. encode_lower bytes ++ codes "\n") records

-- a record as a JSON object: its length, and its bytes in hexadecimal
abbrev pub record_object : List ℕ → List ℕ
record_object bytes = codes "{\"length\":" ++ decimal (length bytes) ++ codes ",\"bytes\":\"" ++ encode_lower bytes ++ codes "\"}"

-- the objects of records in their order, with commas (44) between them
abbrev pub record_objects : List (List ℕ) → List ℕ
record_objects records = join_with_byte 44 (map record_object records)

-- records as one JSON object, on a line
abbrev pub records_document : List (List ℕ) → List ℕ
records_document records = codes "{\"records\":[" ++ record_objects records ++ codes "]}\n"

-- records as one JSON object, or on lines
abbrev pub records_text : Bool → List (List ℕ) → List ℕ
records_text true records = records_document records
records_text false records = record_lines records

-- the name of the file of output blocks that a command line gives
abbrev pub blocks_file_of : ArgMatches → List ℕ
blocks_file_of matches = value_of matches FILE.now

-- the records of the output blocks that a file's bytes are, where these are told, are printed, and nothing else, where the output
-- tells what it has; as JSON where that is asked for
pub record PrintsRecords (matches : ArgMatches) (bytes before after : Option (List ℕ)) : Type 0 where
  pub block : ℕ
  pub asked : number_of matches (codes "block") ≡ Some block
  pub records : List (List ℕ)
  pub held : IfSome bytes (λ bytes. unpacked block bytes ≡ Ok records)
  pub printed : Appends before after (records_text (is_set matches (codes "json")) records)

-- that a program of so many instructions is accepted
abbrev pub accepted_line : ℕ → List ℕ
accepted_line instructions = codes "accepted " ++ decimal instructions ++ codes "\n"

-- that one is refused: the slot, and the number of the reason
abbrev pub refused_line : Refusal → List ℕ
refused_line refusal = codes "refused " ++ decimal refusal.slot ++ codes " " ++ decimal (reason_number refusal.reason) ++ codes "\n"

-- that a program of so many instructions is accepted, which emits at most so many bytes for a block, as a JSON object on a line
abbrev pub accepted_object : ℕ → ℕ → List ℕ
accepted_object instructions emitted =
    codes "{\"accepted\":true,\"instruction_count\":" ++ decimal instructions ++ codes ",\"most_emitted\":" ++ decimal emitted ++ codes "}\n"

-- the slot of a refusal, and the number of its reason, as fields of a JSON object
abbrev pub place_fields : Refusal → List ℕ
place_fields refusal = codes ",\"slot\":" ++ decimal refusal.slot ++ codes ",\"reason\":" ++ decimal (reason_number refusal.reason)

-- that a program of so many instructions is refused, as the first fields of one
abbrev pub refused_front : ℕ → Refusal → List ℕ
refused_front instructions refusal = codes "{\"accepted\":false,\"instruction_count\":" ++ decimal instructions ++ place_fields refusal

-- the form that a command line asks for: as JSON, and else with words where some are asked for
abbrev pub form_asked : (json explained facts : Bool) → Form
form_asked true explained facts = Json
form_asked false false false = Line
form_asked false explained facts = Worded explained facts

abbrev pub form_of : ArgMatches → Form
form_of matches = form_asked (is_set matches (codes "json")) (is_set matches (codes "explain")) (is_set matches (codes "facts"))

-- This is printed, and nothing else, where the output tells what it has: that a program of so many instructions is accepted, which
-- emits at most so many bytes for a block; on a line, with some words behind it, or as JSON.
abbrev pub PrintsAcceptance : Form → ℕ → ℕ → Option (List ℕ) → Option (List ℕ) → Type 0
PrintsAcceptance Line instructions emitted before after = Appends before after (accepted_line instructions)
PrintsAcceptance (Worded explained facts) instructions emitted before after = GrowsAround (accepted_line instructions) [] before after
PrintsAcceptance Json instructions emitted before after = Appends before after (accepted_object instructions emitted)

-- that it is refused; as JSON with some fields behind the first ones
abbrev pub PrintsFirstRefusal : Form → ℕ → Refusal → Option (List ℕ) → Option (List ℕ) → Type 0
PrintsFirstRefusal Line instructions first before after = Appends before after (refused_line first)
PrintsFirstRefusal (Worded explained facts) instructions first before after = GrowsAround (refused_line first) [] before after
PrintsFirstRefusal Json instructions first before after = GrowsAround (refused_front instructions first) (codes "}\n") before after

module _ {D : Type 0} (operations : Operations D) (program : List (Option Instruction)) (sizes : Sizes) (form : Form) (before after : Option (List ℕ)) where
  -- the program is accepted, and this is printed
  pub record SaysAccepted : Type 0 where
    pub accepted : refusal operations program sizes ≡ None
    pub printed : PrintsAcceptance form (instruction_count program) (most_emitted operations program sizes.block) before after

  -- it is refused, and the first refusal is printed
  pub record SaysRefused : Type 0 where
    pub first : Refusal
    pub refused : refusal operations program sizes ≡ Some first
    pub printed : PrintsFirstRefusal form (instruction_count program) first before after

-- the program that a file's bytes spell, where these are told, is judged for the sizes that are asked for, by the operations of the
-- profile that is asked for, and this is said of it, in the form that is asked for
pub record Judges (Says : Operations Fact → List (Option Instruction) → Sizes → Form → Type 0) (matches : ArgMatches) (bytes : Option (List ℕ)) : Type 0 where
  pub program : List (Option Instruction)
  pub spelled : Spell bytes program
  pub block : ℕ
  pub blocked : number_of matches (codes "block") ≡ Some block
  pub sizes : Sizes
  pub asked : AsksForSizes matches block sizes
  pub profile : Profile
  pub profiled : number_of matches (codes "profile") ≡ Some (profile_number profile)
  pub says : Says (operations_of profile) program sizes (form_of matches)

-- it is accepted, and this is printed
abbrev pub PrintsAccepted : ArgMatches → Option (List ℕ) → Option (List ℕ) → Option (List ℕ) → Type 0
PrintsAccepted matches bytes before after = Judges (λ operations program sizes form. SaysAccepted operations program sizes form before after) matches bytes

-- it is refused, and the first refusal is printed
abbrev pub PrintsRefused : ArgMatches → Option (List ℕ) → Option (List ℕ) → Option (List ℕ) → Type 0
PrintsRefused matches bytes before after = Judges (λ operations program sizes form. SaysRefused operations program sizes form before after) matches bytes
