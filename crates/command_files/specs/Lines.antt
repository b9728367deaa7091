-- What a failure is printed as (profile).
use Rattle.std.specs.Prelude.{◌≡◌, ℕ, List, [], ◌∷◌, ◌++◌, codes, bytes_eq, if◌then◌else◌, Option}
use Rattle.std.specs.Fmt.{decimal}
use Rattle.std.specs.String.{string_bytes}
use Rattle.std.specs.Io.KnownBytes.{Appends}
use Rattle.ebpf_asm.specs.Fault.{fault_number as assembly_number}
use Rattle.ebpf_asm.specs.declared.refusal.AssemblyRefusal.{AssemblyRefusal}
use Rattle.ebpf_decode.specs.Fault.{fault_number as program_number}
use Rattle.ebpf_decode.specs.declared.refusal.ProgramRefusal.{ProgramRefusal}
use Rattle.emit_append.specs.Refusal.{refused_byte}
use Rattle.emit_append.specs.declared.refusal.FrameRefusal.{FrameRefusal}
use Rattle.event_frames.specs.Faults.{expected_words, field_number}
use Rattle.event_frames.specs.declared.fault.Field.{Field}
use Rattle.image_text.specs.Fault.{load_number}
use Rattle.image_store.specs.Geometry.{geometry_refusal_number as geometry_number}
use Rattle.image_text.specs.declared.fault.LoadFault.{LoadFault}
use Rattle.image_store.specs.declared.geometry.GeometryRefusal.{GeometryRefusal}
use Rattle.command_files.specs.DataFault.{data_number}
use Rattle.command_files.specs.FileCause.{cause_words}
use Rattle.command_files.specs.JournalFault.{fault_words}
use Rattle.command_files.specs.declared.journal_fault.JournalFault.{JournalFault}
use Rattle.command_files.specs.declared.journal_fault.JournalFault.TheVariants.{Damaged}
use Rattle.command_files.specs.Shown.{shown}
use Rattle.command_files.specs.declared.data_fault.DataFault.{DataFault}
use Rattle.command_files.specs.declared.failure.Failure.{Failure}
use Rattle.command_files.specs.declared.file_cause.FileCause.{FileCause}
use Rattle.command_files.specs.declared.file_cause.FileCause.TheVariants.{LargerThan, Other}
use Rattle.command_files.specs.declared.failure.Failure.TheVariants.{CommandLine, NotText, NotInRange, CannotRead, CannotWrite, NotAnImage, CannotPrint, NoMemory, LineRefused, ReplyRefused, WordsRefused, CommandsRefused, GeometryRefused, NotABlock, EmitExceedsBlock, ImageRefused, JournalRefused, DeviceRefused, AssemblyRefused, ProgramRefused, FrameRefused, DataRefused, StreamRefused, StreamCutOff, NotAccepted, QuestionRefused}

-- a text: one that is said here, one around words that another crate has, one that another crate has, or none
pub data Text : Type 0 where
  Said : (text : List ℕ) → Text
  Around : (front behind : List ℕ) → Text
  Elsewhere : Text
  Silence : Text

-- a line
abbrev pub line : List ℕ → Text
line text = Said (text ++ 10 ∷ [])

-- a sentence of which the fault's own words stand behind this front, and then a line for scripts
abbrev pub sentence : List ℕ → List ℕ → Text
sentence front behind = Around front (10 ∷ behind ++ 10 ∷ [])

-- the word of an option that is no block size
abbrev pub no_block_size : List ℕ → List ℕ → List ℕ
no_block_size option word =
    codes "--" ++ option ++ codes ": '" ++ word ++ codes "' is not a block size (512, 1024, 2048, 4096, 8192 or 16384)" ++ 10 ∷ []

-- the word of an option that is no number from the least to the most
abbrev pub no_number : List ℕ → List ℕ → ℕ → ℕ → List ℕ
no_number option word least most =
    codes "--" ++ option ++ codes ": '" ++ word ++ codes "' is not a number from " ++ decimal least ++ codes " to " ++ decimal most ++ 10 ∷ []

-- the word of an option that is not what is wanted there
abbrev pub range_line : List ℕ → List ℕ → ℕ → ℕ → List ℕ
range_line option word least most =
    if bytes_eq option (codes "block") then no_block_size option word else no_number option word least most

-- why a file fails, in a sentence: nothing where the cause isn't known
abbrev pub cause_sentence : List ℕ → FileCause → List ℕ
cause_sentence path Other = []
cause_sentence path (LargerThan mebibytes) =
    path ++ codes ": larger than " ++ decimal mebibytes ++ codes " MiB, the most that is read of it" ++ 10 ∷ []
cause_sentence path cause = path ++ codes ": " ++ cause_words cause ++ 10 ∷ []

-- a file that can't be read: why, and the line for scripts
abbrev pub unread_text : List ℕ → FileCause → Text
unread_text path cause = Said (cause_sentence path cause ++ (codes "cannot read " ++ path ++ 10 ∷ []))

-- the same of a file that can't be written
abbrev pub unwritten_text : List ℕ → FileCause → Text
unwritten_text path cause = Said (cause_sentence path cause ++ (codes "cannot write " ++ path ++ 10 ∷ []))

-- a file that isn't replaced by an image, since it has bytes that are none
abbrev pub not_an_image_text : List ℕ → Text
not_an_image_text path =
    Said (path ++ codes ": " ++ codes "it has bytes that are no image; `--force` replaces it" ++ 10 ∷ []
    ++ (codes "cannot write " ++ path ++ 10 ∷ []))

-- a line of a file: what stands in front of why it is refused
abbrev pub line_front : List ℕ → ℕ → List ℕ
line_front path number = path ++ codes ", line " ++ decimal number ++ codes ": "

-- the line for scripts
abbrev pub line_behind : ℕ → List ℕ
line_behind number = codes "line " ++ decimal number ++ codes " refused"

-- a line of a file, why it is refused, and the line for scripts
abbrev pub at_line : List ℕ → ℕ → List ℕ → List ℕ
at_line path number words = line_front path number ++ words ++ 10 ∷ line_behind number ++ 10 ∷ []

-- a line of a command file that is refused
abbrev pub line_failure_text : List ℕ → ℕ → Text
line_failure_text path number = sentence (line_front path number) (line_behind number)

-- a line that no reply is printed as
abbrev pub reply_failure_text : List ℕ → ℕ → Text
reply_failure_text path number = Said (at_line path number (codes "not one that `exec` prints"))

-- a line of words that asks for no entry
abbrev pub words_failure_text : List ℕ → ℕ → List ℕ → Text
words_failure_text path number words = Said (at_line path number words)

-- the line for scripts of commands that were refused: how many they are
abbrev pub commands_behind : ℕ → List ℕ
commands_behind commands = codes "commands refused " ++ decimal commands

-- commands that were refused: the line of the first, and that line
abbrev pub commands_text : List ℕ → ℕ → ℕ → Text
commands_text path number commands =
    Said (line_front path number ++ codes "the first command that was refused" ++ 10 ∷ commands_behind commands ++ 10 ∷ [])

-- numbers that are no geometry, with the number of what is wrong first
abbrev pub geometry_text : GeometryRefusal → Text
geometry_text refusal = sentence [] (codes "geometry refused " ++ decimal (geometry_number refusal))

-- a file that is no image, with the number of its first fault
abbrev pub image_text : List ℕ → LoadFault → Text
image_text path fault = sentence (path ++ codes ": ") (codes "image refused " ++ decimal (load_number fault))

-- the line for scripts of a journal that isn't done again, with the byte at which something is wrong
abbrev pub journal_behind : ℕ → List ℕ
journal_behind place = codes "journal refused " ++ decimal place

-- a journal of which these words say what is wrong there
abbrev pub journal_line : List ℕ → ℕ → List ℕ → List ℕ
journal_line path place words = path ++ codes ", byte " ++ decimal place ++ codes ": " ++ words ++ 10 ∷ journal_behind place ++ 10 ∷ []

-- a journal that is damaged there, with these words of what can be read
abbrev pub damage_line : List ℕ → ℕ → List ℕ → List ℕ
damage_line path place words =
    path ++ codes ": damaged at byte " ++ decimal place ++ codes ": " ++ words ++ 10 ∷ journal_behind place ++ 10 ∷ []

-- a journal with this fault there
abbrev pub journal_told : List ℕ → ℕ → JournalFault → List ℕ
journal_told path place (Damaged whole readable) = damage_line path place (fault_words (Damaged whole readable))
journal_told path place fault = journal_line path place (fault_words fault)

abbrev pub journal_text : List ℕ → ℕ → JournalFault → Text
journal_text path place fault = Said (journal_told path place fault)

-- a journal whose device has more than an image keeps
abbrev pub device_text : List ℕ → Text
device_text path = Said (path ++ codes ": its device has a program or a run, which no image keeps; `serve --durable` keeps them\ndevice refused\n")

-- a text that isn't assembled, with the line and the number of the fault
abbrev pub assembly_text : List ℕ → AssemblyRefusal → Text
assembly_text path refusal =
    sentence (path ++ codes ", ") (codes "assembly refused " ++ decimal refusal.fault.line
    ++ codes " " ++ decimal (assembly_number refusal.fault.kind))

-- bytes that are no program, with the slot and the number of the fault
abbrev pub program_text : List ℕ → ProgramRefusal → Text
program_text path refusal =
    sentence (path ++ codes ", ") (codes "program refused " ++ decimal refusal.fault.slot
    ++ codes " " ++ decimal (program_number refusal.fault.kind))

-- bytes that are no output blocks, with the byte that is refused
abbrev pub frame_text : List ℕ → FrameRefusal → Text
frame_text path refusal = sentence (path ++ codes ", ") (codes "frame refused " ++ decimal (refused_byte refusal))

-- a file that no command moves, with the number of the fault
abbrev pub data_failure_text : List ℕ → DataFault → Text
data_failure_text path fault = sentence (path ++ codes ": ") (codes "data refused " ++ decimal (data_number fault))

-- a file of so many bytes, as which there is no block
abbrev pub not_a_block_text : List ℕ → ℕ → Text
not_a_block_text path bytes =
    Said (path ++ codes ": " ++ decimal bytes ++ codes " bytes; a block has a power of 2 from 512 to 16384\ngeometry refused 1\n")

-- more bytes to be emitted than a block has
abbrev pub emit_text : ℕ → ℕ → Text
emit_text emit block =
    Said (codes "--emit gives " ++ decimal emit ++ codes " bytes, and a block has " ++ decimal block
    ++ 10 ∷ codes "emit exceeds block" ++ 10 ∷ [])

-- a byte of standard input, why the stream is refused there, and the line for scripts
abbrev pub at_byte : ℕ → List ℕ → ℕ → Text
at_byte place words number =
    Said (codes "standard input, byte " ++ decimal place ++ codes ": " ++ words ++ codes " is expected\nstream refused " ++ decimal place
    ++ codes " " ++ decimal number ++ codes "\n")

-- a byte that no frame has there
abbrev pub stream_text : ℕ → Field → Text
stream_text place field = at_byte place (expected_words field) (field_number field)

-- a stream that ends within a frame
abbrev pub cut_off_text : ℕ → Text
cut_off_text place = at_byte place (codes "the end of the input; the rest of a frame") 7

-- why a question isn't asked, and the line for scripts
abbrev pub question_text : List ℕ → Text
question_text words = Said (words ++ codes "\nquestion refused\n")

-- what the user is told of each failure
abbrev pub failure_text : Failure → Text
failure_text (CommandLine error) = Elsewhere
failure_text NotText = line (codes "error: a word of the command line is not text")
failure_text (NotInRange option word least most) = Said (range_line option.now (shown word.now) least most)
failure_text (CannotRead path cause) = unread_text (shown path.now) cause
failure_text (CannotWrite path cause) = unwritten_text (shown path.now) cause
failure_text (NotAnImage path) = not_an_image_text (shown path.now)
failure_text CannotPrint = line (codes "cannot write -")
failure_text NoMemory = line (codes "no memory")
failure_text (LineRefused path number fault) = line_failure_text (shown path.now) number
failure_text (ReplyRefused path number) = reply_failure_text (shown path.now) number
failure_text (WordsRefused path number status told) = words_failure_text (shown path.now) number (string_bytes told)
failure_text (CommandsRefused path number commands) = commands_text (shown path.now) number commands
failure_text (GeometryRefused refusal) = geometry_text refusal
failure_text (NotABlock path bytes) = not_a_block_text (shown path.now) bytes
failure_text (EmitExceedsBlock emit block) = emit_text emit block
failure_text (ImageRefused path fault) = image_text (shown path.now) fault
failure_text (JournalRefused path place fault) = journal_text (shown path.now) place fault
failure_text (DeviceRefused path) = device_text (shown path.now)
failure_text (AssemblyRefused path refusal) = assembly_text (shown path.now) refusal
failure_text (ProgramRefused path refusal) = program_text (shown path.now) refusal
failure_text (FrameRefused path refusal) = frame_text (shown path.now) refusal
failure_text (DataRefused path fault) = data_failure_text (shown path.now) fault
failure_text (StreamRefused place field) = stream_text place field
failure_text (StreamCutOff place) = cut_off_text place
failure_text NotAccepted = Silence
failure_text (QuestionRefused told) = question_text (string_bytes told)

-- a stream grows by some words, with this in front of them and that behind them
pub record GrowsAround (front behind : List ℕ) (old new : Option (List ℕ)) : Type 0 where
  pub words : List ℕ
  pub grows : Appends old new (front ++ words ++ behind)

-- a stream grows by a text
abbrev pub IsPrinted : Text → Option (List ℕ) → Option (List ℕ) → Type 0
IsPrinted (Said text) old new = Appends old new text
IsPrinted (Around front behind) old new = GrowsAround front behind old new
IsPrinted Elsewhere old new = Unit {0}
IsPrinted Silence old new = new ≡ old

-- it grows by what the user is told of a failure
abbrev pub IsTold : Failure → Option (List ℕ) → Option (List ℕ) → Type 0
IsTold failure old new = IsPrinted (failure_text failure) old new
