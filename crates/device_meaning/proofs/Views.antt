-- What is seen of a run.
use Rattle.std.proofs.Common.{◌≡◌, ℕ, ◌+◌, ◌-◌, ◌%◌, ◌≤◌, List, length, take, drop, get_or, Option, None, ap, sym, ◌∙◌, arith}
use Rattle.std.proofs.lemmas.List.{drop-take, take-append-le}
use Rattle.nvme_entry.specs.declared.command.RunCommand.{RunCommand}
use Rattle.instruction_set.specs.declared.instruction.Instruction.{Instruction}
use Rattle.image_store.specs.Namespace.{ZonedNamespace, zone_at}
use Rattle.zns_commands.specs.Address.{zone_number}
use Rattle.zns_commands.specs.Left.{Grows}
use Rattle.device_meaning.specs.Admission.{limit_in, program_in, source_blocks, task_of}
use Rattle.device_meaning.specs.EventReplies.{Submission}
use Rattle.device_meaning.specs.BlockRuns.{Task}
use Rattle.device_meaning.specs.Happenings.{admitted_place}
use Rattle.device_meaning.specs.Outcome.{Turn, at_admission, rest}
use Rattle.device_meaning.specs.State.{Place, loaded_at}
use Rattle.device_meaning.specs.View.{SeenAtAdmission, SeenStays, begun, to_come}
use Rattle.device_meaning.proofs.Rests.{rest_at_admission}

-- the same source blocks, as a device counts them at admission
to_come_first : (ns : ZonedNamespace) (sub : Submission) (command : RunCommand) → to_come ns (begun sub command) ≡ source_blocks ns command
to_come_first ns sub command =
    let blocks = (zone_at ns (zone_number ns command.lba)).blocks in
    let left : command.blocks - 0 ≡ command.blocks = omega arith in
    let at : command.lba % ns.size + 0 ≡ command.lba % ns.size = omega arith in
    ap (λ (n : ℕ). take n (drop (command.lba % ns.size + 0) blocks)) left ∙ ap (λ (n : ℕ). take command.blocks (drop n blocks)) at

pub seen_at_admission : SeenAtAdmission
seen_at_admission sub s command =
    let task = task_of s.namespace (loaded_at s command.slot) command in
    let with : List Turn → Place = λ turns. record (admitted_place sub s command) { turns = turns } in
    ap (λ (blocks : List (List ℕ)). with (rest task at_admission blocks)) (to_come_first s.namespace sub command)
    ∙ ap with (rest_at_admission task (source_blocks s.namespace command))

-- blocks that stand among the first ones of a list
first_ones : (n at : ℕ) (xs ys : List (List ℕ)) → Grows xs ys → at + n ≤ length xs → take n (drop at ys) ≡ take n (drop at xs)
first_ones n at xs ys grows within =
    sym (drop-take at n ys)
    ∙ ap (λ (zs : List (List ℕ)). drop at (take (at + n) zs)) grows.is
    ∙ ap (drop at) (take-append-le (at + n) xs grows.more within)
    ∙ drop-take at n xs

pub seen_stays : SeenStays
seen_stays ns later slots slots' a keeps same =
    let left = a.command.blocks - a.so_far.index in
    let blocks_in : ZonedNamespace → ℕ → List (List ℕ) = λ m size. (zone_at m (zone_number (record m { size = size }) a.command.lba)).blocks in
    let coming : ZonedNamespace → ℕ → List (List ℕ) = λ m size. take left (drop (a.command.lba % size + a.so_far.index) (blocks_in m size)) in
    let about : List (Option Instruction) → ℕ → ℕ → Task = λ program block limit. record {
      program = program;
      sizes = record { block = block; limit = limit };
      argument = a.command.argument;
      lba = a.command.lba;
      count = a.command.blocks;
    } in
    let placed : ℕ → List Turn → Place = λ size turns. record {
      queue = a.queue;
      cid = a.cid;
      slot = a.command.slot;
      source = zone_number (record ns { size = size }) a.command.lba;
      destination = zone_number (record ns { size = size }) a.command.destination;
      turns = turns;
    } in
    let was = get_or slots a.command.slot None in
    let is = get_or slots' a.command.slot None in
    ap (λ (size : ℕ). placed size (rest (about (program_in is) later.block (limit_in is)) a.so_far (coming later size))) keeps.size
    ∙ ap (λ (block : ℕ). placed ns.size (rest (about (program_in is) block (limit_in is)) a.so_far (coming later ns.size))) keeps.block
    ∙ ap (λ (program : List (Option Instruction)). placed ns.size (rest (about program ns.block (limit_in is)) a.so_far (coming later ns.size))) same.program
    ∙ ap (λ (limit : ℕ). placed ns.size (rest (about (program_in was) ns.block limit) a.so_far (coming later ns.size))) same.limit
    ∙ ap (λ (blocks : List (List ℕ)). placed ns.size (rest (about (program_in was) ns.block (limit_in was)) a.so_far blocks))
    (first_ones left (a.command.lba % ns.size + a.so_far.index) (blocks_in ns ns.size) (blocks_in later ns.size) keeps.grows keeps.written)
