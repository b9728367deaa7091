-- What a turn does to a run as a device keeps it.
use Rattle.std.specs.Prelude.{ℕ, ◌≡◌, ◌==◌, ◌+◌, ◌≤◌, true, cond, List, [], ◌∷◌, length, get_or, set, Option, Some, None, IfSome, IsSomeAnd}
use Rattle.zone_state.specs.State.{is_open}
use Rattle.instruction_set.specs.declared.instruction.Instruction.{Instruction}
use Rattle.program_meaning.specs.BlockRun.{BlockRun}
use Rattle.emit_append.specs.Packer.{PackerState}
use Rattle.word_domain.specs.declared.domain.Domain.{Ghosts}
use Rattle.verifier.specs.Verified.{program_of, sizes_of}
use Rattle.image_store.specs.Namespace.{ZonedNamespace, zone_at}
use Rattle.zns_commands.specs.Address.{zone_offset}
use Rattle.zns_commands.specs.declared.answer.Answer.{Answer}
use Rattle.device_meaning.specs.Admission.{source_zone, task_by}
use Rattle.device_meaning.specs.BlockRuns.{block_run, scratch_after}
use Rattle.device_meaning.specs.Laws.{RoomIn}
use Rattle.device_meaning.specs.Happenings.{added, turned}
use Rattle.device_meaning.specs.State.{State}
use Rattle.device_meaning.specs.View.{Active, turns_of}
use Rattle.device_events.specs.declared.reply.Reply.{Reply}
use Rattle.runner.specs.DeviceState.{active_of, device_state}
use Rattle.runner.specs.steps.Ready.{FitsNamespace, HasRoomLeft, IsForBlocks, IsReady}
use Rattle.verified_run.specs.Ran.{HasRun}
use Rattle.verified_run.specs.declared.exit.Exit.{Exit}
use Rattle.runner.specs.declared.active_run.ActiveRun.{ActiveRun}
use Rattle.runner.specs.declared.loaded_program.LoadedProgram.{LoadedProgram}

-- a run with these scratch bytes
abbrev pub with_scratch : ActiveRun → List ℕ → ActiveRun
with_scratch a bytes = record a { scratch = bytes }

-- a run that has this pending block, and has appended so many blocks more
abbrev pub with_packer : ActiveRun → PackerState → ℕ → ActiveRun
with_packer a packer more = record a { packer = packer; appended = a.appended + more }

-- the block that a run reads next
abbrev pub next_block : ZonedNamespace → Active → List ℕ
next_block ns a = get_or (zone_at ns (source_zone ns a.command)).blocks (zone_offset ns a.command.lba + a.so_far.index) []

-- the block run of its program on that block
abbrev pub next_block_run : ZonedNamespace → List (Option Instruction) → ℕ → Active → BlockRun
next_block_run ns program limit a = block_run (task_by ns program limit a.command) a.so_far.index a.so_far.scratch (next_block ns a)

-- the program has run on the block that a run reads next, and of the run changed the scratch bytes alone
pub record HasRunNext (ns : ZonedNamespace) (program : List (Option Instruction)) (limit : ℕ) (old new : ActiveRun)
    (told : Exit) (bytes : List ℕ) : Type 0 where
  pub run : HasRun (next_block_run ns program limit (active_of old)) told bytes new.scratch
  pub same : new ≡ with_scratch old (scratch_after (next_block_run ns program limit (active_of old)))
  pub within : told.group_length ≤ limit

-- a zone that takes so many blocks more
pub record IsTaking (ns : ZonedNamespace) (z n : ℕ) : Type 0 where
  pub some : 1 ≤ ns.block
  pub opened : is_open (zone_at ns z).state ≡ true
  pub room : length (zone_at ns z).blocks + n ≤ ns.capacity

-- a zone takes these blocks, unless they are none
abbrev pub HasRoom : ZonedNamespace → ℕ → List (List ℕ) → Type 0
HasRoom ns z [] = Unit {0}
HasRoom ns z (b ∷ bs) = IsTaking ns z (length (b ∷ bs))

-- what holds of an active run with its program: a group fits a block, and what is left of the run fits into
-- its destination
pub record FitsOn (ns : ZonedNamespace) (program : List (Option Instruction)) (limit : ℕ) (a : ActiveRun) : Type 0 where
  pub run : FitsNamespace ns a
  pub some : 1 ≤ ns.block
  pub limits : limit ≤ ns.block
  pub room : RoomIn ns.capacity (zone_at ns a.destination) (turns_of ns program limit (active_of a))
  pub left : HasRoomLeft ns limit a

-- a turn after which the run goes on
pub record TurnGoesOn (old new : ZonedNamespace) (program : List (Option Instruction)) (limit : ℕ) (a b : ActiveRun) : Type 0 where
  pub blocks : List (List ℕ)
  pub turns : turns_of old program limit (active_of a) ≡ record { blocks = blocks; ending = None }
      ∷ turns_of new program limit (active_of b)
  pub namespace : new ≡ added old a.destination blocks
  pub left : HasRoomLeft new limit b

-- a turn that ends the run
pub record HasEnded (old new : ZonedNamespace) (program : List (Option Instruction)) (limit : ℕ) (a b : ActiveRun)
    (answer : Answer) : Type 0 where
  pub blocks : List (List ℕ)
  pub turns : turns_of old program limit (active_of a)
      ≡ record { blocks = blocks; ending = Some (record { status = answer.status; dw0 = answer.dw0; dw1 = answer.dw1; result = Some b.scratch }) } ∷ []
  pub no_data : answer.length ≡ 0
  pub namespace : new ≡ added old a.destination blocks

-- a turn, which ends the run where it gives an answer
abbrev pub Turned : ZonedNamespace → ZonedNamespace → List (Option Instruction) → ℕ → ActiveRun → ActiveRun → Option Answer → Type 0
Turned old new program limit a b None = TurnGoesOn old new program limit a b
Turned old new program limit a b (Some answer) = HasEnded old new program limit a b answer

-- what no turn changes in a run
pub record Keeps (a b : ActiveRun) : Type 0 where
  pub queue : b.queue ≡ a.queue
  pub cid : b.cid ≡ a.cid
  pub command : b.command ≡ a.command

module _ {D : Type 0} {domain : Ghosts D} where
  -- the steps of the one block run of a turn of a run, by the program of its slot
  abbrev pub steps_by : ZonedNamespace → Option (LoadedProgram D domain) → ActiveRun → ℕ
  steps_by ns None a = 0
  steps_by ns (Some p) a = (next_block_run ns (program_of p.prepared) (sizes_of p.prepared).limit (active_of a)).steps

  -- by how many steps a turn of the run at a place raises the count of a slot's program: by those of its block run where that is
  -- the run's program, and else by none
  abbrev pub steps_of_turn : ZonedNamespace → List (Option (LoadedProgram D domain)) → Option ActiveRun → ℕ → ℕ
  steps_of_turn ns slots None slot = 0
  steps_of_turn ns slots (Some a) slot = cond (a.command.slot == slot) (steps_by ns (get_or slots slot None) a) 0

  -- the steps that the program in a slot has taken, if one is there
  abbrev pub steps_in : Option (LoadedProgram D domain) → ℕ
  steps_in None = 0
  steps_in (Some p) = p.count.steps

  -- a run that fits, with the program of its slot
  abbrev pub FitsIn : ZonedNamespace → Option (LoadedProgram D domain) → ActiveRun → Type 0
  FitsIn ns slot a = IsSomeAnd slot (λ p. IsForBlocks ns p × FitsOn ns (program_of p.prepared) (sizes_of p.prepared).limit a)

  -- a turn of a run, by the program of a slot, which has the scratch bytes as its result once the run has ended; of that program
  -- nothing else changes but the count of its steps
  abbrev pub SlotTurned : ZonedNamespace → ZonedNamespace → Option (LoadedProgram D domain) → Option (LoadedProgram D domain) → ActiveRun
      → ActiveRun → Option Answer → Type 0
  SlotTurned old new (Some p) (Some q) a b None =
      (q ≡ record p { count = q.count }) × TurnGoesOn old new (program_of p.prepared) (sizes_of p.prepared).limit a b × Keeps a b
      × FitsNamespace new b
  SlotTurned old new (Some p) (Some q) a b (Some answer) =
      (q ≡ record p { count = q.count; result = b.scratch })
      × HasEnded old new (program_of p.prepared) (sizes_of p.prepared).limit a b answer × Keeps a b
  SlotTurned old new _ _ a b answer = ⊥

  -- a place at which no run is, or one that fits
  abbrev pub FitsAt : ZonedNamespace → List (Option (LoadedProgram D domain)) → Option ActiveRun → Type 0
  FitsAt ns slots place = IfSome place (λ a. FitsIn ns (get_or slots a.command.slot None) a)

  -- what a turn in a state comes to
  pub record IsTurned (s : State) (run : ℕ) (ns : ZonedNamespace) (slots : List (Option (LoadedProgram D domain)))
      (runs : List (Option ActiveRun)) (given : Reply) : Type 0 where
    pub reply : given ≡ (turned s run).reply.reply
    pub state : device_state ns slots runs ≡ (turned s run).state
    pub ready : IsReady ns slots runs

  -- a turn at a place, whatever the other places hold
  abbrev pub PlaceTurned : ZonedNamespace → ZonedNamespace → List (Option (LoadedProgram D domain))
      → List (Option (LoadedProgram D domain)) → ℕ → Option ActiveRun → Option ActiveRun → Reply → Type 0
  PlaceTurned old new slots slots' run place place' given =
      (runs : List (Option ActiveRun)) → get_or runs run None ≡ place → IsReady old slots runs
      → IsTurned (device_state old slots runs) run new slots' (set runs run place') given
