-- Which events are to be done again.
use Rattle.std.proofs.Common.{◌≡◌, ◌<◌, ◌^◌, ◌+◌, ◌*◌, ◌/◌, ◌%◌, ℕ, Bool, true, false, ◌&&◌, not, List, length, Option, Some, None, Result, Ok, Err, refl, ap, inl, inr, ◌⊎◌, arith}
use Rattle.std.proofs.lemmas.Bool.Decides.{nat_tests}
use Rattle.zone_state.specs.declared.status.Status.{Status}
use Rattle.zone_state.specs.declared.status.TheConstants.Status.{SUCCESS, WANT_OF_MEMORY}
use Rattle.zone_state.specs.declared.state.FaultState.{FaultState}
use Rattle.zone_state.specs.declared.zone.FaultRefused.{FaultRefused}
use Rattle.common_definitions.specs.Checks.{first_failed}
use Rattle.nvme_entry.specs.Completion.{completion_bytes}
use Rattle.nvme_entry.specs.Entry.{decoded, identifier_of}
use Rattle.nvme_entry.specs.declared.command.Command.{Command}
use Rattle.nvme_entry.specs.declared.command.Command.TheVariants as commands
use Rattle.nvme_entry.specs.declared.command.LoadCommand.{LoadCommand}
use Rattle.nvme_entry.specs.declared.command.StandardCommand.{StandardCommand}
use Rattle.nvme_entry.specs.declared.command.StandardCommand.TheVariants.{Write, Read, Send, Receive, Append}
use Rattle.image_store.specs.Namespace.{ZonedNamespace}
use Rattle.zns_commands.specs.Effect.{Effect, concluded}
use Rattle.zns_commands.specs.Fault.{faulted_by, zone_fault_refusal}
use Rattle.zns_commands.specs.Meaning.{change_of, effect_of, meaning, refusal_of}
use Rattle.zns_commands.specs.steps.Checks.{transfer_checks}
use Rattle.device_events.specs.Replies.{ReplyWithData}
use Rattle.device_events.specs.ToldEvents.{ToldEvent}
use Rattle.device_events.specs.ToldEvents as told
use Rattle.device_meaning.specs.Admission.{Loaded}
use Rattle.device_meaning.specs.EventReplies.{Happening, Submission, completion_reply, submission_of}
use Rattle.device_meaning.specs.Happenings.{fault_reply, happens, load_checks, load_unless, result_by, submitted, turn_reply, turned}
use Rattle.device_meaning.specs.Judging.{interval_judge}
use Rattle.device_meaning.specs.Outcome.{Ending}
use Rattle.device_meaning.specs.State.{Place, State, holds_at, loaded_at, with_namespace}
use Rattle.device_meaning.proofs.Proved.{of_turn}
use Rattle.pushdown.proofs.Proved.{refused_leaves_state}
use Rattle.durable_device.specs.Changing.{HasIdentifier, asks_change, is_change, is_idle, is_refusal, is_taken, is_want_of_memory, may_change}
use Rattle.device_events.specs.CompletionEntries.{tells_success, tells_want}

-- ---- what completions tell

success_told : (dw0 dw1 queue cid : ℕ) → cid < 2 ^ 16 → tells_success (completion_bytes (record { dw0 = dw0; dw1 = dw1; queue = queue; cid = cid; status = SUCCESS })) ≡ true
success_told dw0 dw1 queue cid fits =
    let low : cid / 65536 % 256 ≡ 0 = omega arith in
    let high : cid / 16777216 % 256 ≡ 0 = omega arith in
    grind (arith, nat_tests)

want_told : (queue cid : ℕ) → cid < 2 ^ 16 → tells_success (completion_bytes (record { dw0 = 0; dw1 = 0; queue = queue; cid = cid; status = WANT_OF_MEMORY })) ≡ false
want_told queue cid fits =
    let low : (cid + 199 * 2 ^ 17 + 7 * 2 ^ 25) / 65536 % 256 ≡ 142 = omega arith in
    grind (arith, nat_tests)

want_is_told : (queue cid : ℕ) → cid < 2 ^ 16 → tells_want (completion_bytes (record { dw0 = 0; dw1 = 0; queue = queue; cid = cid; status = WANT_OF_MEMORY })) ≡ true
want_is_told queue cid fits =
    let low : (cid + 199 * 2 ^ 17 + 7 * 2 ^ 25) / 65536 % 256 ≡ 142 = omega arith in
    let high : (cid + 199 * 2 ^ 17 + 7 * 2 ^ 25) / 16777216 % 256 ≡ 15 = omega arith in
    grind (arith, nat_tests)

-- ---- tests

first_fails : (a b : Bool) → (a && not b) ≡ false → (a ≡ false) ⊎ (b ≡ true)
first_fails true true is = inr refl
first_fails true false is = absurd cc
first_fails false b is = inl refl

second_holds : (a b : Bool) → (a && not b) ≡ true → b ≡ false
second_holds true true is = absurd cc
second_holds true false is = refl
second_holds false b is = absurd cc

not_false : (b : Bool) → not b ≡ false → b ≡ true
not_false true is = refl
not_false false is = absurd cc

-- ---- entries

-- a command that only reads leaves the namespace
concluded_same : (refusal : Option Status) (ns : ZonedNamespace) (effect : Effect) → effect.namespace ≡ ns → (concluded refusal ns effect).namespace ≡ ns
concluded_same None ns effect same = same
concluded_same (Some status) ns effect same = refl

query_leaves : (s : State) (c : StandardCommand) (input : List ℕ) → is_change (change_of c) ≡ false → (meaning s.namespace (holds_at s) c input).namespace ≡ s.namespace
query_leaves s (Read lba blocks) input reads =
    concluded_same (refusal_of s.namespace (holds_at s) (Read lba blocks) input) s.namespace (effect_of s.namespace (holds_at s) (Read lba blocks) input) refl
query_leaves s (Receive lba dwords filter partial) input reads =
    concluded_same (refusal_of s.namespace (holds_at s) (Receive lba dwords filter partial) input) s.namespace (effect_of s.namespace (holds_at s) (Receive lba dwords filter partial) input) refl
query_leaves s (Write lba blocks) input reads = absurd cc
query_leaves s (Append lba blocks) input reads = absurd cc
query_leaves s (Send lba action select_all) input reads = absurd cc

-- a Result leaves the state
result_leaves : (slot : Option Loaded) (why : Option Status) (sub : Submission) (s : State) → (result_by slot why sub s).state ≡ s
result_leaves slot (Some status) sub s = refl
result_leaves None None sub s = refl
result_leaves (Some loaded) None sub s = refl

-- what asks for no change makes none
quiet_leaves : (starved : Bool) (sub : Submission) (s : State) (asked : Result Command Status) → asks_change asked ≡ false
    → (submitted interval_judge starved sub s asked).state ≡ s
quiet_leaves starved sub s (Err status) quiet = refl
quiet_leaves starved sub s (Ok (commands.Standard c)) quiet = ap (with_namespace s) (query_leaves s c sub.input quiet)
quiet_leaves starved sub s (Ok (commands.Load load)) quiet = absurd cc
quiet_leaves starved sub s (Ok (commands.Run command)) quiet = absurd cc
quiet_leaves starved sub s (Ok (commands.Result slot)) quiet = result_leaves (loaded_at s slot) (first_failed (transfer_checks 0 0 sub.input)) sub s

-- what is refused doesn't either
refused_leaves : (starved : Bool) (queue : ℕ) (entry input : List ℕ) (s : State) → identifier_of entry < 2 ^ 16
    → let h = happens interval_judge s starved (told.Submitted queue entry input) in is_refusal h.reply.reply ≡ true → h.state ≡ s
refused_leaves starved queue entry input s fits refused =
    elim (refused_leaves_state interval_judge s starved queue entry input) [
      | inl pending ↦ (let none = ap (λ (r : ReplyWithData). is_refusal r.reply) pending.1 in absurd (cc (none, refused)))
      | inr answered ↦ answered.so (λ success.
          let is = ap (λ (r : ReplyWithData). is_refusal r.reply) answered.is in
          let told = ap (λ (status : Status). is_refusal (completion_reply queue (identifier_of entry) status answered.dw0 answered.dw1 (length answered.output))) success in
          let so = ap not (success_told answered.dw0 answered.dw1 queue (identifier_of entry) fits) in
          absurd (cc (is, told, so, refused)))
    ]

-- where it isn't refused, it comes to the same as with memory
load_again : (failed : Option Status) (starved : Bool) (sub : Submission) (s : State) (load : LoadCommand) → identifier_of sub.entry < 2 ^ 16
    → is_refusal (load_unless interval_judge failed starved sub s load).reply.reply ≡ false
    → (load_unless interval_judge failed starved sub s load).state ≡ (load_unless interval_judge failed false sub s load).state
load_again (Some status) starved sub s load fits taken = refl
load_again None true sub s load fits taken = let told = ap not (want_told sub.queue (identifier_of sub.entry) fits) in absurd (cc (told, taken))
load_again None false sub s load fits taken = refl

submitted_again : (starved : Bool) (sub : Submission) (s : State) (asked : Result Command Status) → identifier_of sub.entry < 2 ^ 16
    → is_refusal (submitted interval_judge starved sub s asked).reply.reply ≡ false
    → (submitted interval_judge starved sub s asked).state ≡ (submitted interval_judge false sub s asked).state
submitted_again starved sub s (Err status) fits taken = refl
submitted_again starved sub s (Ok (commands.Standard c)) fits taken = refl
submitted_again starved sub s (Ok (commands.Load load)) fits taken = load_again (first_failed (load_checks s load sub.input)) starved sub s load fits taken
submitted_again starved sub s (Ok (commands.Run command)) fits taken = refl
submitted_again starved sub s (Ok (commands.Result slot)) fits taken = refl

-- where it doesn't tell want of memory, it comes to the same as with memory
load_fed : (failed : Option Status) (starved : Bool) (sub : Submission) (s : State) (load : LoadCommand) → identifier_of sub.entry < 2 ^ 16
    → is_want_of_memory (load_unless interval_judge failed starved sub s load).reply.reply ≡ false
    → (load_unless interval_judge failed starved sub s load).state ≡ (load_unless interval_judge failed false sub s load).state
load_fed (Some status) starved sub s load fits fed = refl
load_fed None true sub s load fits fed = let told = want_is_told sub.queue (identifier_of sub.entry) fits in absurd (cc (told, fed))
load_fed None false sub s load fits fed = refl

submitted_fed : (starved : Bool) (sub : Submission) (s : State) (asked : Result Command Status) → identifier_of sub.entry < 2 ^ 16
    → is_want_of_memory (submitted interval_judge starved sub s asked).reply.reply ≡ false
    → (submitted interval_judge starved sub s asked).state ≡ (submitted interval_judge false sub s asked).state
submitted_fed starved sub s (Err status) fits fed = refl
submitted_fed starved sub s (Ok (commands.Standard c)) fits fed = refl
submitted_fed starved sub s (Ok (commands.Load load)) fits fed = load_fed (first_failed (load_checks s load sub.input)) starved sub s load fits fed
submitted_fed starved sub s (Ok (commands.Run command)) fits fed = refl
submitted_fed starved sub s (Ok (commands.Result slot)) fits fed = refl

-- ---- turns and faults

no_idle_turn : (run : ℕ) (place : Place) (ending : Option Ending) → is_idle (turn_reply run place ending).reply ≡ false
no_idle_turn run place None = refl
no_idle_turn run place (Some ending) = refl

idle_leaves : (s : State) (run : ℕ) → is_idle (turned s run).reply.reply ≡ true → (turned s run).state ≡ s
idle_leaves s run =
    of_turn (λ (h : Happening). is_idle h.reply.reply ≡ true → h.state ≡ s) s run (λ is. refl)
    (λ place turn later here first is. let none = no_idle_turn run place turn.ending in absurd (cc (none, is)))

fault_leaves : (s : State) (zone : ℕ) (state : FaultState) (r : Result (Unit {0}) FaultRefused) → is_taken (fault_reply r) ≡ false
    → with_namespace s (faulted_by r s.namespace zone state) ≡ s
fault_leaves s zone state (Ok done) refused = absurd cc
fault_leaves s zone state (Err why) refused = refl

-- ---- events

-- An event that may have changed the device leads to the same where memory is given, and any other changed nothing.
pub record ComesAgain (s : State) (starved : Bool) (e : ToldEvent) : Type 0 where
  pub again : may_change e (happens interval_judge s starved e).reply.reply ≡ true → (happens interval_judge s starved e).state ≡ (happens interval_judge s false e).state
  pub idle : may_change e (happens interval_judge s starved e).reply.reply ≡ false → (happens interval_judge s starved e).state ≡ s
  pub fed : is_want_of_memory (happens interval_judge s starved e).reply.reply ≡ false → (happens interval_judge s starved e).state ≡ (happens interval_judge s false e).state

pub comes_again : (s : State) (starved : Bool) (e : ToldEvent) → HasIdentifier e → ComesAgain s starved e
comes_again s starved (told.Submitted queue entry input) fits =
    let sub = submission_of queue entry input in
    let refusal = is_refusal (submitted interval_judge starved sub s (decoded entry)).reply.reply in
    record {
      again = λ may. submitted_again starved sub s (decoded entry) fits (second_holds (asks_change (decoded entry)) refusal may);
      idle = λ may. elim (first_fails (asks_change (decoded entry)) refusal may) [
        | inl quiet ↦ quiet_leaves starved sub s (decoded entry) quiet
        | inr refused ↦ refused_leaves starved queue entry input s fits refused
      ];
      fed = submitted_fed starved sub s (decoded entry) fits;
    }
comes_again s starved (told.Turned run) fits = record {
  again = λ may. refl;
  idle = λ may. idle_leaves s run (not_false (is_idle (turned s run).reply.reply) may);
  fed = λ fed. refl;
}
comes_again s starved (told.Faulted zone state) fits = record {
  again = λ may. refl;
  idle = fault_leaves s zone state (zone_fault_refusal s.namespace (holds_at s) zone state);
  fed = λ fed. refl;
}
