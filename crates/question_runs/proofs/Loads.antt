-- What a Load of a program leaves whose completion is a success.
use Rattle.std.proofs.Common.{◌≡◌, ℕ, Bool, true, false, ◌+◌, ◌*◌, ◌/◌, ◌%◌, ◌^◌, List, [], ◌∷◌, drop, Option, Some, None, refl, ap, sym, ◌∙◌, arith}
use Rattle.std.specs.Prelude.{◌&&◌, nat_lt}
use Rattle.std.specs.List.{AllByRecursion}
use Rattle.std.specs.Option.{option_map_or}
use Rattle.std.proofs.lemmas.Bool.{and_parts, ltb-true}
use Rattle.byteorder.specs.Numbers.{little_from-bytes}
use Rattle.common_definitions.specs.Checks.{demand, first_failed}
use Rattle.zone_state.specs.Status.{type_number}
use Rattle.zone_state.specs.declared.status.Status.{Status}
use Rattle.zone_state.specs.declared.status.TheConstants.Status.{SUCCESS, PROGRAM_REFUSED, WANT_OF_MEMORY}
use Rattle.nvme_entry.specs.Completion.{completion_bytes, status_dword}
use Rattle.nvme_entry.specs.Entry.{identifier_of}
use Rattle.nvme_entry.specs.Dwords.{dword}
use Rattle.nvme_entry.specs.declared.command.LoadCommand.{LoadCommand}
use Rattle.nvme_entry.specs.declared.completion.Completion.{Completion}
use Rattle.instruction_set.specs.declared.instruction.Instruction.{Instruction}
use Rattle.accepted_programs.specs.declared.reason.Refusal.{Refusal}
use Rattle.device_events.specs.Replies.{ReplyWithData}
use Rattle.device_events.specs.declared.reply.Reply.{Reply}
use Rattle.device_events.specs.declared.reply.Reply.TheVariants as reply
use Rattle.device_meaning.specs.EventReplies.{Submission, completion}
use Rattle.device_meaning.specs.Happenings.{judged, just_loaded, load_checks, load_unless, sizes_for}
use Rattle.device_meaning.specs.Judging.{Judge, accepted_unless, refused_for_reason}
use Rattle.device_meaning.specs.State.{State, with_slot}

-- ---- completions of which one is a success and the other isn't

-- the bits of a status in its dword
abbrev status_bits : Status → ℕ
status_bits status = status.code * 2 ^ 17 + type_number status.kind * 2 ^ 25

abbrev is_failure : Status → Bool
is_failure status = nat_lt 0 (status_bits status) && nat_lt (status_bits status) (2 ^ 32)

-- the dword of a reply that has its status
abbrev status_in : Reply → ℕ
status_in (reply.Complete queue entry length) = dword entry 3
status_in _ = 0

third : (c : Completion) → dword (completion_bytes c) 3 ≡ status_dword c.cid c.status / 256 ^ 0 % 256 ^ 4
third c = little_from-bytes 4 0 (status_dword c.cid c.status) (drop 16 (completion_bytes c))

not_success : (queue cid dw0 dw1 : ℕ) (status : Status) → is_failure status ≡ true
    → completion queue cid status dw0 dw1 [] ≡ completion queue cid SUCCESS 0 0 [] → ⊥
not_success queue cid dw0 dw1 status fails same =
    let failed : Completion = record { dw0 = dw0; dw1 = dw1; queue = queue; cid = cid; status = status } in
    let done : Completion = record { dw0 = 0; dw1 = 0; queue = queue; cid = cid; status = SUCCESS } in
    let statuses = ap (λ (answer : ReplyWithData). status_in answer.reply) same in
    let both = and_parts (nat_lt 0 (status_bits status)) (nat_lt (status_bits status) (2 ^ 32)) fails in
    let some = ltb-true 0 (status_bits status) both.0 in
    let few = ltb-true (status_bits status) (2 ^ 32) both.1 in
    omega (arith, third failed, third done, statuses, some, few)

-- ---- the checks of a Load

-- a check passes, or it fails with such a status
record FailsSo (check : Option Status) : Type 0 where
  is : option_map_or is_failure check true ≡ true

demand_so : (test : Bool) (status : Status) → is_failure status ≡ true → FailsSo (demand test status)
demand_so true status is = record { is = refl }
demand_so false status is = record { is = is }

some_so : (checks : List (Option Status)) → AllByRecursion FailsSo checks → FailsSo (first_failed checks)
some_so [] all = record { is = refl }
some_so (None ∷ checks) all = some_so checks all.1
some_so (Some status ∷ checks) all = all.0

load_so : (s : State) (load : LoadCommand) (input : List ℕ) → FailsSo (first_failed (load_checks s load input))
load_so s load input =
    some_so (load_checks s load input) (demand_so _ _ refl, (demand_so _ _ refl, (demand_so _ _ refl, (demand_so _ _ refl, tt))))

-- ---- what it leaves

module _ (judge : Judge) (sub : Submission) (s : State) (load : LoadCommand) (program : List (Option Instruction)) (why : Option Refusal)
    (made : judge sub.input (sizes_for s load) ≡ accepted_unless program why) where
  abbrev success : ReplyWithData
  success = completion sub.queue (identifier_of sub.entry) SUCCESS 0 0 []

  abbrev loaded : State
  loaded = with_slot s load.slot (Some (just_loaded program load.limit))

  judged_leaves : (w : Option Refusal) → (judged sub s load (accepted_unless program w)).reply ≡ success
      → (judged sub s load (accepted_unless program w)).state ≡ loaded
  judged_leaves (Some refusal) done =
      let answer = refused_for_reason refusal in
      absurd (not_success sub.queue (identifier_of sub.entry) answer.slot answer.reason PROGRAM_REFUSED refl done)
  judged_leaves None done = refl

  unless_leaves : (failed : Option Status) (starved : Bool) → FailsSo failed → (load_unless judge failed starved sub s load).reply ≡ success
      → (load_unless judge failed starved sub s load).state ≡ loaded
  unless_leaves (Some status) starved fails done = absurd (not_success sub.queue (identifier_of sub.entry) 0 0 status fails.is done)
  unless_leaves None true fails done = absurd (not_success sub.queue (identifier_of sub.entry) 0 0 WANT_OF_MEMORY refl done)
  unless_leaves None false fails done =
      ap (λ r. (judged sub s load r).state) made ∙ judged_leaves why (ap (λ r. (judged sub s load r).reply) (sym made) ∙ done)

  pub load_leaves : (starved : Bool) → (load_unless judge (first_failed (load_checks s load sub.input)) starved sub s load).reply ≡ success
      → (load_unless judge (first_failed (load_checks s load sub.input)) starved sub s load).state ≡ loaded
  load_leaves starved done = unless_leaves (first_failed (load_checks s load sub.input)) starved (load_so s load sub.input) done
