-- What events of a tenant that respect what it owns leave of what others own, and what others read.
use Rattle.std.proofs.Common.{◌≡◌, ℕ, ◌+◌, ◌*◌, ◌/◌, ◌%◌, Bool, true, false, List, [], ◌∷◌, ◌++◌, Option, Some, None, Result, Ok, refl, ap, sym, subst, ◌∙◌, inl, inr}
use Rattle.std.specs.Prelude.{nat_le, not}
use Rattle.std.specs.List.{concat}
use Rattle.std.proofs.lemmas.Bool.{not-true}
use Rattle.zone_state.specs.declared.status.Status.{Status}
use Rattle.zone_state.specs.declared.status.TheConstants.Status.{LBA_OUT_OF_RANGE, ZONE_BOUNDARY_ERROR}
use Rattle.common_definitions.specs.Checks.{demand, first_failed}
use Rattle.nvme_entry.specs.Entry.{decoded, identifier_of}
use Rattle.nvme_entry.specs.declared.command.Command.{Command}
use Rattle.nvme_entry.specs.declared.command.Command.TheVariants as commands
use Rattle.nvme_entry.specs.declared.command.StandardCommand.TheVariants.{Read}
use Rattle.image_store.specs.Geometry.{Shape}
use Rattle.image_store.specs.Namespace.{ZoneWithBlocks, ZonedNamespace, shape, zone_at}
use Rattle.zns_commands.specs.Effect.{Effect, concluded, success_effect}
use Rattle.zns_commands.specs.Read.{blocks_read, read_refusal}
use Rattle.zns_commands.specs.steps.Checks.{transfer_checks}
use Rattle.device_meaning.specs.Admission.{Loaded}
use Rattle.device_meaning.specs.EventReplies.{Submission, completion, submission_of}
use Rattle.device_meaning.specs.Events.{Occurrence, state_after}
use Rattle.device_meaning.specs.Happenings.{happens, result_by, submitted}
use Rattle.device_meaning.specs.Judging.{Judge}
use Rattle.device_meaning.specs.State.{State, loaded_at}
use Rattle.device_events.specs.Replies.{ReplyWithData}
use Rattle.device_events.specs.ToldEvents as told
use Rattle.device_laws.specs.Tenants.{KeepsBlocks, OthersAreKept, OthersLeaveMine, OthersReadTheSame, RespectKeepsRunsApart, Respects, RunsUseOwn, Tenant, TenantsLeaveOthers, everyone_else}
use Rattle.device_laws.proofs.OthersKept.{events_keep}

-- ---- a Read

-- a zone that keeps its blocks can be read where it could be
same_refusal : (old new : ZoneWithBlocks) → KeepsBlocks old new → read_refusal new.state ≡ read_refusal old.state
same_refusal old new kept = elim kept.state [
  | inl same ↦ ap read_refusal same
  | inr gave ↦ ap read_refusal gave.1 ∙ sym (ap read_refusal gave.0)
]

module _ (sub : Submission) (lba blocks : ℕ) where
  -- the completion that tells an effect, or a refusal
  abbrev told_of : Option Status → ZonedNamespace → Effect → ReplyWithData
  told_of why ns effect =
      let done = concluded why ns effect in
      completion sub.queue (identifier_of sub.entry) done.status done.dw0 done.dw1 done.output

  -- it doesn't tell the namespace
  same_told : (why : Option Status) (ns other : ZonedNamespace) (output : List ℕ)
      → told_of why ns (success_effect ns 0 output) ≡ told_of why other (success_effect other 0 output)
  same_told None ns other output = refl
  same_told (Some status) ns other output = refl

  -- why a Read is refused, and what it gives, by the shape of the namespace, whether the zone can be read, and its blocks
  abbrev why_of : Shape → Option Status → Option Status
  why_of sh refusal = first_failed (
      transfer_checks (blocks * sh.block) 0 sub.input
      ++ (demand (nat_le (lba + blocks) (sh.zones * sh.size)) LBA_OUT_OF_RANGE ∷ demand (nat_le (lba % sh.size + blocks) sh.size) ZONE_BOUNDARY_ERROR ∷ [])
      ++ refusal ∷ [])

  abbrev read_by : ZonedNamespace → Shape → ZoneWithBlocks → ReplyWithData
  read_by ns sh zone =
      told_of (why_of sh (read_refusal zone.state)) ns (success_effect ns 0 (concat (blocks_read sh.block zone.blocks (lba % sh.size) blocks)))

  same_read : (ns : ZonedNamespace) (sh : Shape) (old new : ZoneWithBlocks) → KeepsBlocks old new → read_by ns sh new ≡ read_by ns sh old
  same_read ns sh old new kept =
      let given : List (List ℕ) → List ℕ = λ written. concat (blocks_read sh.block written (lba % sh.size) blocks) in
      ap (λ (refusal : Option Status). told_of (why_of sh refusal) ns (success_effect ns 0 (given new.blocks))) (same_refusal old new kept)
      ∙ ap (λ (written : List (List ℕ)). told_of (why_of sh (read_refusal old.state)) ns (success_effect ns 0 (given written))) kept.blocks

  reads_same : (ns later : ZonedNamespace) → shape later ≡ shape ns
      → KeepsBlocks (zone_at ns (lba / ns.size)) (zone_at later (lba / ns.size))
      → read_by later (shape later) (zone_at later (lba / later.size)) ≡ read_by ns (shape ns) (zone_at ns (lba / ns.size))
  reads_same ns later same kept =
      let zone = zone_at later (lba / later.size) in
      let given = concat (blocks_read later.block zone.blocks (lba % later.size) blocks) in
      same_told (why_of (shape later) (read_refusal zone.state)) later ns given
      ∙ ap (λ (sh : Shape). read_by ns sh (zone_at later (lba / sh.size))) same
      ∙ same_read ns (shape ns) (zone_at ns (lba / ns.size)) (zone_at later (lba / ns.size)) kept

-- ---- a Result

same_result : (sub : Submission) (slot : Option Loaded) (why : Option Status) (s t : State)
    → (result_by slot why sub t).reply ≡ (result_by slot why sub s).reply
same_result sub slot (Some status) s t = refl
same_result sub None None s t = refl
same_result sub (Some loaded) None s t = refl

module _ (tenant : Tenant) (judge : Judge) (s t : State) (kept : OthersAreKept tenant s t) where
  asked_is : (u : State) (queue : ℕ) (entry input : List ℕ) (starved : Bool) (asked : Result Command Status) → decoded entry ≡ asked
      → (happens judge u starved (told.Submitted queue entry input)).reply ≡ (submitted judge starved (submission_of queue entry input) u asked).reply
  asked_is u queue entry input starved asked is =
      ap (λ (r : Result Command Status). (submitted judge starved (submission_of queue entry input) u r).reply) is

  pub others_read : OthersReadTheSame tenant judge s t
  others_read = record {
    reads = λ z others entry lba blocks is named queue input starved.
        let asked = Ok (commands.Standard (Read lba blocks)) in
        asked_is t queue entry input starved asked is
        ∙ reads_same (submission_of queue entry input) lba blocks s.namespace t.namespace kept.shape_kept
        (subst (λ (n : ℕ). KeepsBlocks (zone_at s.namespace n) (zone_at t.namespace n)) (sym named) (kept.zones z others))
        ∙ sym (asked_is s queue entry input starved asked is);
    results = λ slot others entry is queue input starved.
        let asked = Ok (commands.Result slot) in
        let sub = submission_of queue entry input in
        let why = first_failed (transfer_checks 0 0 input) in
        asked_is t queue entry input starved asked is
        ∙ ap (λ (o : Option Loaded). (result_by o why sub t).reply) (kept.slots slot others)
        ∙ same_result sub (loaded_at s slot) why s t
        ∙ sym (asked_is s queue entry input starved asked is);
  }

-- ---- lists of events

pub tenants_leave_others : (judge : Judge) → TenantsLeaveOthers judge
tenants_leave_others judge tenant s events uses respect =
    let all = events_keep tenant judge events s uses respect in
    record { kept = all.kept; read = others_read tenant judge s (state_after judge events s) all.kept; runs = all.runs }

module _ (judge : Judge) where
  -- the runs of another tenant still use only what that one owns, where the two share no queue
  others_use_own : (tenant other : Tenant) (s : State) (o : Occurrence) → ((queue : ℕ) → other.queues queue ≡ true → tenant.queues queue ≡ false)
      → Respects tenant s o.event → RunsUseOwn tenant s → RunsUseOwn other s → RunsUseOwn other (happens judge s o.starved o.event).state
  others_use_own tenant other s o apart respects uses others run place at owned =
      let kept = (events_keep tenant judge (o ∷ []) s uses (respects, tt)).kept in
      others run place (kept.none_begins run place at (apart place.queue owned)) owned

  own_use_own : (tenant : Tenant) (s : State) (o : Occurrence) → Respects tenant s o.event → RunsUseOwn tenant s
      → RunsUseOwn tenant (happens judge s o.starved o.event).state
  own_use_own tenant s o respects uses = (events_keep tenant judge (o ∷ []) s uses (respects, tt)).runs

  pub respect_keeps_runs_apart : RespectKeepsRunsApart judge
  respect_keeps_runs_apart mine s [] own others each = (own, others)
  respect_keeps_runs_apart mine s (o ∷ os) own others each =
      let t = (happens judge s o.starved o.event).state in
      elim each.0 [
        | inl respects ↦
            respect_keeps_runs_apart mine t os (own_use_own mine s o respects own)
            (others_use_own mine (everyone_else mine) s o (λ queue owned. not-true (mine.queues queue) owned) respects own others) each.1
        | inr respects ↦
            respect_keeps_runs_apart mine t os
            (others_use_own (everyone_else mine) mine s o (λ queue owned. ap not owned) respects others own)
            (own_use_own (everyone_else mine) s o respects others) each.1
      ]

pub others_leave_mine : (judge : Judge) → OthersLeaveMine judge
others_leave_mine judge mine s events uses respect =
    let left = tenants_leave_others judge (everyone_else mine) s events uses respect in
    record {
      zones = λ z own. left.kept.zones z (ap not own);
      slots = λ slot own. left.kept.slots slot (ap not own);
      runs = λ run place own at. left.kept.none_ends run place at (ap not own);
      reads = λ z own. left.read.reads z (ap not own);
      results = λ slot own. left.read.results slot (ap not own);
    }
