-- That a zone which a run reads from keeps its blocks, through every command and fault under the run's hold.
use Rattle.std.proofs.Common.{◌≡◌, ℕ, Bool, true, false, cond, List, Option, None, Result, Ok, Err, refl, sym, subst}
use Rattle.std.specs.Prelude.{◌&&◌, ◌||◌}
use Rattle.std.specs.Result.{result_err}
use Rattle.std.proofs.lemmas.Bool.{or_parts}
use Rattle.zone_state.specs.Transition.{transition}
use Rattle.zone_state.specs.Zone.{state_of_fault}
use Rattle.zone_state.specs.declared.action.Action.{Action}
use Rattle.zone_state.specs.declared.action.Action.TheVariants as action
use Rattle.zone_state.specs.declared.state.FaultState.{FaultState}
use Rattle.zone_state.specs.declared.state.ZoneState.{ZoneState}
use Rattle.zone_state.specs.declared.state.ZoneState.TheVariants.{Empty, Offline}
use Rattle.zone_state.specs.declared.zone.FaultRefused.{FaultRefused}
use Rattle.zone_resources.specs.Holds.{is_destination, is_source, is_held, refuses, forgets}
use Rattle.zone_resources.specs.declared.holds.Holds.{Holds}
use Rattle.common_definitions.specs.Checks.{first_failed}
use Rattle.image_store.specs.Namespace.{ZoneWithBlocks, ZonedNamespace, zone_at, with_zone, arrived, with_state}
use Rattle.zone_state.specs.State.{is_cleared}
use Rattle.common_definitions.proofs.Proved.{passed}
use Rattle.zns_commands.specs.Address.{zone_number}
use Rattle.zns_commands.specs.Fault.{zone_fault_refusal, faulted_by}
use Rattle.zns_commands.specs.Left.{Grows, HeldSourcesKeepBlocks}
use Rattle.zns_commands.specs.Laws.{Commanded, Faulted}
use Rattle.zns_commands.specs.Change.{Change, Nothing, Writing, Moving, changed}
use Rattle.zns_commands.specs.Meaning.{change_of}
use Rattle.zns_commands.specs.Resources.{closed}
use Rattle.zns_commands.specs.Send.{send_checks, send_effect, takes, led_to}
use Rattle.zns_commands.specs.steps.Plans.{write_plan, zone_plan}
use Rattle.zns_commands.proofs.HeldZones.{not_taken, not_refused}
use Rattle.zns_commands.proofs.KeptBlocks.{arrived_grows, grows_by_none, grows_on, replaced_grows, closed_grows, written_grows}
use Rattle.zns_commands.proofs.Meanings.{after_command}
use Rattle.zns_commands.proofs.PassedChecks.{IsPassed, taken_fault}
use Rattle.zns_commands.proofs.Sweeps.{swept_at}
use Rattle.zns_commands.proofs.Untouched.{change_left}

-- an action that forgets nothing clears no zone that it can be taken on
leads_to : (a : Action) (from : ZoneState) → forgets a ≡ false → result_err (transition a from) ≡ None → is_cleared (led_to a from) ≡ false
leads_to action.Reset from e can = cc
leads_to action.Offline from e can = cc
leads_to action.Close Empty e can = cc
leads_to a Offline e can = cc
leads_to a from e can = refl

-- nor one that Select All takes
taken_leads : (a : Action) (from : ZoneState) → forgets a ≡ false → takes a from ≡ true → is_cleared (led_to a from) ≡ false
taken_leads action.Reset from e is = cc
taken_leads action.Offline from e is = cc
taken_leads a Empty e is = cc
taken_leads a Offline e is = cc
taken_leads a from e is = refl

swept_one : (a : Action) (zone : ZoneWithBlocks) (taken : Bool) → forgets a ≡ false → takes a zone.state ≡ taken
    → Grows zone.blocks (cond taken (arrived (led_to a zone.state) zone) zone).blocks
swept_one a zone false e is = grows_by_none zone.blocks
swept_one a zone true e is = arrived_grows (led_to a zone.state) zone (taken_leads a zone.state e is)

-- a source refuses just the actions that forget
forgets_none : (b forgetting source : Bool) → source ≡ true → (b || (forgetting && source)) ≡ false → forgetting ≡ false
forgets_none true forgetting source held free = cc
forgets_none false false source held free = refl
forgets_none false true source held free = cc

refuses_it : (b forgetting source : Bool) → source ≡ true → forgetting ≡ true → (b || (forgetting && source)) ≡ true
refuses_it true forgetting source held all = refl
refuses_it false forgetting source held all = rw (all, held) refl

module _ (ns : ZonedNamespace) (holds : Holds) (d : ℕ) (held : is_source holds d ≡ true) where
  abbrev Kept : ZonedNamespace → Type 0
  Kept m = Grows (zone_at ns d).blocks (zone_at m d).blocks

  moved_kept : (gives : Option ℕ) (z : ℕ) (to : ZoneState) → (z ≡ d → is_cleared to ≡ false) → Kept (with_state (closed ns gives) z to)
  moved_kept gives z to keeps =
      let m = closed ns gives in
      let zone = arrived to (zone_at m z) in
      grows_on (zone_at ns d).blocks (zone_at m d).blocks (zone_at (with_zone m z zone) d).blocks (closed_grows ns gives d)
      (replaced_grows m.zones z d zone
      (λ same is. subst (λ (n : ℕ). Grows (zone_at m n).blocks zone.blocks) same (arrived_grows to (zone_at m z) (keeps same))))

  one_kept : (lba : ℕ) (a : Action) (input : List ℕ) → first_failed (send_checks ns holds lba a false input) ≡ None
      → Kept (send_effect ns holds lba a false)
  one_kept lba a input none =
      let plan = zone_plan ns holds lba a in
      let from = (zone_at ns (zone_number ns lba)).state in
      let free = not_refused ns holds lba a input none in
      moved_kept plan.closing plan.zone plan.to
      (λ same.
      let here = subst (λ (n : ℕ). refuses holds a n ≡ false) same free in
      leads_to a from (forgets_none (is_destination holds d) (forgets a) (is_source holds d) held here)
      (passed (send_checks ns holds lba a false input) 4 none))

  all_kept : (lba : ℕ) (a : Action) (input : List ℕ) (forgetting : Bool) → forgets a ≡ forgetting
      → first_failed (send_checks ns holds lba a true input) ≡ None → Kept (send_effect ns holds lba a true)
  all_kept lba a input false is none =
      let zone = zone_at ns d in
      subst (λ (swept_zone : ZoneWithBlocks). Grows zone.blocks swept_zone.blocks) (sym (swept_at a ns.zones d)) (swept_one a zone (takes a zone.state) is refl)
  all_kept lba a input true is none =
      let refused = refuses_it (is_destination holds d) (forgets a) (is_source holds d) held is in
      let same = change_left ns d holds (Moving lba a true) input (not_taken ns holds lba a input d none refused) in
      subst (λ (zone : ZoneWithBlocks). Grows (zone_at ns d).blocks zone.blocks) (sym same) (grows_by_none (zone_at ns d).blocks)

  sent_kept : (lba : ℕ) (a : Action) (select_all : Bool) (input : List ℕ) → first_failed (send_checks ns holds lba a select_all input) ≡ None
      → Kept (send_effect ns holds lba a select_all)
  sent_kept lba a false input none = one_kept lba a input none
  sent_kept lba a true input none = all_kept lba a input (forgets a) refl none

  change_kept : (change : Change) (input : List ℕ) → IsPassed ns holds change input → Kept (changed ns holds change input)
  change_kept (Writing lba blocks) input passes = written_grows ns (write_plan ns holds (zone_number ns lba)) input d
  change_kept (Moving lba a select_all) input passes = sent_kept lba a select_all input passes
  change_kept Nothing input passes = grows_by_none (zone_at ns d).blocks

  faulted_kept : (z : ℕ) (fault : FaultState) (result : Result Unit FaultRefused)
      → ((done : Unit {0}) → result ≡ Ok done → is_held holds z ≡ false) → Kept (faulted_by result ns z fault)
  faulted_kept z fault (Err none) free = grows_by_none (zone_at ns d).blocks
  faulted_kept z fault (Ok done) free =
      moved_kept None z (state_of_fault fault)
      (λ same.
      let no_source = (or_parts (is_source holds z) (is_destination holds z) (free done refl)).0 in
      let here : is_source holds d ≡ false = subst (λ (n : ℕ). is_source holds n ≡ false) same no_source in
      cc)

pub held_sources_keep_blocks : HeldSourcesKeepBlocks
held_sources_keep_blocks (Commanded holds command input) ns d held =
    after_command (λ m. Grows (zone_at ns d).blocks (zone_at m d).blocks) ns holds command input (grows_by_none (zone_at ns d).blocks)
    (change_kept ns holds d held (change_of command) input)
held_sources_keep_blocks (Faulted holds z fault) ns d held =
    faulted_kept ns holds d held z fault (zone_fault_refusal ns holds z fault)
    (λ done e. (taken_fault ns holds z fault done e).1)
