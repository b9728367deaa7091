-- What was kept tells one state, and a device may begin in it.
use Rattle.std.proofs.Common.{◌≡◌, ◌<◌, ◌≤◌, ◌+◌, ◌-◌, ℕ, Bool, true, false, List, length, map, get_or, Option, Some, None, option_map, Result, Ok, Err, cond, refl, ap, sym, subst, ◌∙◌, arith}
use Rattle.std.specs.Prelude.{nat_le, option_and_then}
use Rattle.std.proofs.lemmas.Bool.{leb-true}
use Rattle.std.proofs.lemmas.List.{ext_get_or}
use Rattle.zone_resources.proofs.Proved.{there}
use Rattle.nvme_entry.specs.declared.program_slot.TheConstants.{PROGRAM_SLOTS}
use Rattle.instruction_set.specs.declared.instruction.Instruction.{Instruction}
use Rattle.program_meaning.proofs.Proved.{the_value}
use Rattle.image_store.specs.Namespace.{IsNamespace, ZonedNamespace}
use Rattle.emit_append.specs.Need.{need_behind}
use Rattle.device_meaning.specs.Admission.{Loaded, granted_sizes, sizes_in}
use Rattle.device_meaning.specs.Beginning.{MayBegin, MayGoOn, WasLoaded, destination_in}
use Rattle.device_meaning.specs.BlockRuns.{AreScratch}
use Rattle.device_meaning.specs.Judging.{IsSoundJudge, Judge, ProgramRefused}
use Rattle.device_meaning.specs.State.{Place, State}
use Rattle.device_meaning.specs.View.{Active, seen}
use Rattle.device_meaning.proofs.Proved.{beginning_is_reached, left_is_within_need}
use Rattle.device_meaning.specs.Reached.{IsReached}
use Rattle.kept_device.specs.Kept.{SavedProgram}
use Rattle.runner.specs.Keeping.{loaded_again, loaded_by, slot_again}
use Rattle.runner.specs.Restored.{CanGoOn, IsOfBytes, IsRestoredBy, OneIsRestored, RestoredMayBegin}

-- ---- programs

same_value : {A : Type 0} (x y : A) → let first : Option A = Some x in first ≡ Some y → x ≡ y
same_value x y is = cc

-- what the judge's answer tells of what is loaded
record IsOfAnswer (p : SavedProgram) (loaded : Loaded) (answer : Result (List (Option Instruction)) ProgramRefused) : Type 0 where
  accepted : answer ≡ Ok loaded.program
  limit : loaded.limit ≡ p.limit
  result : loaded.result ≡ p.result

of_answer : (p : SavedProgram) (loaded : Loaded) (answer : Result (List (Option Instruction)) ProgramRefused) → loaded_by p answer ≡ Some loaded → IsOfAnswer p loaded answer
of_answer p loaded (Ok program) is =
    let same = same_value _ loaded is in
    record {
      accepted = ap (λ (l : Loaded). Ok l.program) same;
      limit = sym (ap (λ (l : Loaded). l.limit) same);
      result = sym (ap (λ (l : Loaded). l.result) same);
    }
of_answer p loaded (Err why) is = absurd cc

module _ (judge : Judge) (ns : ZonedNamespace) (p : SavedProgram) (loaded : Loaded) (are : IsOfBytes p) where
  by_test : (fits : Bool) → nat_le p.limit ns.block ≡ fits
      → option_and_then (λ sizes. loaded_by p (judge p.bytes sizes)) (cond fits (Some (granted_sizes ns p.limit)) None) ≡ Some loaded
      → WasLoaded judge ns loaded
  by_test true fits is =
      let of = of_answer p loaded (judge p.bytes (granted_sizes ns p.limit)) is in
      let within = leb-true p.limit ns.block fits in
      record {
        bytes = p.bytes;
        are = are.bytes;
        limit = omega (arith, within, of.limit);
        accepted = ap (λ (limit : ℕ). judge p.bytes (granted_sizes ns limit)) of.limit ∙ of.accepted;
        result = subst AreScratch (sym of.result) are.result;
      }
  by_test false fits is = absurd cc

  was_loaded : loaded_again judge ns.block p ≡ Some loaded → WasLoaded judge ns loaded
  was_loaded is = by_test (nat_le p.limit ns.block) refl is

-- a slot that has a program
of_slot : (judge : Judge) (ns : ZonedNamespace) (saved : Option SavedProgram) (loaded : Loaded) → ((p : SavedProgram) → saved ≡ Some p → IsOfBytes p)
    → slot_again judge ns.block saved ≡ Some (Some loaded) → WasLoaded judge ns loaded
of_slot judge ns None loaded are is = absurd cc
of_slot judge ns (Some p) loaded are is = was_loaded judge ns p loaded (are p refl) (unwrapped (loaded_again judge ns.block p) is)
  where
    unwrapped : (o : Option Loaded) → option_map (λ l. Some l) o ≡ Some (Some loaded) → o ≡ Some loaded
    unwrapped None is = absurd cc
    unwrapped (Some l) is = cc

-- ---- the state

state_of : ZonedNamespace → List (Option Loaded) → List (Option Place) → State
state_of ns slots places = record { namespace = ns; slots = slots; places = places }

pub one_is_restored : (judge : Judge) → OneIsRestored judge
unfolding state_of
one_is_restored judge ns programs runs s t is it =
    let slots : s.slots ≡ t.slots =
    ext_get_or None s.slots t.slots (is.slot_number ∙ sym it.slot_number)
    (λ k within.
    let less : k < PROGRAM_SLOTS = omega (arith, within, is.slot_number) in
    same_value (get_or s.slots k None) (get_or t.slots k None) (sym (is.slots k less) ∙ it.slots k less)) in
    ap (λ (n : ZonedNamespace). state_of n s.slots s.places) is.namespace
    ∙ ap (state_of ns s.slots) is.places
    ∙ ap (λ (l : List (Option Loaded)). state_of ns l (map (seen ns l) runs)) slots
    ∙ sym (ap (λ (n : ZonedNamespace). state_of n t.slots t.places) it.namespace ∙ ap (state_of ns t.slots) it.places)

module _ (judge : Judge) (sound : IsSoundJudge judge) (ns : ZonedNamespace) (programs : List (Option SavedProgram)) (runs : List (Option Active)) (s : State) (sane : IsNamespace ns)
    (are : (k : ℕ) (p : SavedProgram) → k < PROGRAM_SLOTS → get_or programs k None ≡ Some p → IsOfBytes p) (is : IsRestoredBy judge ns programs runs s) where
  slot_was : (slot : ℕ) (loaded : Loaded) → get_or s.slots slot None ≡ Some loaded → WasLoaded judge ns loaded
  slot_was slot loaded at =
      let inside : slot < PROGRAM_SLOTS = omega (arith, there s.slots slot loaded at, is.slot_number) in
      of_slot judge ns (get_or programs slot None) loaded (λ p kept. are slot p inside kept) (is.slots slot inside ∙ ap (λ (o : Option Loaded). Some o) at)

  goes_on : (a : Active) → CanGoOn ns s.slots a → MayGoOn ns s.slots a
  goes_on a can =
      let loaded = the_value (get_or s.slots a.command.slot None) can.begun.loaded in
      let left = left_is_within_need judge sound ns s.slots a loaded.0 sane can.begun loaded.1 (slot_was a.command.slot loaded.0 loaded.1) in
      let room = subst (λ (o : Option Loaded). length (destination_in ns a).blocks
      + need_behind (length a.so_far.pending) (a.command.blocks - a.so_far.index) (sizes_in ns o) ≤ ns.capacity) loaded.1 can.room in
      record { begun = can.begun; room = omega (arith, left, room); opened = can.opened }

  begins : MayBegin judge (state_of ns s.slots s.places)
  unfolding state_of
  begins = record {
    runs = runs;
    places = is.places;
    namespace = sane;
    slot_number = is.slot_number;
    place_number = is.place_number;
    programs = slot_was;
    going = λ run a at. goes_on a (is.runs_go.going run a at);
    apart = is.runs_go.apart;
  }

  pub begins_there : MayBegin judge s
  unfolding state_of
  begins_there = subst (MayBegin judge) (ap (λ (n : ZonedNamespace). state_of n s.slots s.places) (sym is.namespace)) begins

-- so it is in a state that events leave
pub restored_is_reached : (judge : Judge) (sound : IsSoundJudge judge) (ns : ZonedNamespace) (programs : List (Option SavedProgram)) (runs : List (Option Active)) (s : State) → IsNamespace ns
    → ((k : ℕ) (p : SavedProgram) → k < PROGRAM_SLOTS → get_or programs k None ≡ Some p → IsOfBytes p) → IsRestoredBy judge ns programs runs s
    → IsReached judge s
restored_is_reached judge sound ns programs runs s sane are is = beginning_is_reached judge s (begins_there judge sound ns programs runs s sane are is)

pub restored_may_begin : (judge : Judge) → IsSoundJudge judge → RestoredMayBegin judge
restored_may_begin judge sound ns programs runs s sane are is = begins_there judge sound ns programs runs s sane are is
