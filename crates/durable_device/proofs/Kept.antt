-- What files stand for, in the device's words.
use Rattle.std.proofs.Common.{◌≡◌, ◌<◌, ℕ, List, ◌++◌, length, map, take, drop, Option, Some, sym, ap, subst, ◌∙◌, take-append-drop}
use Rattle.std.specs.Prelude.{Vec}
use Rattle.std.specs.declared.alloc.Global.{Global}
use Rattle.std.proofs.lemmas.List.{drop_at, length-map, map-append, take_at}
use Rattle.common_definitions.specs.Bytes.{AreBytes}
use Rattle.common_definitions.proofs.Proved.{all_take, front_fit, rest_fit}
use Rattle.image_text.proofs.Proved.{loaded_texts_are_namespaces}
use Rattle.image_base.specs.Base.{IsBaseOf, Told}
use Rattle.image_base.proofs.Proved.{one_base}
use Rattle.nvme_entry.specs.declared.program_slot.TheConstants.{PROGRAM_SLOTS}
use Rattle.durable_machine.specs.Bases.{BeginsBase, BeginsNoBase, NeedsBytes}
use Rattle.durable_machine.specs.Batches.{bytes_of}
use Rattle.durable_machine.specs.Files.{joined}
use Rattle.device_meaning.specs.Beginning.{MayBegin}
use Rattle.device_meaning.specs.Events.{state_after}
use Rattle.device_meaning.specs.Judging.{interval_judge}
use Rattle.device_meaning.specs.Reached.{IsReached}
use Rattle.device_meaning.specs.State.{State}
use Rattle.device_meaning.specs.View.{Active}
use Rattle.device_meaning.proofs.Proved.{beginning_is_reached, events_keep_reached}
use Rattle.kept_device.specs.Kept.{SavedProgram, place_told, slot_told}
use Rattle.kept_device.specs.Sections.{place_in, slot_in}
use Rattle.runner.specs.Restored.{IsRestored, TellNone}
use Rattle.runner.specs.declared.restoring.KeptDevice.{KeptDevice}
use Rattle.runner.proofs.Proved.{restored_may_begin}
use Rattle.durable_device.specs.Laws.{FilesAreReached}
use Rattle.durable_device.specs.Machine.{IsDeviceBase, SpellPrograms, SpellRuns, one_spelled}
use Rattle.durable_device.specs.Spelled.{SpellKept, SpellNothingKept}
use Rattle.durable_device.proofs.Bytes.{base_parts, batches_are_bytes, occurrences_carry, program_is_bytes, section_there}
use Rattle.durable_device.proofs.SectionLists.{as_many}
use Rattle.durable_device.proofs.Told.{all_given, file_occurrences, file_state, file_told}

-- ---- bases

abbrev items_of : Vec ℕ Global → List ℕ
items_of v = v.items

-- those of slots, and behind them those of places
pub joined_spell : (front behind all : List (Vec ℕ Global)) (kept : KeptDevice) → length kept.programs.items ≡ PROGRAM_SLOTS
    → SpellPrograms (bytes_of front) (map slot_told kept.programs.items) → SpellRuns (bytes_of behind) (map place_told kept.runs.items)
    → all ≡ front ++ behind → SpellKept (bytes_of all) kept
joined_spell front behind all kept number programs runs is =
    let both : bytes_of all ≡ bytes_of front ++ bytes_of behind = ap bytes_of is ∙ map-append items_of front behind in
    let long : length (bytes_of front) ≡ PROGRAM_SLOTS = length-map front items_of ∙ sym (as_many slot_in slot_told front kept.programs.items programs) ∙ number in
    record {
      programs = ap (λ (l : List (List ℕ)). map slot_in (take PROGRAM_SLOTS l)) both
          ∙ ap (map slot_in) (take_at (bytes_of front) (bytes_of behind) PROGRAM_SLOTS long) ∙ programs;
      runs = ap (λ (l : List (List ℕ)). map place_in (drop PROGRAM_SLOTS l)) both
          ∙ ap (map place_in) (drop_at (bytes_of front) (bytes_of behind) PROGRAM_SLOTS long) ∙ runs;
    }

-- no base, no device
pub no_device : (file : List ℕ) → BeginsNoBase IsBaseOf file → BeginsNoBase IsDeviceBase file
no_device file none base rest s loads is = none base rest loads.told loads.image is

-- a device's base has as many bytes as it is a base
pub device_needs : (n : ℕ) (front : List ℕ) → NeedsBytes IsBaseOf n front → NeedsBytes IsDeviceBase n front
device_needs n front needs base rest more s loads is = needs base rest more loads.told loads.image is

module _ (file : List ℕ) (told : Told) (n : ℕ) (begins : BeginsBase IsBaseOf told n file) where
  -- each base at the front tells the same
  told_there : (base rest : List ℕ) (s : State) (loads : IsDeviceBase base s) → file ≡ base ++ rest → loads.told ≡ told
  told_there base rest s loads is =
      (one_base base (take n file) rest (drop n file) loads.told told loads.image begins.loaded (sym is ∙ sym (take-append-drop n file))).1

  -- where its sections spell nothing, it stands for no device
  pub damaged_device : SpellNothingKept told.sections → BeginsNoBase IsDeviceBase file
  damaged_device nothing base rest s loads is =
      let same = told_there base rest s loads is in
      nothing loads.programs loads.runs
      (subst (λ (t : Told). SpellPrograms (take PROGRAM_SLOTS t.sections) loads.programs) same loads.slots)
      (subst (λ (t : Told). SpellRuns (drop PROGRAM_SLOTS t.sections) loads.runs) same loads.places)

  module _ (kept : KeptDevice) (spell : SpellKept told.sections kept) where
    -- nor where what they spell tells none
    pub unrestored_device : TellNone told.namespace (map slot_told kept.programs.items) (map place_told kept.runs.items) → BeginsNoBase IsDeviceBase file
    unrestored_device none base rest s loads is =
        let same = told_there base rest s loads is in
        let programs : loads.programs ≡ map slot_told kept.programs.items =
        one_spelled loads.programs (map slot_told kept.programs.items)
        (sym loads.slots ∙ ap (λ (t : Told). map slot_in (take PROGRAM_SLOTS t.sections)) same ∙ spell.programs) in
        let runs : loads.runs ≡ map place_told kept.runs.items =
        one_spelled loads.runs (map place_told kept.runs.items)
        (sym loads.places ∙ ap (λ (t : Told). map place_in (drop PROGRAM_SLOTS t.sections)) same ∙ spell.runs) in
        none s
        (subst (λ (t : Told). IsRestored t.namespace (map slot_told kept.programs.items) (map place_told kept.runs.items) s) same
        (subst (λ (l : List (Option Active)). IsRestored loads.told.namespace (map slot_told kept.programs.items) l s) runs
        (subst (λ (l : List (Option SavedProgram)). IsRestored loads.told.namespace l loads.runs s) programs loads.restored)))

-- ---- files

-- the device of a base of bytes may begin
base_may_begin : (base : List ℕ) (s : State) → IsDeviceBase base s → AreBytes base → MayBegin interval_judge s
base_may_begin base s is bytes =
    let parts = base_parts base is.told is.image bytes in
    restored_may_begin is.told.namespace is.programs is.runs s (loaded_texts_are_namespaces is.image.text is.told.namespace parts.text_is is.image.read)
    (λ k p less at.
    let there = section_there slot_in (take PROGRAM_SLOTS is.told.sections) is.programs k (Some p) is.slots (all_take AreBytes PROGRAM_SLOTS is.told.sections parts.sections_are)
    (subst (λ (n : ℕ). k < n) (sym is.restored.program_number) less) at in
    program_is_bytes there.section p there.bytes there.spells)
    is.restored

pub files_are_reached : FilesAreReached
files_are_reached file s bytes (end, is) =
    let frames = joined is.batches in
    let whole : AreBytes (is.front ++ is.has.frames ++ is.has.rest) = subst AreBytes is.has.parts bytes in
    let front : AreBytes (is.front ++ is.has.frames) = front_fit (is.front ++ is.has.frames) is.has.rest whole in
    let base : AreBytes is.begins.base = front_fit is.begins.base is.begins.padding (subst AreBytes is.begins.parts (front_fit is.front is.has.frames front)) in
    let begins : MayBegin interval_judge is.first = base_may_begin is.begins.base is.first is.begins.loaded base in
    let after : s ≡ state_after interval_judge (file_occurrences frames) is.first = is.leads ∙ file_state frames is.first in
    let events = occurrences_carry frames (batches_are_bytes (length is.front) is.batches is.has.frames is.has.are (rest_fit is.front is.has.frames front)) in
    let first : IsReached interval_judge is.first = beginning_is_reached interval_judge is.first begins in
    record {
      first = is.first;
      batches = is.batches;
      has = record { front = is.front; begins = is.begins; journal = (end, is.has) };
      begins = begins;
      occurrences = file_occurrences frames;
      told = file_told frames;
      given = all_given frames;
      state = after;
      reached = subst (IsReached interval_judge) (sym after) (events_keep_reached interval_judge is.first (file_occurrences frames) first events);
    }
