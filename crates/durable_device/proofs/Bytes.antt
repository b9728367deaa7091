-- The frames in a file of bytes carry bytes, and so do the sections of its base.
use Rattle.std.proofs.Common.{◌≡◌, ◌<◌, ◌+◌, ◌==◌, ◌&&◌, ℕ, zero, suc, Bool, true, false, not, cond, List, [], ◌∷◌, ◌++◌, length, map, take, drop, get_or, Option, Some, None, refl, subst, arith, length-drop, length-take}
use Rattle.std.specs.Prelude.{nat_le}
use Rattle.std.specs.List.{AllByRecursion, cons_option}
use Rattle.std.proofs.lemmas.Bool.{leb-true}
use Rattle.common_definitions.specs.Bytes.{AreBytes, field}
use Rattle.common_definitions.proofs.Proved.{all_append, bytes_from, bytes_to, front_fit, rest_fit}
use Rattle.durable_machine.specs.Events.{number_bytes, spelled}
use Rattle.durable_machine.specs.Journal.{AreFrames}
use Rattle.durable_machine.specs.Files.{joined}
use Rattle.image_base.specs.Base.{IsBaseOf, Told, magic}
use Rattle.zone_state.specs.declared.state.FaultState.TheVariants.{ReadOnly, Offline}
use Rattle.program_interface.specs.declared.area.TheConstants.{SCRATCH_BYTES}
use Rattle.nvme_entry.specs.declared.command.TheConstants.{MOST_TRANSFER}
use Rattle.device_events.specs.ToldEvents.{ToldEvent, Submitted, Turned, Faulted}
use Rattle.device_meaning.specs.BlockRuns.{AreScratch}
use Rattle.device_meaning.specs.Events.{AreEvents, CarriesBytes, Occurrence}
use Rattle.kept_device.specs.Kept.{SavedProgram}
use Rattle.kept_device.specs.Sections.{slot_in}
use Rattle.runner.specs.Restored.{IsOfBytes}
use Rattle.durable_device.specs.FrameEvents.{event_by, fault_in, frame_event, header_in, submission_in, turn_in}
use Rattle.durable_device.specs.declared.frame_event.Header.{Header}
use Rattle.durable_device.proofs.Told.{file_occurrences, given_occurrence}

-- ---- events

pub events_are_bytes : (events : List (List ℕ)) → AreBytes (spelled events) → AllByRecursion AreBytes events
events_are_bytes [] are = tt
events_are_bytes (event ∷ events) are =
    let front = (1 ∷ number_bytes (length event)) in (
      rest_fit front event (front_fit (front ++ event) (spelled events) are),
      events_are_bytes events (rest_fit (front ++ event) (spelled events) are),
    )

pub batches_are_bytes : (at : ℕ) (batches : List (List (List ℕ))) (frames : List ℕ) → AreFrames at batches frames → AreBytes frames → AllByRecursion AreBytes (joined batches)
batches_are_bytes at [] frames is are = tt
batches_are_bytes at (batch ∷ batches) frames (frame, behind, is, later, parts) are =
    let both : AreBytes (frame ++ behind) = subst AreBytes parts are in
    let payload : AreBytes (is.sector ++ (is.seal ++ spelled batch ++ 0 ∷ is.padding)) = subst AreBytes is.parts (front_fit frame behind both) in
    let told : AreBytes (is.seal ++ spelled batch) = front_fit (is.seal ++ spelled batch) (0 ∷ is.padding) (rest_fit is.sector (is.seal ++ spelled batch ++ 0 ∷ is.padding) payload) in
    let events : AreBytes (spelled batch) = rest_fit is.seal (spelled batch) told in
    all_append AreBytes batch (joined batches) (events_are_bytes batch events) (batches_are_bytes (at + length frame) batches behind later (rest_fit frame behind both))

-- ---- bases

-- the parts of a base of bytes are bytes
pub record AreBytesOf (text : List ℕ) (sections : List (List ℕ)) : Type 0 where
  pub text_is : AreBytes text
  pub sections_are : AllByRecursion AreBytes sections

pub base_parts : (base : List ℕ) (told : Told) (is : IsBaseOf base told) → AreBytes base → AreBytesOf is.text told.sections
base_parts base told is are =
    let all = events_are_bytes (is.text ∷ told.sections) (rest_fit is.label (spelled (is.text ∷ told.sections)) (rest_fit magic (is.label ++ spelled (is.text ∷ told.sections)) (subst AreBytes is.parts are))) in
    record { text_is = all.0; sections_are = all.1 }

-- a section of bytes that spells something
pub record IsSection {X : Type 0} (read : List ℕ → Option X) (x : X) : Type 0 where
  pub section : List ℕ
  pub bytes : AreBytes section
  pub spells : read section ≡ Some x

-- there is one for each thing that is spelled
pub section_there : {X : Type 0} (read : List ℕ → Option (Option X)) (sections : List (List ℕ)) (xs : List (Option X)) (k : ℕ) (x : Option X)
    → map read sections ≡ map Some xs → AllByRecursion AreBytes sections → k < length xs → get_or xs k None ≡ x → IsSection read x
section_there read [] [] k x same all less at = absurd (omega (arith, less))
section_there read [] (y ∷ ys) k x same all less at = absurd cc
section_there read (s ∷ ss) [] k x same all less at = absurd cc
section_there read (s ∷ ss) (y ∷ ys) zero x same all less at = record { section = s; bytes = all.0; spells = cc (same, at) }
section_there read (s ∷ ss) (y ∷ ys) (suc k) x same all less at =
    let rest : map read ss ≡ map Some ys = cc in section_there read ss ys k x rest all.1 (omega (arith, less)) at

-- what a section of bytes spells of a program is bytes
program_by : (empty long : Bool) (section : List ℕ) (p : SavedProgram) → AreBytes section → nat_le (4 + SCRATCH_BYTES) (length section) ≡ long
    → cond empty (Some None) (cond long (Some (Some (record { bytes = drop (4 + SCRATCH_BYTES) section; limit = field section 0 4; result = take SCRATCH_BYTES (drop 4 section) }))) None) ≡ Some (Some p)
    → IsOfBytes p
program_by true long section p are fits is = absurd cc
program_by false false section p are fits is = absurd cc
program_by false true section p are fits is =
    let enough = leb-true (4 + SCRATCH_BYTES) (length section) fits in
    let bytes : drop (4 + SCRATCH_BYTES) section ≡ p.bytes = cc in
    let result : take SCRATCH_BYTES (drop 4 section) ≡ p.result = cc in
    record {
      bytes = subst AreBytes bytes (bytes_from (4 + SCRATCH_BYTES) section are);
      result = subst AreScratch result (record {
        long = omega (arith, enough, length-take SCRATCH_BYTES (drop 4 section), length-drop 4 section);
        are = bytes_to SCRATCH_BYTES (drop 4 section) (bytes_from 4 section are);
      });
    }

pub program_is_bytes : (section : List ℕ) (p : SavedProgram) → AreBytes section → slot_in section ≡ Some (Some p) → IsOfBytes p
program_is_bytes section p are is = program_by (length section == 0) (nat_le (4 + SCRATCH_BYTES) (length section)) section p are refl is

-- ---- what they tell

abbrev CarriesIfTold : Option ToldEvent → Type 0
CarriesIfTold None = Unit {0}
CarriesIfTold (Some e) = CarriesBytes e

either : (b : Bool) (x y : Option ToldEvent) → CarriesIfTold x → CarriesIfTold y → CarriesIfTold (cond b x y)
either true x y first second = first
either false x y first second = second

state_carries : (h : Header) → CarriesIfTold (cond (h.part == 1) (Some (Faulted h.number ReadOnly)) (cond (h.part == 2) (Some (Faulted h.number Offline)) None))
state_carries h =
    either (h.part == 1) (Some (Faulted h.number ReadOnly)) (cond (h.part == 2) (Some (Faulted h.number Offline)) None) tt
    (either (h.part == 2) (Some (Faulted h.number Offline)) None tt tt)

fault_carries : (h : Header) (behind : List ℕ) → CarriesIfTold (fault_in h behind)
fault_carries h behind =
    either (not (h.queue == 0 && h.size == 0 && h.zeros == 0 && length behind == 0)) None
    (cond (h.part == 1) (Some (Faulted h.number ReadOnly)) (cond (h.part == 2) (Some (Faulted h.number Offline)) None)) tt (state_carries h)

turn_carries : (h : Header) (behind : List ℕ) → CarriesIfTold (turn_in h behind)
turn_carries h behind = either (h.queue == 0 && h.number == 0 && h.size == 0 && h.zeros == 0 && length behind == 0) (Some (Turned h.part)) None tt tt

submission_carries : (h : Header) (behind : List ℕ) → AreBytes behind → CarriesIfTold (submission_in h behind)
submission_carries h behind are =
    either (nat_le 64 (length behind) && (h.part == 0 && h.number == 0 && h.zeros == 0 && h.size == length (drop 64 behind) && nat_le h.size MOST_TRANSFER))
    (Some (Submitted h.queue (take 64 behind) (drop 64 behind))) None (bytes_from 64 behind are) tt

by_carries : (h : Header) (behind : List ℕ) → AreBytes behind → CarriesIfTold (event_by h behind)
by_carries h behind are =
    let fault = either (h.kind == 3) (fault_in h behind) None (fault_carries h behind) tt in
    let turn = either (h.kind == 2) (turn_in h behind) (cond (h.kind == 3) (fault_in h behind) None) (turn_carries h behind) fault in
    either (h.kind == 1) (submission_in h behind) (cond (h.kind == 2) (turn_in h behind) (cond (h.kind == 3) (fault_in h behind) None)) (submission_carries h behind are) turn

frame_carries : (frame : List ℕ) → AreBytes frame → CarriesIfTold (frame_event frame)
unfolding frame_event
frame_carries frame are = either (nat_le 16 (length frame)) (event_by (header_in frame) (drop 16 frame)) None (by_carries (header_in frame) (drop 16 frame) (bytes_from 16 frame are)) tt

next_carries : (e : Option ToldEvent) (os : List Occurrence) → CarriesIfTold e → AreEvents os → AreEvents (cons_option (given_occurrence e) os)
next_carries None os one all = all
next_carries (Some e) os one all = (one, all)

pub occurrences_carry : (frames : List (List ℕ)) → AllByRecursion AreBytes frames → AreEvents (file_occurrences frames)
occurrences_carry [] all = tt
occurrences_carry (frame ∷ frames) all = next_carries (frame_event frame) (file_occurrences frames) (frame_carries frame all.0) (occurrences_carry frames all.1)
