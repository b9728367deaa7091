-- What image files stand for, and what is told of those that stand for no device.
use Rattle.std.proofs.Common.{◌≡◌, arith, inl, inr, ℕ, ◌<◌, List, length, length-take, take, take_all, Option, Some, None, IfSome, Result, Ok, Err, IfErr, ap, refl, sym, ◌∙◌, subst}
use Rattle.std.specs.Borrow.{Bor}
use Rattle.zone_state.specs.Zone.{CountedZone}
use Rattle.image_store.specs.Geometry.{Shape}
use Rattle.image_store.specs.Namespace.{ZonedNamespace, counted_zones, shape}
use Rattle.image_text.specs.Loading.{HasTable, LoadFails}
use Rattle.image_text.specs.Reading.{namespace_in}
use Rattle.image_text.specs.declared.fault.LoadFault.{LoadFault}
use Rattle.image_text.specs.declared.fault.LoadFault.TheVariants.{Magic, Memory, Stream, Truncated}
use Rattle.device_meaning.specs.State.{State, new_state}
use Rattle.durable_machine.specs.Refused.{IsDamaged, IsUndone}
use Rattle.durable_machine.specs.declared.fault.Fault.{Fault}
use Rattle.durable_machine.specs.declared.fault.Fault.TheVariants.{Damaged, OfFile, Undone, Unreadable}
use Rattle.durable_device.specs.Kept.{RefusesBytes, StandsFor, StandsForIt}
use Rattle.durable_device.specs.Machine.{IsDeviceBase, next_state}
use Rattle.command_files.specs.Made.{AreAsTold}
use Rattle.command_files.specs.declared.failure.Failure.{Failure}
use Rattle.command_files.specs.declared.journal_fault.JournalFault.{JournalFault}
use Rattle.command_files.specs.declared.journal_fault.JournalFault.TheVariants.{MadeBy, NoBase, OpenGate}
use Rattle.command_files.specs.declared.journal_fault.JournalFault.TheVariants as journal
use Rattle.command_images.proofs.Damage.{whole_to_damage}
use Rattle.command_images.specs.Devices.{AreFaulty, CountsBatches, IsCut, IsFrontFault, IsNoImage, StandForNone, TellDevice, TellItsNamespace, TellNamespace, TellTable}
use Rattle.command_images.specs.UserTold.{LoadingDeviceFails}
use Rattle.command_images.specs.steps.Told.{RefusesJournal, TellsCut, TellsJournal, told_of_image}

-- ---- what stands for a device

-- an image was loaded, and its device is new
pub tells_image : (contents : Option (List ℕ)) (read : List ℕ) (image : ZonedNamespace) (s : State) → AreAsTold contents read
    → namespace_in read ≡ Ok image → s ≡ new_state image → TellDevice contents s
tells_image None read image s told loaded new = tt
tells_image (Some bytes) read image s told loaded new =
    let same : s.namespace ≡ image = ap (λ (t : State). t.namespace) new in
    inl (record {
      read = ap namespace_in (sym told) ∙ loaded ∙ ap (λ (ns : ZonedNamespace). Ok ns) (sym same);
      new = new ∙ ap new_state (sym same);
    })

-- which has its namespace and nothing else
pub tells_namespace : (contents : Option (List ℕ)) (read : List ℕ) (image : ZonedNamespace) (s : State) → AreAsTold contents read
    → namespace_in read ≡ Ok image → s ≡ new_state image → TellNamespace contents s.namespace
tells_namespace contents read image s told loaded new =
    subst (TellDevice contents) (new ∙ ap new_state (sym (ap (λ (t : State). t.namespace) new))) (tells_image contents read image s told loaded new)

-- its namespace is told
pub tells_image_namespace : (contents : Option (List ℕ)) (read : List ℕ) (image : ZonedNamespace) (s : State) → AreAsTold contents read
    → namespace_in read ≡ Ok image → s ≡ new_state image → TellItsNamespace contents s.namespace
tells_image_namespace None read image s told loaded new = tt
tells_image_namespace (Some bytes) read image s told loaded new =
    record { device = s; are = tells_image (Some bytes) read image s told loaded new; same = refl }

-- and so is that of a device from which another was made
pub tells_device_namespace : (contents : Option (List ℕ)) (device new : State) → TellDevice contents device
    → new ≡ new_state device.namespace → TellItsNamespace contents new.namespace
tells_device_namespace None device new told made = tt
tells_device_namespace (Some bytes) device new told made =
    record { device = device; are = told; same = ap (λ (s : State). s.namespace) made }

-- a journal was done again
pub tells_journal : (contents : Option (List ℕ)) (read : List ℕ) (s : State) → AreAsTold contents read
    → IsNoImage contents → StandsForIt read s → TellDevice contents s
tells_journal None read s told none stands = tt
tells_journal (Some bytes) read s told none stands =
    inr (record { no_image = none; stand = subst (λ (file : List ℕ). StandsForIt file s) told stands })

-- the table of an image was loaded
pub tells_table : (contents : Option (List ℕ)) (read : List ℕ) (s : Shape) (zones : List CountedZone) → AreAsTold contents read
    → HasTable read s zones → TellTable contents s zones
tells_table None read s zones told has = tt
tells_table (Some bytes) read s zones told has = record {
  device = new_state has.namespace;
  are = inl (record { read = ap namespace_in (sym told) ∙ has.loads; new = refl });
  shape_is = has.shape_is;
  zones_are = has.zones_are;
}

-- or that of a device that was loaded
pub tells_its_table : (contents : Option (List ℕ)) (device : State) (s : Shape) (zones : List CountedZone) → TellDevice contents device
    → s ≡ shape device.namespace → zones ≡ counted_zones device.namespace → TellTable contents s zones
tells_its_table None device s zones told shape_is zones_are = tt
tells_its_table (Some bytes) device s zones told shape_is zones_are =
    record { device = device; are = told; shape_is = shape_is; zones_are = zones_are }

-- ---- what stands for none

magic_only : (fault : LoadFault) (bytes : List ℕ) → namespace_in bytes ≡ Err fault → namespace_in bytes ≡ Err Magic → fault ≡ Magic
magic_only fault bytes is other = cc

-- no image, and no journal where it begins as one
pub stand_for_none : (bytes : List ℕ) (fault : LoadFault) → namespace_in bytes ≡ Err fault
    → (fault ≡ Magic → (s : State) → StandsFor bytes s → ⊥) → StandForNone bytes
stand_for_none bytes fault is none s (inl image) = absurd (differ (sym is ∙ image.read))
  where
    differ : Err fault ≡ Ok s.namespace → ⊥
    differ same = cc
stand_for_none bytes fault is none s (inr journal) = none (magic_only fault bytes is journal.no_image) s journal.stand.is

-- no file that is cut
none_of_cut : (bytes : List ℕ) → namespace_in bytes ≡ Err Truncated → StandForNone bytes
none_of_cut bytes is = stand_for_none bytes Truncated is (λ magic. absurd (differ magic))
  where
    differ : Truncated ≡ Magic → ⊥
    differ same = cc

-- ---- what is told

-- of a fault that no journal has
pub fails_as_image : (reads : Type 0) (contents : Option (List ℕ)) (read : List ℕ) (path : Bor (List ℕ)) (fault : LoadFault)
    → (reads → AreAsTold contents read) → ¬ (fault ≡ Magic) → (reads → (wanted : Type 0) × LoadFails wanted fault (namespace_in read))
    → LoadingDeviceFails reads contents path.now (told_of_image path fault)
fails_as_image reads contents read path Stream told other fails = refl
fails_as_image reads contents read path Memory told other fails = tt
fails_as_image reads contents read path fault told other fails = (refl, λ known. at contents (told known) (fails known).1)
  where
    at : (held : Option (List ℕ)) → AreAsTold held read → namespace_in read ≡ Err fault
        → IfSome held (λ bytes. (namespace_in bytes ≡ Err fault) × StandForNone bytes)
    at None same is = tt
    at (Some bytes) same is =
        let failed : namespace_in bytes ≡ Err fault = ap namespace_in (sym same) ∙ is in
        (failed, stand_for_none bytes fault failed (λ magic. absurd (other magic)))

-- at the front of a journal
front_faulty : (fault : JournalFault) (bytes : List ℕ) → IsFrontFault fault bytes → StandForNone bytes → AreFaulty fault 0 bytes
front_faulty NoBase bytes is none = (refl, is, none)
front_faulty (MadeBy version profile) bytes is none = (refl, is, none)
front_faulty OpenGate bytes is none = absurd is
front_faulty journal.Undone bytes is none = absurd is
front_faulty (journal.Damaged whole readable) bytes is none = absurd is

-- where it is damaged
damage_faulty : (fault : JournalFault) (place : ℕ) (bytes : List ℕ) → CountsBatches fault bytes → IsDamaged IsDeviceBase next_state place bytes
    → StandForNone bytes → AreFaulty fault place bytes
damage_faulty OpenGate place bytes counts is none = (is, none)
damage_faulty (journal.Damaged whole readable) place bytes (end, has) is none = (is, whole_to_damage place end whole readable bytes is has, none)
damage_faulty NoBase place bytes counts is none = absurd counts
damage_faulty (MadeBy version profile) place bytes counts is none = absurd counts
damage_faulty journal.Undone place bytes counts is none = absurd counts

-- of a file that is cut
pub fails_cut : (reads : Type 0) (contents : Option (List ℕ)) (read slice : List ℕ) (path : Bor (List ℕ)) (failure : Failure)
    → slice ≡ read → AreAsTold contents read → (reads → IsCut contents) → TellsCut path slice failure → LoadingDeviceFails reads contents path.now failure
fails_cut reads contents read slice path failure same told cut (inl is) =
    subst (LoadingDeviceFails reads contents path.now) (sym is) (refl, λ known. at contents (cut known))
  where
    at : (held : Option (List ℕ)) → IsCut held → IfSome held (λ bytes. (namespace_in bytes ≡ Err Truncated) × StandForNone bytes)
    at None is = tt
    at (Some bytes) is = (is, none_of_cut bytes is)
fails_cut reads contents read slice path failure same told cut (inr front) =
    subst (LoadingDeviceFails reads contents path.now) (sym front.told) (refl, λ known. at contents told (cut known))
  where
    at : (held : Option (List ℕ)) → AreAsTold held read → IsCut held → IfSome held (AreFaulty front.fault 0)
    at None are is = tt
    at (Some bytes) are is =
        front_faulty front.fault bytes (subst (λ (file : List ℕ). IsFrontFault front.fault file) (same ∙ are) front.is) (none_of_cut bytes is)

-- of a journal that is refused
module _ (reads : Type 0) (contents : Option (List ℕ)) (read : List ℕ) (path : Bor (List ℕ)) (told : AreAsTold contents read) (none : reads → IsNoImage contents) where
  abbrev Fails : Failure → Type 0
  Fails failure = LoadingDeviceFails reads contents path.now failure

  -- where nothing stands for a device
  stand_none : ((s : State) → StandsFor read s → ⊥) → (bytes : List ℕ) → read ≡ bytes → namespace_in bytes ≡ Err Magic → StandForNone bytes
  stand_none refused bytes same is = stand_for_none bytes Magic is (λ magic s stands. refused s (subst (λ (file : List ℕ). StandsFor file s) (sym same) stands))

  no_base : ((s : State) → StandsFor read s → ⊥) → (held : Option (List ℕ)) → AreAsTold held read → IfSome held (λ bytes. namespace_in bytes ≡ Err Magic)
      → IfSome held (λ bytes. (namespace_in bytes ≡ Err Magic) × StandForNone bytes)
  no_base refused None same is = tt
  no_base refused (Some bytes) same is = (is, stand_none refused bytes same is)

  faulty : (fault : JournalFault) (place : ℕ) → ((bytes : List ℕ) → read ≡ bytes → namespace_in bytes ≡ Err Magic → AreFaulty fault place bytes) → (held : Option (List ℕ)) → AreAsTold held read
      → IfSome held (λ bytes. namespace_in bytes ≡ Err Magic) → IfSome held (AreFaulty fault place)
  faulty fault place so None same is = tt
  faulty fault place so (Some bytes) same is = so bytes same is

  pub fails_as_journal : (fault : Fault) (failure : Failure) → RefusesBytes read fault → TellsJournal path read fault failure → Fails failure
  fails_as_journal Unreadable failure refused (inl is) = subst Fails (sym is) (refl, λ known. no_base refused contents told (none known))
  fails_as_journal Unreadable failure refused (inr front) =
      subst Fails (sym front.told) (
        refl,
        λ known. faulty front.fault 0
            (λ bytes same magic. front_faulty front.fault bytes (subst (λ (file : List ℕ). IsFrontFault front.fault file) same front.is) (stand_none refused bytes same magic))
            contents told (none known),
      )
  fails_as_journal (Damaged place) failure refused is =
      subst Fails (sym is.told) (
        refl,
        λ known. faulty is.fault place
            (λ bytes same magic. damage_faulty is.fault place bytes (subst (λ (file : List ℕ). CountsBatches is.fault file) same is.counts)
            (subst (λ (file : List ℕ). IsDamaged IsDeviceBase next_state place file) same refused.0) (stand_none refused.1 bytes same magic))
            contents told (none known),
      )
  fails_as_journal (Undone place) failure refused is =
      subst Fails (sym is) (refl, λ known. faulty journal.Undone place (λ bytes same magic. subst (λ (file : List ℕ). IsUndone IsDeviceBase next_state place file) same refused) contents told (none known))
  fails_as_journal (OfFile error) failure refused is = subst Fails (sym is) tt

pub refused_as_journal : {T : Type 0} (reads : Type 0) (contents : Option (List ℕ)) (read slice : List ℕ) (path : Bor (List ℕ)) → slice ≡ read
    → AreAsTold contents read → (reads → IsNoImage contents) → (result : Result T Failure) → IfErr result (RefusesJournal path slice)
    → IfErr result (LoadingDeviceFails reads contents path.now)
refused_as_journal reads contents read slice path same told none (Ok device) refused = tt
refused_as_journal reads contents read slice path same told none (Err failure) refused =
    fails_as_journal reads contents read path told none refused.fault failure (subst (λ (bytes : List ℕ). RefusesBytes bytes refused.fault) same refused.refused)
    (subst (λ (bytes : List ℕ). TellsJournal path bytes refused.fault failure) same refused.told)

-- ---- what is read

-- so many bytes as there can be are all of them
pub all_taken : (most : ℕ) (read : List ℕ) (contents : Option (List ℕ)) → length read < most → IfSome contents (λ bytes. read ≡ take most bytes)
    → AreAsTold contents read
all_taken most read None fewer is = tt
all_taken most read (Some bytes) fewer is = is ∙ take_all most bytes (omega (arith, fewer, ap length is, length-take most bytes))
