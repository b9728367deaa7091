-- The device as a machine whose events are frames, and whose bases tell its namespace, its programs and its runs.
use Rattle.std.specs.Prelude.{◌≡◌, ℕ, Bool, List, [], ◌∷◌, ◌++◌, map, take, drop, Option, Some, None}
use Rattle.std.proofs.Common.{ap, sym, subst, ◌∙◌}
use Rattle.image_base.specs.Base.{IsBaseOf, Told}
use Rattle.image_base.proofs.Proved.{one_base}
use Rattle.nvme_entry.specs.declared.program_slot.TheConstants.{PROGRAM_SLOTS}
use Rattle.device_events.specs.Replies.{ReplyWithData}
use Rattle.device_events.specs.ToldEvents.{ToldEvent}
use Rattle.device_meaning.specs.Happenings.{happens}
use Rattle.device_meaning.specs.Judging.{interval_judge}
use Rattle.device_meaning.specs.State.{State}
use Rattle.device_meaning.specs.View.{Active}
use Rattle.kept_device.specs.Kept.{SavedProgram}
use Rattle.kept_device.specs.Sections.{place_in, slot_in}
use Rattle.runner.specs.Restored.{IsRestored}
use Rattle.runner.proofs.Proved.{one_is_restored}
use Rattle.durable_device.specs.FrameEvents.{frame_event}

-- ---- frames

-- the state after a frame; one that tells no event changes nothing
abbrev pub state_by : State → Bool → Option ToldEvent → State
state_by s starved None = s
state_by s starved (Some e) = (happens interval_judge s starved e).state

abbrev pub next_state : State → Bool → List ℕ → State
next_state s starved frame = state_by s starved (frame_event frame)

-- one event led from one state to the other, with this reply
pub record HasDone (e : ToldEvent) (old new : State) (reply : ReplyWithData) : Type 0 where
  pub starved : Bool
  pub state : new ≡ (happens interval_judge old starved e).state
  pub replied : reply ≡ (happens interval_judge old starved e).reply

-- ---- bases

-- the sections of slots spell these programs, and those of places these runs
abbrev pub SpellPrograms : List (List ℕ) → List (Option SavedProgram) → Type 0
SpellPrograms sections programs = map slot_in sections ≡ map Some programs

abbrev pub SpellRuns : List (List ℕ) → List (Option Active) → Type 0
SpellRuns sections runs = map place_in sections ≡ map Some runs

-- a base stands for a device: that which is restored of its image and of what its sections spell
pub record IsDeviceBase (base : List ℕ) (s : State) : Type 0 where
  pub told : Told
  pub image : IsBaseOf base told
  pub programs : List (Option SavedProgram)
  pub slots : SpellPrograms (take PROGRAM_SLOTS told.sections) programs
  pub runs : List (Option Active)
  pub places : SpellRuns (drop PROGRAM_SLOTS told.sections) runs
  pub restored : IsRestored told.namespace programs runs s

-- sections spell one thing
pub one_spelled : {X : Type 0} (xs ys : List X) → map Some xs ≡ map Some ys → xs ≡ ys
one_spelled [] [] same = cc
one_spelled [] (y ∷ ys) same = absurd cc
one_spelled (x ∷ xs) [] same = absurd cc
one_spelled (x ∷ xs) (y ∷ ys) same = let rest = one_spelled xs ys cc in cc

-- a file begins with one base, of one device
pub one_device : (a b x y : List ℕ) (s t : State) → IsDeviceBase a s → IsDeviceBase b t → a ++ x ≡ b ++ y → (a ≡ b) × (s ≡ t)
one_device a b x y s t is_a is_b is =
    let same = one_base a b x y is_a.told is_b.told is_a.image is_b.image is in
    let programs : is_a.programs ≡ is_b.programs =
    one_spelled is_a.programs is_b.programs (sym is_a.slots ∙ ap (λ (told : Told). map slot_in (take PROGRAM_SLOTS told.sections)) same.1 ∙ is_b.slots) in
    let runs : is_a.runs ≡ is_b.runs =
    one_spelled is_a.runs is_b.runs (sym is_a.places ∙ ap (λ (told : Told). map place_in (drop PROGRAM_SLOTS told.sections)) same.1 ∙ is_b.places) in
    let first : IsRestored is_b.told.namespace is_b.programs is_b.runs s =
    subst (λ (told : Told). IsRestored told.namespace is_b.programs is_b.runs s) same.1
    (subst (λ (l : List (Option Active)). IsRestored is_a.told.namespace is_b.programs l s) runs
    (subst (λ (l : List (Option SavedProgram)). IsRestored is_a.told.namespace l is_a.runs s) programs is_a.restored)) in
    (same.0, one_is_restored is_b.told.namespace is_b.programs is_b.runs s t first is_b.restored)
