-- A loop before a device, from its beginning.
use Rattle.std.proofs.Common.{◌≡◌, ◌≤◌, ◌<◌, ℕ, zero, suc, Bool, true, false, List, [], ◌∷◌, map, Option, Result, Ok, Err, refl, sym, ap, subst, ◌∙◌, arith}
use Rattle.std.specs.Prelude.{IfOk, replicate, slice_index_or}
use Rattle.stored_file.specs.Calls.{Call}
use Rattle.handed_file.specs.Handed.{is_settled, made_calls, noted, waiting, waits}
use Rattle.handed_file.specs.Handing as handing
use Rattle.handed_file.specs.Handing.{has_refused, settles}
use Rattle.handed_file.specs.declared.handed_file.FileCall.{FileCall}
use Rattle.handed_file.specs.declared.handed_file.HandedFile.{HandedFile}
use Rattle.tcp_target.specs.Places.{vacant}
use Rattle.tcp_device.specs.State.{ServedState}
use Rattle.tcp_loop.specs.Deeds.{Meaning}
use Rattle.tcp_loop.specs.Fair.{IsFair, Point}
use Rattle.tcp_loop.specs.Holding.{Holds}
use Rattle.tcp_loop.specs.Keeping.{Covers, Keeping, KeptState}
use Rattle.tcp_loop.specs.Kept.{Phase}
use Rattle.tcp_loop.specs.Law.{IsExplained}
use Rattle.tcp_loop.specs.Orderly.{IsOrderly}
use Rattle.tcp_loop.specs.Progress.{EndsRounds, most}
use Rattle.tcp_loop.specs.Running.{NeverOwesMore}
use Rattle.tcp_loop.specs.Trace.{Trace}
use Rattle.tcp_loop.specs.declared.clock.Clock.{Clock}
use Rattle.tcp_loop.specs.declared.hosts.Hosts.{Hosts}
use Rattle.tcp_device.specs.FileCalls.{keeping_of}
use Rattle.tcp_device.specs.Explained.{DeviceIsExplained, DevicesAreExplained, HasNoConnections, MemoriesAreExplained, MemoryIsExplained}
use Rattle.tcp_device.specs.LoopMeaning.{in_memory, kept_in_file}
use Rattle.tcp_device.specs.Orderly.{TargetsAreOrderly, is_there}

pub if_ok : {T E : Type 0} (r : Result T E) (P Q : T → Type 0) → IfOk r P → ((x : T) → P x → Q x) → IfOk r Q
if_ok (Ok x) P Q so leads = leads x so
if_ok (Err error) P Q so leads = tt

-- ---- a file of which each call was told as done

none_refused : (b : Bool) → handing.settles [] b ≡ true → b ≡ false
none_refused true is = absurd cc
none_refused false is = refl

parts : (calls : List FileCall) (refused : Bool) → settles calls refused ≡ true → (calls ≡ []) × (refused ≡ false)
parts [] refused is = (refl, none_refused refused is)
parts (call ∷ calls) refused is = absurd cc

pub settled_parts : (file : HandedFile) → is_settled file ≡ true → (waits file ≡ []) × (has_refused (noted file) ≡ false)
settled_parts file is =
    let p = parts (waiting file) (has_refused (noted file)) is in
    (ap (λ (calls : List FileCall). map handing.done_call calls) p.0, p.1)

-- ---- a loop that begins

module _ (phase : Phase) (now : KeptState ServedState) (waiting_bytes : List (List ℕ)) (clock : Clock) where
  -- where a crash leaves the device as it is, what holds of a loop holds of that of its device and its file
  pub begun_in_file : (target : KeptState ServedState) (served : ServedState) (file : HandedFile) → target.state ≡ served
      → target.file ≡ keeping_of file → Covers kept_in_file target.file.waits target.file.made target.state target.state
      → (Covers kept_in_file target.file.waits target.file.made target.state target.state
      → Holds kept_in_file target.file.made target.state [] phase now waiting_bytes clock)
      → Holds kept_in_file (made_calls file) served [] phase now waiting_bytes clock
  begun_in_file target served file state file_is covers so =
      subst (λ (s : ServedState). Holds kept_in_file (made_calls file) s [] phase now waiting_bytes clock) state
      (subst (λ (made : List Call). Holds kept_in_file made target.state [] phase now waiting_bytes clock)
      (ap (λ (k : Keeping). k.made) file_is) (so covers))

-- nothing was made yet
module _ (m : Meaning ServedState) (trace : Trace) (waiting_bytes : List (List ℕ)) where
  pub holds_from : (opened : List Call) (begun : ServedState) (phase : Phase) (now : KeptState ServedState) (clock : Clock) → trace ≡ []
      → Holds m opened begun [] phase now waiting_bytes clock → Holds m opened begun trace phase now waiting_bytes clock
  holds_from opened begun phase now clock none holds =
      subst (λ (t : Trace). Holds m opened begun t phase now waiting_bytes clock) (sym none) holds

  pub never_from : (free : ServedState → Option ℕ) (o : IsOrderly m free) (p : Point) (h : Hosts) (s : ServedState) → trace ≡ []
      → IsFair m free o p [] h waiting_bytes s → NeverOwesMore m free o p trace h waiting_bytes s
  never_from free o p h s none fair =
      subst (λ (t : Trace). NeverOwesMore m free o p t h waiting_bytes s) (sym none) (record { fair = fair; never = tt })

pub ends_from : (trace : Trace) (left : ℕ) → trace ≡ [] → left ≤ most → EndsRounds trace left
ends_from trace left none few = subst (λ (t : Trace). EndsRounds t left) (sym none) (record { few = omega (arith, few); never_more = tt })

-- ---- a target without connections

none_open : (n place : ℕ) → (slice_index_or (replicate n vacant) place vacant).is_open ≡ false
none_open zero place = refl
none_open (suc n) zero = refl
none_open (suc n) (suc place) = none_open n place

none_is_there : (s : ServedState) → HasNoConnections s → (place : ℕ) → is_there place s ≡ false
none_is_there s b place = ap (λ (x : ServedState). is_there place x) b.begun ∙ none_open 40 place

pub none_in_file : (o : TargetsAreOrderly) (s : ServedState) → HasNoConnections s → (place : ℕ) → place < 40 → o.of_file.is_there place s ≡ false
none_in_file o s b place low = ap (λ (f : ℕ → ServedState → Bool). f place s) o.file_there ∙ none_is_there s b place

pub none_in_memory : (o : TargetsAreOrderly) (s : ServedState) → HasNoConnections s → (place : ℕ) → place < 40
    → o.of_memory.is_there place s ≡ false
none_in_memory o s b place low = ap (λ (f : ℕ → ServedState → Bool). f place s) o.memory_there ∙ none_is_there s b place

-- ---- the law

pub device_explained : DevicesAreExplained → (s : ServedState) → HasNoConnections s → (opened : List Call) (trace : Trace)
    → IsExplained kept_in_file opened s trace → DeviceIsExplained opened s trace
device_explained law s b opened trace is =
    subst (λ (x : ServedState). DeviceIsExplained opened x trace) (sym b.begun)
    (law s.device b.subsystem b.format opened trace (subst (λ (x : ServedState). IsExplained kept_in_file opened x trace) b.begun is))

pub memory_explained : MemoriesAreExplained → (s : ServedState) → HasNoConnections s → (opened : List Call) (trace : Trace)
    → IsExplained in_memory opened s trace → MemoryIsExplained opened s trace
memory_explained law s b opened trace is =
    subst (λ (x : ServedState). MemoryIsExplained opened x trace) (sym b.begun)
    (law s.device b.subsystem b.format opened trace (subst (λ (x : ServedState). IsExplained in_memory opened x trace) b.begun is))
