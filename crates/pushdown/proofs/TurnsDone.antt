-- A run does its turns, whatever comes between.
use Rattle.std.proofs.Common.{◌≡◌, ◌≢◌, ℕ, zero, suc, ◌+◌, ◌<◌, Bool, true, false, List, [], ◌∷◌, ◌++◌, length, get_or, take, drop, Option, Some, None, refl, ap, sym, subst, ◌∙◌, arith, append_assoc, get_or-set_other}
use Rattle.std.proofs.lemmas.Bool.{eqb-true}
use Rattle.std.proofs.lemmas.List.{append-nil, drop_more}
use Rattle.std.proofs.lemmas.List.Sums.{sum_by-cons}
use Rattle.zone_state.specs.declared.state.ZoneState.TheVariants.{Offline}
use Rattle.zone_resources.specs.Holds.{is_destination}
use Rattle.zone_resources.specs.declared.holds.Holds.{Holds}
use Rattle.device_meaning.specs.Judging.{Judge}
use Rattle.image_store.specs.Namespace.{ZoneWithBlocks, ZonedNamespace, zone_at}
use Rattle.zns_commands.proofs.Proved.{held_destinations_are_left}
use Rattle.device_meaning.specs.Admission.{SameProgram}
use Rattle.device_meaning.specs.EventReplies.{Happening}
use Rattle.device_meaning.specs.Events.{Occurrence, state_after}
use Rattle.device_meaning.specs.Happenings.{added, happens, keeping, slots_left, take_turn, turn_reply, turn_state, turned}
use Rattle.device_meaning.specs.Outcome.{EndsWithLast, Ending, Turn, appended_by}
use Rattle.zone_resources.specs.Counts.{one_if}
use Rattle.pushdown.specs.Pushdown.{blocks_at, is_turn_of, no_turn, own_turns}
use Rattle.device_meaning.specs.State.{Place, State, loaded_at, place_at}
use Rattle.device_events.specs.ToldEvents.{ToldEvent}
use Rattle.device_events.specs.ToldEvents as told
use Rattle.device_meaning.proofs.Proved.{added_leaves, is_added, after_event, left_program, AreApart, event_apart, held_at, turned_is}
use Rattle.pushdown.proofs.OthersEvents.{foreign_event, not_own, turn_takes_first, turned_leaves}

-- ---- a foreign event leaves the destination

foreign_zone : (judge : Judge) (s : State) (starved : Bool) (e : ToldEvent) (run : ℕ) (place : Place) → is_turn_of run e ≡ false
    → AreApart s.places → place_at s run ≡ Some place
    → zone_at (happens judge s starved e).state.namespace place.destination ≡ zone_at s.namespace place.destination
foreign_zone judge s starved e run place foreign h at =
    let d = place.destination in
    after_event judge (λ (t : State). zone_at t.namespace d ≡ zone_at s.namespace d) s starved e (record {
      same = refl;
      step = λ step same is.
          held_destinations_are_left step s.namespace d (subst (λ (holds : Holds). is_destination holds d ≡ true) (sym same) (held_at s.places run place at));
      load = λ sub load t are takes. refl;
      start = λ sub command first passed free some. refl;
      turn = λ other p turn later is there first.
          added_leaves s.namespace p.destination d turn.blocks (λ same. not_own run other e is foreign (h.apart run other place p at there same));
    })

-- ---- a run through events

-- a run with these turns left
abbrev pub with_turns : Place → List Turn → Place
with_turns place turns = record place { turns = turns }

-- what holds of a run after so many of its turns
pub record Stands (s now : State) (run : ℕ) (place : Place) (turns : List Turn) (k : ℕ) : Type 0 where
  pub left : place_at now run ≡ Some (with_turns place (drop k turns))
  pub appended : blocks_at now place.destination ≡ blocks_at s place.destination ++ appended_by (take k turns)
  pub apart : AreApart now.places
  pub on : (zone_at now.namespace place.destination).state ≢ Offline

module _ (judge : Judge) where
  own_event : (s : State) (starved : Bool) (e : ToldEvent) (run : ℕ) → is_turn_of run e ≡ true → happens judge s starved e ≡ turned s run
  own_event s starved (told.Submitted queue entry input) run mine = cc
  own_event s starved (told.Turned other) run mine = ap (turned s) (eqb-true other run mine)
  own_event s starved (told.Faulted zone state) run mine = cc

  module _ (run : ℕ) (place : Place) where
    -- what is known of a run before events
    pub record Ready (s : State) (turns : List Turn) : Type 0 where
      pub apart : AreApart s.places
      pub at : place_at s run ≡ Some (with_turns place turns)
      pub on : (zone_at s.namespace place.destination).state ≢ Offline
      pub goes : EndsWithLast turns

    abbrev Stand : List Occurrence → Type 0
    Stand events = (k : ℕ) (s : State) (turns : List Turn) → Ready s turns → own_turns run events ≡ k → k < length turns
        → Stands s (state_after judge events s) run place turns k

    abbrev Step : Occurrence → List Occurrence → Bool → Type 0
    Step o os mine = (k : ℕ) (s : State) (turns : List Turn) → is_turn_of run o.event ≡ mine → Ready s turns
        → one_if mine + own_turns run os ≡ k → k < length turns
        → Stands s (state_after judge (o ∷ os) s) run place turns k

    foreign_step : (o : Occurrence) (os : List Occurrence) → Stand os → Step o os false
    foreign_step o os rest k s turns mine ready own less =
        let then = (happens judge s o.starved o.event).state in
        let here = with_turns place turns in
        let zone = foreign_zone judge s o.starved o.event run here mine ready.apart ready.at in
        let later = rest k then turns
        (record {
          apart = event_apart judge s o.starved o.event ready.apart;
          at = foreign_event judge s o.starved o.event run here mine ready.at;
          on = subst (λ (z : ZoneWithBlocks). z.state ≢ Offline) (sym zone) ready.on;
          goes = ready.goes;
        }) (omega (arith, own)) less in
        record {
          left = later.left;
          appended = later.appended ∙ ap (λ (z : ZoneWithBlocks). z.blocks ++ appended_by (take k turns)) zone;
          apart = later.apart;
          on = later.on;
        }

    own_step : (o : Occurrence) (os : List Occurrence) → Stand os → Step o os true
    own_step o os rest zero s turns mine ready own less = absurd (omega (arith, own))
    own_step o os rest (suc m) s [] mine ready own less = absurd (omega (arith, less))
    own_step o os rest (suc m) s (turn ∷ []) mine ready own less = absurd (omega (arith, less))
    own_step o os rest (suc m) s (turn ∷ next ∷ turns) mine ready own less =
        let d = place.destination in
        let here = with_turns place (turn ∷ next ∷ turns) in
        let is = own_event s o.starved o.event run mine in
        let then = (happens judge s o.starved o.event).state in
        let took = ap (λ (h : Happening). h.state.namespace) (is ∙ turned_is s run here turn (next ∷ turns) ready.at refl) in
        let new = is_added s.namespace d turn.blocks ready.on in
        let blocks : blocks_at then d ≡ blocks_at s d ++ turn.blocks = ap (λ (ns : ZonedNamespace). (zone_at ns d).blocks) took ∙ new.blocks_is in
        let all = appended_by (take m (next ∷ turns)) in
        let later = rest m then (next ∷ turns)
        (record {
          apart = event_apart judge s o.starved o.event ready.apart;
          at = ap (λ (h : Happening). place_at h.state run) is
              ∙ (turn_takes_first s run here turn (next ∷ turns) ready.at refl).later_left ready.goes.0;
          on = subst (λ (ns : ZonedNamespace). (zone_at ns d).state ≢ Offline) (sym took) new.on;
          goes = ready.goes.1;
        }) (omega (arith, own)) (omega (arith, less)) in
        record {
          left = later.left;
          appended = later.appended ∙ ap (λ (xs : List (List ℕ)). xs ++ all) blocks ∙ append_assoc (blocks_at s d) turn.blocks all;
          apart = later.apart;
          on = later.on;
        }

    either_step : (o : Occurrence) (os : List Occurrence) → Stand os → (mine : Bool) → Step o os mine
    either_step o os rest true = own_step o os rest
    either_step o os rest false = foreign_step o os rest

    pub stand : (events : List Occurrence) → Stand events
    stand [] zero s turns ready own less =
        record { left = ready.at; appended = sym (append-nil (blocks_at s place.destination)); apart = ready.apart; on = ready.on }
    stand [] (suc m) s turns ready own less = cc
    stand (o ∷ os) k s turns ready own less = either_step o os (stand os) (is_turn_of run o.event) k s turns refl ready (sym (sum_by-cons _ o os) ∙ own) less

-- ---- the next turn

pub take_next : (turns : List Turn) (k : ℕ) → k < length turns
    → appended_by (take k turns) ++ (get_or turns k no_turn).blocks ≡ appended_by (take (k + 1) turns)
take_next [] k less = absurd (omega (arith, less))
take_next (turn ∷ turns) zero less = sym (append-nil turn.blocks)
take_next (turn ∷ turns) (suc k) less =
    let more : suc k + 1 ≡ suc (k + 1) = omega arith in
    append_assoc turn.blocks (appended_by (take k turns)) (get_or turns k no_turn).blocks
    ∙ ap (λ (xs : List (List ℕ)). turn.blocks ++ xs) (take_next turns k (omega (arith, less)))
    ∙ ap (λ (n : ℕ). appended_by (take n (turn ∷ turns))) (sym more)

-- ---- the slot of a run's program

pub left_other : (s : State) (place : Place) (ending : Option Ending) (slot : ℕ) → slot ≢ place.slot → get_or (slots_left s place ending) slot None ≡ loaded_at s slot
left_other s place None slot differs = refl
left_other s place (Some ending) slot differs =
    get_or-set_other s.slots place.slot slot (keeping (loaded_at s place.slot) ending.result) None differs

-- ---- the turns that a place had don't matter for what its next turn does

same_turn : (s : State) (run : ℕ) (place : Place) (turns later : List Turn) (blocks : List (List ℕ)) (ending : Option Ending)
    → let turn : Turn = record { blocks = blocks; ending = ending } in
    take_turn s run (with_turns place turns) (turn ∷ later)
    ≡ record { reply = turn_reply run place ending; state = turn_state s run place turn later }
same_turn s run place turns later blocks None = refl
same_turn s run place turns later blocks (Some ending) = refl

-- ---- what the next turn does

pub record Next (now : State) (run : ℕ) (place : Place) (turns : List Turn) (k : ℕ) : Type 0 where
  pub does : turned now run ≡ record {
    reply = turn_reply run place (get_or turns k no_turn).ending;
    state = turn_state now run place (get_or turns k no_turn) (drop (k + 1) turns);
  }
  pub namespace : (turned now run).state.namespace ≡ added now.namespace place.destination (get_or turns k no_turn).blocks
  pub at_its_end : blocks_at (turned now run).state place.destination ≡ blocks_at now place.destination ++ (get_or turns k no_turn).blocks
  pub other_runs : (other : ℕ) → other ≢ run → place_at (turned now run).state other ≡ place_at now other
  pub other_slots : (slot : ℕ) → slot ≢ place.slot → loaded_at (turned now run).state slot ≡ loaded_at now slot
  pub program_left : SameProgram (loaded_at now place.slot) (loaded_at (turned now run).state place.slot)

pub next_is : (s now : State) (run : ℕ) (place : Place) (turns : List Turn) (k : ℕ) → Stands s now run place turns k → k < length turns
    → Next now run place turns k
next_is s now run place turns k stands less =
    let d = place.destination in
    let turn = get_or turns k no_turn in
    let later = drop (k + 1) turns in
    let here = with_turns place (drop k turns) in
    let took = turned_is now run here turn later stands.left (drop_more turns k no_turn less) in
    let same = ap (λ (h : Happening). h.state.namespace) took in
    record {
      does = took ∙ same_turn now run place (drop k turns) later turn.blocks turn.ending;
      namespace = same;
      at_its_end = ap (λ (ns : ZonedNamespace). (zone_at ns d).blocks) same ∙ (is_added now.namespace d turn.blocks stands.on).blocks_is;
      other_runs = turned_leaves now run;
      other_slots = λ slot differs. ap (λ (h : Happening). loaded_at h.state slot) took ∙ left_other now here turn.ending slot differs;
      program_left = subst (λ (h : Happening). SameProgram (loaded_at now place.slot) (loaded_at h.state place.slot)) (sym took)
          (left_program now here turn.ending place.slot);
    }
