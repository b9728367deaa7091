-- Two turns of different runs come to the same in either order.
use Rattle.std.proofs.Common.{◌≡◌, ◌≢◌, ℕ, false, List, [], ◌∷◌, set, get_or, Option, Some, None, refl, ap, sym, subst, ◌∙◌, inl, inr, get_or-set_other}
use Rattle.std.specs.Prelude.{is_some}
use Rattle.std.proofs.lemmas.Bool.Decides.{eqb_tells}
use Rattle.std.proofs.lemmas.List.{set_comm, set-get_or}
use Rattle.image_store.specs.Namespace.{ZoneWithBlocks, ZonedNamespace, grown, no_zone}
use Rattle.device_meaning.specs.Admission.{Loaded, SameProgram}
use Rattle.device_meaning.specs.Draining.{state_after_turns}
use Rattle.device_meaning.specs.Happenings.{added, keeping, place_left, slots_left, take_turn, turn_state, turned, turned_at}
use Rattle.device_meaning.specs.Outcome.{Ending, Turn}
use Rattle.device_meaning.specs.State.{Place, State, loaded_at, place_at}
use Rattle.device_meaning.proofs.Proved.{after_turn, left_program, same_program, AreApart, turned_apart, turned_older}
use Rattle.pushdown.proofs.OthersEvents.{turned_leaves}

-- ---- two elements of a list are changed

changed_both : {X : Type 0} (xs : List X) (i j : ℕ) (f g : X → X) (d : X) → i ≢ j
    → set (set xs i (f (get_or xs i d))) j (g (get_or (set xs i (f (get_or xs i d))) j d))
    ≡ set (set xs j (g (get_or xs j d))) i (f (get_or (set xs j (g (get_or xs j d))) i d))
changed_both xs i j f g d differs =
    let one = f (get_or xs i d) in
    let other = g (get_or xs j d) in
    ap (λ x. set (set xs i one) j (g x)) (get_or-set_other xs i j one d (λ same. differs (sym same)))
    ∙ set_comm xs i j one other differs
    ∙ ap (λ x. set (set xs j other) i (f x)) (sym (get_or-set_other xs j i other d differs))

-- blocks for two zones
added_both : (ns : ZonedNamespace) (a b : ℕ) (first second : List (List ℕ)) → a ≢ b
    → added (added ns a first) b second ≡ added (added ns b second) a first
added_both ns a b [] second differs = refl
added_both ns a b (x ∷ xs) [] differs = refl
added_both ns a b (x ∷ xs) (y ∷ ys) differs =
    ap (λ (zones : List ZoneWithBlocks). record ns { zones = zones })
    (changed_both ns.zones a b (λ zone. grown ns.capacity zone (x ∷ xs)) (λ zone. grown ns.capacity zone (y ∷ ys)) no_zone differs)

-- ---- results for two slots, of which both are one only where it has no program

abbrev pub kept : List (Option Loaded) → ℕ → Option (List ℕ) → List (Option Loaded)
kept slots slot bytes = set slots slot (keeping (get_or slots slot None) bytes)

abbrev pub Empty : List (Option Loaded) → ℕ → Type 0
Empty slots slot = is_some (get_or slots slot None) ≡ false

nothing : (loaded : Option Loaded) (bytes : Option (List ℕ)) → is_some loaded ≡ false → keeping loaded bytes ≡ loaded
nothing None bytes none = refl
nothing (Some loaded) bytes none = cc

nothing_kept : (slots : List (Option Loaded)) (slot : ℕ) (bytes : Option (List ℕ)) → Empty slots slot → kept slots slot bytes ≡ slots
nothing_kept slots slot bytes none = ap (set slots slot) (nothing (get_or slots slot None) bytes none) ∙ set-get_or slots slot None

kept_both : (slots : List (Option Loaded)) (i j : ℕ) (x y : Option (List ℕ)) → (i ≡ j → Empty slots i)
    → kept (kept slots i x) j y ≡ kept (kept slots j y) i x
kept_both slots i j x y empty = elim (eqb_tells i j) [
  | inl same ↦
      let at_i = empty same.1 in
      let at_j = subst (Empty slots) same.1 at_i in
      ap (λ (s : List (Option Loaded)). kept s j y) (nothing_kept slots i x at_i)
      ∙ nothing_kept slots j y at_j
      ∙ sym (nothing_kept slots i x at_i)
      ∙ ap (λ (s : List (Option Loaded)). kept s i x) (sym (nothing_kept slots j y at_j))
  | inr other ↦ changed_both slots i j (λ loaded. keeping loaded x) (λ loaded. keeping loaded y) None other.1
]

abbrev slots_by : List (Option Loaded) → Place → Option Ending → List (Option Loaded)
slots_by slots place None = slots
slots_by slots place (Some ending) = kept slots place.slot ending.result

slots_are : (s : State) (place : Place) (ending : Option Ending) → slots_left s place ending ≡ slots_by s.slots place ending
slots_are s place None = refl
slots_are s place (Some ending) = refl

slots_both : (slots : List (Option Loaded)) (p q : Place) (x y : Option Ending) → (p.slot ≡ q.slot → Empty slots p.slot)
    → slots_by (slots_by slots p x) q y ≡ slots_by (slots_by slots q y) p x
slots_both slots p q None y empty = refl
slots_both slots p q (Some x) None empty = refl
slots_both slots p q (Some x) (Some y) empty = kept_both slots p.slot q.slot x.result y.result empty

-- ---- two turns

same_state : (s t : State) → s.namespace ≡ t.namespace → s.slots ≡ t.slots → s.places ≡ t.places → s ≡ t
same_state s t same_namespace same_slots same_places =
    let made : ZonedNamespace → List (Option Loaded) → List (Option Place) → State =
    λ ns slots places. record { namespace = ns; slots = slots; places = places } in
    ap (λ (ns : ZonedNamespace). made ns s.slots s.places) same_namespace
    ∙ ap (λ (slots : List (Option Loaded)). made t.namespace slots s.places) same_slots
    ∙ ap (made t.namespace t.slots) same_places

-- two runs that are apart
record AreTwo (s : State) (p q : Place) : Type 0 where
  zones : p.destination ≢ q.destination
  slots : p.slot ≡ q.slot → Empty s.slots p.slot

both_taken : (s : State) (a b : ℕ) (p q : Place) (ps qs : List Turn) → a ≢ b → AreTwo s p q
    → (take_turn (take_turn s a p ps).state b q qs).state ≡ (take_turn (take_turn s b q qs).state a p ps).state
both_taken s a b p q [] qs differs two = refl
both_taken s a b p q (turn ∷ later) [] differs two = refl
both_taken s a b p q (turn ∷ later) (other ∷ more) differs two =
    let first = turn_state s a p turn later in
    let second = turn_state s b q other more in
    same_state (turn_state first b q other more) (turn_state second a p turn later)
    (added_both s.namespace p.destination q.destination turn.blocks other.blocks two.zones)
    (slots_are first q other.ending
    ∙ ap (λ (slots : List (Option Loaded)). slots_by slots q other.ending) (slots_are s p turn.ending)
    ∙ slots_both s.slots p q turn.ending other.ending two.slots
    ∙ ap (λ (slots : List (Option Loaded)). slots_by slots p turn.ending) (sym (slots_are s q other.ending))
    ∙ sym (slots_are second p turn.ending))
    (set_comm s.places a b (place_left p later turn.ending) (place_left q more other.ending) differs)

both_turned : (s : State) (a b : ℕ) (p q : Option Place) → a ≢ b → ((x y : Place) → p ≡ Some x → q ≡ Some y → AreTwo s x y)
    → (turned_at (turned_at s a p).state b q).state ≡ (turned_at (turned_at s b q).state a p).state
both_turned s a b None q differs two = refl
both_turned s a b (Some x) None differs two = refl
both_turned s a b (Some x) (Some y) differs two = both_taken s a b x y x.turns y.turns differs (two x y refl refl)

-- a reply is the run's alone
taken_reply : (s t : State) (run : ℕ) (place : Place) (turns : List Turn) → (take_turn s run place turns).reply ≡ (take_turn t run place turns).reply
taken_reply s t run place [] = refl
taken_reply s t run place (turn ∷ later) = refl

turned_reply : (s t : State) (run : ℕ) (at : Option Place) → (turned_at s run at).reply ≡ (turned_at t run at).reply
turned_reply s t run None = refl
turned_reply s t run (Some place) = taken_reply s t run place place.turns

pub reply_after : (s : State) (a b : ℕ) → b ≢ a → (turned (turned s a).state b).reply ≡ (turned s b).reply
reply_after s a b differs =
    let t = (turned s a).state in
    ap (λ (at : Option Place). (turned_at t b at).reply) (turned_leaves s a b differs) ∙ turned_reply t s b (place_at s b)

-- runs of destinations of their own, which share no slot that has a program
pub record OwnAll (s : State) : Type 0 where
  pub apart : AreApart s.places
  pub slots : (j k : ℕ) (p q : Place) → place_at s j ≡ Some p → place_at s k ≡ Some q → j ≢ k → p.slot ≡ q.slot → Empty s.slots p.slot

pub state_of_both : (s : State) (a b : ℕ) → OwnAll s → a ≢ b → (turned (turned s a).state b).state ≡ (turned (turned s b).state a).state
state_of_both s a b own differs =
    let p = place_at s a in
    let q = place_at s b in
    ap (λ (at : Option Place). (turned_at (turned s a).state b at).state) (turned_leaves s a b (λ same. differs (sym same)))
    ∙ both_turned s a b p q differs (λ x y at_a at_b. record {
      zones = λ same. differs (own.apart.apart a b x y at_a at_b same);
      slots = own.slots a b x y at_a at_b differs;
    })
    ∙ ap (λ (at : Option Place). (turned_at (turned s b).state a at).state) (sym (turned_leaves s b a differs))

-- ---- turns leave each slot its program

turn_keeps : (s : State) (run : ℕ) (slot : ℕ) → SameProgram (loaded_at s slot) (loaded_at (turned s run).state slot)
turn_keeps s run slot =
    after_turn (λ (t : State). SameProgram (loaded_at s slot) (loaded_at t slot)) s run (same_program (loaded_at s slot))
    (λ place turn later at is. left_program s place turn.ending slot)

pub turns_keep : (runs : List ℕ) (s : State) (slot : ℕ) → SameProgram (loaded_at s slot) (loaded_at (state_after_turns runs s) slot)
turns_keep [] s slot = same_program (loaded_at s slot)
turns_keep (run ∷ runs) s slot =
    let first = turn_keeps s run slot in
    let later = turns_keep runs (turned s run).state slot in
    record { loaded = later.loaded ∙ first.loaded; program = later.program ∙ first.program; limit = later.limit ∙ first.limit }

pub stays_own : (s : State) (run : ℕ) → OwnAll s → OwnAll (turned s run).state
stays_own s run own =
    let t = (turned s run).state in
    let older = turned_older s run in
    record {
      apart = turned_apart s run own.apart;
      slots = λ j k p q at_j at_k differs same.
          let old_j = older.was j p at_j in
          let old_k = older.was k q at_k in
          let before = own.slots j k old_j.0 old_k.0 old_j.1 old_k.1 differs (old_j.3 ∙ same ∙ sym old_k.3) in
          (turn_keeps s run p.slot).loaded ∙ subst (Empty s.slots) old_j.3 before;
    }
