-- Going over zones from the first on.
use Rattle.zone_state.specs.declared.action.Action.{Action}
use Rattle.zone_state.specs.declared.action.Action.TheVariants as action
use Rattle.zone_state.specs.declared.state.ZoneState.TheVariants.{Offline}
use Rattle.image_store.specs.Namespace.{ZoneWithBlocks, ZonedNamespace, no_zone, zone_at, with_zone, arrived}
use Rattle.zns_commands.specs.Send.{led_to, swept, takes}
use Rattle.std.proofs.Common.{◌≡◌, ℕ, zero, suc, ◌+◌, ◌<◌, false, List, [], ◌∷◌, ◌++◌, append-nil, length, get_or, take, drop, map, refl, ap, sym, ◌∙◌, arith, length-append, length-take, length-drop}
use Rattle.std.proofs.lemmas.Bool.{cond-false}
use Rattle.std.proofs.lemmas.List.{drop_all, get_or_default, length-map, take_all}
use Rattle.std.proofs.lemmas.List.Edits.{map_over_more}

-- the list with f applied to its first elements
abbrev pub mapped : {X : Type 0} → (X → X) → ℕ → List X → List X
mapped f n xs = map f (take n xs) ++ drop n xs

length-mapped : {X : Type 0} (f : X → X) (n : ℕ) (xs : List X) → length (mapped f n xs) ≡ length xs
length-mapped f n xs =
    omega (arith, length-append (map f (take n xs)) (drop n xs), length-map (take n xs) f, length-take n xs, length-drop n xs)

-- with f applied to all, the list is mapped
pub mapped-all : {X : Type 0} (f : X → X) (n : ℕ) (xs : List X) → length xs ≡ n → mapped f n xs ≡ map f xs
mapped-all f n xs h =
    ap (λ (ys : List _). map f ys ++ drop n xs) (take_all n xs (omega (arith, h)))
    ∙ ap (λ (ys : List _). map f xs ++ ys) (drop_all n xs (omega (arith, h)))
    ∙ append-nil (map f xs)

-- the namespace once Select All has gone over its first zones
abbrev pub swept_below : ZonedNamespace → Action → ℕ → ZonedNamespace
swept_below ns action n = record ns { zones = mapped (swept action) n ns.zones }

-- one more zone is swept
pub sweep_step : (ns : ZonedNamespace) (action : Action) (z : ℕ) → z < length ns.zones
    → with_zone (swept_below ns action z) z (swept action (zone_at (swept_below ns action z) z)) ≡ swept_below ns action (z + 1)
sweep_step ns action z inside =
    let f = swept action in
    let zones = mapped f z ns.zones in
    let zone = get_or zones z no_zone in
    let there : z < length zones = omega (arith, inside, length-mapped f z ns.zones) in
    ap (λ (done : List ZoneWithBlocks). let m : ZonedNamespace = record ns { zones = done } in m)
    (map_over_more f ns.zones zones z zone inside refl (get_or_default zones z no_zone zone there))

-- Select All takes no Offline zone
pub none_offline : (a : Action) → takes a Offline ≡ false
none_offline action.Close = refl
none_offline action.Finish = refl
none_offline action.Open = refl
none_offline action.Reset = refl
none_offline action.Offline = refl

-- each zone is swept, and where there is none there is none afterwards
pub swept_at : (a : Action) (zones : List ZoneWithBlocks) (z : ℕ) → get_or (map (swept a) zones) z no_zone ≡ swept a (get_or zones z no_zone)
swept_at a [] z = sym (cond-false (takes a Offline) (arrived (led_to a Offline) no_zone) no_zone (none_offline a))
swept_at a (x ∷ xs) zero = refl
swept_at a (x ∷ xs) (suc z) = swept_at a xs z
