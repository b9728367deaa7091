-- The filter of a state lists the zones of that state, and no others.
use Rattle.std.proofs.Common.{◌≡◌, true, refl, ap, ◌∙◌}
use Rattle.std.specs.Prelude.{◌↔◌}
use Rattle.zone_state.specs.declared.state.ZoneState.{ZoneState}
use Rattle.zone_state.specs.declared.state.ZoneState.TheVariants.{Empty, ImplicitlyOpened, ExplicitlyOpened, Closed, ReadOnly, Full, Offline}
use Rattle.nvme_entry.specs.Filter.{filter_for, lists}

lists_own : (state : ZoneState) → lists (filter_for state) state ≡ true
lists_own Empty = refl
lists_own ImplicitlyOpened = refl
lists_own ExplicitlyOpened = refl
lists_own Closed = refl
lists_own ReadOnly = refl
lists_own Full = refl
lists_own Offline = refl

lists_no_other : (state other : ZoneState) → lists (filter_for state) other ≡ true → other ≡ state
lists_no_other Empty Empty e = refl
lists_no_other ImplicitlyOpened ImplicitlyOpened e = refl
lists_no_other ExplicitlyOpened ExplicitlyOpened e = refl
lists_no_other Closed Closed e = refl
lists_no_other ReadOnly ReadOnly e = refl
lists_no_other Full Full e = refl
lists_no_other Offline Offline e = refl
lists_no_other state other e = absurd cc

pub lists_alone : (state other : ZoneState) → (lists (filter_for state) other ≡ true) ↔ (other ≡ state)
lists_alone state other = (lists_no_other state other, λ (is : other ≡ state). ap (lists (filter_for state)) is ∙ lists_own state)
