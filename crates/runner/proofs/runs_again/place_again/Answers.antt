use Rattle.std.proofs.Common.{◌≡◌, true, ap, sym, ◌∙◌, inr}
use Rattle.zone_resources.specs.Holds.{is_destination}
use Rattle.zone_resources.specs.declared.holds.Holds.{Holds}
use Rattle.device_meaning.specs.Admission.{destination_zone}
use Rattle.device_meaning.specs.View.{Active}
use Rattle.kept_device.specs.Kept.{run_told}
use Rattle.runner.specs.steps.ActiveRuns.{held_by}
use Rattle.runner.proofs.KeptRunLists.{beside_one}
use Rattle.runner.proofs.runs_again.place_again.Goals as goal

pub returns-then-is_destination : goal.returns-then-is_destination
returns-then-is_destination g c =
    let ns = c.args.namespace.now in
    let a = run_told c.in-Some.kept in
    let z = c.in-Some-run_again.run'.destination in
    let again = c.in-Some-run_again.ensures in
    let is : z ≡ destination_zone ns a.command = again.running.fits.destination ∙ ap (λ (x : Active). destination_zone ns x.command) again.seen in
    let held : is_destination (held_by c.args.runs.now) z ≡ true =
    ap (λ (h : Holds). is_destination h z) (sym c.holds.ensures) ∙ sym c.is_destination.ensures ∙ c.if-is_destination.true in
    rw c.in-Some.is (inr (beside_one ns c.args.slots.now c.args.runs.now a z is held))
