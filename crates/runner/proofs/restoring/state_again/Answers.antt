use Rattle.std.proofs.Common.{◌≡◌, ℕ, map, subst, ap, ◌∙◌, arith}
use Rattle.zone_resources.specs.declared.holds.TheConstants.{RUNS}
use Rattle.nvme_entry.specs.declared.program_slot.TheConstants.{PROGRAM_SLOTS}
use Rattle.image_store.specs.Geometry.{Shape}
use Rattle.image_store.specs.Namespace.{ZonedNamespace}
use Rattle.device_meaning.specs.Judging.{judge_by}
use Rattle.kept_device.specs.Kept.{place_told, slot_told}
use Rattle.runner.specs.DeviceState.{device_state}
use Rattle.runner.specs.Restored.{IsRestoredBy, TellNoneBy}
use Rattle.runner.specs.steps.LoadingAgain.{AreAgain, AreNotAgain}
use Rattle.runner.specs.steps.RunsAgain.{AreGoing, AreStuck}
use Rattle.runner.proofs.DevicesAgain.{all_of_bytes, ready_again, refused_tells_none, restored_there, stuck_tells_none}
use Rattle.runner.proofs.restoring.state_again.Goals as goal

pub returns-in_default-clause-restored : goal.returns-in_default-clause-restored
returns-in_default-clause-restored g c =
    let ns = c.new-namespace.result in
    let programs = c.args.programs.now in
    let block : c.block-block.result ≡ ns.block = c.block-block.ensures.value ∙ ap (λ (s : Shape). s.block) c.geometry.ensures.value in
    let refused : AreNotAgain (judge_by g.D.Domain.operations) ns.block programs = subst (λ (b : ℕ). AreNotAgain (judge_by g.D.Domain.operations) b programs) block (rw c.in_default.is at c.in_ok-slots.ensures) in
    subst (λ (m : ZonedNamespace). TellNoneBy (judge_by g.D.Domain.operations) m (map slot_told programs) (map place_told c.args.runs.now)) c.new-namespace.ensures
    (refused_tells_none (judge_by g.D.Domain.operations) ns programs (map place_told c.args.runs.now) refused)

pub runs_again-requires : goal.runs_again-requires
runs_again-requires g c =
    let ns = c.new-namespace.result in
    let programs = c.args.programs.now in
    let block : c.block-block.result ≡ ns.block = c.block-block.ensures.value ∙ ap (λ (s : Shape). s.block) c.geometry.ensures.value in
    let are : AreAgain ns.block programs c.in-Some.slots PROGRAM_SLOTS =
    subst (λ (b : ℕ). AreAgain b programs c.in-Some.slots PROGRAM_SLOTS) block (rw c.in-Some.is at c.in_ok-slots.ensures) in
    (omega arith, (c.requires.runs, are.sizes))

pub returns-in_default-runs_again-clause-restored : goal.returns-in_default-runs_again-clause-restored
returns-in_default-runs_again-clause-restored g c =
    let ns = c.new-namespace.result in
    let programs = c.args.programs.now in
    let block : c.block-block.result ≡ ns.block = c.block-block.ensures.value ∙ ap (λ (s : Shape). s.block) c.geometry.ensures.value in
    let are : AreAgain ns.block programs c.in-Some.slots PROGRAM_SLOTS =
    subst (λ (b : ℕ). AreAgain b programs c.in-Some.slots PROGRAM_SLOTS) block (rw c.in-Some.is at c.in_ok-slots.ensures) in
    let stuck : AreStuck ns c.in-Some.slots c.args.runs.now = c.in_default-runs_again.ensures in
    subst (λ (m : ZonedNamespace). TellNoneBy (judge_by g.D.Domain.operations) m (map slot_told programs) (map place_told c.args.runs.now)) c.new-namespace.ensures
    (stuck_tells_none ns programs c.in-Some.slots are c.args.runs.now c.requires.runs stuck)

pub invariant_of-result : goal.invariant_of-result
invariant_of-result g c =
    let ns = c.new-namespace.result in
    let programs = c.args.programs.now in
    let block : c.block-block.result ≡ ns.block = c.block-block.ensures.value ∙ ap (λ (s : Shape). s.block) c.geometry.ensures.value in
    let are : AreAgain ns.block programs c.in-Some.slots PROGRAM_SLOTS =
    subst (λ (b : ℕ). AreAgain b programs c.in-Some.slots PROGRAM_SLOTS) block (rw c.in-Some.is at c.in_ok-slots.ensures) in
    let going : AreGoing ns c.in-Some.slots c.args.runs.now c.in-Some-runs_again.runs RUNS = c.in-Some-runs_again.ensures in
    ready_again ns programs c.in-Some.slots are c.args.runs.now c.requires.runs c.requires.programs c.in-Some-runs_again.runs going

pub returns-clause-restored : goal.returns-clause-restored
returns-clause-restored g c =
    let ns = c.new-namespace.result in
    let programs = c.args.programs.now in
    let block : c.block-block.result ≡ ns.block = c.block-block.ensures.value ∙ ap (λ (s : Shape). s.block) c.geometry.ensures.value in
    let are : AreAgain ns.block programs c.in-Some.slots PROGRAM_SLOTS =
    subst (λ (b : ℕ). AreAgain b programs c.in-Some.slots PROGRAM_SLOTS) block (rw c.in-Some.is at c.in_ok-slots.ensures) in
    let going : AreGoing ns c.in-Some.slots c.args.runs.now c.in-Some-runs_again.runs RUNS = c.in-Some-runs_again.ensures in
    subst (λ (m : ZonedNamespace). IsRestoredBy (judge_by g.D.Domain.operations) m (map slot_told programs) (map place_told c.args.runs.now) (device_state ns c.in-Some.slots c.in-Some-runs_again.runs))
    c.new-namespace.ensures (restored_there ns programs c.in-Some.slots are c.args.runs.now c.requires.runs c.requires.programs c.in-Some-runs_again.runs going)

pub returns-clause-bytes : goal.returns-clause-bytes
returns-clause-bytes g c =
    let ns = c.new-namespace.result in
    let programs = c.args.programs.now in
    let block : c.block-block.result ≡ ns.block = c.block-block.ensures.value ∙ ap (λ (s : Shape). s.block) c.geometry.ensures.value in
    let are : AreAgain ns.block programs c.in-Some.slots PROGRAM_SLOTS =
    subst (λ (b : ℕ). AreAgain b programs c.in-Some.slots PROGRAM_SLOTS) block (rw c.in-Some.is at c.in_ok-slots.ensures) in
    all_of_bytes ns programs c.in-Some.slots are
