use Rattle.std.proofs.Common.{◌≡◌, ℕ, [], Option, Some, None, Result, Ok, Err, ap, ◌∙◌}
use Rattle.std.specs.Prelude.{OnOk, OnErr}
use Rattle.zone_state.specs.declared.status.Status.{Status}
use Rattle.common_definitions.specs.Checks.{first_failed, unless_failed}
use Rattle.image_store.specs.Namespace.{ZonedNamespace}
use Rattle.zns_commands.specs.Answer.{answer_without_data}
use Rattle.zns_commands.specs.Effect.{Tells, concluded, refused_effect, success_effect}
use Rattle.zns_commands.specs.Send.{send_checks, send_effect}
use Rattle.zns_commands.proofs.send.send.Goals as goal

-- the answer of a command without data tells its meaning, where it is done or refused as its checks say, and leaves what it is to leave
told : (refusal : Option Status) (before left new : ZonedNamespace) (number : ℕ) (done : Result ℕ Status)
    → done ≡ unless_failed refusal number → OnOk done (new ≡ left) → OnErr done (new ≡ before)
    → Tells (answer_without_data done) new (concluded refusal before (success_effect left number []))
told None before left new number (Ok n) is ok err bytes =
    let same : n ≡ number = cc in
    ap (λ (m : ZonedNamespace). success_effect m n []) ok ∙ ap (λ (k : ℕ). success_effect left k []) same
told None before left new number (Err status) is ok err bytes = absurd cc
told (Some why) before left new number (Ok n) is ok err bytes = absurd cc
told (Some why) before left new number (Err status) is ok err bytes =
    let same : status ≡ why = cc in
    ap (λ (m : ZonedNamespace). refused_effect m status) err ∙ ap (λ (s : Status). refused_effect before s) same

pub returns-clause-answer : goal.returns-clause-answer
returns-clause-answer c = λ bytes.
    let ns = c.args.image.now in
    let refusal = first_failed (send_checks ns c.args.holds.now c.args.lba c.args.action c.args.select_all c.args.input.now) in
    let left = send_effect ns c.args.holds.now c.args.lba c.args.action c.args.select_all in
    let does = c.try_send.ensures in
    rw c.without_data.ensures.value (told refusal ns left c.try_send.new.image 0 c.try_send.result does.value does.ok does.err bytes)
