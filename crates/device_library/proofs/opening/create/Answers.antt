use Rattle.std.proofs.Common.{rules, ◌≡◌, ◌∙◌, sym, List, subst}
use Rattle.std.specs.Prelude.{Ok}
use Rattle.handed_file.specs.Handed.{made_calls, noted}
use Rattle.stored_file.specs.File.{FileState, LeavesOnly}
use Rattle.stored_file.specs.Calls.{Call}
use Rattle.durable_device.specs.Kept.{IsOldOrStandsFor}
use Rattle.image_text.specs.Reading.{namespace_in}
use Rattle.device_meaning.specs.State.{new_state}
use Rattle.device_library.specs.Files.{known_by, promised_of}
use Rattle.device_library.proofs.Knowing.{known_alone}
use Rattle.device_library.proofs.opening.create.Goals as goal

pub returns-in-Ok-clause-opened : goal.returns-in-Ok-clause-opened
returns-in-Ok-clause-opened c =
    let journal = c.in-Ok.device.store.events.journal in
    let told : namespace_in c.args.bytes.now ≡ Ok c.in_ok-image.image = search rules in
    let file = c.grant.new.self in
    let settled : made_calls file ≡ noted file = c.grant.ensures.made ∙ c.requires ∙ sym c.grant.ensures.noted in
    let new = promised_of journal.file in
    let namespace = c.in_ok-image.image in
    record {
      namespace = namespace;
      told = told;
      state = c.in-Ok.ensures.new;
      in_base = c.in-Ok.ensures.in_base;
      moments =
          subst (λ (calls : List Call). LeavesOnly (known_by calls) new (IsOldOrStandsFor (known_by calls) (new_state namespace)))
          c.grant.ensures.noted
          (subst (λ (old : FileState). LeavesOnly old new (IsOldOrStandsFor old (new_state namespace))) (known_alone file settled) c.in-Ok.ensures.any_moment);
    }
