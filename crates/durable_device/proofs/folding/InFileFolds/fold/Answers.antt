use Rattle.std.proofs.Common.{rules, ⊎_elim}
use Rattle.stored_file.proofs.Moments.{weaken}
use Rattle.durable_machine.proofs.Files.{as_before, nothing_done, rests_before}
use Rattle.durable_device.specs.Machine.{IsDeviceBase, next_state}
use Rattle.durable_device.proofs.folding.InFileFolds.fold.Goals as goal

pub returns-in_default-clause-any_moment : goal.returns-in_default-clause-any_moment
returns-in_default-clause-any_moment g c = nothing_done IsDeviceBase next_state c.args.device.now c.args.self.now.journal.gate _ c.requires.settled _ (λ file is. is)

pub returns-in-Ok-put_base-clause-any_moment : goal.returns-in-Ok-put_base-clause-any_moment
returns-in-Ok-put_base-clause-any_moment g c =
    weaken _ _ _ _ (c.put_base.ensures.any_moment c.args.device.now (search rules))
    (λ file. ⊎_elim (rests_before IsDeviceBase next_state c.args.device.now c.args.self.now.journal.gate _ c.requires.settled file) (λ is. is))

pub returns-in-Err-NoRoom-clause-settled : goal.returns-in-Err-NoRoom-clause-settled
returns-in-Err-NoRoom-clause-settled g c =
    as_before IsDeviceBase next_state c.args.device.now c.args.self.now.journal.gate _ c.requires.settled _ (c.put_base.ensures.no_room (search rules))

pub returns-in-Err-NoRoom-clause-any_moment : goal.returns-in-Err-NoRoom-clause-any_moment
returns-in-Err-NoRoom-clause-any_moment g c =
    weaken _ _ _ _ (c.put_base.ensures.any_moment c.args.device.now (search rules))
    (λ file. ⊎_elim (rests_before IsDeviceBase next_state c.args.device.now c.args.self.now.journal.gate _ c.requires.settled file) (λ is. is))

pub returns-in-Err-Memory-clause-any_moment : goal.returns-in-Err-Memory-clause-any_moment
returns-in-Err-Memory-clause-any_moment g c =
    weaken _ _ _ _ (c.put_base.ensures.any_moment c.args.device.now (search rules))
    (λ file. ⊎_elim (rests_before IsDeviceBase next_state c.args.device.now c.args.self.now.journal.gate _ c.requires.settled file) (λ is. is))

pub returns-in-Err-Failed-clause-any_moment : goal.returns-in-Err-Failed-clause-any_moment
returns-in-Err-Failed-clause-any_moment g c =
    weaken _ _ _ _ (c.put_base.ensures.any_moment c.args.device.now (search rules))
    (λ file. ⊎_elim (rests_before IsDeviceBase next_state c.args.device.now c.args.self.now.journal.gate _ c.requires.settled file) (λ is. is))
