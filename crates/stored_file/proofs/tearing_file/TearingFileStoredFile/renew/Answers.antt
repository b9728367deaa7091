use Rattle.std.proofs.Common.{rules, ◌≡◌, ◌⊎◌, ⊎_elim, ◌∙◌, ap, sym, List, ℕ, length, subst, refl}
use Rattle.stored_file.specs.File.{Mixed, is_written}
use Rattle.stored_file.specs.Unsynced.{LeftSince}
use Rattle.stored_file.specs.declared.change.Change.{Change}
use Rattle.stored_file.proofs.Changes.{left_now, elapses}
use Rattle.stored_file.proofs.Renewing.{mixed_old, mixed_new, written_again}
use Rattle.stored_file.proofs.tearing_file.TearingFileStoredFile.renew.Goals as goal

pub returns-clause-time : goal.returns-clause-time
returns-clause-time c = elapses _ _ _ _ c.in_ok-push.ensures.items _ _

pub returns-clause-crash : goal.returns-clause-crash
returns-clause-crash c = λ file left.
    let was = left_now _ _ _ _ c.in_ok-push.ensures.items file left in
    let at = c.args.at in
    let bytes = c.args.bytes.now in
    let copied : c.in_ok-bytes.bytes.items ≡ bytes = search rules in
    let long = c.requires.long was.0 was.1 in
    (was.0, was.1, ⊎_elim (λ same. mixed_old at bytes was.0 long file same) (λ written. mixed_new at bytes was.0 long file (written ∙ ap (λ (l : List ℕ). is_written at l was.0) copied)) was.2)

pub returns-clause-synced : goal.returns-clause-synced
returns-clause-synced c = λ file is.
    (c.args.self.now.bytes.items, refl, is ∙ sym (written_again c.args.at c.args.bytes.now c.args.self.now.bytes.items c.requires.within c.requires.again))

pub returns-in_err-bytes-clause-crash : goal.returns-in_err-bytes-clause-crash
returns-in_err-bytes-clause-crash c = λ file left. (file, left, mixed_old c.args.at c.args.bytes.now file (c.requires.long file left) file refl)

pub returns-in_err-push-clause-crash : goal.returns-in_err-push-clause-crash
returns-in_err-push-clause-crash c = λ file left.
    let same : c.push.new.self.items ≡ c.args.self.now.changes.items = search rules in
    let was = subst (λ (changes : List Change). LeftSince c.args.self.now.first.items changes (length changes) file) same left in
    (file, was, mixed_old c.args.at c.args.bytes.now file (c.requires.long file was) file refl)
