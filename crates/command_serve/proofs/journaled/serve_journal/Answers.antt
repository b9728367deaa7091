use Rattle.std.proofs.Common.{◌∙◌, ℕ, List, Option, ap, refl, subst, sym}
use Rattle.std.proofs.lemmas.Result.{err_from_is_err_and}
use Rattle.device_meaning.specs.State.{State}
use Rattle.command_files.proofs.Proved.{modes_kept, only_one, others_kept}
use Rattle.command_files.specs.Made.{AreAsTold, Made, MakesAtMost}
use Rattle.command_images.specs.Images.{image_of}
use Rattle.command_serve.specs.Opening.{IsntOpened, Opens}
use Rattle.command_serve.specs.Served.{Unkept, Unopened}
use Rattle.command_serve.proofs.Endings.{journal_told}
use Rattle.command_serve.proofs.journaled.serve_journal.Goals as goal

pub returns-in_err-device-clause-stopped : goal.returns-in_err-device-clause-stopped
returns-in_err-device-clause-stopped g c =
    let told = g.F.Stored.StoredFile.told in
    let path = c.required-path.result.now in
    let wanted = image_of c.args.matches.now in
    let p = err_from_is_err_and c.from_residual.result c.from_residual.ensures.1 in
    rw (p.1, p.2) (Unopened (subst (λ (q : List ℕ). IsntOpened told (g.F.Files.contents c.args.files.now q) q c.in_err-device.field-0.0) c.required-path.ensures
    c.in_err-device.ensures.failed) (refl, refl) (ap (λ (all : List ℕ → Option (List ℕ)). all wanted) c.open.ensures.contents))

pub returns-in_err-keep-clause-stopped : goal.returns-in_err-keep-clause-stopped
returns-in_err-keep-clause-stopped g c =
    let told = g.F.Stored.StoredFile.told in
    let path = c.required-path.result.now in
    let wanted = image_of c.args.matches.now in
    let p = err_from_is_err_and c.from_residual-in_err-keep.result c.from_residual-in_err-keep.ensures.1 in
    rw (p.1, p.2) (Unkept refl (ap (λ (all : List ℕ → Option (List ℕ)). all wanted) (c.in_err-keep.ensures.kept ∙ c.open.ensures.contents)))

pub returns-clause-served : goal.returns-clause-served
returns-clause-served g c =
    let told = g.F.Stored.StoredFile.told in
    let path = c.required-path.result.now in
    let wanted = image_of c.args.matches.now in
    let contents = g.F.Files.contents c.args.files.now in
    let now = g.F.Files.contents c.keep.new.self in
    let kept = c.opened-kept.result in
    let opens = subst (λ j. Opens told (contents path) (told j.file) kept.device.value) (sym c.opened-kept.ensures.journal)
    (subst (λ (s : State). Opens told (contents path) (told c.in_ok-device.device.store.events.journal.file) s) (sym c.opened-kept.ensures.device)
    c.in_ok-device.ensures.opened) in
    let all = journal_told told contents now c.args.matches.now path (g.I.Read.remaining c.args.input.now) (g.I.Read.remaining c.serve_in-done.new.input)
    (g.O.Write.contents c.args.out.now) (g.O.Write.contents c.serve_in-done.new.out) c.args.form kept.events.journal c.serve_in-done.new.kept.events.journal
    kept.device.value c.serve_in-done.new.kept.device.value _ c.serve_in-done.result.1 c.required-path.ensures c.requires.asked opens
    c.serve_in-done.result.0 c.told.result c.told.ensures c.serve_in-done.ensures.serves
    (subst (λ f. AreAsTold (now path) (told f).seen) c.into_file.ensures c.in_ok-keep.ensures.bytes) in
    all.0

pub returns-clause-stopped : goal.returns-clause-stopped
returns-clause-stopped g c =
    let told = g.F.Stored.StoredFile.told in
    let path = c.required-path.result.now in
    let wanted = image_of c.args.matches.now in
    let contents = g.F.Files.contents c.args.files.now in
    let now = g.F.Files.contents c.keep.new.self in
    let kept = c.opened-kept.result in
    let opens = subst (λ j. Opens told (contents path) (told j.file) kept.device.value) (sym c.opened-kept.ensures.journal)
    (subst (λ (s : State). Opens told (contents path) (told c.in_ok-device.device.store.events.journal.file) s) (sym c.opened-kept.ensures.device)
    c.in_ok-device.ensures.opened) in
    let all = journal_told told contents now c.args.matches.now path (g.I.Read.remaining c.args.input.now) (g.I.Read.remaining c.serve_in-done.new.input)
    (g.O.Write.contents c.args.out.now) (g.O.Write.contents c.serve_in-done.new.out) c.args.form kept.events.journal c.serve_in-done.new.kept.events.journal
    kept.device.value c.serve_in-done.new.kept.device.value _ c.serve_in-done.result.1 c.required-path.ensures c.requires.asked opens
    c.serve_in-done.result.0 c.told.result c.told.ensures c.serve_in-done.ensures.serves
    (subst (λ f. AreAsTold (now path) (told f).seen) c.into_file.ensures c.in_ok-keep.ensures.bytes) in
    all.1

pub returns-clause-made : goal.returns-clause-made
returns-clause-made g c =
    let wanted = image_of c.args.matches.now in
    only_one wanted (g.F.Files.made c.args.files.now) (g.F.Files.made c.keep.new.self)
    (subst (λ (made : Option (List Made)). MakesAtMost wanted made (g.F.Files.made c.keep.new.self)) c.open.ensures.made
    (subst (λ (q : List ℕ). MakesAtMost q (g.F.Files.made c.open.new.files) (g.F.Files.made c.keep.new.self)) c.required-path.ensures c.keep.ensures.made))

pub returns-clause-others : goal.returns-clause-others
returns-clause-others g c =
    let path = c.required-path.result.now in
    let wanted = image_of c.args.matches.now in
    others_kept path wanted (g.F.Files.contents c.args.files.now) (g.F.Files.contents c.open.new.files) (g.F.Files.contents c.keep.new.self)
    c.required-path.ensures c.open.ensures.contents c.keep.ensures.others

pub returns-clause-modes : goal.returns-clause-modes
returns-clause-modes g c =
    modes_kept (g.F.Files.modes c.args.files.now) (g.F.Files.modes c.open.new.files) (g.F.Files.modes c.keep.new.self) c.open.ensures.modes c.keep.ensures.modes

pub returns-in_err-keep-clause-made : goal.returns-in_err-keep-clause-made
returns-in_err-keep-clause-made g c =
    let wanted = image_of c.args.matches.now in
    only_one wanted (g.F.Files.made c.args.files.now) (g.F.Files.made c.keep.new.self)
    (subst (λ (made : Option (List Made)). MakesAtMost wanted made (g.F.Files.made c.keep.new.self)) c.open.ensures.made
    (subst (λ (q : List ℕ). MakesAtMost q (g.F.Files.made c.open.new.files) (g.F.Files.made c.keep.new.self)) c.required-path.ensures c.keep.ensures.made))

pub returns-in_err-keep-clause-others : goal.returns-in_err-keep-clause-others
returns-in_err-keep-clause-others g c =
    let path = c.required-path.result.now in
    let wanted = image_of c.args.matches.now in
    others_kept path wanted (g.F.Files.contents c.args.files.now) (g.F.Files.contents c.open.new.files) (g.F.Files.contents c.keep.new.self)
    c.required-path.ensures c.open.ensures.contents c.keep.ensures.others

pub returns-in_err-keep-clause-modes : goal.returns-in_err-keep-clause-modes
returns-in_err-keep-clause-modes g c =
    modes_kept (g.F.Files.modes c.args.files.now) (g.F.Files.modes c.open.new.files) (g.F.Files.modes c.keep.new.self) c.open.ensures.modes c.keep.ensures.modes
