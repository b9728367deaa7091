use Rattle.std.proofs.Common.{◌≡◌, ℕ, List, IfErr, OnOk, refl, rules, subst, sym}
use Rattle.std.proofs.lemmas.Result.{err_from_is_err_and}
use Rattle.command_files.proofs.Proved.{changes_join}
use Rattle.command_files.specs.Surroundings.{ChangesOnly, around}
use Rattle.command_images.specs.Images.{image_of}
use Rattle.command_images.specs.UserTold.{ReplacingFails}
use Rattle.command_serve.specs.Opening.{IsNotFound}
use Rattle.command_serve.specs.Served.{FailsImage, IsntSaved, ServesImage, Unloaded, Unsaved}
use Rattle.command_serve.specs.Streams.{end_of}
use Rattle.command_serve.proofs.Endings.{image_told, on_image, saved_image}
use Rattle.command_serve.proofs.Keeping.{named, unchanged}
use Rattle.command_serve.proofs.Openings.{unheld_found}
use Rattle.command_serve.proofs.imaged.serve_image.Goals as goal

pub returns-in_err-device-clause-stopped : goal.returns-in_err-device-clause-stopped
returns-in_err-device-clause-stopped g c =
    let p = err_from_is_err_and c.from_residual.result c.from_residual.ensures.1 in
    rw (p.1, p.2) (Unloaded (subst (λ (q : List ℕ). ReplacingFails g.F.Reader.Source.tells (g.F.Files.contents c.args.files.now q) q c.in_err-device.field-0.0)
    c.required-path.ensures c.in_err-device.ensures.failed) (refl, refl) c.load_to_replace.ensures.made)

pub returns-in_err-device-clause-changes : goal.returns-in_err-device-clause-changes
returns-in_err-device-clause-changes g c =
    unchanged g.F.Files g.F.Writer.Sink.tells (image_of c.args.matches.now) c.args.files.now c.load_to_replace.new.files
    c.load_to_replace.ensures.made c.load_to_replace.ensures.tried c.load_to_replace.ensures.contents c.load_to_replace.ensures.modes

pub returns-clause-served : goal.returns-clause-served
returns-clause-served g c =
    let reads = g.F.Reader.Source.tells in
    let writes = g.F.Writer.Sink.tells in
    let path = c.required-path.result.now in
    let unread = g.I.Read.remaining c.args.input.now in
    let left = g.I.Read.remaining c.serve_in-done.new.input in
    let before = g.O.Write.contents c.args.out.now in
    let after = g.O.Write.contents c.serve_in-done.new.out in
    let same = c.serve_in-done.ensures.becomes.same_files in
    let final : c.files-1.given.0 ≡ c.save_at_last.new.files = search rules in
    let shows : c.image.result.now ≡ c.serve_in-done.new.kept.device.value.namespace = search rules in
    let all = image_told g.F.Files (around g.F.Files reads writes c.args.files.now c.save_at_last.new.files) c.args.matches.now path unread left before after
    c.required-path.ensures c.serve_in-done.result.0 c.told.result c.told.ensures (saved_image
    g.F.Files reads writes c.args.files.now c.load_to_replace.new.files c.save_at_last.new.files c.args.matches.now path c.required-path.ensures
    unread before after c.args.form c.requires.asked c.in_ok-device.device.value.namespace c.in_ok-device.ensures.namespace
    c.load_to_replace.ensures.contents c.load_to_replace.ensures.made c.in_ok-device.device.value c.serve_in-done.new.kept.device.value
    c.in_ok-device.ensures.new _ c.serve_in-done.result.1 (end_of c.serve_in-done.result.0 left) c.serve_in-done.ensures.serves refl refl
    c.image.result.now shows c.in_ok-save_at_last.ensures.saved) in
    subst (λ (f : g.row.F.Denot). OnOk c.told.result (ServesImage g.F.Files (around g.F.Files reads writes c.args.files.now f) c.args.matches.now unread before after))
    (sym final) all.0

pub returns-clause-stopped : goal.returns-clause-stopped
returns-clause-stopped g c =
    let reads = g.F.Reader.Source.tells in
    let writes = g.F.Writer.Sink.tells in
    let path = c.required-path.result.now in
    let unread = g.I.Read.remaining c.args.input.now in
    let left = g.I.Read.remaining c.serve_in-done.new.input in
    let before = g.O.Write.contents c.args.out.now in
    let after = g.O.Write.contents c.serve_in-done.new.out in
    let same = c.serve_in-done.ensures.becomes.same_files in
    let final : c.files-1.given.0 ≡ c.save_at_last.new.files = search rules in
    let shows : c.image.result.now ≡ c.serve_in-done.new.kept.device.value.namespace = search rules in
    let all = image_told g.F.Files (around g.F.Files reads writes c.args.files.now c.save_at_last.new.files) c.args.matches.now path unread left before after
    c.required-path.ensures c.serve_in-done.result.0 c.told.result c.told.ensures (saved_image
    g.F.Files reads writes c.args.files.now c.load_to_replace.new.files c.save_at_last.new.files c.args.matches.now path c.required-path.ensures
    unread before after c.args.form c.requires.asked c.in_ok-device.device.value.namespace c.in_ok-device.ensures.namespace
    c.load_to_replace.ensures.contents c.load_to_replace.ensures.made c.in_ok-device.device.value c.serve_in-done.new.kept.device.value
    c.in_ok-device.ensures.new _ c.serve_in-done.result.1 (end_of c.serve_in-done.result.0 left) c.serve_in-done.ensures.serves refl refl
    c.image.result.now shows c.in_ok-save_at_last.ensures.saved) in
    subst (λ (f : g.row.F.Denot). IfErr c.told.result (FailsImage g.F.Files (around g.F.Files reads writes c.args.files.now f) c.args.matches.now unread before after left))
    (sym final) all.1

pub returns-in_err-save_at_last-clause-stopped : goal.returns-in_err-save_at_last-clause-stopped
returns-in_err-save_at_last-clause-stopped g c =
    let reads = g.F.Reader.Source.tells in
    let writes = g.F.Writer.Sink.tells in
    let path = c.required-path.result.now in
    let unread = g.I.Read.remaining c.args.input.now in
    let left = g.I.Read.remaining c.serve_in-done.new.input in
    let before = g.O.Write.contents c.args.out.now in
    let after = g.O.Write.contents c.serve_in-done.new.out in
    let same = c.serve_in-done.ensures.becomes.same_files in
    let final : c.files-1.given.0 ≡ c.save_at_last.new.files = search rules in
    let here = around g.F.Files reads writes c.args.files.now c.save_at_last.new.files in
    let p = err_from_is_err_and c.from_residual-in_err-save_at_last.result c.from_residual-in_err-save_at_last.ensures.1 in
    subst (λ (f : g.row.F.Denot). IfErr c.from_residual-in_err-save_at_last.result
    (FailsImage g.F.Files (around g.F.Files reads writes c.args.files.now f) c.args.matches.now unread before after left)) (sym final)
    (rw (p.1, p.2) (Unsaved
    (subst (λ (q : List ℕ). IsNotFound q c.in_err-save_at_last.field-0.0) c.required-path.ensures
    (unheld_found c.required-path.result c.in_err-save_at_last.field-0.0 c.in_err-save_at_last.ensures.failed))
    (end_of c.serve_in-done.result.0 left) (on_image
    g.F.Files reads writes c.args.files.now c.load_to_replace.new.files c.save_at_last.new.files c.args.matches.now path c.required-path.ensures
    unread before after c.args.form c.requires.asked c.in_ok-device.device.value.namespace c.in_ok-device.ensures.namespace
    c.load_to_replace.ensures.contents c.load_to_replace.ensures.made c.in_ok-device.device.value c.serve_in-done.new.kept.device.value
    c.in_ok-device.ensures.new _ c.serve_in-done.result.1 (end_of c.serve_in-done.result.0 left) c.serve_in-done.ensures.serves refl refl
    (IsntSaved here) c.in_err-save_at_last.ensures.none_made)))

pub returns-clause-changes : goal.returns-clause-changes
returns-clause-changes g c =
    let reads = g.F.Reader.Source.tells in
    let writes = g.F.Writer.Sink.tells in
    let path = c.required-path.result.now in
    let unread = g.I.Read.remaining c.args.input.now in
    let left = g.I.Read.remaining c.serve_in-done.new.input in
    let before = g.O.Write.contents c.args.out.now in
    let after = g.O.Write.contents c.serve_in-done.new.out in
    let same = c.serve_in-done.ensures.becomes.same_files in
    let final : c.files-1.given.0 ≡ c.save_at_last.new.files = search rules in
    let wanted = image_of c.args.matches.now in
    let loaded = c.load_to_replace.new.files in
    let between = c.serve_in-done.result.1.files.now in
    subst (λ (f : g.row.F.Denot). ChangesOnly g.F.Files writes wanted c.args.files.now f) (sym final)
    (changes_join g.F.Files writes wanted c.args.files.now loaded c.save_at_last.new.files
    (unchanged g.F.Files writes wanted c.args.files.now loaded
    c.load_to_replace.ensures.made c.load_to_replace.ensures.tried c.load_to_replace.ensures.contents c.load_to_replace.ensures.modes)
    (changes_join g.F.Files writes wanted loaded between c.save_at_last.new.files
    (named g.F.Files writes path wanted loaded between c.required-path.ensures c.serve_in-done.ensures.becomes.changes)
    (named g.F.Files writes path wanted between c.save_at_last.new.files c.required-path.ensures c.save_at_last.ensures.changes)))
