use Rattle.std.proofs.Common.{rules, ◌≡◌, true, ℕ, List, subst, sym}
use Rattle.stored_file.specs.File.{Follows, Mixed}
use Rattle.stored_file.specs.Calls.{Call, told_of}
use Rattle.stored_file.proofs.Opened.{refused_mixed}
use Rattle.durable_device.specs.Kept.{MayBeLeft}
use Rattle.handed_file.proofs.Left.{still_long}
use Rattle.handed_file.proofs.Renewed.{IsLong, handed_mixed}
use Rattle.handed_file.proofs.handed_file.HandedFileStoredFile.renew.Goals as goal

pub returns-then-self-clause-crash : goal.returns-then-self-clause-crash
returns-then-self-clause-crash c =
    let calls = c.args.self.now.notes.calls in
    subst (λ (notes : List Call). Follows (Mixed c.args.at c.args.bytes.now) (told_of MayBeLeft calls) (told_of MayBeLeft notes)) (sym c.refuse.ensures.noted)
    (refused_mixed MayBeLeft calls c.args.at c.args.bytes.now c.requires.long)

pub returns-in-Ok-clause-crash : goal.returns-in-Ok-clause-crash
returns-in-Ok-clause-crash c =
    let calls = c.args.self.now.notes.calls in
    let noted = c.hand.new.self.notes.calls in
    let copied : c.in-Ok.bytes.items ≡ c.args.bytes.now = search rules in
    let long = subst (λ (bytes : List ℕ). IsLong calls c.args.at bytes) (sym copied) c.requires.long in
    subst (λ (bytes : List ℕ). Follows (Mixed c.args.at bytes) (told_of MayBeLeft calls) (told_of MayBeLeft noted)) copied
    (handed_mixed c.hand.result calls noted c.args.at c.in-Ok.bytes.items long c.hand.ensures.handed c.hand.ensures.refused)

pub returns-in-Err-clause-crash : goal.returns-in-Err-clause-crash
returns-in-Err-clause-crash c =
    let calls = c.args.self.now.notes.calls in
    subst (λ (notes : List Call). Follows (Mixed c.args.at c.args.bytes.now) (told_of MayBeLeft calls) (told_of MayBeLeft notes)) (sym c.refuse-in-Err.ensures.noted)
    (refused_mixed MayBeLeft calls c.args.at c.args.bytes.now c.requires.long)

pub hand-requires-clause-long : goal.hand-requires-clause-long
hand-requires-clause-long c =
    let file = c.args.self.now in
    let copied : c.in-Ok.bytes.items ≡ c.args.bytes.now = search rules in
    still_long file.notes.calls c.args.at c.in-Ok.bytes.items true file.long
    (subst (λ (bytes : List ℕ). IsLong file.notes.calls c.args.at bytes) (sym copied) c.requires.long)
