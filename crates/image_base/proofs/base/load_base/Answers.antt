use Rattle.std.proofs.Common.{rules, ◌≡◌, Ok, refl}
use Rattle.durable_machine.specs.Events.{BeginsEvent}
use Rattle.durable_machine.specs.Batches.{bytes_of}
use Rattle.image_text.specs.Reading.{namespace_in}
use Rattle.image_base.specs.Base.{BeginNoSections, IsAfterLabel, IsNoText}
use Rattle.image_base.proofs.Fronts.{begins_base, no_event, no_image, no_label, no_sections}
use Rattle.image_base.proofs.base.load_base.Goals as goal

pub returns-in_default : goal.returns-in_default
returns-in_default c = no_label c.args.file.now c.in_default.ensures

pub returns-in_default-first_event : goal.returns-in_default-first_event
returns-in_default-first_event c =
    let is : IsAfterLabel c.args.file.now c.in-Some.after_front.now = search rules in
    no_event c.args.file.now c.in-Some.after_front.now is c.in_default-first_event.ensures

pub returns : goal.returns
returns c =
    let file = c.args.file.now in
    let after = c.in-Some.after_front.now in
    let text = c.in-Some-first_event.text.now in
    let rest = c.in-Some-first_event.rest.now in
    let is : IsAfterLabel file after = search rules in
    let begins : BeginsEvent text rest after = search rules in
    let read : namespace_in text ≡ Ok c.in-Some-2.image = search rules in
    begins_base file after text rest (bytes_of c.in-Some-3.sections.items) c.in-Some-2.image c.in-Some-3.after _ begins read (search rules) refl is

pub returns-in_default-2 : goal.returns-in_default-2
returns-in_default-2 c =
    let file = c.args.file.now in
    let after = c.in-Some.after_front.now in
    let text = c.in-Some-first_event.text.now in
    let rest = c.in-Some-first_event.rest.now in
    let is : IsAfterLabel file after = search rules in
    let begins : BeginsEvent text rest after = search rules in
    let none : IsNoText text = rw c.in_default-2.is at c.in_ok-image.ensures in
    no_image file after text rest is begins none

pub returns-in_default-3 : goal.returns-in_default-3
returns-in_default-3 c =
    let file = c.args.file.now in
    let after = c.in-Some.after_front.now in
    let text = c.in-Some-first_event.text.now in
    let rest = c.in-Some-first_event.rest.now in
    let is : IsAfterLabel file after = search rules in
    let begins : BeginsEvent text rest after = search rules in
    let none : BeginNoSections rest = rw c.in_default-3.is at c.in_ok-sections.ensures in
    no_sections file after text rest is begins none
