use Rattle.std.proofs.Common.{rules, ◌≡◌, inl, ◌<◌, ◌^◌, ◌++◌, length, refl, subst, ◌∙◌, List, ℕ}
use Rattle.durable_machine.specs.Batches.{bytes_of}
use Rattle.image_text.specs.Text.{text}
use Rattle.image_text.proofs.Proved.{saved_texts_load}
use Rattle.image_base.specs.Base.{magic, our_label}
use Rattle.image_base.proofs.Fronts.{based, made_here}
use Rattle.image_base.proofs.SectionLemmas.{as_many}
use Rattle.image_base.proofs.base.save_base.Goals as goal

pub returns-clause-is : goal.returns-clause-is
returns-clause-is c =
    let ns = c.args.image.now in
    let sections = bytes_of c.args.sections.now in
    let is : c.deref.result.now ≡ text ns = search rules in
    let front : c.add_front.new.base.items ≡ magic ++ our_label = search rules in
    let added = c.in_ok-add_event.ensures in
    let last = c.in_ok-add_sections.ensures in
    record {
      label = our_label;
      ours = inl refl;
      text = text ns;
      sized = subst (λ (l : List ℕ). length l < 2 ^ 64) is added.sized;
      sections = record { number = as_many c.args.sections.now ∙ c.requires; sized = last.sized };
      parts = based _ _ _ _ _ sections front is added.added last.added;
      read = saved_texts_load ns c.geometry.ensures.sound;
    }

pub returns-clause-labelled : goal.returns-clause-labelled
returns-clause-labelled c =
    let ns = c.args.image.now in
    let sections = bytes_of c.args.sections.now in
    let is : c.deref.result.now ≡ text ns = search rules in
    let front : c.add_front.new.base.items ≡ magic ++ our_label = search rules in
    made_here _ (text ns) sections (based _ _ _ _ _ sections front is c.in_ok-add_event.ensures.added c.in_ok-add_sections.ensures.added)
