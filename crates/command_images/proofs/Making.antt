-- What is known of the images that commands make.
use Rattle.std.proofs.Common.{◌≡◌, ◌⊎◌, ℕ, List, Option, Result, Ok, Err, OnOk, ap, inl, inr, sym, subst, ◌∙◌}
use Rattle.std.specs.Borrow.{Bor}
use Rattle.std.specs.List.{Contains}
use Rattle.clap.specs.declared.parser.matches.ArgMatches.{ArgMatches}
use Rattle.image_store.specs.Geometry.{Shape, shape_checks, tested}
use Rattle.image_store.specs.Namespace.{ZonedNamespace, all_empty}
use Rattle.image_text.specs.Text.{text}
use Rattle.common_definitions.specs.Checks.{first_failed}
use Rattle.common_definitions.proofs.Proved.{value_given}
use Rattle.command_files.specs.declared.failure.Failure.{Failure}
use Rattle.command_files.specs.declared.failure.Failure.TheVariants.{CannotRead, CannotWrite, DeviceRefused, NoMemory, NotAnImage, NotInRange}
use Rattle.command_files.specs.Made.{Made, then_made}
use Rattle.command_files.specs.UserTold.{IsUnwritten, SpellsNone}
use Rattle.command_files.proofs.Proved.{same_name, unwritten_holds}
use Rattle.command_images.specs.Images.{IsAnother, IsAskedFor, IsForced, IsReplaceable, MakesEmpty, MakesAnew}
use Rattle.command_images.specs.Devices.{TellNamespace}
use Rattle.command_images.specs.UserTold.{FormatFails, IsUnheld, IsUnreplaced, LoadingDeviceFails, RefusesShape, ReplacingFails, shape_options}

-- the shape that tests give is the one that they are made of
same_shape : (s g : Shape) → Ok g ≡ tested s → s ≡ g
same_shape s g is = sym (value_given (first_failed (shape_checks s)) s g is)

-- what was asked for and passed the tests passes them again
pub asked_and_passed : (matches : ArgMatches) (s g : Shape) → IsAskedFor matches s → Ok g ≡ tested s → IsAskedFor matches g × (tested g ≡ Ok g)
asked_and_passed matches s g asked is =
    subst (λ (shape : Shape). IsAskedFor matches shape × (tested shape ≡ Ok g)) (same_shape s g is) (asked, sym is)

-- of an image that has nothing written, a file was made
pub makes_empty : {T E : Type 0} (writes : Type 0) (result : Result T E) (image : ZonedNamespace) (shape : Shape) (matches : ArgMatches) (path wanted : List ℕ) (before loaded after : Option (List Made))
    → IsAskedFor matches shape → tested shape ≡ Ok shape → image ≡ all_empty shape → path ≡ wanted → loaded ≡ before
    → OnOk result (writes → after ≡ then_made loaded path (text image)) → OnOk result (MakesEmpty writes matches wanted before after)
makes_empty writes (Err error) image shape matches path wanted before loaded after asked passes empty same kept saved = tt
makes_empty writes (Ok done) image shape matches path wanted before loaded after asked passes empty same kept saved = record {
  shape = shape;
  asked = asked;
  passes = passes;
  made = λ write. saved write ∙ ap (λ (made : Option (List Made)). then_made made path (text image)) kept ∙ ap (λ (p : List ℕ). then_made before p (text image)) same
      ∙ ap (λ (ns : ZonedNamespace). then_made before wanted (text ns)) empty;
}

-- a device was loaded of the files of before, and a file was made of the image that it shows
pub makes_anew : {T E : Type 0} (reads writes : Type 0) (result : Result T E) (contents : List ℕ → Option (List ℕ)) (image shown : ZonedNamespace) (path wanted : List ℕ)
    (before loaded after : Option (List Made)) → path ≡ wanted → loaded ≡ before → shown ≡ image
    → (reads → TellNamespace (contents path) image)
    → OnOk result (writes → after ≡ then_made loaded path (text shown))
    → OnOk result (MakesAnew (record { reads = reads; writes = writes; contents = contents; before = before; after = after }) wanted)
makes_anew reads writes (Err error) contents image shown path wanted before loaded after same kept shows held saved = tt
makes_anew reads writes (Ok done) contents image shown path wanted before loaded after same kept shows held saved = record {
  namespace = image;
  held = λ read. subst (λ (p : List ℕ). TellNamespace (contents p) image) same (held read);
  made = λ write. saved write ∙ ap (λ (made : Option (List Made)). then_made made path (text shown)) kept ∙ ap (λ (p : List ℕ). then_made before p (text shown)) same
      ∙ ap (λ (ns : ZonedNamespace). then_made before wanted (text ns)) shows;
}

-- the word of an option of a shape spells no number
pub spells_none : (matches : ArgMatches) (option : Bor (List ℕ)) (failure : Failure) → Contains shape_options option.now → SpellsNone matches option 0 4294967295 failure → RefusesShape matches failure
spells_none matches option (NotInRange told word least most) asked is =
    subst (λ (o : Bor (List ℕ)). Contains shape_options o.now × SpellsNone matches o 0 4294967295 (NotInRange told word least most)) (sym is.0.0) (asked, is)
spells_none matches option _ asked is = absurd is.0

-- there is no shape
pub format_of_shape : (matches : ArgMatches) (bytes : Option (List ℕ)) (path : List ℕ) (failure : Failure) → RefusesShape matches failure → FormatFails matches bytes path failure
format_of_shape matches bytes path (CannotWrite told cause) is = absurd is
format_of_shape matches bytes path (NotAnImage told) is = absurd is
format_of_shape matches bytes path NoMemory is = absurd is
format_of_shape matches bytes path _ is = is

-- the image can't be written
module _ (path : Bor (List ℕ)) (named : List ℕ) (is_named : path.now ≡ named) where
  pub format_of_writing : (matches : ArgMatches) (bytes : Option (List ℕ)) (failure : Failure) → IsUnwritten path failure → FormatFails matches bytes named failure
  format_of_writing matches bytes = unwritten_holds path (FormatFails matches bytes named) (λ told cause is. same_name is is_named) tt

  -- nor is it held
  pub format_of_holding : (matches : ArgMatches) (contents : List ℕ → Option (List ℕ)) (forced : Type 0) → (IsForced matches → forced) → (failure : Failure)
      → IsUnreplaced forced (contents path.now) path failure → FormatFails matches (contents named) named failure
  format_of_holding matches contents forced by (NotAnImage told) is = (
    same_name is.0 is_named,
    subst (λ (name : List ℕ). IsAnother (contents name)) is_named is.1,
    λ asked. is.2 (by asked),
  )
  format_of_holding matches contents forced by (CannotWrite told cause) is = same_name is is_named
  format_of_holding matches contents forced by NoMemory is = tt
  format_of_holding matches contents forced by _ is = absurd is

  pub upgrade_of_writing : (reads : Type 0) (known : Option (List ℕ)) (failure : Failure) → IsUnwritten path failure → ReplacingFails reads known named failure
  upgrade_of_writing reads known = unwritten_holds path (ReplacingFails reads known named) (λ told cause is. same_name is is_named) tt

-- it isn't loaded
pub replace_of_loading : (reads : Type 0) (known : Option (List ℕ)) (path : List ℕ) (failure : Failure) → LoadingDeviceFails reads known path failure → ReplacingFails reads known path failure
replace_of_loading reads known path (CannotWrite told cause) is = absurd is
replace_of_loading reads known path (DeviceRefused told) is = absurd is
replace_of_loading reads known path _ is = is

-- it isn't held
pub replace_of_holding : (reads : Type 0) (known : Option (List ℕ)) (path : Bor (List ℕ)) (failure : Failure) → IsUnheld path failure → ReplacingFails reads known path.now failure
replace_of_holding reads known path (CannotRead told cause) is = ap (λ (b : Bor (List ℕ)). b.now) is
replace_of_holding reads known path (CannotWrite told cause) is = ap (λ (b : Bor (List ℕ)). b.now) is
replace_of_holding reads known path NoMemory is = tt
replace_of_holding reads known path _ is = absurd is

-- a name may be given to a new image, by force or by the bytes of its file
pub may_replace : {T E : Type 0} (result : Result T E) (forced : Type 0) (matches : ArgMatches) (contents : List ℕ → Option (List ℕ)) (path wanted : List ℕ)
    → path ≡ wanted → (forced → IsForced matches) → forced ⊎ IsReplaceable (contents path) → OnOk result (IsForced matches ⊎ IsReplaceable (contents wanted))
may_replace (Err error) forced matches contents path wanted same by may = tt
may_replace (Ok done) forced matches contents path wanted same by (inl asked) = inl (by asked)
may_replace (Ok done) forced matches contents path wanted same by (inr bytes) = inr (subst (λ (p : List ℕ). IsReplaceable (contents p)) same bytes)
