-- How serving ended, as it is told.
use Rattle.std.proofs.Common.{◌≡◌, ℕ, List, Option, Some, None, Result, Ok, Err, OnOk, IfErr, rules, subst, sym, ◌∙◌}
use Rattle.std.specs.Option.{option_map_or}
use Rattle.clap.specs.declared.parser.matches.ArgMatches.{ArgMatches}
use Rattle.stored_file.specs.File.{FileState}
use Rattle.image_store.specs.Namespace.{ZonedNamespace}
use Rattle.image_text.specs.Text.{text}
use Rattle.device_meaning.specs.State.{State, new_state}
use Rattle.durable_machine.specs.declared.journal.Journal.{Journal}
use Rattle.device_serve.specs.declared.fault.ServeFault.{ServeFault}
use Rattle.device_serve.specs.declared.keep.KeepsNothing.{KeepsNothing}
use Rattle.command_files.specs.Made.{AreAsTold}
use Rattle.command_files.specs.Surroundings.{Surroundings, around}
use Rattle.command_files.specs.declared.failure.Failure.{Failure}
use Rattle.command_files.specs.declared.files.Files.{Ghosts}
use Rattle.command_images.specs.Devices.{TellNamespace}
use Rattle.command_images.specs.Images.{HasText, image_of}
use Rattle.command_serve.specs.Keeping.{HasKept, KeepsIn}
use Rattle.command_serve.specs.Served.{FailsDurably, FailsImage, FailsOfTaken, FilesThen, IsSaved, IsToldOf, OnImage, OnJournal, ServesDurably, ServesImage, Stopped, StopsDurably, standing}
use Rattle.command_serve.specs.Opening.{Opens}
use Rattle.command_serve.specs.Streams.{End, IsAsked, ServesIn, end_of, in_journal, nowhere, seen}
use Rattle.command_serve.specs.declared.form.Form.{Form}
use Rattle.command_serve.specs.declared.image_keeper.ImageKeeper.{ImageKeeper}
use Rattle.command_serve.specs.steps.Told.{IsTold}

-- it is told of what was done, and of what was done before it stopped, where `On` holds of how it ended, and `Fails` of what is told of that
pub told_on : (path : List ℕ) (left : Option (List ℕ)) (On : End → Type 0) (Fails : Failure → Type 0)
    → ((why : ServeFault) (failure : Failure) → IsTold path (Err why) (Err failure) → On (Some (why, left)) → Fails failure)
    → (done : Result (Unit {0}) ServeFault) (result : Result (Unit {0}) Failure) → IsTold path done result → On (end_of done left)
    → OnOk result (On None) × IfErr result Fails
told_on path left On Fails stopped (Ok done) (Ok told) is on = (on, tt)
told_on path left On Fails stopped (Ok done) (Err failure) is on = absurd is
told_on path left On Fails stopped (Err why) (Ok told) is on = absurd is
told_on path left On Fails stopped (Err why) (Err failure) is on = (tt, stopped why failure is on)

-- of an input that is taken the same is told
pub taken_fails : {I T : Type 0} (remaining : I → Option (List ℕ)) (given : Option I) (input : I) (left : Option (List ℕ))
    (Fails : Option (List ℕ) → Option (List ℕ) → Failure → Type 0) (result : Result T Failure) → given ≡ Some input
    → IfErr result (Fails (remaining input) left) → IfErr result (FailsOfTaken (Fails (option_map_or remaining given None)))
taken_fails {I = I} remaining given input left Fails (Ok value) is holds = tt
taken_fails {I = I} remaining given input left Fails (Err failure) is holds =
    subst (λ (it : Option I). FailsOfTaken (Fails (option_map_or remaining it None)) failure) (sym is) (left, holds)

-- files that have the bytes that they had, and of which as many were made
same_standing : {F R W : Type 0} (files : Ghosts F R W) (old loaded now : F) → now ≡ loaded → files.contents loaded ≡ files.contents old
    → files.made loaded ≡ files.made old → standing files now ≡ standing files old
same_standing files old loaded now is contents made = search rules

module _ {F R W : Type 0} (files : Ghosts F R W) (reads writes : Type 0) (old loaded new : F) (matches : ArgMatches) (path : List ℕ)
    (named : path ≡ image_of matches) (unread before after : Option (List ℕ)) (form : Form) (asked : IsAsked matches form)
    (namespace : ZonedNamespace) (stands : reads → TellNamespace (files.contents old path) namespace)
    (contents : files.contents loaded ≡ files.contents old) (made : files.made loaded ≡ files.made old)
    (begun state : State) (begins : begun ≡ new_state namespace) (first last : ImageKeeper F) (end : End)
    (serves : ServesIn (HasKept files reads writes) (KeepsIn files writes) nowhere form unread end (seen begun before tt first) (seen state after tt last))
    (at_first : first.files.now ≡ loaded) (in_path : first.path.now ≡ path) where
  -- the image was loaded of the file that the command line names, and files stayed what they were until then
  pub on_image : (Then : State → FilesThen → Type 0) → Then state (standing files last.files.now)
      → OnImage files (around files reads writes old new) matches unread before after end Then
  on_image Then then = record {
    form = form;
    asked = asked;
    namespace = namespace;
    namespace_is = λ told. subst (λ (p : List ℕ). TellNamespace (files.contents old p) namespace) named (stands told);
    first = first;
    named = in_path ∙ named;
    finds = same_standing files old loaded first.files.now at_first contents made;
    state = state;
    last = last;
    serves = subst (λ (s : State). ServesIn (HasKept files reads writes) (KeepsIn files writes) nowhere form unread end (seen s before tt first) (seen state after tt last))
        begins serves;
    then = then;
  }

  -- and its text was saved
  pub saved_image : (shown : ZonedNamespace) → shown ≡ state.namespace → HasText (around files reads writes last.files.now new) path (text shown)
      → OnImage files (around files reads writes old new) matches unread before after end (IsSaved (around files reads writes old new) matches)
  saved_image shown shows saved =
      on_image (IsSaved (around files reads writes old new) matches)
      (subst (λ (p : List ℕ). HasText (around files reads writes last.files.now new) p (text state.namespace)) named
      (subst (λ (ns : ZonedNamespace). HasText (around files reads writes last.files.now new) path (text ns)) shows saved))

-- what is told of a device of an image
pub image_told : {F R W : Type 0} (files : Ghosts F R W) (here : Surroundings) (matches : ArgMatches) (path : List ℕ) (unread left before after : Option (List ℕ))
    → path ≡ image_of matches → (done : Result (Unit {0}) ServeFault) (result : Result (Unit {0}) Failure) → IsTold path done result
    → OnImage files here matches unread before after (end_of done left) (IsSaved here matches)
    → OnOk result (ServesImage files here matches unread before after) × IfErr result (FailsImage files here matches unread before after left)
image_told files here matches path unread left before after named done result is on =
    told_on path left (λ end. OnImage files here matches unread before after end (IsSaved here matches)) (FailsImage files here matches unread before after left)
    (λ why failure told stops. Stopped why (subst (λ (p : List ℕ). IsToldOf p why failure) named told) stops) done result is on

-- and of a journal
pub journal_told : {S : Type 0} (told : S → FileState) (contents now : List ℕ → Option (List ℕ)) (matches : ArgMatches) (path : List ℕ)
    (unread left before after : Option (List ℕ)) (form : Form) (opened file : Journal S) (first state : State) (keeper idle : KeepsNothing)
    → path ≡ image_of matches → IsAsked matches form → Opens told (contents path) (told opened.file) first
    → (done : Result (Unit {0}) ServeFault) (result : Result (Unit {0}) Failure) → IsTold path done result
    → ServesIn (λ old new namespace. Unit {0}) (λ old new. Unit {0}) (in_journal told) form unread (end_of done left)
    (seen first before opened keeper) (seen state after file idle)
    → AreAsTold (now path) (told file.file).seen
    → OnOk result (ServesDurably told (contents (image_of matches)) (now (image_of matches)) matches unread before after)
    × IfErr result (FailsDurably told (contents (image_of matches)) (now (image_of matches)) matches unread before after left)
journal_told told contents now matches path unread left before after form opened file first state keeper idle named asked opens done result is serves has =
    told_on path left (OnJournal told (contents (image_of matches)) (now (image_of matches)) matches unread before after)
    (FailsDurably told (contents (image_of matches)) (now (image_of matches)) matches unread before after left)
    (λ why failure is_told stops. StopsDurably why (subst (λ (p : List ℕ). IsToldOf p why failure) named is_told) stops) done result is (record {
      form = form;
      asked = asked;
      opened = opened;
      first = first;
      opens = subst (λ (p : List ℕ). Opens told (contents p) (told opened.file) first) named opens;
      keeper = keeper;
      state = state;
      file = file;
      idle = idle;
      serves = serves;
      has = subst (λ (p : List ℕ). AreAsTold (now p) (told file.file).seen) named has;
    })
