-- What was done, and what was done where a reply is refused.
use Rattle.std.proofs.Common.{◌≡◌, ◌<◌, ◌^◌, ℕ, Bool, List, length, map, Option, None, Result, Ok, Err, OnOk, OnErr, IfOk, IfSome, inl, inr, ap, ◌∙◌, subst}
use Rattle.clap.specs.declared.parser.matches.ArgMatches.{ArgMatches}
use Rattle.image_store.specs.Namespace.{ZonedNamespace}
use Rattle.image_text.specs.Text.{text}
use Rattle.device_meaning.specs.Judging.{Judge}
use Rattle.common_definitions.specs.Failures.{CountsFailure}
use Rattle.device_events.specs.Replies.{ReplyWithData}
use Rattle.device_meaning.specs.State.{State, new_state}
use Rattle.device_events.specs.declared.event.Event.{Event}
use Rattle.device_events.specs.ToldEvents.{told_of}
use Rattle.event_text.specs.CommandFile.{events_in, worded_lines}
use Rattle.event_text.specs.Lines.{Took, printed_by}
use Rattle.event_text.specs.declared.lines.Lines.{Lines}
use Rattle.placed_file.specs.Placing.{Attempt}
use Rattle.command_files.specs.Crash.{AreWritten, LeavesOldOrNew}
use Rattle.command_files.specs.Made.{Made}
use Rattle.command_files.specs.Surroundings.{Surroundings}
use Rattle.command_files.proofs.Proved.{leaves_behind, leaves_weaker, read_holds}
use Rattle.command_images.specs.Devices.{TellNamespace}
use Rattle.command_images.specs.Images.{HasText, image_of}
use Rattle.command_exec.specs.declared.fail.Refused.{Refused}
use Rattle.command_exec.specs.declared.watched.Tally.{Tally}
use Rattle.command_exec.specs.declared.watched.Watched.{Watched}
use Rattle.command_exec.specs.Executed.{AreExecutedBy, AreInFiles, AreLeft, ExecutesBy, ExecutesFirstBy, HasBegun, HasDone, HasPrinted, HasServedAsked, HasTold, IsDoneUnsaved, IsntSavedBy, SavesAll, SavesFirst, Untold, asks_words, commands_of, told_unless}
use Rattle.command_exec.specs.Refused.{asks_stop}
use Rattle.command_exec.specs.steps.Tallied.{Watches, none_tallied, tallied, told_of_tally}
use Rattle.command_exec.proofs.Stopping.{asked_weaker, drained_weaker, first_begun}
use Rattle.command_exec.proofs.Tallies.{told_is}

-- what is told of the refused commands of replies that were counted, and what was printed of them
pub tells : {T : Type 0} (took : T → T → List ReplyWithData → Type 0) (numbers : List ℕ) (old new : Watched T) (refused : Option Refused) (before after : Option (List ℕ))
    → length numbers < 2 ^ 64 → old.tally ≡ none_tallied → refused ≡ told_of_tally numbers new.tally
    → ((replies : List ReplyWithData) → took old.out new.out replies → HasPrinted before after replies)
    → (replies : List ReplyWithData) → Watches took old new replies → HasTold numbers refused before after replies
tells took numbers old new refused before after few begins is prints replies did = (
  prints replies did.0,
  is ∙ ap (told_of_tally numbers) (did.1 ∙ ap (λ (tally : Tally). tallied tally replies) begins) ∙ told_is numbers replies few,
)

-- lines were printed of all replies, since none was refused; the writer held so much before them, and so much then
module _ {W : Type 0} (contents : W → Option (List ℕ)) (old new : Watched (Lines W)) (before after : Option (List ℕ))
    (first : contents old.out.out.now ≡ before) (last : contents new.out.out.now ≡ after) where
  pub lines_printed : new.out.refusals ≡ old.out.refusals → (replies : List ReplyWithData)
      → Took (printed_by contents old.out) (printed_by contents new.out) replies → HasPrinted before after replies
  lines_printed count replies took =
      subst (λ (held : Option (List ℕ)). HasPrinted held after replies) first
      (subst (λ (held : Option (List ℕ)). HasPrinted (contents old.out.out.now) held replies) last (took.1.texts count))

  pub prints_lines : {E : Type 0} (judge : Judge) (stops : Bool) (events : List Event) (s left : State) (result : Result (Unit {0}) E)
      → CountsFailure old.out.refusals new.out.refusals result
      → OnOk result (HasServedAsked judge stops events s left (Watches (λ then now. Took (printed_by contents then) (printed_by contents now)) old new))
      → OnOk result (HasServedAsked judge stops events s left (HasPrinted before after))
  prints_lines judge stops events s left (Err error) count did = tt
  prints_lines judge stops events s left (Ok done) count did =
      asked_weaker judge stops events s left (Watches (λ then now. Took (printed_by contents then) (printed_by contents now)) old new) (HasPrinted before after)
      (λ replies took. lines_printed count replies took.0) did

-- something is printed of which nothing is said
pub prints_something : {E : Type 0} (judge : Judge) (stops : Bool) (events : List Event) (s left : State) (took : List ReplyWithData → Type 0) (result : Result (Unit {0}) E)
    → OnOk result (HasServedAsked judge stops events s left took) → OnOk result (HasServedAsked judge stops events s left (HasPrinted None None))
prints_something judge stops events s left took (Err error) did = tt
prints_something judge stops events s left took (Ok done) did = asked_weaker judge stops events s left took (HasPrinted None None) (λ replies took. tt) did

-- a device began with a namespace
pub begins_new : (judge : Judge) (stops : Bool) (events : List Event) (namespace : ZonedNamespace) (old left : State) (took tooks : List ReplyWithData → Type 0)
    → old ≡ new_state namespace → ((replies : List ReplyWithData) → took replies → tooks replies)
    → HasServedAsked judge stops events old left took → HasServedAsked judge stops events (new_state namespace) left tooks
begins_new judge stops events namespace old left took tooks begins so did =
    subst (λ (s : State). HasServedAsked judge stops events s left tooks) begins (asked_weaker judge stops events old left took tooks so did)

-- what it has done then isn't saved
pub done_unsaved : {T E : Type 0} (judge : Judge) (stops : Bool) (result : Result T E) (events : List Event) (namespace : ZonedNamespace) (old left : State)
    (before after : Option (List ℕ)) → old ≡ new_state namespace
    → OnOk result (HasServedAsked judge stops events old left (HasPrinted before after)) → OnErr result (HasBegun judge events old left)
    → IsDoneUnsaved judge stops events namespace before after
done_unsaved judge stops (Ok done) events namespace old left before after begins did begun =
    record { left = left; done = inl (begins_new judge stops events namespace old left (HasPrinted before after) (HasPrinted before after) begins (λ replies printed. printed) did) }
done_unsaved judge stops (Err error) events namespace old left before after begins did begun =
    record { left = left; done = inr (subst (λ (s : State). HasBegun judge events s left) begins begun) }

-- the namespace is saved that a device shows
module _ (judge : Judge) (here : Surroundings) (events : List Event) (namespace shown : ZonedNamespace) (path : List ℕ) (left : State)
    (saved : HasText here path (text shown)) (shows : shown ≡ left.namespace) where
  meant : HasText here path (text left.namespace)
  meant = subst (λ (ns : ZonedNamespace). HasText here path (text ns)) shows saved

  pub saves_all : (stops : Bool) (told : List ReplyWithData → Type 0) → HasServedAsked judge stops events (new_state namespace) left told
      → SavesAll judge stops here events namespace path told
  saves_all stops told did = record { left = left; done = did; saved = meant }

  pub saves_first : (old : State) → old ≡ new_state namespace → HasBegun judge events old left → SavesFirst judge here events namespace path
  saves_first old begins begun = record {
    left = left;
    begun = subst (λ (s : State). HasBegun judge events s left) begins begun;
    saved = meant;
  }

-- what was done, whatever was printed
done_somehow : {T E : Type 0} (judge : Judge) (stops : Bool) (result : Result T E) (events : List Event) (old new : State) (took : List ReplyWithData → Type 0)
    → OnOk result (HasServedAsked judge stops events old new took) → OnErr result (HasBegun judge events old new) → HasDone judge events old new
done_somehow judge stops (Ok done) events old new took (inl did) begun = inl (drained_weaker judge events old new _ Untold (λ replies told. tt) did)
done_somehow judge stops (Ok done) events old new took (inr did) begun = inr (first_begun judge events old new took did.1)
done_somehow judge stops (Err error) events old new took did begun = inr begun

-- an image that a device shows behind them
pub shown_is_left : {T E : Type 0} (judge : Judge) (stops : Bool) (result : Result T E) (writes : Type 0) (events : List Event) (namespace shown : ZonedNamespace) (old left : State)
    (took : List ReplyWithData → Type 0) → old ≡ new_state namespace → shown ≡ left.namespace
    → OnOk result (HasServedAsked judge stops events old left took) → OnErr result (HasBegun judge events old left)
    → (bytes : List ℕ) → AreWritten writes (text shown) bytes → AreLeft judge writes events namespace bytes
shown_is_left judge stops result writes events namespace shown old left took begins shows did begun bytes written = record {
  left = left;
  done = subst (λ (s : State). HasDone judge events s left) begins (done_somehow judge stops result events old left took did begun);
  written = λ writes. written writes ∙ ap (λ (ns : ZonedNamespace). text ns) shows;
}

-- an image was loaded, and then a command file was read, of the files that the command line names; the contents of files
-- stayed the same, and no file was made
module _ (judge : Judge) (reads writes : Type 0) (contents then : List ℕ → Option (List ℕ)) (path commands : List ℕ) (matches : ArgMatches) (file slice : List ℕ)
    (namespace : ZonedNamespace) (events : List Event) (before loaded after : Option (List Made)) (same : then ≡ contents)
    (is_named : path ≡ image_of matches) (are_named : commands ≡ commands_of matches) (kept : loaded ≡ before)
    (file_is : IfSome (then commands) (λ bytes. file ≡ bytes)) (slice_is : slice ≡ file) (events_are : events_in slice ≡ Ok (map told_of events)) where
  -- what stands around the command, where the files held these bytes and these were made by then
  abbrev pub from_there : (List ℕ → Option (List ℕ)) → Option (List Made) → Surroundings
  from_there held made = record { reads = reads; writes = writes; contents = held; before = made; after = after }

  pub in_both : (reads → TellNamespace (contents path) namespace) → AreInFiles (from_there contents before) matches namespace events
  in_both namespace_is = record {
    namespace_is = λ read. subst (λ (p : List ℕ). TellNamespace (contents p) namespace) is_named (namespace_is read);
    events_are = read_holds contents commands (commands_of matches) file slice (λ bytes. events_in bytes ≡ Ok (map told_of events)) are_named slice_is
        (subst (λ (c : List ℕ → Option (List ℕ)). IfSome (c commands) (λ bytes. file ≡ bytes)) same file_is) events_are;
  }

  -- what `run` does of them is what the command does of the files
  pub executes : {E : Type 0} (held : List ℕ → Option (List ℕ)) (given : List Event) (numbers : List ℕ) (stops words : Bool) (printed printed_after : Option (List ℕ))
      (result : Result (Option Refused) E) → stops ≡ asks_stop matches → words ≡ asks_words matches → (reads → TellNamespace (contents path) namespace) → held ≡ contents
      → numbers ≡ worded_lines slice
      → IfOk result (λ refused. SavesAll judge stops (from_there held loaded) given namespace path (HasTold numbers refused (told_unless words printed) (told_unless words printed_after)))
      → given ≡ events → IfOk result (ExecutesBy judge (from_there contents before) matches printed printed_after)
  executes held given numbers stops words printed printed_after (Err error) stops_is words_is namespace_is held_is numbers_are saves are = tt
  executes held given numbers stops words printed printed_after (Ok refused) stops_is words_is namespace_is held_is numbers_are saves are =
      let P : (List ℕ → Option (List ℕ)) → Option (List Made) → List Event → List ℕ → Bool → Bool → Type 0 = λ c made list p s w.
      SavesAll judge s (from_there c made) list namespace p (HasTold numbers refused (told_unless w printed) (told_unless w printed_after)) in
      record {
        namespace = namespace;
        events = events;
        in_files = in_both namespace_is;
        numbers = numbers;
        their_lines = read_holds contents commands (commands_of matches) file slice (λ bytes. numbers ≡ worded_lines bytes) are_named slice_is
            (subst (λ (c : List ℕ → Option (List ℕ)). IfSome (c commands) (λ bytes. file ≡ bytes)) same file_is) numbers_are;
        saves = subst (λ (w : Bool). P contents before events (image_of matches) (asks_stop matches) w) words_is
            (subst (λ (s : Bool). P contents before events (image_of matches) s words) stops_is
            (subst (λ (p : List ℕ). P contents before events p stops words) is_named
            (subst (λ (c : List ℕ → Option (List ℕ)). P c before events path stops words) held_is
            (subst (λ (made : Option (List Made)). P held made events path stops words) kept
            (subst (λ (list : List Event). P held loaded list path stops words) are saves)))));
      }

  pub executes_first : (held : List ℕ → Option (List ℕ)) (given : List Event) → (reads → TellNamespace (contents path) namespace) → held ≡ contents
      → SavesFirst judge (from_there held loaded) given namespace path → given ≡ events → ExecutesFirstBy judge (from_there contents before) matches
  executes_first held given namespace_is held_is saves are = record {
    namespace = namespace;
    events = events;
    in_files = in_both namespace_is;
    saves = subst (λ (p : List ℕ). SavesFirst judge (from_there contents before) events namespace p) is_named
        (subst (λ (c : List ℕ → Option (List ℕ)). SavesFirst judge (from_there c before) events namespace path) held_is
        (subst (λ (made : Option (List Made)). SavesFirst judge (from_there held made) events namespace path) kept
        (subst (λ (list : List Event). SavesFirst judge (from_there held loaded) list namespace path) are saves)));
  }

  pub executes_unsaved : (given : List Event) (stops words : Bool) (printed printed_after : Option (List ℕ)) → stops ≡ asks_stop matches → words ≡ asks_words matches
      → (reads → TellNamespace (contents path) namespace) → given ≡ events
      → IsDoneUnsaved judge stops given namespace (told_unless words printed) (told_unless words printed_after)
      → IsntSavedBy judge (from_there contents before) matches printed printed_after
  executes_unsaved given stops words printed printed_after stops_is words_is namespace_is are left = record {
    namespace = namespace;
    events = events;
    in_files = in_both namespace_is;
    unsaved = subst (λ (w : Bool). IsDoneUnsaved judge (asks_stop matches) events namespace (told_unless w printed) (told_unless w printed_after)) words_is
        (subst (λ (s : Bool). IsDoneUnsaved judge s events namespace (told_unless words printed) (told_unless words printed_after)) stops_is
        (subst (λ (list : List Event). IsDoneUnsaved judge stops list namespace (told_unless words printed) (told_unless words printed_after)) are left));
  }

  -- what `run` may leave in the file is what the command may
  pub executed_leaves : (given : List Event) (tried loaded_tried after_tried : List Attempt) → (reads → TellNamespace (contents path) namespace) → given ≡ events
      → loaded_tried ≡ tried → LeavesOldOrNew path (AreLeft judge writes given namespace) loaded_tried after_tried
      → LeavesOldOrNew (image_of matches) (AreExecutedBy judge (from_there contents before) matches) tried after_tried
  executed_leaves given tried loaded_tried after_tried namespace_is are same leaves =
      leaves_behind path (AreExecutedBy judge (from_there contents before) matches) (image_of matches) tried loaded_tried after_tried is_named same
      (leaves_weaker path (AreLeft judge writes given namespace) (AreExecutedBy judge (from_there contents before) matches) (λ bytes left. record {
        namespace = namespace;
        events = events;
        in_files = in_both namespace_is;
        left = subst (λ (list : List Event). AreLeft judge writes list namespace bytes) are left;
      }) loaded_tried after_tried leaves)
