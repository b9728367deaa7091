-- What an entry that is refused leaves, and which entries change slots.
use Rattle.std.proofs.Common.{◌≡◌, ℕ, Ok, refl, ap, inl, inr}
use Rattle.std.specs.Prelude.{◌⊎◌}
use Rattle.nvme_entry.specs.Entry.{decoded}
use Rattle.nvme_entry.specs.declared.command.Command.TheVariants as commands
use Rattle.nvme_entry.specs.declared.command.LoadCommand.{LoadCommand}
use Rattle.device_meaning.specs.Judging.{Judge}
use Rattle.zns_commands.specs.Meaning.{meaning}
use Rattle.zns_commands.proofs.Proved.{refused_commands_change_nothing, statuses_are_standard}
use Rattle.device_meaning.specs.EventReplies.{Happening, Submission, submission_of}
use Rattle.device_events.specs.Replies.{without_data}
use Rattle.device_meaning.specs.Laws.{IsAnswered}
use Rattle.pushdown.specs.Laws.{IsLoaded, OnlyLoadsChangeSlots, RefusedLeavesState}
use Rattle.device_meaning.specs.State.{State, holds_at, with_namespace}
use Rattle.device_events.specs.declared.reply.Reply.TheVariants as reply
use Rattle.device_meaning.proofs.Proved.{HoldsOfEach, of_entry, IsLoad}

module _ (judge : Judge) (sub : Submission) (s : State) where
  -- a run has begun, or the entry is answered
  abbrev IsReplied : Happening → Type 0
  IsReplied h = ((run : ℕ) × (h.reply ≡ without_data (reply.Pending run))) ⊎ IsAnswered s sub h

  -- each entry is replied to so
  replied : HoldsOfEach judge IsReplied sub s
  replied = record {
    unchanged = λ status output other.
        inr (record { status = status; code = other.code; dw0 = 0; dw1 = 0; output = output; is = refl; so = λ fails. refl });
    standard = λ c asked.
        let done = meaning s.namespace (holds_at s) c sub.input in
        inr (record {
          status = done.status;
          code = (statuses_are_standard s.namespace (holds_at s) c sub.input).code;
          dw0 = done.dw0;
          dw1 = done.dw1;
          output = done.output;
          is = refl;
          so = λ fails. ap (with_namespace s) (refused_commands_change_nothing s.namespace (holds_at s) c sub.input fails).namespace;
        });
    load = λ load h asked is. inr is.answered;
    start = λ command run asked is at. inl (run, refl);
  }

  -- ---- slots

  -- the slots stay, or a Load puts its program into one
  abbrev ChangesSlots : Happening → Type 0
  ChangesSlots h = (h.state.slots ≡ s.slots) ⊎ ((load : LoadCommand) × IsLoaded judge s sub load h)

  -- a Load that succeeds puts its program into its slot
  load_changes : (load : LoadCommand) (h : Happening) → decoded sub.entry ≡ Ok (commands.Load load) → IsLoad judge sub s load h
      → ChangesSlots h
  load_changes load h asked is = elim is.state [
    | inl same ↦ inl (ap (λ (t : State). t.slots) same)
    | inr takes ↦ elim is.succeeds [
      | inl same ↦ inl (ap (λ (t : State). t.slots) same)
      | inr reply ↦ inr (
        load,
        record {
          asked = asked;
          program = takes.program;
          accepted = takes.accepted;
          reply = reply;
          state = takes.taken;
        },
      )
    ]
  ]

  -- each entry changes slots only so
  changes_slots : HoldsOfEach judge ChangesSlots sub s
  changes_slots = record {
    unchanged = λ status output untrapped. inl refl;
    standard = λ c asked. inl refl;
    load = load_changes;
    start = λ command run asked is at. inl refl;
  }

module _ (judge : Judge) where
  pub refused_leaves_state : RefusedLeavesState judge
  refused_leaves_state s starved queue entry input =
      let sub = submission_of queue entry input in
      of_entry judge (IsReplied judge sub s) sub s (replied judge sub s) starved

  pub only_loads_change_slots : OnlyLoadsChangeSlots judge
  only_loads_change_slots s starved queue entry input =
      let sub = submission_of queue entry input in
      of_entry judge (ChangesSlots judge sub s) sub s (changes_slots judge sub s) starved
