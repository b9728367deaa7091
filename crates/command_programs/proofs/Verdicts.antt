-- What `verify` prints of a program whose bytes are known.
use Rattle.std.proofs.Common.{◌≡◌, ℕ, List, ◌++◌, Option, Some, None, Result, Ok, Err, OnOk, sym, subst, append-nil}
use Rattle.std.specs.Prelude.{codes}
use Rattle.std.specs.Io.KnownBytes.{Appends}
use Rattle.clap.specs.Matches.{found_of, first_value}
use Rattle.clap.specs.declared.parser.matches.ArgMatches.{ArgMatches}
use Rattle.accepted_programs.specs.Accepted.{refusal}
use Rattle.accepted_programs.specs.Emitted.{most_emitted}
use Rattle.accepted_programs.specs.declared.reason.Refusal.{Refusal}
use Rattle.instruction_set.specs.Program.{instruction_count}
use Rattle.instruction_set.specs.declared.instruction.Instruction.{Instruction}
use Rattle.interval_domain.specs.declared.fact.Fact.{Fact}
use Rattle.program_interface.specs.RunSizes.{Sizes, sizes_with}
use Rattle.word_domain.specs.Domain.{Operations}
use Rattle.command_files.specs.Arguments.{number_of}
use Rattle.command_programs.specs.Asked.{IsLimit, Spell}
use Rattle.command_files.specs.Profile.{operations_of, profile_number}
use Rattle.command_programs.specs.MakesProgram.{program_file_of}
use Rattle.command_programs.specs.Printed.{Judges, PrintsAcceptance, PrintsFirstRefusal, SaysAccepted, SaysRefused, accepted_line, form_of, refused_line}
use Rattle.command_files.specs.declared.profile.Profile.{Profile}
use Rattle.command_programs.specs.declared.verify.Form.{Form}
use Rattle.command_programs.specs.declared.verify.Form.TheVariants.{Json, Line, Worded}
use Rattle.command_programs.specs.steps.Verdict.{acceptance_text, refusal_text}

-- a text that says that a program is accepted was printed
prints_acceptance : (form : Form) (instructions emitted : ℕ) (words : List ℕ) (before after : Option (List ℕ))
    → Appends before after (acceptance_text form instructions emitted words) → PrintsAcceptance form instructions emitted before after
prints_acceptance Line instructions emitted words before after printed = printed
prints_acceptance (Worded explained facts) instructions emitted words before after printed = record {
  words = words;
  grows = subst (λ (t : List ℕ). Appends before after t) (sym (append-nil (accepted_line instructions ++ words))) printed;
}
prints_acceptance Json instructions emitted words before after printed = printed

-- a text that says that one is refused was printed
prints_refusal : (form : Form) (instructions : ℕ) (first : Refusal) (words : List ℕ) (before after : Option (List ℕ))
    → Appends before after (refusal_text form instructions first words) → PrintsFirstRefusal form instructions first before after
prints_refusal Line instructions first words before after printed = printed
prints_refusal (Worded explained facts) instructions first words before after printed = record {
  words = words;
  grows = subst (λ (t : List ℕ). Appends before after t) (sym (append-nil (refused_line first ++ words))) printed;
}
prints_refusal Json instructions first words before after printed = record { words = words; grows = printed }

module _ {D : Type 0} (operations : Operations D) (program : List (Option Instruction)) (sizes : Sizes) (form : Form) (instructions : ℕ)
    (words text : List ℕ) (before after : Option (List ℕ)) (counted : instructions ≡ instruction_count program) where
  -- that a program is accepted was printed
  pub says_accepted : {T E : Type 0} (result : Result T E) (emitted : ℕ) → refusal operations program sizes ≡ None
      → emitted ≡ most_emitted operations program sizes.block → text ≡ acceptance_text form instructions emitted words
      → OnOk result (Appends before after text) → OnOk result (SaysAccepted operations program sizes form before after)
  says_accepted (Err error) emitted accepted bounded is printed = tt
  says_accepted (Ok done) emitted accepted bounded is printed = record {
    accepted = accepted;
    printed = subst (λ (n : ℕ). PrintsAcceptance form n (most_emitted operations program sizes.block) before after) counted
        (subst (λ (n : ℕ). PrintsAcceptance form instructions n before after) bounded
        (prints_acceptance form instructions emitted words before after (subst (λ (t : List ℕ). Appends before after t) is printed)));
  }

  -- that it is refused was printed
  pub says_refused : (first : Refusal) → refusal operations program sizes ≡ Some first → text ≡ refusal_text form instructions first words
      → Appends before after text → SaysRefused operations program sizes form before after
  says_refused first refused is printed = record {
    first = first;
    refused = refused;
    printed = subst (λ (n : ℕ). PrintsFirstRefusal form n first before after) counted
        (prints_refusal form instructions first words before after (subst (λ (t : List ℕ). Appends before after t) is printed));
  }

-- a program was judged, which was decoded of the file that is asked for
pub judges : (Says : Operations Fact → List (Option Instruction) → Sizes → Form → Type 0) (matches : ArgMatches) (contents : List ℕ → Option (List ℕ))
    (path : List ℕ) (program : List (Option Instruction)) (block limit : ℕ) (sizes : Sizes) (profile : Profile) (form : Form)
    → path ≡ program_file_of matches
    → number_of matches (codes "block") ≡ Some block → IsLimit matches (first_value (found_of matches) (codes "emit")) limit → sizes_with block limit ≡ Some sizes
    → number_of matches (codes "profile") ≡ Some (profile_number profile) → form ≡ form_of matches → Spell (contents path) program
    → Says (operations_of profile) program sizes form
    → Judges Says matches (contents (program_file_of matches))
judges Says matches contents path program block limit sizes profile form is block_is limit_is sizes_is profile_is asked spelled says = record {
  program = program;
  spelled = subst (λ (p : List ℕ). Spell (contents p) program) is spelled;
  block = block;
  blocked = block_is;
  sizes = sizes;
  asked = record { limit = limit; limited = limit_is; fits = sizes_is };
  profile = profile;
  profiled = profile_is;
  says = subst (λ (f : Form). Says (operations_of profile) program sizes f) asked says;
}
