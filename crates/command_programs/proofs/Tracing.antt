-- What `trace` prints step by step.
use Rattle.std.proofs.Common.{◌≡◌, ℕ, suc, ◌+◌, ◌-◌, ◌<◌, ◌≤◌, Bool, false, List, ◌++◌, length, Option, Some, IfSome, Result, Ok, Err, OnOk, refl, sym, ap, ◌∙◌, subst, arith, append-nil, append_assoc}
use Rattle.std.specs.Prelude.{codes}
use Rattle.std.specs.List.{flat_map}
use Rattle.std.specs.Io.KnownBytes.{Appends}
use Rattle.std.proofs.KnownBytes.{Appends-trans}
use Rattle.clap.specs.Matches.{found_of, first_value}
use Rattle.clap.specs.declared.parser.matches.ArgMatches.{ArgMatches}
use Rattle.instruction_set.specs.Program.{instruction_at}
use Rattle.instruction_set.specs.declared.instruction.Instruction.{Instruction}
use Rattle.interp.specs.StepEnds.{Steps}
use Rattle.program_interface.specs.RunSizes.{Sizes, sizes_with}
use Rattle.program_meaning.specs.BlockRun.{block_run_of, continued}
use Rattle.program_meaning.specs.State.{State}
use Rattle.program_meaning.specs.Step.{StepEnd, Goes, Ends, Stuck, step_at}
use Rattle.program_meaning.specs.declared.cause.Cause.{Cause}
use Rattle.command_files.specs.Arguments.{number_of}
use Rattle.command_programs.specs.Asked.{IsLimit, Spell, is_set}
use Rattle.command_programs.specs.MakesProgram.{program_file_of}
use Rattle.command_programs.specs.Traced.{PrintsTrace, block_file_of, executed, executed_on, exit_line, first_and_only, line_of_end, lines_behind, slot_line, trace_lines, trap_line}

module _ (program : List (Option Instruction)) (limit : ℕ) where
  -- the lines of what a step comes to, with those of what is behind it
  abbrev lines_on : ℕ → ℕ → State → Option StepEnd → List ℕ
  lines_on fuel n s end =
      flat_map slot_line (executed_on s.slot (λ next. executed program limit fuel next) end)
      ++ line_of_end (continued n s (λ next. block_run_of program limit fuel (n + 1) next) end)

  -- one step and what is behind it
  begins : (fuel n : ℕ) (s : State) → lines_behind program limit (suc fuel) n s ≡ lines_on fuel n s (step_at program limit s (instruction_at program s.slot))
  unfolding executed block_run_of
  begins fuel n s = refl

  first : (fuel step n : ℕ) (s : State) (end : StepEnd) → step < fuel → Steps program limit s end
      → lines_behind program limit (fuel - step) n s ≡ lines_on (fuel - (step + 1)) n s (Some end)
  first fuel step n s end below is =
      let left : fuel - step ≡ suc (fuel - (step + 1)) = omega (arith, below) in
      ap (λ (k : ℕ). lines_behind program limit k n s) left ∙ begins (fuel - (step + 1)) n s
      ∙ ap (λ (found : Option StepEnd). lines_on (fuel - (step + 1)) n s found) (sym is)

  -- what was printed with what is left to print is the whole
  module _ (fuel step n : ℕ) (s : State) (printed whole : List ℕ) (below : step < fuel) (is : printed ++ lines_behind program limit (fuel - step) n s ≡ whole) where
    goes_on : (next : State) → Steps program limit s (Goes next) → (printed ++ slot_line s.slot) ++ lines_behind program limit (fuel - (step + 1)) (n + 1) next ≡ whole
    goes_on next steps =
        let rest = fuel - (step + 1) in
        append_assoc printed (slot_line s.slot) (lines_behind program limit rest (n + 1) next)
        ∙ ap (λ (t : List ℕ). printed ++ t) (sym (append_assoc (slot_line s.slot) (flat_map slot_line (executed program limit rest next)) (line_of_end (block_run_of program limit rest (n + 1) next))))
        ∙ ap (λ (t : List ℕ). printed ++ t) (sym (first fuel step n s (Goes next) below steps)) ∙ is

    ends : (r0 : ℕ) (last : State) → Steps program limit s (Ends r0 last) → printed ++ (slot_line s.slot ++ exit_line r0 (n + 1) last.group) ≡ whole
    ends r0 last steps = ap (λ (t : List ℕ). printed ++ t) (ap (λ (t : List ℕ). t ++ exit_line r0 (n + 1) last.group) (sym (append-nil (slot_line s.slot))) ∙ sym (first fuel step n s (Ends r0 last) below steps)) ∙ is

    sticks : (slot : ℕ) (cause : Cause) (last : State) → Steps program limit s (Stuck slot cause last) → printed ++ trap_line slot cause ≡ whole
    sticks slot cause last steps = ap (λ (t : List ℕ). printed ++ t) (sym (first fuel step n s (Stuck slot cause last) below steps)) ∙ is

  -- no fuel is left
  runs_out : (fuel step n : ℕ) (s : State) (printed whole : List ℕ) → step ≤ fuel → fuel ≤ step
      → printed ++ lines_behind program limit (fuel - step) n s ≡ whole → printed ++ codes "fuel\n" ≡ whole
  unfolding executed block_run_of
  runs_out fuel step n s printed whole most least is =
      let left : 0 ≡ fuel - step = omega (arith, most, least) in
      ap (λ (k : ℕ). printed ++ lines_behind program limit k n s) left ∙ is

-- a stream grew by lines that, with those of what is left of a block run, are the whole
abbrev pub HasPrinted : List (Option Instruction) → ℕ → ℕ → ℕ → State → List ℕ → Option (List ℕ) → Option (List ℕ) → Type 0
HasPrinted program limit fuel n s whole old new = (printed : List ℕ) × Appends old new printed × (printed ++ lines_behind program limit fuel n s ≡ whole)

module _ (program : List (Option Instruction)) (limit fuel step n : ℕ) (s : State) (whole : List ℕ) (old now : Option (List ℕ)) (below : step < fuel)
    (so_far : HasPrinted program limit (fuel - step) n s whole old now) where
  -- a step was taken, and its line was printed
  pub step_printed : (m slot : ℕ) (next : State) (new : Option (List ℕ)) → m ≡ n + 1 → slot ≡ s.slot → Steps program limit s (Goes next)
      → Appends now new (slot_line slot) → HasPrinted program limit (fuel - (step + 1)) m next whole old new
  step_printed m slot next new counted stands steps line = (
    so_far.0 ++ slot_line slot,
    Appends-trans old now new so_far.0 (slot_line slot) so_far.1 line,
    ap (λ (k : ℕ). (so_far.0 ++ slot_line k) ++ lines_behind program limit (fuel - (step + 1)) m next) stands
        ∙ ap (λ (k : ℕ). (so_far.0 ++ slot_line s.slot) ++ lines_behind program limit (fuel - (step + 1)) k next) counted
        ∙ goes_on program limit fuel step n s so_far.0 whole below so_far.2 next steps,
  )

  -- EXIT was executed, and its line and that of the end were printed
  pub exit_printed : (m slot r0 : ℕ) (last : State) (group : List ℕ) (between new : Option (List ℕ)) → m ≡ n + 1 → slot ≡ s.slot → group ≡ last.group
      → Steps program limit s (Ends r0 last) → Appends now between (slot_line slot) → Appends between new (exit_line r0 m group) → Appends old new whole
  exit_printed m slot r0 last group between new counted stands grouped steps line end =
      subst (λ (t : List ℕ). Appends old new t)
      (append_assoc so_far.0 (slot_line slot) (exit_line r0 m group)
      ∙ ap (λ (k : ℕ). so_far.0 ++ (slot_line k ++ exit_line r0 m group)) stands
      ∙ ap (λ (k : ℕ). so_far.0 ++ (slot_line s.slot ++ exit_line r0 k group)) counted
      ∙ ap (λ (g : List ℕ). so_far.0 ++ (slot_line s.slot ++ exit_line r0 (n + 1) g)) grouped
      ∙ ends program limit fuel step n s so_far.0 whole below so_far.2 r0 last steps)
      (Appends-trans old between new (so_far.0 ++ slot_line slot) (exit_line r0 m group)
      (Appends-trans old now between so_far.0 (slot_line slot) so_far.1 line) end)

  -- an instruction can't be done, and the line of the end was printed
  pub trap_printed : (slot : ℕ) (cause : Cause) (last : State) (new : Option (List ℕ)) → Steps program limit s (Stuck slot cause last)
      → Appends now new (trap_line slot cause) → Appends old new whole
  trap_printed slot cause last new steps end =
      subst (λ (t : List ℕ). Appends old new t) (sticks program limit fuel step n s so_far.0 whole below so_far.2 slot cause last steps)
      (Appends-trans old now new so_far.0 (trap_line slot cause) so_far.1 end)

-- no fuel is left, and this was printed
pub fuel_printed : (program : List (Option Instruction)) (limit fuel step n : ℕ) (s : State) (whole : List ℕ) (old now new : Option (List ℕ)) → step ≤ fuel → fuel ≤ step
    → HasPrinted program limit (fuel - step) n s whole old now → Appends now new (codes "fuel\n") → Appends old new whole
fuel_printed program limit fuel step n s whole old now new most least so_far end =
    subst (λ (t : List ℕ). Appends old new t) (runs_out program limit fuel step n s so_far.0 whole most least so_far.2)
    (Appends-trans old now new so_far.0 (codes "fuel\n") so_far.1 end)

-- the lines of a block run were printed, of a program and a block that were read of the files that are asked for
pub prints_trace : {T E : Type 0} (result : Result T E) (matches : ArgMatches) (contents then : List ℕ → Option (List ℕ)) (path named file slice : List ℕ)
    (program : List (Option Instruction)) (size limit argument fuel : ℕ) (sizes : Sizes) (registers : Bool) (before after : Option (List ℕ))
    → path ≡ program_file_of matches → named ≡ block_file_of matches → then ≡ contents → Spell (contents path) program
    → IfSome (then named) (λ bytes. file ≡ bytes) → slice ≡ file → size ≡ length file → sizes_with size limit ≡ Some sizes
    → IsLimit matches (first_value (found_of matches) (codes "emit")) limit → number_of matches (codes "argument") ≡ Some argument
    → number_of matches (codes "fuel") ≡ Some fuel → registers ≡ is_set matches (codes "registers")
    → OnOk result (registers ≡ false → Appends before after (trace_lines program sizes.limit fuel (first_and_only slice sizes.block argument)))
    → OnOk result (PrintsTrace matches contents before after)
prints_trace (Err error) matches contents then path named file slice program size limit argument fuel sizes registers before after is is_block same spelled held slice_is sized fits limited argued fuelled asked printed = tt
prints_trace (Ok done) matches contents then path named file slice program size limit argument fuel sizes registers before after is is_block same spelled held slice_is sized fits limited argued fuelled asked printed = record {
  program = program;
  spelled = subst (λ (p : List ℕ). Spell (contents p) program) is spelled;
  block = file;
  held = subst (λ (p : List ℕ). IfSome (contents p) (λ bytes. file ≡ bytes)) is_block
      (subst (λ (c : List ℕ → Option (List ℕ)). IfSome (c named) (λ bytes. file ≡ bytes)) same held);
  sizes = sizes;
  sized = record { limit = limit; limited = limited; fits = subst (λ (n : ℕ). sizes_with n limit ≡ Some sizes) sized fits };
  argument = argument;
  argued = argued;
  fuel = fuel;
  fuelled = fuelled;
  printed = λ none. subst (λ (block : List ℕ). Appends before after (trace_lines program sizes.limit fuel (first_and_only block sizes.block argument))) slice_is (printed (asked ∙ none));
}
