-- The block run that is next.
use Rattle.std.proofs.Common.{◌≡◌, ℕ, ◌+◌, List, Option, ap, ◌∙◌}
use Rattle.instruction_set.specs.declared.instruction.Instruction.{Instruction}
use Rattle.program_interface.specs.Context.{context_bytes}
use Rattle.program_interface.specs.declared.context.Context.{Context}
use Rattle.image_store.specs.Namespace.{ZonedNamespace}
use Rattle.device_meaning.specs.View.{Active}
use Rattle.device_meaning.specs.BlockRuns.{block_run_over}
use Rattle.runner.specs.steps.Turning.{next_block, next_block_run}

-- what a run is told of the block that is next
abbrev next_context : ZonedNamespace → Active → Context
next_context ns a = record {
  lba = a.command.lba + a.so_far.index;
  index = a.so_far.index;
  count = a.command.blocks;
  block = ns.block;
  argument = a.command.argument;
}

module _ (ns : ZonedNamespace) (program : List (Option Instruction)) (limit : ℕ) (a : Active) where
  pub told_is : (context : List ℕ) (from count block : ℕ) → from ≡ a.so_far.index → count ≡ a.command.blocks → block ≡ ns.block
      → context ≡ context_bytes (record { lba = a.command.lba + from; index = a.so_far.index; count = count; block = block; argument = a.command.argument })
      → context ≡ context_bytes (next_context ns a)
  told_is context from count block is_from is_count is_block is =
      is
      ∙ ap (λ (n : ℕ). context_bytes (record { lba = a.command.lba + n; index = a.so_far.index; count = count; block = block; argument = a.command.argument })) is_from
      ∙ ap (λ (n : ℕ). context_bytes (record { lba = a.command.lba + a.so_far.index; index = a.so_far.index; count = n; block = block; argument = a.command.argument })) is_count
      ∙ ap (λ (n : ℕ). context_bytes (record { lba = a.command.lba + a.so_far.index; index = a.so_far.index; count = a.command.blocks; block = n; argument = a.command.argument })) is_block

  pub run_is : (bytes context : List ℕ) → bytes ≡ next_block ns a → context ≡ context_bytes (next_context ns a)
      → block_run_over program limit bytes context a.so_far.scratch ≡ next_block_run ns program limit a
  run_is bytes context is_next is_told =
      ap (λ (bytes : List ℕ). block_run_over program limit bytes context a.so_far.scratch) is_next
      ∙ ap (λ (context : List ℕ). block_run_over program limit (next_block ns a) context a.so_far.scratch) is_told
