-- Statements and lines as the definitions see them: without where their bytes lie in memory.
use Rattle.std.specs.Prelude.{List, map, option_copied, Result}
use Rattle.std.specs.Result.{result_map_both}
use Rattle.ebpf_asm.specs.declared.fault.FaultKind.{FaultKind}
use Rattle.ebpf_asm.specs.declared.line.Line.{Line}
use Rattle.ebpf_asm.specs.declared.statement.Statement.{Statement}
use Rattle.ebpf_asm.specs.Line as lines
use Rattle.ebpf_asm.specs.Statement as statements

-- a statement, with its target as bytes alone, or what is wrong with it
abbrev pub statement_view : Result Statement FaultKind → Result statements.Statement FaultKind
statement_view result = result_map_both (λ statement. (statement.instruction, option_copied statement.target)) (λ fault. fault) result

-- a line, with its label and its target as bytes alone
abbrev pub line_view : Line → lines.Line
line_view line = record { label = option_copied line.label; instruction = line.instruction; target = option_copied line.target }

-- each of these lines so
abbrev pub line_views : List Line → List lines.Line
line_views all = map line_view all
