-- What a user is told of a text that can't be assembled (profile).
use Rattle.std.specs.Prelude.{ℕ, ◌≡◌, ◌-◌, List, [], slice_get, unwrap_or}
use Rattle.std.specs.Str.Lines.{lines}
use Rattle.ebpf_asm.specs.declared.fault.Fault.{Fault}
use Rattle.ebpf_asm.specs.declared.refusal.AssemblyRefusal.{AssemblyRefusal}
use Rattle.text_lines.specs.Cut.{trimmed}
use Rattle.text_lines.specs.Excerpt.{IsExcerptOf}

-- the line with this number without the blanks at its ends, or nothing where the text has no such line; of 0
-- it is the first
abbrev pub line_shown : ℕ → List ℕ → List ℕ
line_shown number text = trimmed (unwrap_or (slice_get (lines text) (number - 1)) [])

-- what is told of a text is this fault, and an excerpt of the line that has it
pub record IsRefusalOf (fault : Fault) (text : List ℕ) (refusal : AssemblyRefusal) : Type 0 where
  pub fault_told : refusal.fault ≡ fault
  pub line_told : IsExcerptOf (line_shown fault.line text) refusal.text
