-- What holds of each statement that a text is read as holds of each line.
use Rattle.std.proofs.Common.{ℕ, Bool, true, false, cond, eqb, List, [], ◌∷◌, length, map, Option, None, Result, Ok, Err}
use Rattle.std.specs.Prelude.{IfOk, IfSome}
use Rattle.std.specs.List.{AllByRecursion, list_all}
use Rattle.std.specs.Char.{is_ascii}
use Rattle.ebpf_asm.specs.declared.fault.FaultKind.{FaultKind}
use Rattle.ebpf_asm.specs.declared.fault.FaultKind.TheVariants.{NotAscii}
use Rattle.ebpf_asm.specs.Statement.{Statement, statement_of}
use Rattle.ebpf_asm.specs.Line.{Line, labelled, line_in, line_of, split_label, with_statement}
use Rattle.text_lines.specs.Cut.{cut_at, trimmed, uncommented}

-- it holds of a line's instruction and the label that it names, if the line has an instruction
abbrev pub LineHas : (Statement → Type 0) → Line → Type 0
LineHas P line = IfOk line.instruction (λ instruction. IfSome instruction (λ i. P (i, line.target)))

module _ (P : Statement → Type 0) (statement_has : (text : List ℕ) → IfOk (statement_of text) P) where
  with_has : (label : Option (List ℕ)) (read : Result Statement FaultKind) → IfOk read P → LineHas P (with_statement label read)
  with_has label (Ok (instruction, target)) h = h
  with_has label (Err kind) h = tt

  labelled_has : (label : Option (List ℕ)) (text : List ℕ) → LineHas P (labelled label text)
  labelled_has label text = by_length (eqb (length text) 0)
    where
      by_length : (b : Bool) → LineHas P (cond b (record { label = label; instruction = Ok None; target = None }) (with_statement label (statement_of text)))
      by_length true = tt
      by_length false = with_has label (statement_of text) (statement_has text)

  line_has : (bytes : List ℕ) → LineHas P (line_of bytes)
  unfolding line_of
  line_has bytes = by_ascii (list_all is_ascii bytes)
    where
      text : List ℕ
      text = trimmed (uncommented bytes)

      by_ascii : (b : Bool) → LineHas P (cond b (line_in text) (record { label = None; instruction = Err NotAscii; target = None }))
      by_ascii true = let parts = split_label text (cut_at 58 text) in labelled_has parts.0 (trimmed parts.1)
      by_ascii false = tt

  pub lines_have : (all : List (List ℕ)) → AllByRecursion (LineHas P) (map line_of all)
  lines_have [] = tt
  lines_have (bytes ∷ all) = (line_has bytes, lines_have all)
