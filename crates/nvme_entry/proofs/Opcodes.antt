-- Each opcode has one code.
use Rattle.std.proofs.Common.{◌≡◌, ℕ, ◌==◌, Bool, true, false, cond, List, [], ◌∷◌, Option, Some, None, refl, ap, ◌∙◌}
use Rattle.std.proofs.lemmas.Bool.{eqb-true}
use Rattle.nvme_entry.specs.Entry.{opcode_of}
use Rattle.nvme_entry.specs.declared.command.Opcode.{Opcode}
use Rattle.nvme_entry.specs.declared.command.Opcode.TheVariants as opcode

-- the code of an opcode
abbrev pub opcode_code : Opcode → ℕ
opcode_code opcode.Write = 0x01
opcode_code opcode.Read = 0x02
opcode_code opcode.ZoneManagementSend = 0x79
opcode_code opcode.ZoneManagementReceive = 0x7A
opcode_code opcode.ZoneAppend = 0x7D
opcode_code opcode.Run = 0xC0
opcode_code opcode.Load = 0xC1
opcode_code opcode.Result = 0xC2

-- all opcodes
abbrev opcodes : List Opcode
opcodes =
    opcode.Write ∷ opcode.Read ∷ opcode.ZoneManagementSend ∷ opcode.ZoneManagementReceive ∷ opcode.ZoneAppend
    ∷ opcode.Run ∷ opcode.Load ∷ opcode.Result ∷ []

-- the first of these opcodes that has the code
abbrev named_among : List Opcode → ℕ → Option Opcode
named_among [] code = None
named_among (o ∷ os) code = cond (code == opcode_code o) (Some o) (named_among os code)

told_by : (first o : Opcode) (others : Option Opcode) (n : ℕ) → (others ≡ Some o → n ≡ opcode_code o) → (test : Bool)
    → (n == opcode_code first) ≡ test → cond test (Some first) others ≡ Some o → n ≡ opcode_code o
told_by first o others n later true tested e =
    let same : first ≡ o = cc e in
    eqb-true n (opcode_code first) tested ∙ ap opcode_code same
told_by first o others n later false tested e = later e

told_among : (os : List Opcode) (n : ℕ) (o : Opcode) → named_among os n ≡ Some o → n ≡ opcode_code o
told_among [] n o e = absurd cc
told_among (first ∷ os) n o e = told_by first o (named_among os n) n (told_among os n o) (n == opcode_code first) refl e

-- an opcode has one code
pub code_told : (n : ℕ) (o : Opcode) → opcode_of n ≡ Some o → n ≡ opcode_code o
code_told n o is = told_among opcodes n o is
