-- The value of a field in bytes that were cut from a record.
use Rattle.std.proofs.Common.{◌≡◌, ℕ, ℤ, ◌+◌, ◌-◌, ◌≤◌, List, length, length-drop, take, drop, to_z, of_z, FitsSigned, ap, subst, sym, ◌∙◌, arith}
use Rattle.std.proofs.lemmas.Int.{to_z-of_z}
use Rattle.std.specs.Int.{w128}
use Rattle.std.proofs.lemmas.List.{drop-drop, drop-take, length-take, take_all}
use Rattle.byteorder.specs.Endian.{big_number, little_number}
use Rattle.byteorder.specs.Numbers.{big_from-take, little_from-take}
use Rattle.instruction_set.specs.Instruction.{size_of}
use Rattle.record_questions.specs.Question.{number_of, signed_by, value_of}
use Rattle.record_questions.specs.declared.question.ByteOrder.{ByteOrder}
use Rattle.record_questions.specs.declared.question.ByteOrder.TheVariants.{Little, Big}
use Rattle.record_questions.specs.declared.question.Field.{Field}
use Rattle.command_query.specs.Cells.{IsValueIn}

module _ (bytes : List ℕ) (from offset n size : ℕ) (inside : offset + n ≤ size) where
  cut_bytes : drop offset (take size (drop from bytes)) ≡ take (size - offset) (drop (from + offset) bytes)
  cut_bytes =
      let e : offset + (size - offset) ≡ size = omega arith in
      subst (λ k. drop offset (take k (drop from bytes)) ≡ take (size - offset) (drop (from + offset) bytes)) e
      (drop-take offset (size - offset) (drop from bytes) ∙ ap (take (size - offset)) (drop-drop offset from bytes))

  pub number_is : (order : ByteOrder) → number_of order n (drop offset (take size (drop from bytes))) ≡ number_of order n (drop (from + offset) bytes)
  number_is Little = ap (little_number n) cut_bytes ∙ little_from-take 0 n (size - offset) (drop (from + offset) bytes) (omega arith)
  number_is Big = ap (big_number n) cut_bytes ∙ big_from-take 0 n (size - offset) (drop (from + offset) bytes) (omega arith)

-- what the bytes spell is the value that the record has
value_in_bytes : (from : ℕ) (f : Field) (bytes : List ℕ) (number : ℤ) → from ≤ f.offset → f.offset - from + size_of f.size ≤ length bytes
    → number ≡ signed_by f.sign (size_of f.size) (number_of f.order (size_of f.size) (drop (f.offset - from) bytes))
    → IsValueIn from f bytes number
value_in_bytes from f bytes number at lies is r size e =
    let inside : f.offset - from + size_of f.size ≤ size = omega (arith, ap length e, length-take size (drop from r)) in
    let there : from + (f.offset - from) ≡ f.offset = omega arith in
    is ∙ ap (λ (b : List ℕ). signed_by f.sign (size_of f.size) (number_of f.order (size_of f.size) (drop (f.offset - from) b))) e
    ∙ ap (signed_by f.sign (size_of f.size)) (number_is r from (f.offset - from) (size_of f.size) size inside f.order
    ∙ ap (λ (k : ℕ). number_of f.order (size_of f.size) (drop k r)) there)

-- the same of all bytes from the field's first on, as they are passed
pub value_in : (from first : ℕ) (f : Field) (bytes : List ℕ) (number : ℤ) → FitsSigned w128 number → from ≤ f.offset → first ≡ f.offset - from
    → first + size_of f.size ≤ length bytes
    → number ≡ signed_by f.sign (size_of f.size) (number_of f.order (size_of f.size) (take (length bytes - first) (drop first bytes)))
    → IsValueIn from f bytes (to_z w128 (of_z w128 number))
value_in from first f bytes number fits at there lies is =
    let whole : take (length bytes - first) (drop first bytes) ≡ drop first bytes =
    take_all (length bytes - first) (drop first bytes) (omega (arith, length-drop first bytes)) in
    let spelled : number ≡ signed_by f.sign (size_of f.size) (number_of f.order (size_of f.size) (drop (f.offset - from) bytes)) =
    is ∙ ap (λ (b : List ℕ). signed_by f.sign (size_of f.size) (number_of f.order (size_of f.size) b)) (whole ∙ ap (λ (k : ℕ). drop k bytes) there) in
    subst (IsValueIn from f bytes) (sym (to_z-of_z w128 number fits)) (value_in_bytes from f bytes number at (omega arith) spelled)
