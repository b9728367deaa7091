-- What a question's program reads of its memory, and what it stores there.
use Rattle.std.proofs.Common.{ℕ, zero, suc, pos, ◌+◌, ◌-◌, ◌<◌, ◌≤◌, ◌^◌, ◌%◌, ◌≡◌, true, List, length, take, drop, Some, refl, ap, ◌∙◌, subst, arith}
use Rattle.std.proofs.Math.Nat.{mod-eq_of_lt}
use Rattle.std.proofs.lemmas.Bool.{and_from, le-leb}
use Rattle.std.proofs.lemmas.List.{drop-drop, drop-take, take-take}
use Rattle.std.specs.Int.{w64, cast_unsigned}
use Rattle.std.specs.Prelude.{nat_le, neg_ℤ}
use Rattle.byteorder.specs.Endian.{big_number, little_bytes, little_number}
use Rattle.byteorder.specs.Numbers.{big_from-take, little_from-take}
use Rattle.common_definitions.specs.Bytes.{field, spliced}
use Rattle.program_interface.specs.Area.{address_of}
use Rattle.program_interface.specs.declared.area.Area.TheVariants.{Block, Context, Scratch, Stack}
use Rattle.program_interface.specs.declared.area.TheConstants.{CONTEXT_BYTES, SCRATCH_BYTES, STACK_BYTES}
use Rattle.instruction_set.specs.Instruction.{immediate_word, size_of}
use Rattle.instruction_set.specs.declared.operation.Size.{Size}
use Rattle.instruction_set.specs.declared.operation.Size.TheVariants.{DoubleWord}
use Rattle.program_meaning.proofs.Proved.{areas_are_apart}
use Rattle.program_meaning.specs.Effect.{bytes_at}
use Rattle.program_meaning.specs.Memory.{Memory, area_offset_of, bytes_from, lies_in, loaded, stored, stored_at, truncated}
use Rattle.record_questions.specs.declared.question.ByteOrder.{ByteOrder}
use Rattle.record_questions.specs.declared.question.ByteOrder.TheVariants.{Little, Big}
use Rattle.record_questions.specs.Question.{number_of}

module _ (m : Memory) (short : length m.block < 2 ^ 32) (k n : ℕ) (inside : k + n ≤ length m.block) where
  lies : lies_in (length m.block) Block (address_of Block + k) n ≡ true
  lies = and_from (nat_le (address_of Block) (address_of Block + k)) (nat_le (address_of Block + k + n) (address_of Block + length m.block))
      (le-leb (address_of Block) (address_of Block + k) (omega arith))
      (le-leb (address_of Block + k + n) (address_of Block + length m.block) (omega arith))

  there : bytes_from m (area_offset_of (length m.block) (address_of Block + k) n) ≡ drop k m.block
  there =
      let e : address_of Block + k - address_of Block ≡ k = omega arith in
      ap (bytes_from m) (areas_are_apart (length m.block) Block (address_of Block + k) n short lies)
      ∙ ap (λ (o : ℕ). drop o m.block) e

  pub address_is : (address_of Block + k) % 2 ^ 64 ≡ address_of Block + k
  address_is = mod-eq_of_lt (omega arith)

  pub loaded_is : loaded m ((address_of Block + k) % 2 ^ 64) n ≡ little_number n (drop k m.block)
  loaded_is = rw address_is (ap (little_number n) there)

  pub emitted_is : bytes_at m (address_of Block + k) n ≡ take n (drop k m.block)
  emitted_is = ap (take n) there

-- what it reads of scratch, and what a store leaves there
module _ (m : Memory) (short : length m.block < 2 ^ 32) (k : ℕ) (inside : k + 8 ≤ SCRATCH_BYTES) where
  scratch_lies : lies_in (length m.block) Scratch (address_of Scratch + k) 8 ≡ true
  scratch_lies = and_from (nat_le (address_of Scratch) (address_of Scratch + k)) (nat_le (address_of Scratch + k + 8) (address_of Scratch + SCRATCH_BYTES))
      (le-leb (address_of Scratch) (address_of Scratch + k) (omega arith))
      (le-leb (address_of Scratch + k + 8) (address_of Scratch + SCRATCH_BYTES) (omega arith))

  scratch_address : (address_of Scratch + k) % 2 ^ 64 ≡ address_of Scratch + k
  scratch_address = mod-eq_of_lt (omega arith)

  scratch_there : area_offset_of (length m.block) ((address_of Scratch + k) % 2 ^ 64) 8 ≡ Some (record { area = Scratch; offset = k })
  scratch_there =
      let e : address_of Scratch + k - address_of Scratch ≡ k = omega arith in
      rw scratch_address (areas_are_apart (length m.block) Scratch (address_of Scratch + k) 8 short scratch_lies
      ∙ ap (λ (o : ℕ). Some (record { area = Scratch; offset = o })) e)

  pub scratch_loaded_is : loaded m ((address_of Scratch + k) % 2 ^ 64) 8 ≡ field m.scratch k 8
  scratch_loaded_is = ap (λ o. little_number 8 (bytes_from m o)) scratch_there

  pub scratch_stored_is : (word : ℕ) → stored m ((address_of Scratch + k) % 2 ^ 64) DoubleWord word ≡ record m { scratch = spliced k (little_bytes 8 word) m.scratch }
  scratch_stored_is word = ap (λ o. stored_at m o (little_bytes 8 word)) scratch_there

-- an address so many bytes before the end of the stack
back : (k : ℕ) → suc k ≤ STACK_BYTES
    → (address_of Stack + STACK_BYTES + (2 ^ 64 - suc k)) % 2 ^ 64 ≡ address_of Stack + (STACK_BYTES - suc k)
back k room = omega (arith, room)

stored_back : (left : ℕ) → left ≤ STACK_BYTES
    → (address_of Stack + STACK_BYTES + cast_unsigned w64 (neg_ℤ (pos left))) % 2 ^ 64 ≡ address_of Stack + (STACK_BYTES - left)
stored_back zero room = refl
stored_back (suc k) room = back k room

pub stack_end_is : (left : ℕ) → left ≤ STACK_BYTES
    → (address_of Stack + STACK_BYTES + immediate_word (neg_ℤ (pos left))) % 2 ^ 64 ≡ address_of Stack + (STACK_BYTES - left)
stack_end_is zero room = refl
stack_end_is (suc k) room =
    let same : (2 ^ 64 - suc k) % 2 ^ 64 ≡ 2 ^ 64 - suc k = omega (arith, room) in
    ap (λ (n : ℕ). (address_of Stack + STACK_BYTES + n) % 2 ^ 64) same ∙ back k room

-- what a store leaves on the stack, and what is emitted of it
module _ (m : Memory) (short : length m.block < 2 ^ 32) (left n : ℕ) (room : left ≤ STACK_BYTES) (inside : n ≤ left) where
  stack_lies : lies_in (length m.block) Stack (address_of Stack + (STACK_BYTES - left)) n ≡ true
  stack_lies = and_from (nat_le (address_of Stack) (address_of Stack + (STACK_BYTES - left)))
      (nat_le (address_of Stack + (STACK_BYTES - left) + n) (address_of Stack + STACK_BYTES))
      (le-leb (address_of Stack) (address_of Stack + (STACK_BYTES - left)) (omega arith))
      (le-leb (address_of Stack + (STACK_BYTES - left) + n) (address_of Stack + STACK_BYTES) (omega (arith, room, inside)))

  stack_there : area_offset_of (length m.block) (address_of Stack + (STACK_BYTES - left)) n ≡ Some (record { area = Stack; offset = STACK_BYTES - left })
  stack_there =
      let e : address_of Stack + (STACK_BYTES - left) - address_of Stack ≡ STACK_BYTES - left = omega arith in
      areas_are_apart (length m.block) Stack (address_of Stack + (STACK_BYTES - left)) n short stack_lies
      ∙ ap (λ (o : ℕ). Some (record { area = Stack; offset = o })) e

pub stacked_stored_is : (m : Memory) → length m.block < 2 ^ 32 → (left : ℕ) (s : Size) → left ≤ STACK_BYTES → size_of s ≤ left → (word : ℕ)
    → stored m ((address_of Stack + STACK_BYTES + cast_unsigned w64 (neg_ℤ (pos left))) % 2 ^ 64) s word
    ≡ record m { stack = spliced (STACK_BYTES - left) (little_bytes (size_of s) (truncated s word)) m.stack }
stacked_stored_is m short left s room inside word =
    ap (λ a. stored m a s word) (stored_back left room)
    ∙ ap (λ o. stored_at m o (little_bytes (size_of s) (truncated s word))) (stack_there m short left (size_of s) room inside)

pub stacked_is : (m : Memory) → length m.block < 2 ^ 32 → (size : ℕ) → size ≤ STACK_BYTES
    → bytes_at m (address_of Stack + (STACK_BYTES - size)) size ≡ take size (drop (STACK_BYTES - size) m.stack)
stacked_is m short size room = ap (λ o. take size (bytes_from m o)) (stack_there m short size size room (omega arith))

-- what it reads of the context
module _ (m : Memory) (short : length m.block < 2 ^ 32) (k n : ℕ) (inside : k + n ≤ CONTEXT_BYTES) where
  context_lies : lies_in (length m.block) Context (address_of Context + k) n ≡ true
  context_lies = and_from (nat_le (address_of Context) (address_of Context + k)) (nat_le (address_of Context + k + n) (address_of Context + CONTEXT_BYTES))
      (le-leb (address_of Context) (address_of Context + k) (omega arith))
      (le-leb (address_of Context + k + n) (address_of Context + CONTEXT_BYTES) (omega arith))

  pub context_loaded_is : loaded m ((address_of Context + k) % 2 ^ 64) n ≡ field m.context k n
  context_loaded_is =
      let address : (address_of Context + k) % 2 ^ 64 ≡ address_of Context + k = mod-eq_of_lt (omega arith) in
      let e : address_of Context + k - address_of Context ≡ k = omega arith in
      rw address (ap (λ o. little_number n (bytes_from m o)) (areas_are_apart (length m.block) Context (address_of Context + k) n short context_lies)
      ∙ ap (λ (o : ℕ). little_number n (drop o m.context)) e)

-- the bytes of the record at a byte, from one on, as far as they are looked at
module _ (bytes : List ℕ) (byte offset n size : ℕ) (inside : offset + n ≤ size) where
  record_bytes : drop offset (take size (drop byte bytes)) ≡ take (size - offset) (drop (byte + offset) bytes)
  record_bytes =
      let e : offset + (size - offset) ≡ size = omega arith in
      subst (λ k. drop offset (take k (drop byte bytes)) ≡ take (size - offset) (drop (byte + offset) bytes)) e
      (drop-take offset (size - offset) (drop byte bytes) ∙ ap (take (size - offset)) (drop-drop offset byte bytes))

  pub number_is : (order : ByteOrder) → number_of order n (drop offset (take size (drop byte bytes))) ≡ number_of order n (drop (byte + offset) bytes)
  number_is Little = ap (little_number n) record_bytes ∙ little_from-take 0 n (size - offset) (drop (byte + offset) bytes) (omega arith)
  number_is Big = ap (big_number n) record_bytes ∙ big_from-take 0 n (size - offset) (drop (byte + offset) bytes) (omega arith)

  pub cut_is : take n (drop offset (take size (drop byte bytes))) ≡ take n (drop (byte + offset) bytes)
  cut_is = ap (take n) record_bytes ∙ take-take n (size - offset) (drop (byte + offset) bytes) (omega arith)
