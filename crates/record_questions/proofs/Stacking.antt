-- What a block run does to emit ranges of a record: it puts them together on the stack.
use Rattle.std.proofs.Common.{ℕ, pos, ◌+◌, ◌-◌, ◌*◌, ◌<◌, ◌≤◌, ◌^◌, ◌%◌, ◌≡◌, List, [], ◌∷◌, ◌++◌, length, take, drop, refl, sym, ap, ◌∙◌, subst, arith, append_assoc, length-append, length-take, length-drop}
use Rattle.std.proofs.Math.Nat.{mod-eq_of_lt}
use Rattle.std.proofs.lemmas.List.{append-nil, drop-append-le, drop-drop, drop-take, take-append-drop, take-append-le, take-take, take_all}
use Rattle.std.specs.Prelude.{neg_ℤ}
use Rattle.byteorder.specs.Endian.{little_bytes, little_number}
use Rattle.common_definitions.proofs.Proved.{bytes_from, front_spelled, length-spliced}
use Rattle.common_definitions.specs.Bytes.{AreBytes, spliced}
use Rattle.instruction_set.specs.Instruction.{immediate_word, size_of}
use Rattle.instruction_set.specs.declared.instruction.Instruction.TheVariants.{Arithmetic, Call, StoreRegister}
use Rattle.instruction_set.specs.declared.instruction.Source.TheVariants.{Immediate, Register}
use Rattle.instruction_set.specs.declared.operation.Operation.TheVariants.{Add, Move}
use Rattle.instruction_set.specs.declared.operation.Size.{Size}
use Rattle.instruction_set.specs.declared.operation.Size.TheVariants.{Byte, HalfWord, Word, DoubleWord}
use Rattle.instruction_set.specs.declared.operation.Width.TheVariants.{Bits64}
use Rattle.program_interface.specs.Area.{address_of}
use Rattle.program_interface.specs.Frame.{frame}
use Rattle.program_interface.specs.declared.area.Area.TheVariants.{Stack}
use Rattle.program_interface.specs.declared.area.TheConstants.{STACK_BYTES}
use Rattle.program_interface.specs.declared.frame.TheConstants.{EMIT}
use Rattle.program_meaning.specs.Effect.{bytes_at}
use Rattle.program_meaning.specs.Memory.{Memory, truncated}
use Rattle.record_questions.proofs.Accesses.{cut_is, stack_end_is, stacked_is, stacked_stored_is}
use Rattle.record_questions.proofs.ChunkSizes.{total, total_is}
use Rattle.record_questions.proofs.Course.{At, ComesTo, Course, Fourth, Temporaries, between, load_comes, moved}
use Rattle.record_questions.proofs.Numbers.{number_fits}
use Rattle.record_questions.proofs.Reaching.{goes}
use Rattle.record_questions.proofs.Standing.{Stands, back_stands, front_stands, slot_count-append}
use Rattle.record_questions.proofs.Tests.{Comes}
use Rattle.record_questions.specs.declared.question.ByteOrder.TheVariants.{Little}
use Rattle.record_questions.specs.declared.question.ByteRange.{ByteRange}
use Rattle.record_questions.specs.Asked.{AreRanges, emitted_bytes}
use Rattle.record_questions.specs.Code.{chunk_sizes, copies_code, copy_code, emit_stacked_code, emitted_code, emitted_slots, ranges_code, ranges_slots, slot_count, stacked_code}
use Rattle.record_questions.specs.Question.{bytes_in, cut}

-- ---- how many slots it takes

copies_slots_are : (ss : List Size) (from left : ℕ) → slot_count (copies_code from left ss) ≡ 2 * length ss
copies_slots_are [] from left = refl
copies_slots_are (s ∷ ss) from left =
    let rest = copies_slots_are ss (from + size_of s) (left - size_of s) in
    omega (arith, rest)

ranges_slots_are : (ranges : List ByteRange) (byte left : ℕ) → slot_count (ranges_code byte left ranges) ≡ ranges_slots ranges
ranges_slots_are [] byte left = refl
ranges_slots_are (range ∷ ranges) byte left =
    let a = copies_slots_are (chunk_sizes range.size) (byte + range.offset) left in
    let b = ranges_slots_are ranges byte (left - range.size) in
    let copies = copies_code (byte + range.offset) left (chunk_sizes range.size) in
    omega (arith, a, b, slot_count-append copies (ranges_code byte (left - range.size) ranges))

pub emitted_slots_are : (byte : ℕ) (ranges : List ByteRange) → slot_count (emitted_code byte ranges) ≡ emitted_slots ranges
emitted_slots_are byte [] = refl
emitted_slots_are byte (range ∷ []) = refl
emitted_slots_are byte (first ∷ second ∷ more) =
    let ranges = first ∷ second ∷ more in
    let size = emitted_bytes ranges in
    let a = ranges_slots_are ranges byte size in
    omega (arith, a, slot_count-append (ranges_code byte size ranges) (emit_stacked_code size))

-- ---- bytes

-- so many, and more
both_taken : (n m : ℕ) (xs : List ℕ) → take (n + m) xs ≡ take n xs ++ take m (drop n xs)
both_taken n m xs =
    let front : take n (take (n + m) xs) ≡ take n xs = take-take n (n + m) xs (omega arith) in
    sym (take-append-drop n (take (n + m) xs))
    ∙ (ap (λ zs. zs ++ drop n (take (n + m) xs)) front ∙ ap (λ zs. take n xs ++ zs) (drop-take n m xs))

-- where bytes are put after others, these are kept
kept_and_put : (k n : ℕ) (ys old : List ℕ) → k + n + length ys ≤ length old
    → take (n + length ys) (drop k (spliced (k + n) ys old)) ≡ take n (drop k old) ++ ys
kept_and_put k n ys old room =
    let a = take (k + n) old in
    let rest = drop (k + n + length ys) old in
    let xs = take n (drop k old) in
    let long : length a ≡ k + n = omega (arith, length-take (k + n) old, room) in
    let few : length (xs ++ ys) ≡ n + length ys = omega (arith, length-take n (drop k old), length-drop k old, length-append xs ys, room) in
    let front : drop k (a ++ (ys ++ rest)) ≡ (xs ++ ys) ++ rest
    = drop-append-le k a (ys ++ rest) (omega (arith, long))
    ∙ (ap (λ zs. zs ++ (ys ++ rest)) (drop-take k n old) ∙ sym (append_assoc xs ys rest)) in
    ap (take (n + length ys)) front
    ∙ (take-append-le (n + length ys) (xs ++ ys) rest (omega (arith, few)) ∙ take_all (n + length ys) (xs ++ ys) (omega (arith, few)))

few_bits : (size : Size) (x : ℕ) → x < 256 ^ size_of size → truncated size x ≡ x
few_bits Byte x small = mod-eq_of_lt small
few_bits HalfWord x small = mod-eq_of_lt small
few_bits Word x small = mod-eq_of_lt small
few_bits DoubleWord x small = refl

-- what a chunk stores is what it loads
chunk_stored : (size : Size) (xs : List ℕ) → size_of size ≤ length xs → AreBytes xs
    → little_bytes (size_of size) (truncated size (little_number (size_of size) xs)) ≡ take (size_of size) xs
chunk_stored size xs enough are =
    ap (little_bytes (size_of size)) (few_bits size (little_number (size_of size) xs) (number_fits Little (size_of size) xs are))
    ∙ front_spelled (size_of size) xs enough are

module _ (w : Course) (scratch group : List ℕ) (frames : ℕ) where
  -- the block run comes to this slot, and these bytes stand on the stack, the first of them so many before its end
  pub record Stacked (top slot : ℕ) (done : List ℕ) : Type 0 where
    pub t : Temporaries
    pub reached : At w scratch group frames slot t
    pub holds : take (length done) (drop (STACK_BYTES - top) t.stack) ≡ done

  stacked_at : (top slot other : ℕ) (done : List ℕ) → slot ≡ other → Stacked top slot done → Stacked top other done
  stacked_at top slot other done same c = subst (λ k. Stacked top k done) same c

  stacked_are : (top slot : ℕ) (done other : List ℕ) → done ≡ other → Stacked top slot done → Stacked top slot other
  stacked_are top slot done other same c = subst (λ xs. Stacked top slot xs) same c

  -- ---- a chunk

  copy_comes : (s : Size) (top slot from left : ℕ) (done : List ℕ) → length done + left ≡ top → top ≤ STACK_BYTES → size_of s ≤ left
      → from + size_of s ≤ length w.memory.block
      → Stands w.program slot (copy_code from left s) → Stacked top slot done
      → Stacked top (slot + 2) (done ++ take (size_of s) (drop from w.memory.block))
  copy_comes s top slot from left done all room less inside stands c =
      let t = c.t in
      let n = size_of s in
      let xs = drop from w.memory.block in
      let x = little_number n xs in
      let ys = take n xs in
      let k = STACK_BYTES - top in
      let at : STACK_BYTES - left ≡ k + length done = omega (arith, all, room) in
      let here = length-drop from w.memory.block in
      let long : length ys ≡ n = omega (arith, length-take n xs, here, inside) in
      let fits : k + length done + length ys ≤ length t.stack = omega (arith, t.whole, all, room, less, long) in
      let u = record t { r4 = x } in
      let v = record u { stack = spliced (k + length done) ys t.stack; whole = length-spliced (k + length done) ys t.stack fits ∙ t.whole } in
      let loaded = load_comes w scratch group frames Fourth s slot from t inside stands.0 c.reached in
      let raw = goes w.program w.limit w.fuel w.start w.exits (between w (slot + 1) u scratch group frames)
      (StoreRegister s 10 4 (neg_ℤ (pos left))) stands.1.0 refl loaded in
      let bytes = chunk_stored s xs (omega (arith, here, inside)) (bytes_from from w.memory.block w.bytes) in
      let stored = stacked_stored_is (record w.memory { scratch = scratch; stack = t.stack }) w.short left s (omega (arith, all, room)) less x
      ∙ (ap (λ zs. record w.memory { scratch = scratch; stack = spliced (STACK_BYTES - left) zs t.stack }) bytes
      ∙ ap (λ i. record w.memory { scratch = scratch; stack = spliced i ys t.stack }) at) in
      let e : slot + 1 + 1 ≡ slot + 2 = omega arith in
      let count : length (done ++ ys) ≡ length done + length ys = length-append done ys in
      record {
        t = v;
        reached = moved w scratch group frames (slot + 1 + 1) (slot + 2) v e
            (subst (λ (m : Memory). ComesTo w (record (between w (slot + 1 + 1) v scratch group frames) { memory = m })) stored raw);
        holds = ap (λ i. take i (drop k v.stack)) count
            ∙ (kept_and_put k (length done) ys t.stack fits ∙ ap (λ zs. zs ++ ys) c.holds);
      }

  copies_come : (ss : List Size) (top slot from left : ℕ) (done : List ℕ) → length done + left ≡ top → top ≤ STACK_BYTES → total ss ≤ left
      → from + total ss ≤ length w.memory.block
      → Stands w.program slot (copies_code from left ss) → Stacked top slot done
      → Stacked top (slot + slot_count (copies_code from left ss)) (done ++ take (total ss) (drop from w.memory.block))
  copies_come [] top slot from left done all room less inside stands c =
      let e : slot ≡ slot + 0 = omega arith in
      stacked_are top _ _ _ (sym (append-nil done)) (stacked_at top _ _ done e c)
  copies_come (s ∷ ss) top slot from left done all room less inside stands c =
      let n = size_of s in
      let xs = drop from w.memory.block in
      let a = copy_code from left s in
      let b = copies_code (from + n) (left - n) ss in
      let this = copy_comes s top slot from left done all room (omega (arith, less)) (omega (arith, inside)) (front_stands w.program slot a b stands) c in
      let long : length (take n xs) ≡ n = omega (arith, length-take n xs, length-drop from w.memory.block, inside) in
      let rest = copies_come ss top (slot + 2) (from + n) (left - n) (done ++ take n xs) (omega (arith, all, long, length-append done (take n xs), less)) room
      (omega (arith, less)) (omega (arith, inside)) (back_stands w.program slot a b stands) this in
      let e : slot + 2 + slot_count b ≡ slot + slot_count (a ++ b) = omega (arith, slot_count-append a b) in
      let same : (done ++ take n xs) ++ take (total ss) (drop (from + n) w.memory.block) ≡ done ++ take (n + total ss) xs
      = append_assoc done (take n xs) (take (total ss) (drop (from + n) w.memory.block))
      ∙ ap (λ zs. done ++ zs) (ap (λ zs. take n xs ++ take (total ss) zs) (sym (drop-drop n from w.memory.block)) ∙ sym (both_taken n (total ss) xs)) in
      stacked_are top _ _ _ same (stacked_at top _ _ _ e rest)

  -- ---- ranges

  ranges_come : (ranges : List ByteRange) (top slot byte size left : ℕ) (done : List ℕ) → length done + left ≡ top → top ≤ STACK_BYTES
      → emitted_bytes ranges ≤ left → AreRanges size ranges → byte + size ≤ length w.memory.block
      → Stands w.program slot (ranges_code byte left ranges) → Stacked top slot done
      → Stacked top (slot + slot_count (ranges_code byte left ranges)) (done ++ cut ranges (take size (drop byte w.memory.block)))
  ranges_come [] top slot byte size left done all room less are fits stands c =
      let e : slot ≡ slot + 0 = omega arith in
      stacked_are top _ _ _ (sym (append-nil done)) (stacked_at top _ _ done e c)
  ranges_come (range ∷ ranges) top slot byte size left done all room less are fits stands c =
      let block = w.memory.block in
      let r = take size (drop byte block) in
      let from = byte + range.offset in
      let ss = chunk_sizes range.size in
      let is = are.0.1 in
      let sum = total_is range.size in
      let a = copies_code from left ss in
      let b = ranges_code byte (left - range.size) ranges in
      let this = copies_come ss top slot from left done all room (omega (arith, sum, less)) (omega (arith, sum, is, fits))
      (front_stands w.program slot a b stands) c in
      let same : take (total ss) (drop from block) ≡ bytes_in range r
      = ap (λ n. take n (drop from block)) sum ∙ sym (cut_is block byte range.offset range.size size is) in
      let first = stacked_are top _ _ _ (ap (λ zs. done ++ zs) same) this in
      let long : length (bytes_in range r) ≡ range.size
      = sym (ap (λ (zs : List ℕ). length zs) same) ∙ omega (arith, length-take (total ss) (drop from block), length-drop from block, sum, is, fits) in
      let rest = ranges_come ranges top (slot + slot_count a) byte size (left - range.size) (done ++ bytes_in range r)
      (omega (arith, all, long, length-append done (bytes_in range r), less)) room (omega (arith, less)) are.1 fits (back_stands w.program slot a b stands) first in
      let e : slot + slot_count a + slot_count b ≡ slot + slot_count (a ++ b) = omega (arith, slot_count-append a b) in
      stacked_are top _ _ _ (append_assoc done (bytes_in range r) (cut ranges r)) (stacked_at top _ _ _ e rest)

  -- ---- the frame

  emit_stacked_comes : (slot size : ℕ) (done : List ℕ) → length done ≡ size → size ≤ STACK_BYTES
      → Stands w.program slot (emit_stacked_code size) → Stacked size slot done
      → Comes w scratch (group ++ frame done) (frames + 1) (slot + 4)
  emit_stacked_comes slot size done long room stands c =
      let t = c.t in
      let m = record w.memory { scratch = scratch; stack = t.stack } in
      let at = address_of Stack + (STACK_BYTES - size) in
      let w_size : immediate_word (pos size) ≡ size = mod-eq_of_lt (omega (arith, room)) in
      let first : At w scratch group frames (slot + 1) (record t { r1 = address_of Stack + STACK_BYTES })
      = goes w.program w.limit w.fuel w.start w.exits (between w slot t scratch group frames) (Arithmetic Bits64 Move 1 (Register 10)) stands.0 refl c.reached in
      let raw : At w scratch group frames (slot + 1 + 1) (record t { r1 = (address_of Stack + STACK_BYTES + immediate_word (neg_ℤ (pos size))) % 2 ^ 64 })
      = goes w.program w.limit w.fuel w.start w.exits (between w (slot + 1) (record t { r1 = address_of Stack + STACK_BYTES }) scratch group frames)
      (Arithmetic Bits64 Add 1 (Immediate (neg_ℤ (pos size)))) stands.1.0 refl first in
      let second = subst (λ (x : ℕ). At w scratch group frames (slot + 1 + 1) (record t { r1 = x })) (stack_end_is size room) raw in
      let u = record t { r1 = at } in
      let raw2 : At w scratch group frames (slot + 1 + 1 + 1) (record u { r2 = immediate_word (pos size) })
      = goes w.program w.limit w.fuel w.start w.exits (between w (slot + 1 + 1) u scratch group frames)
      (Arithmetic Bits64 Move 2 (Immediate (pos size))) stands.1.1.0 refl second in
      let third = subst (λ (x : ℕ). At w scratch group frames (slot + 1 + 1 + 1) (record u { r2 = x })) w_size raw2 in
      let zeros = record t { r1 = 0; r2 = 0; r3 = 0; r4 = 0; r5 = 0 } in
      let last : At w scratch (group ++ frame (bytes_at m at size)) (frames + 1) (slot + 1 + 1 + 1 + 1) zeros
      = goes w.program w.limit w.fuel w.start w.exits (between w (slot + 1 + 1 + 1) (record u { r2 = size }) scratch group frames)
      (Call EMIT) stands.1.1.1.0 refl third in
      let e : slot + 1 + 1 + 1 + 1 ≡ slot + 4 = omega arith in
      let held : take size (drop (STACK_BYTES - size) t.stack) ≡ done = subst (λ n. take n (drop (STACK_BYTES - size) t.stack) ≡ done) long c.holds in
      let bytes = ap (λ (xs : List ℕ). group ++ frame xs) (stacked_is m w.short size room ∙ held) in
      record {
        t = zeros;
        reached = moved w scratch _ (frames + 1) _ _ zeros e
            (subst (λ g. At w scratch g (frames + 1) (slot + 1 + 1 + 1 + 1) zeros) bytes last);
      }

  cut_long : (ranges : List ByteRange) (size : ℕ) (r : List ℕ) → AreRanges size ranges → size ≤ length r → length (cut ranges r) ≡ emitted_bytes ranges
  cut_long [] size r are enough = refl
  cut_long (range ∷ ranges) size r are enough =
      let is = are.0.1 in
      let rest = cut_long ranges size r are.1 enough in
      omega (arith, is, rest, enough, length-append (bytes_in range r) (cut ranges r), length-take range.size (drop range.offset r), length-drop range.offset r)

  pub stacked_comes : (ranges : List ByteRange) (slot byte size : ℕ) → emitted_bytes ranges ≤ STACK_BYTES → AreRanges size ranges
      → byte + size ≤ length w.memory.block → Stands w.program slot (stacked_code byte ranges) → Comes w scratch group frames slot
      → Comes w scratch (group ++ frame (cut ranges (take size (drop byte w.memory.block)))) (frames + 1) (slot + slot_count (stacked_code byte ranges))
  stacked_comes ranges slot byte size room are fits stands come =
      let r = take size (drop byte w.memory.block) in
      let top = emitted_bytes ranges in
      let a = ranges_code byte top ranges in
      let b = emit_stacked_code top in
      let none : Stacked top slot [] = record { t = come.t; reached = come.reached; holds = refl } in
      let copied = ranges_come ranges top slot byte size top [] (omega arith) room (omega arith) are fits (front_stands w.program slot a b stands) none in
      let long = cut_long ranges size r are (omega (arith, length-take size (drop byte w.memory.block), length-drop byte w.memory.block, fits)) in
      let done = emit_stacked_comes (slot + slot_count a) top (cut ranges r) long room (back_stands w.program slot a b stands) copied in
      let e : slot + slot_count a + 4 ≡ slot + slot_count (a ++ b) = omega (arith, slot_count-append a b) in
      subst (λ k. Comes w scratch (group ++ frame (cut ranges r)) (frames + 1) k) e done
