-- A listing assembles to its program's bytes.
use Rattle.std.proofs.Common.{◌≡◌, ℕ, ℤ, zero, suc, ◌+◌, ◌-◌, ◌<◌, ◌≤◌, true, false, not, cond, eqb, List, [], ◌∷◌, ◌++◌, length, get_or, drop, take, map, Option, Some, None, Result, Ok, Err, refl, sym, ap, ◌∙◌, subst, append_assoc, arith}
use Rattle.std.specs.Prelude.{ok_or}
use Rattle.std.specs.List.{list_all, before_first, position_or_len, flat_map, AllByRecursion}
use Rattle.std.specs.Char.{is_ascii}
use Rattle.std.specs.Str.Lines.{lines, strip_carriage_return}
use Rattle.std.proofs.lemmas.Bool.{and_parts, le-ltb, ne_eqb, not-true}
use Rattle.std.proofs.lemmas.List.{take_at, drop_at, append-nil, length-append}
use Rattle.std.proofs.lemmas.List.Sums.{AllPass-from_list_all}
use Rattle.instruction_set.specs.declared.instruction.Instruction.{Instruction}
use Rattle.instruction_set.specs.declared.instruction.Instruction.TheVariants.{LoadImmediate, Load, LoadSigned, StoreImmediate, StoreRegister, Arithmetic, Negate, MoveSigned, SwapBytes, Jump, JumpLong, Branch, Call, Exit}
use Rattle.instruction_set.specs.declared.instruction.Source.{Source}
use Rattle.instruction_set.specs.declared.instruction.Source.TheVariants as sources
use Rattle.instruction_set.specs.Program.{IsProgram, slots_of}
use Rattle.instruction_set.specs.Spelling.{Fits, spelling, instructions_of, program_bytes}
use Rattle.ebpf_asm.specs.declared.mnemonic.Mnemonic.{Mnemonic}
use Rattle.ebpf_asm.specs.declared.fault.FaultKind.{FaultKind}
use Rattle.ebpf_asm.specs.declared.fault.FaultKind.TheVariants.{UnknownMnemonic, NotAscii, TooLong}
use Rattle.common_definitions.proofs.Proved.{all_from}
use Rattle.common_definitions.specs.Readings.{◌>>=◌, unless_fault}
use Rattle.ebpf_asm.specs.Mnemonic.{mnemonic_text, mnemonic_named}
use Rattle.ebpf_asm.specs.Operand.{source_told, short_of, long_of}
use Rattle.text_lines.specs.Cut.{is_blank_byte, trimmed, uncommented, without_end_blanks}
use Rattle.ebpf_asm.specs.Statement.{Statement, statement_of, statement_with, operands_of, one_of, two_of, three_of, none_of}
use Rattle.ebpf_asm.specs.Line.{Line, line_of, line_in, labelled, behind_label, split_label, with_statement, slots_in}
use Rattle.ebpf_asm.specs.Assembly.{LabelMap, lines_of, slot_count, first_fault, bytes_of_lines, label_map, before_later, told_first, assembled, assembled_lines}
use Rattle.ebpf_asm.specs.Listing.{mnemonic_of, operand_texts, operands_text, further_texts, text_of_instruction, line_text, listing, source_text}
use Rattle.text_lines.proofs.Proved.{end_stays, lines_are_cut, uncommented-same}
use Rattle.ebpf_decode.proofs.Proved.{instructions_of-slots_of}
use Rattle.ebpf_asm.proofs.Passes.{slot_count-cons, slot_count-push}
use Rattle.ebpf_asm.proofs.Programs.{counted_more}
use Rattle.ebpf_asm.proofs.Names.{mnemonic_again, mnemonic_plain}
use Rattle.ebpf_asm.proofs.NumbersReadBack.{register_again, immediate_again, wide_again}
use Rattle.ebpf_asm.proofs.OperandsReadBack.{IsSource, place_behind, immediate_source_again, register_source_again, memory_again, distance_again, short_again, long_again, no_label}
use Rattle.ebpf_asm.proofs.PlainTexts.{IsPlain, IsText, append_passes, is_plain, is_inline, weaker, plain_inline, plain_no_blank, inline_ascii, inline_no_semicolon, inline_no_colon, inline_no_newline, inline_no_return, cut_none, cut_some, first_text, end_plain, operands_again, register_is_text, signed_decimal_is_text, signed_text_is_text, memory_is_text, wide_is_text}

-- ---- an instruction's text

-- these operands are read as the instruction
abbrev Again : Instruction → List (List ℕ) → Type 0
Again instruction [] = statement_of (mnemonic_text (mnemonic_of instruction) ++ []) ≡ Ok (instruction, None)
Again instruction (first ∷ others) = statement_with (mnemonic_of instruction) (first ∷ others) ≡ Ok (instruction, None)

-- the operands are texts, and are read as the instruction
record IsListed (instruction : Instruction) : Type 0 where
  texts : AllByRecursion IsText (operand_texts instruction)
  again : Again instruction (operand_texts instruction)

source_is_text : (source : Source) → IsSource source → IsText (source_text source)
source_is_text (sources.Immediate z) fits = signed_decimal_is_text z (omega (arith, fits.sfits))
source_is_text (sources.Register n) lt = register_is_text n lt

source_again : (source : Source) → IsSource source → source_told (source_text source) ≡ Ok source
source_again (sources.Immediate z) fits = immediate_source_again z fits
source_again (sources.Register n) lt = register_source_again n lt

is_source : (width : _) (operation : _) (dst : ℕ) (source : Source) → Fits (Arithmetic width operation dst source) → IsSource source
is_source width operation dst (sources.Immediate z) fits = fits.immediate
is_source width operation dst (sources.Register n) fits = fits.src

is_branch_source : (width : _) (relation : _) (dst : ℕ) (source : Source) (distance : ℤ) → Fits (Branch width relation dst source distance) → IsSource source
is_branch_source width relation dst (sources.Immediate z) distance fits = fits.immediate
is_branch_source width relation dst (sources.Register n) distance fits = fits.src

is_listed : (instruction : Instruction) → Fits instruction → IsListed instruction
unfolding statement_of operands_of statement_with one_of two_of three_of none_of
is_listed (LoadImmediate dst value) fits = record {
  texts = (register_is_text dst fits.dst, (wide_is_text value fits.value, tt));
  again = rw (register_again dst fits.dst, wide_again value fits.value) refl;
}
is_listed (Load size dst src offset) fits = record {
  texts = (register_is_text dst fits.dst, (memory_is_text src offset fits.src (omega (arith, fits.offset.sfits)), tt));
  again = rw (register_again dst fits.dst, memory_again src offset fits.src fits.offset) refl;
}
is_listed (LoadSigned size dst src offset) fits = record {
  texts = (register_is_text dst fits.dst, (memory_is_text src offset fits.src (omega (arith, fits.offset.sfits)), tt));
  again = rw (register_again dst fits.dst, memory_again src offset fits.src fits.offset) refl;
}
is_listed (StoreImmediate size dst offset value) fits = record {
  texts = (memory_is_text dst offset fits.dst (omega (arith, fits.offset.sfits)), (signed_decimal_is_text value (omega (arith, fits.immediate.sfits)), tt));
  again = rw (memory_again dst offset fits.dst fits.offset, immediate_again value fits.immediate) refl;
}
is_listed (StoreRegister size dst src offset) fits = record {
  texts = (memory_is_text dst offset fits.dst (omega (arith, fits.offset.sfits)), (register_is_text src fits.src, tt));
  again = rw (memory_again dst offset fits.dst fits.offset, register_again src fits.src) refl;
}
is_listed (Arithmetic width operation dst source) fits = record {
  texts = (register_is_text dst fits.dst, (source_is_text source (is_source width operation dst source fits), tt));
  again = rw (register_again dst fits.dst, source_again source (is_source width operation dst source fits)) refl;
}
is_listed (Negate width dst) fits = record { texts = (register_is_text dst fits.dst, tt); again = rw (register_again dst fits.dst) refl }
is_listed (MoveSigned extension dst src) fits = record {
  texts = (register_is_text dst fits.dst, (register_is_text src fits.src, tt));
  again = rw (register_again dst fits.dst, register_again src fits.src) refl;
}
is_listed (SwapBytes swap size dst) fits = record { texts = (register_is_text dst fits.dst, tt); again = rw (register_again dst fits.dst) refl }
is_listed (Jump distance) fits = record {
  texts = (signed_text_is_text distance (omega (arith, fits.offset.sfits)), tt);
  again = rw (distance_again short_of distance (omega (arith, fits.offset.sfits)) (short_again distance fits.offset), no_label distance) refl;
}
is_listed (JumpLong distance) fits = record {
  texts = (signed_text_is_text distance (omega (arith, fits.immediate.sfits)), tt);
  again = rw (distance_again long_of distance (omega (arith, fits.immediate.sfits)) (long_again distance fits.immediate), no_label distance) refl;
}
is_listed (Branch width relation dst source distance) fits = record {
  texts = (register_is_text dst fits.dst, (source_is_text source (is_branch_source width relation dst source distance fits), (signed_text_is_text distance (omega (arith, fits.offset.sfits)), tt)));
  again = rw (register_again dst fits.dst, source_again source (is_branch_source width relation dst source distance fits), distance_again short_of distance (omega (arith, fits.offset.sfits)) (short_again distance fits.offset), no_label distance) refl;
}
is_listed (Call helper) fits = record {
  texts = (signed_decimal_is_text helper (omega (arith, fits.immediate.sfits)), tt);
  again = rw (immediate_again helper fits.immediate) refl;
}
is_listed Exit fits = record { texts = tt; again = refl }

-- ---- a line

text_is_some : (m : Mnemonic) → IsText (mnemonic_text m)
text_is_some m = record { bytes = mnemonic_plain m; some = some (mnemonic_text m) (mnemonic_again m) }
  where
    some : (text : List ℕ) → mnemonic_named text ≡ Some m → 0 < length text
    some [] e = absurd cc
    some (b ∷ text) e = omega arith

plain_is_inline : (text : List ℕ) → IsPlain text → list_all is_inline text ≡ true
plain_is_inline text h = weaker is_plain is_inline plain_inline text h

inline_further : (texts : List (List ℕ)) → AllByRecursion IsText texts → list_all is_inline (further_texts texts) ≡ true
inline_further [] h = refl
inline_further (t ∷ ts) h = append_passes is_inline (44 ∷ 32 ∷ t) (further_texts ts) (plain_is_inline t h.0.bytes) (inline_further ts h.1)

inline_operands : (texts : List (List ℕ)) → AllByRecursion IsText texts → list_all is_inline (operands_text texts) ≡ true
inline_operands [] h = refl
inline_operands (t ∷ ts) h = append_passes is_inline t (further_texts ts) (plain_is_inline t h.0.bytes) (inline_further ts h.1)

end_further : (xs first : List ℕ) (others : List (List ℕ)) → IsText first → AllByRecursion IsText others → without_end_blanks (xs ++ (first ++ further_texts others)) ≡ xs ++ (first ++ further_texts others)
end_further xs first [] h hs =
    ap (λ t. without_end_blanks (xs ++ t)) (append-nil first) ∙ end_stays xs first h.some (end_plain first h.bytes) ∙ ap (λ t. xs ++ t) (sym (append-nil first))
end_further xs first (o ∷ os) h hs =
    let regroup : xs ++ (first ++ further_texts (o ∷ os)) ≡ (xs ++ (first ++ 44 ∷ 32 ∷ [])) ++ (o ++ further_texts os) =
    ap (λ t. xs ++ t) (sym (append_assoc first (44 ∷ 32 ∷ []) (o ++ further_texts os))) ∙ sym (append_assoc xs (first ++ 44 ∷ 32 ∷ []) (o ++ further_texts os)) in
    ap without_end_blanks regroup ∙ end_further (xs ++ (first ++ 44 ∷ 32 ∷ [])) o os hs.0 hs.1 ∙ sym regroup

end_operands : (m : List ℕ) (texts : List (List ℕ)) → IsText m → AllByRecursion IsText texts → without_end_blanks (m ++ operands_text texts) ≡ m ++ operands_text texts
end_operands m [] h hs = ap without_end_blanks (append-nil m) ∙ end_plain m h.bytes ∙ sym (append-nil m)
end_operands m (t ∷ ts) h hs =
    let regroup : m ++ operands_text (t ∷ ts) ≡ (m ++ 32 ∷ []) ++ (t ++ further_texts ts) = sym (append_assoc m (32 ∷ []) (t ++ further_texts ts)) in
    ap without_end_blanks regroup ∙ end_further (m ++ 32 ∷ []) t ts hs.0 hs.1 ∙ sym regroup

-- the statement of a mnemonic and operands
word_again : (m : Mnemonic) (rest : List ℕ) → (before_first is_blank_byte (mnemonic_text m ++ 32 ∷ rest) ≡ mnemonic_text m) × (drop (position_or_len is_blank_byte (mnemonic_text m ++ 32 ∷ rest)) (mnemonic_text m ++ 32 ∷ rest) ≡ 32 ∷ rest)
word_again m rest =
    let text = mnemonic_text m in
    let place = place_behind is_blank_byte text 32 rest (weaker is_plain (λ b. not (is_blank_byte b)) plain_no_blank text (mnemonic_plain m)) refl in
    (ap (λ n. take n (text ++ 32 ∷ rest)) place ∙ take_at text (32 ∷ rest) (length text) refl, ap (λ n. drop n (text ++ 32 ∷ rest)) place ∙ drop_at text (32 ∷ rest) (length text) refl)

abbrev named : Option Mnemonic → List (List ℕ) → Result Statement FaultKind
named None operands = Err UnknownMnemonic
named (Some m) operands = statement_with m operands

statement_is : (text : List ℕ) → statement_of text ≡ named (mnemonic_named (before_first is_blank_byte text)) (operands_of (drop (position_or_len is_blank_byte text) text))
unfolding statement_of
statement_is text = at (mnemonic_named (before_first is_blank_byte text))
  where
    at : (o : Option Mnemonic) → (ok_or o UnknownMnemonic >>= λ m. statement_with m (operands_of (drop (position_or_len is_blank_byte text) text))) ≡ named o (operands_of (drop (position_or_len is_blank_byte text) text))
    at None = refl
    at (Some m) = refl

statement_again : (m : Mnemonic) (first : List ℕ) (others : List (List ℕ)) → AllByRecursion IsText (first ∷ others) → statement_of (mnemonic_text m ++ operands_text (first ∷ others)) ≡ statement_with m (first ∷ others)
statement_again m first others h =
    let words = word_again m (first ++ further_texts others) in
    statement_is (mnemonic_text m ++ operands_text (first ∷ others))
    ∙ ap (λ t. named (mnemonic_named t) (operands_of (drop (position_or_len is_blank_byte (mnemonic_text m ++ operands_text (first ∷ others))) (mnemonic_text m ++ operands_text (first ∷ others))))) words.0
    ∙ ap (λ t. named (mnemonic_named (mnemonic_text m)) (operands_of t)) words.1
    ∙ ap (λ o. named o (operands_of (operands_text (first ∷ others)))) (mnemonic_again m)
    ∙ ap (statement_with m) (operands_again first others h.0 h.1)

-- a text of such bytes, without blanks at its ends, is a line with that statement
line_again : (text : List ℕ) → list_all is_inline text ≡ true → trimmed text ≡ text → 0 < length text → line_of text ≡ with_statement None (statement_of text)
unfolding line_of
line_again text h ends some =
    let empty : Line = record { label = None; instruction = Ok None; target = None } in
    let no_semicolon = AllPass-from_list_all (λ b. not (eqb b 59)) text (weaker is_inline (λ b. not (eqb b 59)) inline_no_semicolon text h) in
    let clean : uncommented text ≡ text = uncommented-same text (λ k d inside. not-true _ (no_semicolon k d inside)) in
    ap (λ b. cond b (line_in (trimmed (uncommented text))) (record { label = None; instruction = Err NotAscii; target = None })) (weaker is_inline is_ascii inline_ascii text h)
    ∙ ap (λ t. line_in (trimmed t)) clean ∙ ap line_in ends
    ∙ ap (λ c. behind_label (split_label text c)) (cut_none 58 text (weaker is_inline (λ b. not (eqb b 58)) inline_no_colon text h))
    ∙ ap (labelled None) ends ∙ ap (λ c. cond c empty (with_statement None (statement_of text))) (ne_eqb (length text) 0 (omega (arith, some)))

abbrev line_with : Instruction → Line
line_with instruction = record { label = None; instruction = Ok (Some instruction); target = None }

statement_listed : (instruction : Instruction) (texts : List (List ℕ)) → AllByRecursion IsText texts → Again instruction texts → statement_of (mnemonic_text (mnemonic_of instruction) ++ operands_text texts) ≡ Ok (instruction, None)
statement_listed instruction [] h again = again
statement_listed instruction (first ∷ others) h again = statement_again (mnemonic_of instruction) first others h ∙ again

inline_instruction : (instruction : Instruction) → IsListed instruction → list_all is_inline (text_of_instruction instruction) ≡ true
inline_instruction instruction h =
    append_passes is_inline (mnemonic_text (mnemonic_of instruction)) (operands_text (operand_texts instruction)) (plain_is_inline (mnemonic_text (mnemonic_of instruction)) (mnemonic_plain (mnemonic_of instruction))) (inline_operands (operand_texts instruction) h.texts)

instruction_line : (instruction : Instruction) → IsListed instruction → line_of (text_of_instruction instruction) ≡ line_with instruction
instruction_line instruction h =
    let m = mnemonic_text (mnemonic_of instruction) in
    let word = text_is_some (mnemonic_of instruction) in
    let ends : trimmed (text_of_instruction instruction) ≡ text_of_instruction instruction = ap without_end_blanks (first_text m (operands_text (operand_texts instruction)) word) ∙ end_operands m (operand_texts instruction) word h.texts in
    line_again (text_of_instruction instruction) (inline_instruction instruction h) ends (omega (arith, length-append m (operands_text (operand_texts instruction)), word.some))
    ∙ ap (with_statement None) (statement_listed instruction (operand_texts instruction) h.texts h.again)

-- ---- the lines

no_return_at : (l : List ℕ) (k : ℕ) → list_all (λ b. not (eqb b 13)) l ≡ true → eqb (get_or l k 0) 13 ≡ false
no_return_at [] k h = refl
no_return_at (b ∷ l) zero h = not-true (eqb b 13) (and_parts (not (eqb b 13)) (list_all (λ c. not (eqb c 13)) l) h).0
no_return_at (b ∷ l) (suc k) h = no_return_at l k (and_parts (not (eqb b 13)) (list_all (λ c. not (eqb c 13)) l) h).1

lines_again : (instructions : List Instruction) → AllByRecursion IsListed instructions → lines (flat_map line_text instructions) ≡ map text_of_instruction instructions
lines_again [] h = refl
lines_again (instruction ∷ instructions) h =
    let text = text_of_instruction instruction in
    let rest = flat_map line_text instructions in
    let bytes = inline_instruction instruction h.0 in
    let stripped : strip_carriage_return text ≡ text = ap (λ c. cond c (take (length text - 1) text) text) (no_return_at text (length text - 1) (weaker is_inline (λ b. not (eqb b 13)) inline_no_return text bytes)) in
    ap lines (append_assoc text (10 ∷ []) rest)
    ∙ lines_are_cut (text ++ 10 ∷ rest) text rest (cut_some 10 text rest refl (weaker is_inline (λ b. not (eqb b 10)) inline_no_newline text bytes))
    ∙ ap (λ l. l ∷ lines rest) stripped
    ∙ ap (λ ls. text ∷ ls) (lines_again instructions h.1)

read_again : (instructions : List Instruction) → AllByRecursion IsListed instructions → map line_of (map text_of_instruction instructions) ≡ map line_with instructions
read_again [] h = refl
read_again (instruction ∷ instructions) h = rw (instruction_line instruction h.0, read_again instructions h.1) refl

-- ---- the passes

listed_faultless : (before : List Line) (instructions : List Instruction) → slot_count before + slot_count (map line_with instructions) ≤ 4096 → first_fault before (map line_with instructions) ≡ None
listed_faultless before [] h = refl
listed_faultless before (instruction ∷ instructions) h =
    let line = line_with instruction in
    let both = slot_count-cons line (map line_with instructions) in
    let later = listed_faultless (before ++ line ∷ []) instructions (omega (arith, h, both, slot_count-push before line)) in
    ap (λ c. told_first (length before + 1) (cond c (Some TooLong) None) (first_fault (before ++ line ∷ []) (map line_with instructions))) (le-ltb 4096 (slot_count before + slots_in line) (omega (arith, h, both))) ∙ later

bytes_again : (labels : LabelMap) (number slot : ℕ) (instructions : List Instruction) → bytes_of_lines labels number slot (map line_with instructions) ≡ Ok (flat_map spelling instructions)
bytes_again labels number slot [] = refl
bytes_again labels number slot (instruction ∷ instructions) = ap (before_later number (Ok instruction)) (bytes_again labels (number + 1) (slot + slots_in (line_with instruction)) instructions)

slots_counted : (instructions : List Instruction) → slot_count (map line_with instructions) ≡ length (slots_of instructions)
slots_counted [] = refl
slots_counted (instruction ∷ instructions) =
    omega (arith, slots_counted instructions, counted_more instruction instructions, slot_count-cons (line_with instruction) (map line_with instructions))

lines_assemble : (instructions : List Instruction) → AllByRecursion Fits instructions → length (slots_of instructions) ≤ 4096 → assembled (flat_map line_text instructions) ≡ Ok (flat_map spelling instructions)
lines_assemble instructions fits most =
    let good = all_from Fits IsListed is_listed instructions fits in
    let all : lines_of (flat_map line_text instructions) ≡ map line_with instructions = ap (map line_of) (lines_again instructions good) ∙ read_again instructions good in
    ap assembled_lines all
    ∙ ap (λ f. unless_fault f (bytes_of_lines (label_map (map line_with instructions)) 1 0 (map line_with instructions))) (listed_faultless [] instructions (omega (arith, most, slots_counted instructions)))
    ∙ bytes_again (label_map (map line_with instructions)) 1 0 instructions

pub listing_again : (slots : List (Option Instruction)) → IsProgram slots → assembled (listing slots) ≡ Ok (program_bytes slots)
listing_again slots p =
    let instructions : instructions_of slots ≡ p.instructions = ap instructions_of p.layout ∙ instructions_of-slots_of p.instructions in
    ap (λ is. assembled (flat_map line_text is)) instructions
    ∙ lines_assemble p.instructions p.fits (subst (λ (ss : List (Option Instruction)). length ss ≤ 4096) p.layout p.most)
    ∙ sym (ap (λ (is : List Instruction). Ok (flat_map spelling is)) instructions)
