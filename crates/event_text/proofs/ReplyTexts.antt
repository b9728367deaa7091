-- The words of a reply's line tell the reply and its data.
use Rattle.std.proofs.Common.{◌≡◌, ℕ, if◌then◌else◌, List, [], ◌∷◌, ◌++◌, length, Option, Some, None, Ok, refl, ap, sym, ◌∙◌, codes, arith}
use Rattle.std.proofs.lemmas.Option.{same_Some}
use Rattle.std.specs.Fmt.{decimal}
use Rattle.std.specs.Option.{option_and_then, option_map}
use Rattle.std.specs.Result.{result_ok}
use Rattle.std.specs.Str.{bytes_eq}
use Rattle.std.proofs.lemmas.Fmt.{decimal_nonempty}
use Rattle.common_definitions.specs.Bytes.{AreBytes}
use Rattle.hex.specs.Hex.{decode_of, decode_pairs, encode_lower}
use Rattle.hex.proofs.HexLemmas.{decode_of-encode_lower}
use Rattle.device_events.specs.Replies.{ReplyWithData, without_data}
use Rattle.device_events.specs.declared.reply.Reply.{Reply}
use Rattle.device_events.specs.declared.reply.Reply.TheVariants.{Complete, Pending, Idle, FaultTaken, FaultRefused}
use Rattle.text_lines.specs.Number.{decimal_of}
use Rattle.event_text.specs.Laws.{IsReply, LinesTellReplies}
use Rattle.event_text.specs.Lines.{data_text, reply_text}
use Rattle.text_lines.specs.Texts.{one_of}
use Rattle.event_text.specs.Words.{two_or_three_of, words_of}
use Rattle.event_text.proofs.PlainLines.{decimal_again, decimal_in_word, spelled_in_word, unblank, words_of-numbered}
use Rattle.event_text.proofs.SubmissionLemmas.{data_words, hex_in_word, not_empty, number_spaced, spaced, words_of-spaced}
use Rattle.event_text.proofs.WordLemmas.{word_last}

-- ---- what words tell

abbrev completed : Option ℕ → Option (List ℕ) → Option (List ℕ) → Option ReplyWithData
completed (Some queue) (Some entry) (Some bytes) = Some (record { reply = Complete queue entry (length bytes); bytes = bytes })
completed _ _ _ = None

abbrev reply_named : List ℕ → List (List ℕ) → Option ReplyWithData
reply_named name words =
    if bytes_eq name (codes "cpl") then option_and_then (λ w. completed (decimal_of w.0) (result_ok (decode_of w.1)) (result_ok (decode_of w.2))) (two_or_three_of words)
    else (if bytes_eq name (codes "pending") then option_and_then (λ word. option_map (λ run. without_data (Pending run)) (decimal_of word)) (one_of words)
    else (if bytes_eq name (codes "idle") then Some (without_data Idle)
    else (if bytes_eq name (codes "done") then Some (without_data FaultTaken) else Some (without_data FaultRefused))))

abbrev told_by : List (List ℕ) → Option ReplyWithData
told_by [] = None
told_by (name ∷ words) = reply_named name words

-- ---- the words of each line

complete_spaced : (queue size : ℕ) (entry bytes : List ℕ) → reply_text (Complete queue entry size) bytes ≡ spaced (codes "cpl") (decimal queue) (encode_lower entry) (data_text bytes)
complete_spaced queue size entry bytes = ap (λ (ys : List ℕ). codes "cpl " ++ ys) (number_spaced (decimal queue) (encode_lower entry) (data_text bytes))

complete_again : (number digits behind entry bytes : List ℕ) (queue size : ℕ) → decimal_of number ≡ Some queue → decode_of digits ≡ Ok entry → decode_of behind ≡ Ok bytes → size ≡ length bytes
    → completed (decimal_of number) (result_ok (decode_of digits)) (result_ok (decode_of behind)) ≡ Some (record { reply = Complete queue entry size; bytes = bytes })
complete_again number digits behind entry bytes queue size is_queue is_entry is_data is_size = rw (is_queue, is_entry, is_data, is_size) refl

reply_again : (number digits entry bytes : List ℕ) (queue size : ℕ) → decimal_of number ≡ Some queue → decode_of digits ≡ Ok entry → AreBytes bytes → size ≡ length bytes
    → told_by (codes "cpl" ∷ number ∷ digits ∷ data_words bytes) ≡ Some (record { reply = Complete queue entry size; bytes = bytes })
unfolding decode_pairs
reply_again number digits entry [] queue size is_queue is_entry small is_size = complete_again number digits [] entry [] queue size is_queue is_entry refl is_size
reply_again number digits entry (b ∷ rest) queue size is_queue is_entry small is_size =
    complete_again number digits (encode_lower (b ∷ rest)) entry (b ∷ rest) queue size is_queue is_entry (decode_of-encode_lower (b ∷ rest) small) is_size

-- no data goes with such a reply
alone : (reply : Reply) (bytes : List ℕ) → 0 ≡ length bytes → without_data reply ≡ record { reply = reply; bytes = bytes }
alone reply [] e = refl
alone reply (b ∷ rest) e = absurd (omega (arith, e))

-- ---- each line tells its reply

told_again : (reply : Reply) (bytes : List ℕ) → IsReply (record { reply = reply; bytes = bytes }) → told_by (words_of (reply_text reply bytes)) ≡ Some (record { reply = reply; bytes = bytes })
told_again (Complete queue entry size) bytes is =
    let numbers = is.numbers in
    let whole = numbers.1 in
    ap (λ (text : List ℕ). told_by (words_of text)) (complete_spaced queue size entry bytes)
    ∙ ap told_by
    (words_of-spaced (codes "cpl") (decimal queue) (encode_lower entry) bytes (omega arith) (spelled_in_word (codes "cpl") refl) (decimal_nonempty queue (omega (arith, numbers.0)))
    (decimal_in_word queue (omega (arith, numbers.0)))
    (not_empty entry (omega (arith, whole)))
    (hex_in_word entry numbers.2)
    is.are_bytes)
    ∙ reply_again (decimal queue) (encode_lower entry) entry bytes queue size (decimal_again queue (omega (arith, numbers.0))) (decode_of-encode_lower entry numbers.2) is.are_bytes is.told
told_again (Pending run) bytes is =
    let small = is.numbers in
    ap told_by (words_of-numbered (codes "pending") run (omega arith) refl (omega (arith, small)))
    ∙ ap (λ (number : Option ℕ). option_map (λ n. without_data (Pending n)) number) (decimal_again run (omega (arith, small)))
    ∙ ap Some (alone (Pending run) bytes is.told)
told_again Idle bytes is = ap told_by (word_last (codes "idle") (omega arith) (unblank (codes "idle") (spelled_in_word (codes "idle") refl))) ∙ ap Some (alone Idle bytes is.told)
told_again FaultTaken bytes is = ap told_by (word_last (codes "done") (omega arith) (unblank (codes "done") (spelled_in_word (codes "done") refl))) ∙ ap Some (alone FaultTaken bytes is.told)
told_again FaultRefused bytes is =
    ap told_by (word_last (codes "refused") (omega arith) (unblank (codes "refused") (spelled_in_word (codes "refused") refl))) ∙ ap Some (alone FaultRefused bytes is.told)

pub lines_tell_replies : LinesTellReplies
lines_tell_replies a b is_a is_b e =
    same_Some a b (sym (told_again a.reply a.bytes is_a) ∙ ap (λ (text : List ℕ). told_by (words_of text)) e ∙ told_again b.reply b.bytes is_b)
