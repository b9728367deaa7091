-- What is tallied of records, and what it comes to.
use Rattle.std.specs.Prelude.{ℕ, ℤ, pos, ◌≡◌, ◌+◌, ◌-◌, ◌*◌, ◌<◌, ◌≤◌, ◌%◌, ◌^◌, ◌+ℤ◌, ◌-ℤ◌, ◌≤ℤ◌, ◌&&◌, ◌==◌, nat_le, nat_lt, if◌then◌else◌, unsigned_abs, max, Bool, true, List, [], ◌∷◌, length, get_or, map, filter, Option, Some, None}
use Rattle.std.specs.Int.{w64, cast_unsigned, int_rem_euclid}
use Rattle.std.specs.List.{AllByRecursion, Contains, sum_by}
use Rattle.byteorder.specs.Endian.{little_bytes}
use Rattle.common_definitions.specs.Bytes.{AreBytes, field, spliced}
use Rattle.program_interface.specs.declared.area.TheConstants.{SCRATCH_BYTES}
use Rattle.record_questions.specs.declared.question.Sign.{Sign}
use Rattle.record_questions.specs.declared.question.Sign.TheVariants.{Unsigned, Signed}
use Rattle.record_questions.specs.declared.question.Field.{Field}
use Rattle.record_questions.specs.declared.question.Tally.{Tally}
use Rattle.record_questions.specs.declared.question.Tally.TheVariants.{Count, Sum, Least, Greatest}
use Rattle.record_questions.specs.declared.question.Grouping.{Grouping}
use Rattle.record_questions.specs.declared.question.Question.{Question}
use Rattle.record_questions.specs.Question.{number_in, value_of}

-- the word that a field of a record is loaded as: its value, in two's complement
abbrev pub word_in : Field → List ℕ → ℕ
word_in f r = cast_unsigned w64 (value_of f r)

-- how far a value is above the least that 64 bits hold of its sign
abbrev pub rank_of : Sign → ℤ → ℕ
rank_of Unsigned z = unsigned_abs z
rank_of Signed z = unsigned_abs (z +ℤ pos (2 ^ 63))

-- the value that is so far above it
abbrev pub value_at : Sign → ℕ → ℤ
value_at Unsigned rank = pos rank
value_at Signed rank = pos rank -ℤ pos (2 ^ 63)

-- the rank of a field's value
abbrev pub rank_in : Field → List ℕ → ℕ
rank_in f r = rank_of f.sign (value_of f r)

-- a tally's word with one record more
abbrev pub tally_step : Tally → List ℕ → ℕ → ℕ
tally_step Count r word = (word + 1) % 2 ^ 64
tally_step (Sum f) r word = (word + word_in f r) % 2 ^ 64
tally_step (Least f) r word = max word (2 ^ 64 - 1 - rank_in f r)
tally_step (Greatest f) r word = max word (rank_in f r)

-- scratch with one record more: each tally has a word of its own, of eight bytes
abbrev pub tallied_from : ℕ → List Tally → List ℕ → List ℕ → List ℕ
tallied_from at [] r scratch = scratch
tallied_from at (t ∷ ts) r scratch =
    tallied_from (at + 8) ts r (spliced at (little_bytes 8 (tally_step t r (field scratch at 8))) scratch)

-- how many groups there are
abbrev pub groups : Option Grouping → ℕ
groups None = 1
groups (Some by) = by.values

-- how many words all tallies of all groups have
abbrev pub words_of : Question → ℕ
words_of q = groups q.by * length q.tallies.items

-- the group of a record, if it has one: the only one, or that of the value of the field
abbrev pub group_of : Option Grouping → List ℕ → Option ℕ
group_of None r = Some 0
group_of (Some by) r =
    let value = number_in by.field r in
    if nat_le by.first value && nat_lt value (by.first + by.values) then Some (value - by.first) else None

-- scratch with one record more, tallied in the words of its group
abbrev pub tallied_in : List Tally → Option ℕ → List ℕ → List ℕ → List ℕ
tallied_in ts None r scratch = scratch
tallied_in ts (Some group) r scratch = tallied_from (8 * (group * length ts)) ts r scratch

-- scratch with these records tallied, one after another
abbrev pub tallied_of : Question → List (List ℕ) → List ℕ → List ℕ
tallied_of q [] scratch = scratch
tallied_of q (r ∷ rs) scratch = tallied_of q rs (tallied_in q.tallies.items (group_of q.by r) r scratch)

-- is a record of this group?
abbrev pub is_of : Option Grouping → ℕ → List ℕ → Bool
is_of None group r = true
is_of (Some by) group r = number_in by.field r == by.first + group

-- those of these records that are of a group, in order
abbrev pub records_of : Option Grouping → ℕ → List (List ℕ) → List (List ℕ)
records_of by group rs = filter (is_of by group) rs

-- a tally of these records, from a word on
abbrev pub tally_from : Tally → List (List ℕ) → ℕ → ℕ
tally_from t [] word = word
tally_from t (r ∷ rs) word = tally_from t rs (tally_step t r word)

-- the byte of scratch at which the word of a group's tally i begins
abbrev pub word_at : Question → (group i : ℕ) → ℕ
word_at q group i = 8 * (group * length q.tallies.items + i)

-- each tally's word of a group comes to what it was with the records of the group one after another
abbrev pub WordsAreTallied : Type 0
WordsAreTallied = (q : Question) (rs : List (List ℕ)) (scratch : List ℕ)
    → AllByRecursion AreBytes rs → AreBytes scratch → length scratch ≡ SCRATCH_BYTES → 8 * words_of q ≤ SCRATCH_BYTES
    → (group i : ℕ) → group < groups q.by → i < length q.tallies.items
    → field (tallied_of q rs scratch) (word_at q group i) 8
    ≡ tally_from (get_or q.tallies.items i Count) (records_of q.by group rs) (field scratch (word_at q group i) 8)

-- x is the least of these numbers
abbrev pub IsLeast : List ℤ → ℤ → Type 0
IsLeast xs x = Contains xs x × AllByRecursion (λ y. x ≤ℤ y) xs

-- x is the greatest of these numbers
abbrev pub IsGreatest : List ℤ → ℤ → Type 0
IsGreatest xs x = Contains xs x × AllByRecursion (λ y. y ≤ℤ x) xs

-- the sum of a field's values
abbrev pub total_of : Field → List (List ℕ) → ℤ
total_of f [] = pos 0
total_of f (r ∷ rs) = value_of f r +ℤ total_of f rs

-- Begun at 0, a tally of records is their number or the sum of a field, modulo 2^64, or the least or the greatest of a field. The
-- word of a greatest is its rank, and that of a least has the rank subtracted from 2^64 - 1. Of no records, both words are 0.
pub record TalliesAreTotals : Type 0 where
  pub count : (rs : List (List ℕ)) → AllByRecursion AreBytes rs → tally_from Count rs 0 ≡ length rs % 2 ^ 64
  pub sum : (f : Field) (rs : List (List ℕ)) → AllByRecursion AreBytes rs
      → pos (tally_from (Sum f) rs 0) ≡ int_rem_euclid (total_of f rs) (pos (2 ^ 64))
  pub unsigned_sum : (f : Field) (rs : List (List ℕ)) → f.sign ≡ Unsigned → AllByRecursion AreBytes rs
      → tally_from (Sum f) rs 0 ≡ sum_by (number_in f) rs % 2 ^ 64
  pub least : (f : Field) (rs : List (List ℕ)) → AllByRecursion AreBytes rs → 1 ≤ length rs
      → IsLeast (map (value_of f) rs) (value_at f.sign (2 ^ 64 - 1 - tally_from (Least f) rs 0))
  pub greatest : (f : Field) (rs : List (List ℕ)) → AllByRecursion AreBytes rs → 1 ≤ length rs
      → IsGreatest (map (value_of f) rs) (value_at f.sign (tally_from (Greatest f) rs 0))
