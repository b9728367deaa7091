-- What is read so far, as the definitions see it.
use Rattle.std.specs.Prelude.{List, map, reverse}
use Rattle.question_words.specs.declared.stack.Open.{Open}
use Rattle.question_words.specs.declared.stack.Open.TheVariants as parts
use Rattle.question_words.specs.declared.stage.Stage.{Stage}
use Rattle.question_words.specs.declared.stage.Stage.TheVariants as stages
use Rattle.question_words.specs.declared.stage.Reading.{Reading}
use Rattle.question_words.specs.declared.within.Within.{Within}
use Rattle.question_words.specs.declared.within.Within.TheVariants as withins
use Rattle.question_words.specs.Condition.{said}
use Rattle.question_words.specs.Within as ranges
use Rattle.question_words.specs.Reading as readings

-- what is open
abbrev pub open_view : Open → readings.Open
open_view parts.Not = readings.OpenNot
open_view parts.Parenthesis = readings.OpenParenthesis
open_view (parts.And first) = readings.OpenAnd (said first)
open_view (parts.Or first) = readings.OpenOr (said first)

-- all that is open: the code has the nearest last
unfoldable pub opens : List Open → List readings.Open
opens items = reverse (map open_view items)

-- a part of a range or a set
abbrev pub within_view : Within → ranges.Within
within_view withins.Begun = ranges.Begun
within_view (withins.From least) = ranges.From least
within_view (withins.Until least comparison) = ranges.Until least comparison
within_view withins.First = ranges.First
within_view (withins.Listed condition) = ranges.Listed (said condition)
within_view (withins.More condition) = ranges.More (said condition)

-- what the place begins with
abbrev pub stage_view : Stage → readings.Stage
stage_view stages.Wanted = readings.Wanted
stage_view (stages.Compared field) = readings.Compared field
stage_view (stages.Against field comparison) = readings.Against field comparison
stage_view (stages.BytesCompared offset) = readings.BytesCompared offset
stage_view (stages.AgainstBytes offset there) = readings.AgainstBytes offset there
stage_view (stages.In field part) = readings.In field (within_view part)
stage_view (stages.Whole condition) = readings.Whole (said condition)

-- what is read so far
abbrev pub reading_view : Reading → readings.State
reading_view reading = record { stage = stage_view reading.stage; before = opens reading.before.items }
