mod BlankLines
mod DigitLemmas
mod FileLemmas
mod JoinedFiles
mod PlainLines
mod ReplyLemmas
mod ReplyTexts
mod SingleLines
mod SpelledEvents
mod SubmissionLemmas
mod WordLemmas
mod WordedLines
pub mod Proved
