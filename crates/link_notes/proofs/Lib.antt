mod AddedLines
mod Ascii
mod GuardLemmas
mod ReadBack
mod SpelledLines
mod SumLemmas
