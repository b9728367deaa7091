-- What a file begins with that a new image may replace.
use Rattle.std.specs.Prelude.{ℕ, Bool, List, [], ◌||◌, bytes_eq}
use Rattle.image_text.specs.Version.{numbers_of_version}
use Rattle.image_text.specs.declared.version.Version.TheVariants.{One, Two}

-- are these the first bytes of a file that has none, or of an image?
abbrev pub may_begin : List ℕ → Bool
may_begin first = bytes_eq first [] || bytes_eq first (numbers_of_version One).magic || bytes_eq first (numbers_of_version Two).magic
