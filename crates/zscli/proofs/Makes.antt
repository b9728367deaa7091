-- How many files a command makes.
use Rattle.std.proofs.Common.{◌≡◌, ◌≢◌, ℕ, List, [], Option, Result, Ok, Err, OnOk, OnErr, IfErr, inl, inr, refl}
use Rattle.command_files.specs.Made.{Made, MakesAtMost, MakesAtMostOne, MakesOneName}
use Rattle.command_files.proofs.Proved.{only_one}
use Rattle.command_files.specs.declared.failure.Failure.{Failure}
use Rattle.command_files.specs.declared.failure.Failure.TheVariants.{CannotPrint}
use Rattle.zscli.specs.Makes.{MakesFew, MakesNamed}

-- none with this name, or one, is at most one
at_most_one : (path : List ℕ) (before after : Option (List Made)) → MakesAtMost path before after → MakesAtMostOne before after
at_most_one path before after (inl same) = inl same
at_most_one path before after (inr one) = inr (path, one)

-- at most one file is only files with one name
pub one_name : (before after : Option (List Made)) → MakesAtMostOne before after → MakesOneName before after
one_name before after (inl same) = ([], record { texts = []; made = same })
one_name before after (inr one) = (one.0, only_one one.0 before after (inr one.1))

-- one that may make a file also where it can't print
pub one_where_stopped : {T : Type 0} (r : Result T Failure) (path : List ℕ) (before after : Option (List Made))
    → OnOk r (MakesAtMost path before after) → (r ≡ Err CannotPrint → MakesAtMost path before after) → IfErr r (λ failure. failure ≢ CannotPrint → after ≡ before)
    → MakesAtMostOne before after
one_where_stopped (Ok done) path before after made stopped kept = at_most_one path before after made
one_where_stopped (Err CannotPrint) path before after made stopped kept = at_most_one path before after (stopped refl)
one_where_stopped (Err failure) path before after made stopped kept = inl (kept (λ e. cc))

-- one that makes a file only where all is done
pub one_where_done : {T E : Type 0} (r : Result T E) (path : List ℕ) (before after : Option (List Made)) → OnOk r (MakesAtMost path before after) → OnErr r (after ≡ before)
    → MakesAtMostOne before after
one_where_done (Ok done) path before after made kept = at_most_one path before after made
one_where_done (Err failure) path before after made kept = inl kept

-- few files are files with one name, but for a program and what is noted beside it
pub named : (before after : Option (List Made)) → MakesFew before after → MakesNamed before after
named before after (inl one) = inl (one_name before after one)
named before after (inr program) = inr program
