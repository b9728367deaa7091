-- What the proofs of other crates cite of this one: laws, and lemmas.
use Rattle.common_definitions.specs.FirstCheck.{FirstFailedIsFirst, NoFaultWhereNoneFails}
pub use Rattle.common_definitions.proofs.AllOf.{all_append, all_at, all_drop, all_from, all_same, all_set, all_take}
pub use Rattle.common_definitions.proofs.ByteParts.{both_fit, bytes_from, bytes_to, each_behind, front_fit, length-spliced, low_first, rest_fit, spliced_fit}
use Rattle.common_definitions.proofs.FirstChecks as checks
pub use Rattle.common_definitions.proofs.FirstChecks.{demanded, guarded, joined, met, none_failed, passed, value_given}
pub use Rattle.common_definitions.proofs.FirstPassed.{AreNumbered, all_fail, found_passes, least_found, less_fails}
pub use Rattle.common_definitions.proofs.Lengths.{length-flat_map-each, length-padded, pieces-flat_map}
pub use Rattle.common_definitions.proofs.Readings.{fault_behind, found_where_ok, no_fault, with_front-more}
pub use Rattle.common_definitions.proofs.SameFronts.{agree_before, agree_behind}
pub use Rattle.common_definitions.proofs.SpelledBytes.{byte_is, bytes_spelled, front_spelled}

pub first_failed_is_first : (F : Type 0) → FirstFailedIsFirst F
first_failed_is_first = checks.first_failed_is_first

pub no_fault_where_none_fails : (F : Type 0) → NoFaultWhereNoneFails F
no_fault_where_none_fails = checks.no_fault_where_none_fails
