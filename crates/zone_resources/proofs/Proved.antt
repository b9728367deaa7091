-- What the proofs of other crates cite of this one: laws, and lemmas of counts, admission and holds.
use Rattle.zone_resources.specs.Admission.{AdmissionKeepsLimits, IdleHoldsNoMore, ReleaseKeepsLimits}
pub use Rattle.zone_resources.proofs.CountLemmas.{counts_follow_one, one_if-le-count_in}
use Rattle.zone_resources.proofs.LimitLemmas as limited
pub use Rattle.zone_resources.proofs.LimitLemmas.{admitted_closable, one_if-le-one, wants}
pub use Rattle.zone_resources.proofs.NamedZones.{runs_name_zones, there}

pub admission_keeps_limits : AdmissionKeepsLimits
admission_keeps_limits = limited.admission_keeps_limits

pub release_keeps_limits : ReleaseKeepsLimits
release_keeps_limits = limited.release_keeps_limits

pub idle_holds_no_more : IdleHoldsNoMore
idle_holds_no_more = limited.idle_holds_no_more
