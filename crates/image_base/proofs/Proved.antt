-- What the proofs of other crates cite of this one.
pub use Rattle.image_base.proofs.Fronts.{one_base}
