-- What the proofs of other crates cite of this one: a law, and lemmas of writes.
pub use Rattle.zone_state.proofs.AllowedWrites.{allowed_passes, is_allowed}
pub use Rattle.zone_state.proofs.Codes.{codes_are_distinct}
pub use Rattle.zone_state.proofs.WrittenStates.{written_twice}
