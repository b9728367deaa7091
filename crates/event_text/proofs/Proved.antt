-- What the proofs of other crates cite of this one: the lines of joined files, and their events.
pub use Rattle.event_text.proofs.JoinedFiles.{events_joined, lines-behind}
