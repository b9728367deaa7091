-- Laws of this crate, proved, and lemmas: all that other crates cite of it.
pub use Rattle.tcp_connection.proofs.Order.{IsShut, Moves, both, commands_go_in_order, moves, stays}
