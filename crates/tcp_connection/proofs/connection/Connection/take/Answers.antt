use Rattle.std.proofs.Common.{sym, subst}
use Rattle.tcp_connection.specs.declared.state.ConnectionState.{ConnectionState}
use Rattle.tcp_connection.specs.steps.Connection.{IsConnection}
use Rattle.tcp_connection.proofs.Quiet.{taken_sound}
use Rattle.tcp_connection.proofs.connection.Connection.take.Goals as goal

pub invariant_of-self : goal.invariant_of-self
invariant_of-self c =
    let P : ConnectionState → Type 0 = λ s. IsConnection s in
    subst P (sym c.take.ensures.state) (taken_sound c.self.inside.state c.args.piece.now c.self.invariant)
