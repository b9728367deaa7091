use Rattle.std.proofs.Common.{IsTrue, is_some, sym, subst}
use Rattle.tcp_connection.specs.Receiving.{IsBetween}
use Rattle.tcp_connection.specs.declared.state.ConnectionState.{ConnectionState}
use Rattle.tcp_connection.specs.Executing.{ready}
use Rattle.tcp_connection.specs.steps.Connection.{IsConnection}
use Rattle.tcp_connection.proofs.Quiet.{gone_between, gone_sound, ready_between}
use Rattle.tcp_connection.proofs.connection.Connection.go.Goals as goal

pub go-requires-clause-between : goal.go-requires-clause-between
go-requires-clause-between c =
    let Q : ConnectionState → Type 0 = λ s. IsTrue (is_some (ready s)) in
    ready_between c.self.inside.state c.self.invariant (subst Q (sym c.self.view_is) c.requires.ready)

pub invariant_of-self : goal.invariant_of-self
invariant_of-self c =
    let P : ConnectionState → Type 0 = λ s. IsConnection s in
    let Q : ConnectionState → Type 0 = λ s. IsTrue (is_some (ready s)) in
    subst P (sym c.go.ensures.state) (gone_sound c.self.inside.state c.self.invariant (subst Q (sym c.self.view_is) c.requires.ready))

pub returns-clause-between : goal.returns-clause-between
returns-clause-between c =
    let P : ConnectionState → Type 0 = λ s. IsBetween s.receiver in
    let Q : ConnectionState → Type 0 = λ s. IsTrue (is_some (ready s)) in
    subst P (sym c.go.ensures.state) (gone_between c.self.inside.state c.self.invariant (subst Q (sym c.self.view_is) c.requires.ready))
