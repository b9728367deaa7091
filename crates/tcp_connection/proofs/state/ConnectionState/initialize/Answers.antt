use Rattle.std.proofs.Common.{ℕ, List, ◌++◌, ap, sym, ◌∙◌, arith}
use Rattle.tcp_pdus.specs.declared.received.HostPdu.TheVariants.{IcReq}
use Rattle.tcp_pdus.specs.declared.initialize.InitializeRequest.{InitializeRequest}
use Rattle.tcp_pdus.specs.Initialize.{initialize_checked}
use Rattle.tcp_connection.proofs.Dealt.{header_is, initialized_err}
use Rattle.tcp_connection.proofs.state.ConnectionState.initialize.Goals as goal

pub read-requires : goal.read-requires
read-requires c = omega (arith, c.header.ensures.whole IcReq c.requires.whole)

pub returns-in-Err-clause-sent : goal.returns-in-Err-clause-sent
returns-in-Err-clause-sent c =
    let s = c.args.self.now in
    record {
      added = c.push_c2h_term_req.ensures.added
          ∙ ap (λ (sent : List ℕ). c.args.out.now.items ++ sent)
          (initialized_err s c.header.result.now c.header-in-Err.result.now c.in-Err.error
          (header_is s.receiver IcReq c.header.result.now c.requires.whole c.header.ensures.bytes)
          (header_is s.receiver IcReq c.header-in-Err.result.now c.requires.whole c.header-in-Err.ensures.bytes)
          (ap (λ (r : InitializeRequest). initialize_checked r) (sym c.read.ensures) ∙ sym c.check.ensures ∙ c.in-Err.is));
      room = c.push_c2h_term_req.ensures.room;
    }
