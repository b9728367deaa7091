use Rattle.std.proofs.Common.{ℕ, List, ◌++◌, ap, ◌∙◌}
use Rattle.tcp_connection.specs.Sending.{next_head}
use Rattle.tcp_connection.proofs.Answering.{completion_is}
use Rattle.tcp_connection.proofs.state.ConnectionState.answer.Goals as goal

pub returns-clause-sent : goal.returns-clause-sent
returns-clause-sent c =
    let s = c.args.self.now in
    record {
      added = c.push_capsule_resp.ensures.added
          ∙ ap (λ (sent : List ℕ). c.args.out.now.items ++ sent)
          (completion_is s.queue c.next_head-self.result (next_head s.head s.queue.entries) c.told_head.result c.args.command c.args.outcome
          c.encode.result c.next_head-self.ensures c.told_head.ensures c.encode.ensures);
      room = c.push_capsule_resp.ensures.room;
    }
