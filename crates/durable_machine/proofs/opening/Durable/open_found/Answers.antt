use Rattle.std.proofs.Common.{ℕ, List, sym, subst}
use Rattle.durable_machine.specs.Pieces.{HasGate}
use Rattle.durable_machine.proofs.Files.{end_whole, one_state}
use Rattle.durable_machine.proofs.Restarting.{end_at_sector, end_there, gate_size_whole, gate_whole, no_moment, opened, repairs_left, same_file}
use Rattle.durable_machine.proofs.opening.Durable.open_found.Goals as goal

pub repair-requires-clause-within : goal.repair-requires-clause-within
repair-requires-clause-within g c =
    end_there g.M.Machine.loads g.M.Machine.next g.met.M.Machine.one_base _ c.args.found.end c.args.found.last c.args.found.machine c.requires.found.is

pub repair-requires-clause-before : goal.repair-requires-clause-before
repair-requires-clause-before g c =
    let gate : HasGate c.args.found.last c.args.found.end c.deref.result.now (g.F.StoredFile.told c.args.file).seen =
    subst (λ (bytes : List ℕ). HasGate c.args.found.last c.args.found.end bytes (g.F.StoredFile.told c.args.file).seen) (sym c.deref.ensures.value) c.requires.found.has_gate in
    gate.within

pub repair-requires-clause-again : goal.repair-requires-clause-again
repair-requires-clause-again g c =
    let gate : HasGate c.args.found.last c.args.found.end c.deref.result.now (g.F.StoredFile.told c.args.file).seen =
    subst (λ (bytes : List ℕ). HasGate c.args.found.last c.args.found.end bytes (g.F.StoredFile.told c.args.file).seen) (sym c.deref.ensures.value) c.requires.found.has_gate in
    gate.again

pub repair-requires-clause-whole : goal.repair-requires-clause-whole
repair-requires-clause-whole g c =
    let gate : HasGate c.args.found.last c.args.found.end c.deref.result.now (g.F.StoredFile.told c.args.file).seen =
    subst (λ (bytes : List ℕ). HasGate c.args.found.last c.args.found.end bytes (g.F.StoredFile.told c.args.file).seen) (sym c.deref.ensures.value) c.requires.found.has_gate in
    let loads = g.M.Machine.loads in
    let next = g.M.Machine.next in
    let one = g.met.M.Machine.one_base in
    let found = c.requires.found in (
      end_at_sector loads next one _ c.args.found.end c.args.found.last c.args.found.machine found.is,
      gate_whole loads next one _ c.args.found.end c.args.found.last c.args.found.machine found.is,
      gate_size_whole _ _ _ gate.size,
    )

pub repair-requires-clause-restarted : goal.repair-requires-clause-restarted
repair-requires-clause-restarted g c =
    let gate : HasGate c.args.found.last c.args.found.end c.deref.result.now (g.F.StoredFile.told c.args.file).seen =
    subst (λ (bytes : List ℕ). HasGate c.args.found.last c.args.found.end bytes (g.F.StoredFile.told c.args.file).seen) (sym c.deref.ensures.value) c.requires.found.has_gate in
    let loads = g.M.Machine.loads in
    let next = g.M.Machine.next in
    let one = g.met.M.Machine.one_base in
    let old = g.F.StoredFile.told c.args.file in
    repairs_left loads next one old old (same_file loads next one old) (no_moment loads next one old) c.requires.restarted c.args.found.end c.args.found.last _ c.args.found.machine c.requires.found.is
    gate.size

pub returns-in-Ok-clause-any_moment : goal.returns-in-Ok-clause-any_moment
returns-in-Ok-clause-any_moment g c =
    let gate : HasGate c.args.found.last c.args.found.end c.deref.result.now (g.F.StoredFile.told c.args.file).seen =
    subst (λ (bytes : List ℕ). HasGate c.args.found.last c.args.found.end bytes (g.F.StoredFile.told c.args.file).seen) (sym c.deref.ensures.value) c.requires.found.has_gate in
    let loads = g.M.Machine.loads in
    let next = g.M.Machine.next in
    let one = g.met.M.Machine.one_base in
    let old = g.F.StoredFile.told c.args.file in
    opened loads next one old old (same_file loads next one old) (no_moment loads next one old) c.requires.restarted c.args.found.end c.args.found.last _ c.args.found.machine c.requires.found.is
    gate.size (g.F.StoredFile.told c.repair.new.file) c.repair.ensures.any_moment c.repair.ensures.kept

pub returns-in-Err-clause-any_moment_err : goal.returns-in-Err-clause-any_moment_err
returns-in-Err-clause-any_moment_err g c =
    let gate : HasGate c.args.found.last c.args.found.end c.deref.result.now (g.F.StoredFile.told c.args.file).seen =
    subst (λ (bytes : List ℕ). HasGate c.args.found.last c.args.found.end bytes (g.F.StoredFile.told c.args.file).seen) (sym c.deref.ensures.value) c.requires.found.has_gate in
    let loads = g.M.Machine.loads in
    let next = g.M.Machine.next in
    let one = g.met.M.Machine.one_base in
    let old = g.F.StoredFile.told c.args.file in
    opened loads next one old old (same_file loads next one old) (no_moment loads next one old) c.requires.restarted c.args.found.end c.args.found.last _ c.args.found.machine c.requires.found.is
    gate.size (g.F.StoredFile.told c.repair.new.file) c.repair.ensures.any_moment c.repair.ensures.kept

pub returns-in-Ok-clause-state : goal.returns-in-Ok-clause-state
returns-in-Ok-clause-state g c =
    let found = c.requires.found.is in
    record {
      is = (c.args.found.end, found.is);
      no_other = λ other is. one_state g.M.Machine.loads g.M.Machine.next g.met.M.Machine.one_base _ _ other (c.args.found.end, found.is) is;
    }

pub returns-in-Ok-clause-durable : goal.returns-in-Ok-clause-durable
returns-in-Ok-clause-durable g c =
    let loads = g.M.Machine.loads in
    let next = g.M.Machine.next in
    let old = g.F.StoredFile.told c.args.file in
    let is = c.requires.found.is.is in
    record {
      front = is.front;
      first = is.first;
      begins = is.begins;
      batches = is.batches;
      rests = c.in-Ok.ensures.settled is.front is.batches (end_whole loads next c.args.found.end old.seen c.args.found.machine is).1 is.has;
      leads = is.leads;
    }
