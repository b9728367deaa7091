use Rattle.durable_machine.proofs.Refusing.{damaged}
use Rattle.durable_machine.proofs.laws.no_crash_is_damage.Goals as goal

pub returns : goal.returns
returns g c file s n is at_byte = damaged g.M.Machine.loads g.M.Machine.next g.met.M.Machine.one_base n file at_byte s is
