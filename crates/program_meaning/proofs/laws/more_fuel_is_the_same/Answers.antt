use Rattle.program_meaning.proofs.Running.{more_fuel}
use Rattle.program_meaning.proofs.laws.more_fuel_is_the_same.Goals as goal

pub returns : goal.returns
returns c = more_fuel
