use Rattle.machine.specs.Plant.{booms_up}
use Rattle.booms.proofs.up.Goals as goal

pub returns : goal.returns
unfolding booms_up
returns c = c.all.ensures
