use Rattle.machine.specs.Plant.{booms_down}
use Rattle.booms.proofs.down.Goals as goal

pub returns : goal.returns
unfolding booms_down
returns c = c.all.ensures
