-- each of the eight records is what its call ensures
use Rattle.machine.specs.Plant.{fresh_plant}
use Rattle.machine.proofs.Plant.fresh.Goals as goal

pub returns : goal.returns
unfolding fresh_plant
returns c = simp (c.fresh-8.ensures, c.fresh-7.ensures, c.fresh-6.ensures, c.fresh-5.ensures, c.fresh-4.ensures, c.fresh-3.ensures, c.fresh-2.ensures, c.fresh.ensures)
