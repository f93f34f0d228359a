use Rattle.lane.specs.Lanes.{crossing_of}
use Rattle.quiet.specs.Passing.{opens}
use Rattle.quiet.proofs.opens.Goals as goal

pub returns : goal.returns
unfolding opens crossing_of
returns c = simp c.booms_up.ensures
