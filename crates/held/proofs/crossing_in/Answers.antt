use Rattle.machine.specs.Range.{crossing_in}
use Rattle.held.proofs.crossing_in.Goals as goal

pub returns : goal.returns
unfolding crossing_in
returns c = simp (c.left_limit.ensures, c.phase_in.ensures, c.lamps_in.ensures, c.booms_in.ensures, c.tracks_in.ensures)
