use Rattle.lane.specs.Lanes.{crossing_of}
use Rattle.quiet.specs.Passing.{passed}
use Rattle.quiet.proofs.advance.Goals as goal

pub returns : goal.returns
unfolding passed crossing_of
returns c =
    simp (c.out_after.ensures, c.saturating_sub-3.ensures, c.saturating_sub-2.ensures, c.saturating_sub.ensures, c.is_normal-normal.ensures)
