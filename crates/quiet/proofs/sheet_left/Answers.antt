use Rattle.lane.specs.Lanes.{crossing_of}
use Rattle.quiet.specs.Passing.{sheet_left}
use Rattle.quiet.proofs.sheet_left.Goals as goal

pub returns-then-old_sheet-is_normal-clause-value : goal.returns-then-old_sheet-is_normal-clause-value
unfolding sheet_left crossing_of
returns-then-old_sheet-is_normal-clause-value c =
    simp (c.saturating_sub.ensures, rw (c.is_normal.ensures, c.old_sheet.ensures) at c.if-old_sheet-is_normal.true)

pub returns-clause-value : goal.returns-clause-value
unfolding sheet_left crossing_of
returns-clause-value c =
    simp (rw (c.is_normal.ensures, c.old_sheet.ensures) at c.if-old_sheet-is_normal.false)
