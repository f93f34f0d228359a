use native.Mathlib.Numerals.{sub-one}
use Rattle.lane.specs.Lanes.{crossing_of}
use Rattle.lane.proofs.forms.LaneForm.lower.Goals as goal

pub returns-in-Kiosk : goal.returns-in-Kiosk
unfolding crossing_of
returns-in-Kiosk c = simp (c.in-Kiosk.is, c.saturating_sub.ensures, sub-one)

pub returns-in-Operator : goal.returns-in-Operator
unfolding crossing_of
returns-in-Operator c = simp (c.in-Operator.is, c.saturating_sub-in-Operator.ensures, sub-one)

pub returns-in-Countdown : goal.returns-in-Countdown
unfolding crossing_of
returns-in-Countdown c = simp (c.in-Countdown.is, c.saturating_sub-in-Countdown.ensures, sub-one)

pub returns-in-Phase : goal.returns-in-Phase
unfolding crossing_of
returns-in-Phase c = simp (c.in-Phase.is, c.saturating_sub-in-Phase.ensures, sub-one)

pub returns-in-Timer : goal.returns-in-Timer
unfolding crossing_of
returns-in-Timer c = simp (c.in-Timer.is, c.saturating_sub-in-Timer.ensures, sub-one)

pub returns-in-Left : goal.returns-in-Left
unfolding crossing_of
returns-in-Left c = simp (c.in-Left.is, c.saturating_sub-in-Left.ensures, sub-one)

pub returns-in-Out : goal.returns-in-Out
unfolding crossing_of
returns-in-Out c = simp (c.in-Out.is, c.saturating_sub-in-Out.ensures, sub-one)
