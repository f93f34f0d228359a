use mathlib.Core.Path.{sym, ◌∙◌}
use Rattle.machine.proofs.Tools.{getD_tab}
use Rattle.digits.specs.Digits.{digit}
use Rattle.lane.specs.Lanes.{crossing_of}
use Rattle.lane.proofs.forms.LaneForm.get.Goals as goal

pub returns-in-Calling-clause-value : goal.returns-in-Calling-clause-value
unfolding crossing_of
returns-in-Calling-clause-value c = rw c.in-Calling.is ((rw c.from-at.ensures at c.at.ensures.value) ∙ sym (getD_tab 4 (digit 256 c.args.self.calling) 0 c.args.place (rw c.in-Calling.is at c.requires)))

pub returns-in-Waiting-clause-value : goal.returns-in-Waiting-clause-value
unfolding crossing_of
returns-in-Waiting-clause-value c = rw c.in-Waiting.is ((rw c.from-at.ensures at c.at-in-Waiting.ensures.value) ∙ sym (getD_tab 4 (digit 256 c.args.self.waiting) 0 c.args.place (rw c.in-Waiting.is at c.requires)))

pub returns-in-Route-clause-value : goal.returns-in-Route-clause-value
unfolding crossing_of
returns-in-Route-clause-value c = rw c.in-Route.is ((rw c.from-at.ensures at c.at-in-Route.ensures.value) ∙ sym (getD_tab 4 (digit 2 c.args.self.route) 0 c.args.place (rw c.in-Route.is at c.requires)))

pub returns-in-Occupied-clause-value : goal.returns-in-Occupied-clause-value
unfolding crossing_of
returns-in-Occupied-clause-value c = rw c.in-Occupied.is ((rw c.from-at.ensures at c.at-in-Occupied.ensures.value) ∙ sym (getD_tab 4 (digit 2 c.args.self.occupied) 0 c.args.place (rw c.in-Occupied.is at c.requires)))

pub returns-in-Unsure-clause-value : goal.returns-in-Unsure-clause-value
unfolding crossing_of
returns-in-Unsure-clause-value c = rw c.in-Unsure.is ((rw c.from-at.ensures at c.at-in-Unsure.ensures.value) ∙ sym (getD_tab 4 (digit 2 c.args.self.unsure) 0 c.args.place (rw c.in-Unsure.is at c.requires)))

pub returns-in-Booms-clause-value : goal.returns-in-Booms-clause-value
unfolding crossing_of
returns-in-Booms-clause-value c = rw c.in-Booms.is ((rw c.from-at.ensures at c.at-in-Booms.ensures.value) ∙ sym (getD_tab 4 (digit 4 c.args.self.booms) 0 c.args.place (rw c.in-Booms.is at c.requires)))

pub returns-in-Lamps-clause-value : goal.returns-in-Lamps-clause-value
unfolding crossing_of
returns-in-Lamps-clause-value c = rw c.in-Lamps.is ((rw c.from-at.ensures at c.at-in-Lamps.ensures.value) ∙ sym (getD_tab 7 (digit 2 c.args.self.lamps) 0 c.args.place (rw c.in-Lamps.is at c.requires)))
