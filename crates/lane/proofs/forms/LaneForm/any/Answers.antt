use mathlib.Core.Path.{sym}
use native.Mathlib.Omega.{arith}
use Rattle.digits.proofs.Laws.{any_on, flags_on}
use Rattle.lane.specs.Lanes.{crossing_of}
use Rattle.lane.proofs.forms.LaneForm.any.Goals as goal

pub returns-in-Calling : goal.returns-in-Calling
unfolding crossing_of
returns-in-Calling c = rw c.in-Calling.is (sym (any_on 256 (omega arith) 4 c.args.self.calling))

pub returns-in-Waiting : goal.returns-in-Waiting
unfolding crossing_of
returns-in-Waiting c = rw c.in-Waiting.is (sym (any_on 256 (omega arith) 4 c.args.self.waiting))

pub returns-in-Route : goal.returns-in-Route
unfolding crossing_of
returns-in-Route c = rw c.in-Route.is (sym (flags_on 4 c.args.self.route))

pub returns-in-Occupied : goal.returns-in-Occupied
unfolding crossing_of
returns-in-Occupied c = rw c.in-Occupied.is (sym (flags_on 4 c.args.self.occupied))

pub returns-in-Unsure : goal.returns-in-Unsure
unfolding crossing_of
returns-in-Unsure c = rw c.in-Unsure.is (sym (flags_on 4 c.args.self.unsure))

pub returns-in-Booms : goal.returns-in-Booms
unfolding crossing_of
returns-in-Booms c = rw c.in-Booms.is (sym (any_on 4 (omega arith) 4 c.args.self.booms))

pub returns-in-Lamps : goal.returns-in-Lamps
unfolding crossing_of
returns-in-Lamps c = rw c.in-Lamps.is (sym (flags_on 7 c.args.self.lamps))
