-- A lane as a form of a crossing: its arrays are the digits of a word, and a place holds no more than it has to.
use Rattle.std.specs.Prelude.{◌≤◌, refl}
use Rattle.std.proofs.Common.{arith}
use Rattle.form.specs.declared.Field.{Field}
use Rattle.form.specs.Forms.{Sized, least_limit}
use Rattle.lane.specs.declared.Lane.{Lane}
use Rattle.lane.specs.Lanes.{crossing_of}

pub words_roomy : (field : Field) → least_limit field ≤ least_limit field
words_roomy field = omega arith

pub words_sized : (l : Lane) → Sized (crossing_of l)
unfolding crossing_of
words_sized l = record { calling = refl; waiting = refl; route = refl; occupied = refl; unsure = refl; booms = refl; lamps = refl }
