-- The crossing of the plant as a form: arrays of four and of seven bytes.
use Rattle.std.specs.Prelude.{List, ℕ, ◌≤◌}
use Rattle.std.proofs.Common.{rules, arith}
use denote.Struct.Declared.{row}
use Rattle.machine.specs.contracts.Crossing.{the_type}
use Rattle.machine.specs.declared.Crossing.{Crossing}
use Rattle.form.specs.declared.Field.{Field}
use Rattle.form.specs.declared.Field.TheVariants.{Calling, Waiting, Route, Occupied, Unsure, Booms, Lamps}
use Rattle.form.specs.Forms.{Val, Is, least_limit, Sized}

-- a place is a byte
abbrev pub byte_limit : Field → ℕ
byte_limit field = 256

pub bytes_roomy : (field : Field) → least_limit field ≤ byte_limit field
bytes_roomy Calling = omega arith
bytes_roomy Waiting = omega arith
bytes_roomy Route = omega arith
bytes_roomy Occupied = omega arith
bytes_roomy Unsure = omega arith
bytes_roomy Booms = omega arith
bytes_roomy Lamps = omega arith

pub bytes_sized : (c : Crossing) (vs : List Val) → Is (row the_type) c vs → Sized c
bytes_sized c vs p = record {
  calling = search (p.1.1.0, rules);
  waiting = search (p.1.1.1.0, rules);
  route = search (p.1.1.1.1.0, rules);
  occupied = search (p.1.1.1.1.1.0, rules);
  unsure = search (p.1.1.1.1.1.1.0, rules);
  booms = search (p.1.1.1.1.1.1.1.0, rules);
  lamps = search (p.1.1.1.1.1.1.1.1.0, rules);
}
