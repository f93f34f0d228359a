-- What the call for a board distance returns, in the machine's words.
use Rattle.std.specs.Prelude.{ℕ, Result, Ok, Err}
use Rattle.machine.specs.declared.BoardDistance.{BoardDistance}
use Rattle.refusal.specs.declared.Refusal.{Refusal}
use Rattle.refusal.specs.Numbers.{hut_number}
use Rattle.setting_out.specs.SettingOut.{taken, refused}

-- a distance with number 0, or the number of a refusal with distance 0
abbrev pub distance_of : Result ℕ Refusal → BoardDistance
distance_of (Ok distance) = taken distance
distance_of (Err refusal) = refused (hut_number refusal)
