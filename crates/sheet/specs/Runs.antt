-- What a run returns, as the machine tells it.
use Rattle.std.specs.Prelude.{Result, Ok, Err}
use Rattle.machine.specs.declared.Plant.{Plant}
use Rattle.machine.specs.declared.Run.{Run}
use Rattle.refusal.specs.declared.Refusal.{Refusal}
use Rattle.refusal.specs.Numbers.{hut_number}
use Rattle.sheet.specs.declared.Ran.{Ran}

-- taken: the plant after the last event and the counts, with number 0
abbrev pub taken_run : Ran → Run
taken_run r = record { number = 0; plant = r.plant; taken = r.taken; refused = r.refused; written = r.written }

-- refused: the number, the plant that it was given and zero counts
abbrev pub run_of : Plant → Result Ran Refusal → Run
run_of p (Ok r) = taken_run r
run_of p (Err refusal) = record { number = hut_number refusal; plant = p; taken = 0; refused = 0; written = 0 }
