-- What an event call returns, as the machine's answer.
use Rattle.std.specs.Prelude.{Result, Ok, Err}
use Rattle.machine.specs.declared.Plant.{Plant}
use Rattle.machine.specs.declared.Answer.{Answer}
use Rattle.event.specs.declared.Taken.{Taken}
use Rattle.refusal.specs.declared.Refusal.{Refusal}
use Rattle.refusal.specs.Numbers.{hut_number}

-- the answer to an event that is taken
abbrev pub taken_answer : Taken → Answer
taken_answer t = record { number = 0; written = t.written; plant = t.plant }

-- the answer to an event of this plant: refused, its number, a zero count and the plant as it was given
abbrev pub answer_of : Plant → Result Taken Refusal → Answer
answer_of p (Ok t) = taken_answer t
answer_of p (Err refusal) = record { number = hut_number refusal; written = 0; plant = p }
