-- One event: the plant after it and its answer.
use Rattle.std.specs.Prelude.{cond, List, [], ◌∷◌, ℕ, ◌+◌, ◌%◌, eqb}
pub use Rattle.machine.specs.declared.Answer.{Answer}
use Rattle.machine.specs.Common.{tab, sum_below}
use Rattle.machine.specs.Plant.{Entry, Crossing, Plant, entry, crossing}
use Rattle.machine.specs.Events.{Event, Command, is, number}
use Rattle.machine.specs.Effects.{act, tick, written_at}
use Rattle.machine.specs.Settling.{settle}

-- what a taken event makes of crossing i: after a tick every crossing settles, after another event its own
unfoldable pub touch : Entry → ℕ → Crossing → Event → Crossing
touch s i c e =
    cond (is 0 e) (settle s 1 (tick s c))
    (cond (eqb e.crossing i) (settle s 0 (act s c e))
    c)

-- a tick moves the beat on, after 3 to 0
unfoldable pub apply : Plant → Event → Plant
apply p e = record {
  site = p.site;
  beat = cond (is 0 e) ((p.beat + 1) % 4) p.beat;
  crossings = tab 8 (λ i. touch (entry p i) i (crossing p i) e);
}

-- the trains written off, summed over the plant
unfoldable pub written : Plant → Event → ℕ
written p e = sum_below 8 (λ i. written_at (entry p i) i (crossing p i) e)

-- taken: number 0. Refused: the number, the plant it was given and a zero count
unfoldable pub step : Plant → Command → Answer
step p x =
    cond (eqb (number p x) 0)
    (record { number = 0; written = written p x.event; plant = apply p x.event })
    (record { number = number p x; written = 0; plant = p })

-- A list of commands: each gets the plant that the last one returned, taken or refused
unfoldable pub after : Plant → List Command → Plant
after p [] = p
after p (x ∷ xs) = after (step p x).plant xs

-- the trains written off that the answers carry
unfoldable pub carried : Plant → List Command → ℕ
carried p [] = 0
carried p (x ∷ xs) = (step p x).written + carried (step p x).plant xs
