-- Settling in parts, in the machine's words: which phase is next, the crossing in it, its ticks out of normal.
use Rattle.std.specs.Prelude.{ℕ, Option, Some, None}
use Rattle.machine.specs.declared.Entry.{Entry}
use Rattle.machine.specs.declared.Crossing.{Crossing}
use Rattle.machine.specs.Plant.{boom, reason, booms_up, normal}
use Rattle.machine.specs.Settling.{phase_settled, timer_settled, left_settled, out_settled, with_phase}

-- the phase after settling
abbrev pub next_phase : Entry → Crossing → ℕ
next_phase s c = phase_settled s (reason c) (booms_up s.kind (boom c)) c.left c.phase

-- the phase after one that enters a next phase, or stays
abbrev pub moved : ℕ → Option ℕ → ℕ
moved phase None = phase
moved phase (Some next) = next

-- the crossing in the next phase: its timer and its ticks left to motorists
abbrev pub entered : Entry → ℕ → Crossing → Crossing
entered s next c = with_phase c next (timer_settled s.pre c.phase next c.timer) (left_settled s.pause c.phase next c.left) c.out

-- the ticks out of normal of a crossing whose phase has settled
abbrev pub settled_out : Entry → ℕ → Crossing → Crossing
settled_out s add c = with_phase c c.phase c.timer c.left (out_settled (normal s c) add c.out)
