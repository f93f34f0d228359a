use Rattle.lane.specs.Lanes.{crossing_of}
use borrow.Author.Rules.{rules}
use Rattle.lane.proofs.unpack.Goals as goal

pub overflow_cast-result : goal.overflow_cast-result
unfolding crossing_of
overflow_cast-result c = let h = c.requires.kiosk in search (h, rules)

pub overflow_cast-result-2 : goal.overflow_cast-result-2
unfolding crossing_of
overflow_cast-result-2 c = let h = c.requires.operator in search (h, rules)

pub overflow_cast-result-3 : goal.overflow_cast-result-3
unfolding crossing_of
overflow_cast-result-3 c = let h = c.requires.countdown in search (h, rules)

pub overflow_cast-result-4 : goal.overflow_cast-result-4
unfolding crossing_of
overflow_cast-result-4 c = let h = c.requires.phase in search (h, rules)

pub overflow_cast-result-5 : goal.overflow_cast-result-5
unfolding crossing_of
overflow_cast-result-5 c = let h = c.requires.timer in search (h, rules)

pub overflow_cast-result-6 : goal.overflow_cast-result-6
unfolding crossing_of
overflow_cast-result-6 c = let h = c.requires.left in search (h, rules)

pub overflow_cast-result-7 : goal.overflow_cast-result-7
unfolding crossing_of
overflow_cast-result-7 c = let h = c.requires.out in search (h, rules)

pub returns : goal.returns
unfolding crossing_of
returns c = simp (c.part-7.ensures, c.part-6.ensures, c.part-5.ensures, c.part-4.ensures, c.part-3.ensures, c.part-2.ensures, c.part.ensures)
