use mathlib.Core.Path.{◌≡◌}
use lib.Seq.{sets}
use Rattle.machine.specs.SiteBook.{first_part, setting}
use Rattle.machine.specs.Common.{concat_below}
use Rattle.book_write.proofs.put_firsts.Given as goal

abbrev pub invariant-loop-i : goal.invariant-loop-i
invariant-loop-i l = l.out ≡ sets l.initial.out 1 (concat_below l.i (λ j. first_part (setting l.s j)))
