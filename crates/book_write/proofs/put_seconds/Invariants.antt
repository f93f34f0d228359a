use mathlib.Core.Path.{◌≡◌}
use Prim.Native.Nat.{◌+◌, ◌*◌}
use lib.Seq.{sets}
use Rattle.machine.specs.SiteBook.{second_part, setting}
use Rattle.machine.specs.Common.{concat_below}
use Rattle.book_write.proofs.put_seconds.Given as goal

abbrev pub invariant-loop-i : goal.invariant-loop-i
invariant-loop-i l = l.out ≡ sets l.initial.out (1 + 3 * l.s.n) (concat_below l.i (λ j. second_part (setting l.s j)))
