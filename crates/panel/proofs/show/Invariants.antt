use mathlib.Core.Path.{◌≡◌}
use lib.ListN.{length}
use lib.Seq.{sets}
use Rattle.machine.specs.Common.{concat_below}
use Rattle.panel.proofs.Rows.{row_at}
use Rattle.panel.proofs.show.Given as goal

abbrev pub invariant-loop-i : goal.invariant-loop-i
invariant-loop-i l = (l.out ≡ sets l.initial.out 0 (concat_below l.i (row_at l.sender l.p))) × (length l.out ≡ length l.initial.out)
