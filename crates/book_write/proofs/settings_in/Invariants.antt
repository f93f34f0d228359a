use mathlib.Core.Path.{◌≡◌}
use Rattle.machine.specs.Common.{all_below}
use Rattle.machine.specs.SiteBook.{setting_in}
use Rattle.book_write.proofs.settings_in.Given as goal

abbrev pub invariant-loop-i : goal.invariant-loop-i
invariant-loop-i l = l.fine ≡ all_below l.i (setting_in l.s)
