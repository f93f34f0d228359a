use mathlib.Core.Path.{refl}
use Rattle.machine.specs.SiteBook.{first_part, setting}
use Rattle.machine.proofs.Tools.{next_row}
use Rattle.book_write.proofs.put_firsts.Goals as goal

pub loop-i-preserved : goal.loop-i-preserved
unfolding first_part
loop-i-preserved c =
    let a = c.args in
    let s = a.s in
    let l = c.loop-i in
    let r = c.put_first in
    next_row 3 (λ j. first_part (setting s j)) (λ j. refl) a.out.now 1 l.i l.invariant r.ensures
