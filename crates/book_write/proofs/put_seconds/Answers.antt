use Rattle.std.proofs.Common.{refl, ◌+◌, ◌*◌}
use Rattle.machine.specs.SiteBook.{second_part, setting}
use Rattle.machine.proofs.Tools.{next_row}
use Rattle.book_write.proofs.put_seconds.Goals as goal

pub loop-i-preserved : goal.loop-i-preserved
unfolding second_part
loop-i-preserved c =
    let a = c.args in
    let s = a.s in
    let l = c.loop-i in
    let r = c.put_second in
    next_row 6 (λ j. second_part (setting s j)) (λ j. refl) a.out.now (1 + 3 * s.n) l.i l.invariant (rw c.from-n.ensures at r.ensures)
