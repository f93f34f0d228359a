use Rattle.std.proofs.Common.{arith, ◌∙◌}
use Rattle.machine.specs.SiteBook.{second_part}
use Rattle.book_write.proofs.Stored.{stored}
use Rattle.book_write.proofs.put_second.Goals as goal

pub returns : goal.returns
unfolding second_part
returns c =
    stored c.args.at _ c.args.out.now _ (second_part c.args.x) (c.copy_from_slice.ensures.after ∙ simp (c.to_le_bytes.ensures, c.to_le_bytes-2.ensures, c.to_le_bytes-3.ensures)) (omega arith) (omega arith)
