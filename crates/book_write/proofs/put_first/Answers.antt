use Rattle.std.proofs.Common.{arith}
use Rattle.machine.specs.SiteBook.{first_part}
use Rattle.book_write.proofs.Stored.{stored}
use Rattle.book_write.proofs.put_first.Goals as goal

pub returns : goal.returns
unfolding first_part
returns c = stored c.args.at _ c.args.out.now _ (first_part c.args.x) c.copy_from_slice.ensures.after (omega arith) (omega arith)
