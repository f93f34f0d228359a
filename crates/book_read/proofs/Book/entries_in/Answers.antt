use Rattle.std.proofs.Common.{rules}
use Rattle.machine.specs.Range.{entry_in}
use Rattle.machine.specs.SiteBook.{book_entry, book_size}
use Rattle.machine.proofs.Below.{all_range}
use Rattle.book_read.proofs.Book.entries_in.Goals as goal

pub returns : goal.returns
returns c =
    let b = c.args.self.now.bytes.now in
    all_range (book_size b) (λ i. entry_in (book_entry b i)) (cc) c.all.ensures.ran (λ x b q k. search rules)
