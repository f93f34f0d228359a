use Rattle.std.proofs.Common.{sym, ◌∙◌}
use Rattle.book_write.proofs.Accepted.{write_reads, written_taken, written_refused}
use Rattle.refusal.proofs.Numbers.{never_0}
use Rattle.machine.proofs.Entries.{at_most_eight}
use Rattle.book_write.proofs.write.Goals as goal

pub put_book-requires : goal.put_book-requires
put_book-requires c =
    let s = c.args.s in
    let h = write_reads s c.args.out.now (sym c.in_ok-check.ensures) in
    (at_most_eight s.n h.count, h.size)

pub returns-clause-bytes : goal.returns-clause-bytes
returns-clause-bytes c = c.put_book.ensures ∙ sym (written_taken _ _ (sym c.in_ok-check.ensures))

pub returns-in_err-check-clause-bytes : goal.returns-in_err-check-clause-bytes
returns-in_err-check-clause-bytes c = sym (written_refused _ _ (λ z. never_0 c.in_err-check.field-0.0 (c.in_err-check.ensures ∙ z)))
