use Rattle.std.proofs.Common.{◌≡◌, length, sym, ◌∙◌, ap}
use Rattle.std.proofs.lemmas.Result.{err_from_is_err_and}
use Rattle.machine.specs.declared.Reading.{Reading}
use Rattle.machine.specs.SiteBook.{read, write_number}
use Rattle.book_write.proofs.Accepted.{written_taken}
use Rattle.refusal.proofs.Numbers.{never_0}
use Rattle.book.proofs.ReadBack.{reading_back, reread_refused}
use Rattle.book.proofs.reread.Goals as goal

pub returns-clause-reading : goal.returns-clause-reading
returns-clause-reading c =
    let s = c.args.s in
    let o = c.args.out.now in
    let q : write_number s o ≡ 0 = sym c.in_ok-write.ensures.number in
    let eight : length s.entries ≡ 8 = c.well_formed.0.1.1.1.0.1.0.1 in
    c.read.ensures ∙ ap {B = Reading} read (c.write.ensures.bytes ∙ written_taken s o q) ∙ reading_back s o eight q

pub returns-in_err-write-clause-reading : goal.returns-in_err-write-clause-reading
returns-in_err-write-clause-reading c =
    let s = c.args.s in
    let o = c.args.out.now in
    let r = c.in_err-write.field-0.0 in
    let n = c.in_err-write.ensures.number in
    let p = err_from_is_err_and c.from_residual.result c.from_residual.ensures.1 in
    rw (p.1, p.2, n) (sym (reread_refused s o (λ z. never_0 r (n ∙ z))))
