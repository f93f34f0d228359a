use mathlib.Core.Path.{◌≡◌, refl, sym}
use native.Mathlib.Omega.{arith}
use borrow.Author.Tests.{le-ltb}
use Rattle.machine.specs.Plant.{no_entry}
use Rattle.machine.specs.SiteBook.{book_site, book_size}
use Rattle.machine.proofs.Tools.{getD_tab}
use Rattle.machine.proofs.First.{first_tab}
use Rattle.book_read.proofs.Book.site.Invariants.{at, none}
use Rattle.book_read.proofs.Book.site.Goals as goal

pub returns : goal.returns
unfolding book_site
returns c =
    let b = c.args.self.now.bytes.now in
    let h : c.loop-i.i ≡ book_size b = omega arith in
    simp (c.loop-i.invariant, h, first_tab (at b) none no_entry (book_size b) 8 refl c.args.self.now.few (λ i l m. rw (le-ltb i (book_size b) l) (sym (getD_tab 8 (λ j. no_entry) no_entry i m))))
