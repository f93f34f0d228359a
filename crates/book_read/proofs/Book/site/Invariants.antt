use mathlib.Core.Bool.{cond}
use mathlib.Core.Path.{◌≡◌}
use mathlib.Core.List.{List}
use Prim.Native.Nat.{ℕ}
use lib.Dec.{ltb}
use Rattle.machine.specs.declared.Entry.{Entry}
use Rattle.machine.specs.Common.{tab}
use Rattle.machine.specs.Plant.{no_entry}
use Rattle.machine.specs.SiteBook.{book_entry, book_size}
use Rattle.machine.proofs.First.{put_first}
use Rattle.book_read.proofs.Book.site.Given as goal

-- the entry at a place, and eight that are zero
abbrev pub at : List ℕ → ℕ → Entry
at b i = cond (ltb i (book_size b)) (book_entry b i) no_entry

abbrev pub none : List Entry
none = tab 8 (λ j. no_entry)

abbrev pub invariant-loop-i : goal.invariant-loop-i
invariant-loop-i l = l.entries ≡ put_first l.i (at l.self.bytes.now) none
