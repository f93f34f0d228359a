-- Reading and writing in turn.
use Rattle.std.specs.Prelude.{cond, not, List, ℕ, eqb, length}
use Rattle.machine.specs.declared.Site.{Site}
use Rattle.machine.specs.declared.Reading.{Reading}
use Rattle.machine.specs.Common.{refuse}
use Rattle.machine.specs.Numbers.{bad_output_length}
use Rattle.machine.specs.Plant.{fresh_plant}
use Rattle.machine.specs.SiteBook.{no_site, read_number, write_number}

-- a book read and its settings written: the number of the reading, otherwise 14 where the output has not the book's length
unfoldable pub copy_number : List ℕ → List ℕ → ℕ
copy_number b lent =
    cond (eqb (read_number b) 0)
    (refuse (not (eqb (length lent) (length b))) bad_output_length 0)
    (read_number b)

-- the bytes of the output: those of the book or, refused, what it held
unfoldable pub copied : List ℕ → List ℕ → List ℕ
copied b lent = cond (eqb (copy_number b lent) 0) b lent

-- settings written and the book read back: the number of the writing, and the fresh plant of the same settings or, refused, of an all-zero site
unfoldable pub reread : Site → List ℕ → Reading
reread s lent = record { number = write_number s lent; plant = fresh_plant (cond (eqb (write_number s lent) 0) s no_site) }
