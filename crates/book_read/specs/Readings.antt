-- What a call that reads a book returns, as the machine's reading.
use Rattle.std.specs.Prelude.{Result, Ok, Err}
use Rattle.refusal.specs.declared.Refusal.{Refusal}
use Rattle.refusal.specs.Numbers.{hut_number}
use Rattle.machine.specs.declared.Plant.{Plant}
use Rattle.machine.specs.declared.Reading.{Reading}
use Rattle.machine.specs.Plant.{fresh_plant}
use Rattle.machine.specs.SiteBook.{no_site}

-- taken, number 0 and the plant; refused, the number of the refusal and the fresh plant of an all-zero site
abbrev pub reading_of : Result Plant Refusal → Reading
reading_of (Ok p) = record { number = 0; plant = p }
reading_of (Err r) = record { number = hut_number r; plant = fresh_plant no_site }
