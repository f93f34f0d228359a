-- What the program prints for the bytes of its two files.
use Rattle.std.specs.Prelude.{Result, Ok, Err, cond, List, ◌++◌, ℕ, ◌*◌, eqb, ltb, length, drop}
use Rattle.refusal.specs.declared.Refusal.{Refusal}
use Rattle.refusal.specs.Numbers.{hut_number}
use Rattle.report.specs.declared.Outcome.{Outcome}
use Rattle.machine.specs.Common.{refuse}
use Rattle.machine.specs.Numbers.{bad_output_length}
use Rattle.machine.specs.Panel.{panel}
use Rattle.machine.specs.SiteBook.{read, read_number}
use Rattle.machine.specs.declared.Run.{Run}
use Rattle.machine.specs.Sheet.{ran, sheet_event, sheet_number, sheet_size}

-- what is printed but the panel: the number, 0 where the files are taken; then the crossings and the counts of the run
pub record Report : Type 0 where
  pub number : ℕ
  pub n : ℕ
  pub taken : ℕ
  pub refused : ℕ
  pub written : ℕ

-- the crossings of the site
abbrev pub size : List ℕ → ℕ
size site = (read site).plant.site.n

-- the whole sheet, run from the site's fresh plant
abbrev pub run_of : List ℕ → List ℕ → Run
run_of site sheet = ran (read site).plant (sheet_event sheet) (sheet_size sheet)

-- the site's number, otherwise the sheet's, otherwise 14 where the lent bytes are too few for the panel, otherwise 0
unfoldable pub report_number : List ℕ → List ℕ → List ℕ → ℕ
report_number site sheet lent =
    cond (eqb (read_number site) 0)
    (sheet_number sheet (refuse (ltb (length lent) (16 * size site)) bad_output_length 0))
    (read_number site)

-- refused: the number alone
abbrev pub refused : ℕ → Report
refused number = record { number = number; n = 0; taken = 0; refused = 0; written = 0 }

-- taken: the crossings and the counts of the run
abbrev pub counts : ℕ → Run → Report
counts n r = record { number = 0; n = n; taken = r.taken; refused = r.refused; written = r.written }

-- what the call returns, as what is printed
abbrev pub outcome_of : Result Outcome Refusal → Report
outcome_of (Ok o) = record { number = 0; n = o.n; taken = o.taken; refused = o.refused; written = o.written }
outcome_of (Err refusal) = refused (hut_number refusal)

-- what is printed but the panel
unfoldable pub report : List ℕ → List ℕ → List ℕ → Report
report site sheet lent =
    cond (eqb (report_number site sheet lent) 0)
    (counts (size site) (run_of site sheet))
    (refused (report_number site sheet lent))

-- the panel after the last event and, after it, what the lent bytes held
abbrev pub drawn : List ℕ → List ℕ → List ℕ → List ℕ
drawn site sheet lent = panel (run_of site sheet).plant ++ drop (16 * size site) lent

-- the lent bytes after the call; refused, all as they were
unfoldable pub report_panel : List ℕ → List ℕ → List ℕ → List ℕ
report_panel site sheet lent = cond (eqb (report_number site sheet lent) 0) (drawn site sheet lent) lent
