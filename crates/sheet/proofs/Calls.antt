-- The number of a run, case by case, and what the run then returns.
use mathlib.Core.Path.{◌≡◌, refl, ◌∙◌}
use mathlib.Core.Bool.{true, false, not}
use mathlib.Core.List.{List}
use Prim.Native.Nat.{ℕ, zero, suc, ◌*◌}
use lib.Dec.{eqb}
use lib.ListN.{length}
use borrow.Author.Tests.{eq-eqb, ne_eqb}
use Rattle.std.specs.Prelude.{Result, IsErrAnd}
use Rattle.std.proofs.lemmas.Result.{err_from_is_err_and}
use Rattle.machine.specs.declared.Plant.{Plant}
use Rattle.machine.specs.declared.Event.{Event}
use Rattle.machine.specs.Common.{refuse}
use Rattle.machine.specs.Range.{in_range}
use Rattle.machine.specs.Events.{listed}
use Rattle.machine.specs.Panel.{panel}
use Rattle.machine.specs.Sheet.{sheet_size, sheet_event, sheet_number, run_number, counted, ran, run, run_panel}
use Rattle.machine.proofs.Taken.{step_site}
use Rattle.refusal.specs.declared.Refusal.{Refusal}
use Rattle.refusal.specs.Numbers.{hut_number}
use Rattle.refusal.proofs.Numbers.{never_0}
use Rattle.reader.proofs.Numbers.{sheet_passes, sheet_refuses}
use Rattle.sheet.specs.declared.Ran.{Ran}
use Rattle.sheet.specs.Runs.{run_of}

module _ (p : Plant) (s lent : List ℕ) where
  -- The number of a run ---------------------------------------------------------------------------------------------------------------
  pub number_spoilt : in_range p ≡ false → run_number p s lent ≡ 15
  unfolding run_number
  number_spoilt r = rw r

  pub number_sheet : in_range p ≡ true → (sheet_number s 0 ≡ 0 → ⊥) → run_number p s lent ≡ sheet_number s 0
  unfolding run_number
  number_sheet r q = rw r (sheet_refuses s _ q)

  number_rest : in_range p ≡ true → sheet_number s 0 ≡ 0 → run_number p s lent ≡ refuse (not (eqb (length lent) (16 * p.site.n))) 14 0
  unfolding run_number
  number_rest r q = rw r (sheet_passes s _ q)

  pub number_frame : in_range p ≡ true → sheet_number s 0 ≡ 0 → (length lent ≡ 16 * p.site.n → ⊥) → run_number p s lent ≡ 14
  number_frame r q f = number_rest r q ∙ rw (ne_eqb _ _ f)

  pub number_taken : in_range p ≡ true → sheet_number s 0 ≡ 0 → length lent ≡ 16 * p.site.n → run_number p s lent ≡ 0
  number_taken r q f = number_rest r q ∙ rw (eq-eqb _ _ f)

  -- What it returns -------------------------------------------------------------------------------------------------------------------
  pub run_refused : (result : Result Ran Refusal) (r : Refusal) → IsErrAnd result (λ x. x ≡ r) → run_number p s lent ≡ hut_number r → (run_of p result ≡ run p s lent) × (lent ≡ run_panel p s lent)
  unfolding run run_panel
  run_refused result r e q =
      let o = err_from_is_err_and result e in
      let z = ne_eqb _ _ (never_0 r) in
      (rw (o.1, o.2, q, z), rw (q, z))

  pub run_taken : run_number p s lent ≡ 0 → (ran p (sheet_event s) (sheet_size s) ≡ run p s lent) × (panel (ran p (sheet_event s) (sheet_size s)).plant ≡ run_panel p s lent)
  unfolding run run_panel
  run_taken q = (rw q, rw q)

pub ran_site : (p : Plant) (f : ℕ → Event) (k : ℕ) → (ran p f k).plant.site ≡ p.site
unfolding ran counted
ran_site p f zero = refl
ran_site p f (suc k) = step_site (ran p f k).plant (listed (f k)) ∙ ran_site p f k
