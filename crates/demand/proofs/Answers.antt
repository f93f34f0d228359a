-- One command from a plant: what its answer tells of the plant after it and of the trains written off.
use mathlib.Core.Path.{◌≡◌, sym, ◌∙◌, ap}
use mathlib.Core.Bool.{true, false, and-false}
use native.Mathlib.Omega.{arith}
use Prim.Native.Nat.{ℕ, ◌<◌}
use lib.Dec.{eqb}
use borrow.Author.Tests.{eqb-true, eqb-false, eq-eqb, ne_eqb}
use Rattle.machine.specs.Common.{sum_below}
use Rattle.machine.specs.declared.Plant.{Plant}
use Rattle.machine.specs.declared.Event.{Event}
use Rattle.machine.specs.Plant.{entry, crossing, no_crossing}
use Rattle.machine.specs.Range.{in_range}
use Rattle.machine.specs.Rights.{may_send}
use Rattle.machine.specs.Events.{From, sheet, sender, Command, is_known, entitled, is, place_limit, value_limit, refusal, number}
use Rattle.machine.specs.Effects.{written_at}
use Rattle.machine.specs.Step.{touch, apply, written, step}
use Rattle.machine.proofs.Tools.{by_cond, sum_past, getD_tab}
use Rattle.machine.proofs.Taken.{taken_answer, refused_answer, answer_number, taken_crossing}
use Rattle.machine.proofs.Ranges.{PlantIn}
use Rattle.machine.proofs.Entries.{zero_kind}
use Rattle.machine.proofs.Stays.{zero_releases}
use Rattle.demand.specs.Ledger.{taken}
use Rattle.demand.specs.Demand.{may_tick, a_tick}

module _ (q : Plant) (x : Command) where
  abbrev e : Event
  e = x.event

  pub taken_number : taken q x ≡ eqb (number q x) 0
  unfolding taken
  taken_number = ap (λ y. eqb y 0) (answer_number q x)

  module _ (t : taken q x ≡ true) where
    pub zero_number : number q x ≡ 0
    zero_number = eqb-true _ _ (sym taken_number ∙ t)

    pub crossing_after : (i : ℕ) → i < 8 → crossing (step q x).plant i ≡ touch (entry q i) i (crossing q i) e
    unfolding apply
    crossing_after i b = ap (λ a. crossing a.plant i) (taken_answer q x zero_number) ∙ getD_tab 8 (λ j. touch (entry q j) j (crossing q j) e) no_crossing i b

    -- nothing is written off past the last crossing: no release completes there, and no event is of a crossing there
    pub taken_written : PlantIn q → (step q x).written ≡ sum_below q.site.n (λ i. written_at (entry q i) i (crossing q i) e)
    unfolding written written_at
    taken_written g = ap (λ a. a.written) (taken_answer q x zero_number)
        ∙ sum_past (λ i. written_at (entry q i) i (crossing q i) e) 8 q.site.n g.count (λ i a b.
        by_cond (λ y. y ≡ 0) (is 0 e)
        (λ _. rw (zero_releases (entry q i) (zero_kind (entry q i) (g.entry_past i b a)) (crossing q i) (g.past i b a)))
        (λ z. let l = taken_crossing q x zero_number z in rw (ne_eqb e.crossing i (λ o. omega arith), and-false)))

  pub refused_step : taken q x ≡ false → step q x ≡ record { number = number q x; written = 0; plant = q }
  refused_step f = refused_answer q x (eqb-false _ _ (sym taken_number ∙ f))

-- a plant in range takes a tick, of a sheet or of detection
pub tick_taken : (q : Plant) (from : From) → may_tick from ≡ true → in_range q ≡ true → taken q (a_tick from) ≡ true
unfolding is_known may_send entitled number refusal place_limit value_limit
tick_taken q sheet t g = taken_number q (a_tick sheet) ∙ eq-eqb (number q (a_tick sheet)) 0 (rw g)
tick_taken q (sender k) t g = rw (eqb-true k 0 t) (taken_number q (a_tick (sender 0)) ∙ eq-eqb (number q (a_tick (sender 0))) 0 (rw g))
