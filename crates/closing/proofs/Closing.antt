-- Closing in time from every plant in range, by induction over the list.
use mathlib.Core.Path.{◌≡◌, refl, sym, ◌∙◌, ap}
use mathlib.Core.Bool.{true}
use mathlib.Core.List.{List, [], ◌∷◌, ◌++◌}
use Prim.Native.Nat.{ℕ, ◌+◌, ◌-◌, pred, ◌≤◌, ◌<◌}
use native.Mathlib.Omega.{arith}
use lib.Dec.{eqb, lit<}
use lib.ListN.{get_or}
use borrow.Author.Tests.{eqb-true, eqb-false}
use Rattle.machine.specs.declared.Entry.{Entry}
use Rattle.machine.specs.declared.Crossing.{Crossing}
use Rattle.machine.specs.declared.Plant.{Plant}
use Rattle.machine.specs.declared.Event.{Event}
use Rattle.machine.specs.Plant.{boom, entry, crossing, no_entry, no_crossing, reason, booms_up}
use Rattle.machine.specs.Range.{in_range}
use Rattle.machine.specs.Events.{Command, is, number}
use Rattle.machine.specs.Effects.{act}
use Rattle.machine.specs.Step.{touch, apply, step, after}
use Rattle.machine.specs.Panel.{right_down, left_down, row}
use Rattle.machine.proofs.Tools.{by_test, and_both, getD_tab}
use Rattle.machine.proofs.Taken.{taken_answer, refused_answer, answer_number, step_site}
use Rattle.machine.proofs.Ranges.{CrossingIn, plant_reads}
use Rattle.machine.proofs.Stays.{stays_in_range}
use Rattle.machine.proofs.Laws.{panel_at}
use Rattle.demand.specs.Words.{all_up}
use Rattle.demand.specs.Ledger.{taken, note, log, count}
use Rattle.demand.specs.Demand.{shown}
use Rattle.closing.specs.Closing.{stands_in, up_in, ready_in, Closes}
use Rattle.closing.proofs.Measure.{ticks_to_go, at_most, none_to_go, own_nearer, tick_nearer}

-- a reason, and all booms up, are what the machine reads
same_reason : (c : Crossing) → reason c ≡ stands_in c
unfolding reason stands_in
same_reason c = refl

same_up : (kind : ℕ) (c : Crossing) → booms_up kind (boom c) ≡ up_in kind c
unfolding booms_up all_up
same_up kind c = refl

-- the ticks of a log in two parts
count_append : (a b : List Event) → count 0 (a ++ b) ≡ count 0 a + count 0 b
unfolding count
count_append [] b = omega arith
count_append (x ∷ a) b = let ih = count_append a b in omega arith

by_one : (a b : ℕ) → a ≤ pred b → a ≤ b - (1 + 0)
by_one a b l = omega arith

by_none : (a b n : ℕ) → n ≡ 0 → a ≤ b → a ≤ b - n
by_none a b n z l = omega arith

module _ (i : ℕ) where
  abbrev at : Plant → Crossing
  at p = crossing p i

  -- One command ------------------------------------------------------------------------------------------------------------------------
  module _ (p : Plant) (x : Command) (range : in_range p ≡ true) (l : i < p.site.n) where
    abbrev s : Entry
    s = entry p i

    abbrev e : Event
    e = x.event

    here : CrossingIn s (at p)
    here = (plant_reads p range).used i l

    same_entry : entry (step p x).plant i ≡ s
    same_entry = ap (λ y. get_or y.entries i no_entry) (step_site p x)

    touched : number p x ≡ 0 → at (step p x).plant ≡ touch s i (at p) e
    unfolding apply
    touched q = ap (λ a. crossing a.plant i) (taken_answer p x q) ∙ getD_tab 8 (λ j. touch (entry p j) j (crossing p j) e) no_crossing i (omega (arith, (plant_reads p range).count))

    nearer : ready_in (step p x).plant i ≡ true → ticks_to_go s (at (step p x).plant) ≤ ticks_to_go s (at p) - count 0 (note p i x)
    unfolding note taken count touch act
    nearer q = by_test (eqb (step p x).number 0)
        (λ t.
        let now = touched (sym (answer_number p x) ∙ eqb-true _ _ t) in
        let next = (step p x).plant in
        let both = and_both (stands_in (at next)) (up_in (entry next i).kind (at next)) q in
        let stands = rw now at (same_reason (at next) ∙ both.0) in
        let up = rw (same_entry, now) at (same_up (entry next i).kind (at next) ∙ both.1) in
        rw (now, t) (by_test (is 0 e)
        (λ z. let zero : e.code ≡ 0 = eqb-true _ _ z in rw zero (by_one _ _ (tick_nearer s (at p) here.phase (rw zero at stands) (rw zero at up))))
        (λ z. by_test (eqb e.crossing i)
        (λ o. let none : count 0 (e ∷ []) ≡ 0 = rw z in rw (z, o) (by_none _ _ _ none (own_nearer s (act s (at p) e) here.phase (rw (z, o) at stands) (rw (z, o) at up))))
        (λ o. rw (z, o) (by_none _ _ 0 refl (omega arith))))))
        (λ t. let same : (step p x).plant ≡ p = ap (λ a. a.plant) (refused_answer p x (λ z. eqb-false _ _ t (answer_number p x ∙ z))) in rw (same, t) (omega arith))

  -- A list -----------------------------------------------------------------------------------------------------------------------------
  site_after : (es : List Command) (p : Plant) → (after p es).site ≡ p.site
  unfolding after
  site_after [] p = refl
  site_after (x ∷ es) p = site_after es (step p x).plant ∙ step_site p x

  range_after : (es : List Command) (p : Plant) → in_range p ≡ true → in_range (after p es) ≡ true
  unfolding after
  range_after [] p g = g
  range_after (x ∷ es) p g = range_after es (step p x).plant (stays_in_range p x g)

  all_nearer : (es : List Command) (p : Plant) → in_range p ≡ true → i < p.site.n → ((a b : List Command) → es ≡ a ++ b → ready_in (after p a) i ≡ true)
      → ticks_to_go (entry p i) (at (after p es)) ≤ ticks_to_go (entry p i) (at p) - count 0 (log p i es)
  unfolding after log count
  all_nearer [] p g l f = omega arith
  all_nearer (x ∷ es) p g l f =
      let q = (step p x).plant in
      let first = nearer p x g l (f (x ∷ []) es refl) in
      let rest = rw (same_entry p x g l) at (all_nearer es q (stays_in_range p x g) (rw (step_site p x) l) (λ a b e. f (x ∷ a) b (ap {B = List Command} (λ r. x ∷ r) e))) in
      omega (arith, first, rest, count_append (log q i es) (note p i x))

  -- byte j of the crossing in the panel after a list
  shows : (p : Plant) (es : List Command) (j : ℕ) → i < p.site.n → j < 16 → shown (after p es) i j ≡ get_or (row (after p es).beat (entry p i) (at (after p es))) j 0
  shows p es j l b =
      let q = after p es in
      panel_at q i j (rw (site_after es p) l) b ∙ ap (λ y. get_or (row q.beat (get_or y.entries i no_entry) (at q)) j 0) (site_after es p)

pub closes : Closes
unfolding Closes row right_down left_down
closes p es i g l h =
    let s = entry p i in
    let q = after p es in
    let same : entry q i ≡ s = ap (λ y. get_or y.entries i no_entry) (site_after i es p) in
    let now : CrossingIn s (crossing q i) = rw same at ((plant_reads q (range_after i es p g)).used i (rw (site_after i es p) l)) in
    let m = all_nearer i es p g l h.stood in
    let three : (crossing q i).phase ≡ 3 = none_to_go s (crossing q i) now (omega (arith, m, h.enough, at_most s (crossing p i) ((plant_reads p g).used i l))) in
    record {
      phase = shows i p es 10 l (lit< tt) ∙ three;
      right = λ b. shows i p es 4 l (lit< tt) ∙ rw (three, b);
      left = λ b. shows i p es 5 l (lit< tt) ∙ rw (three, b);
    }
