-- Demand 3, proved: the parts at one crossing, then the claim for every book and every list of commands.
use mathlib.Core.Path.{◌≡◌, refl, sym, ◌∙◌, ap}
use mathlib.Core.Logic.{◌⊎◌}
use mathlib.Core.Bool.{true, false, ◌||◌, true≢false, false≢true, or-true}
use mathlib.Core.List.{List, [], ◌∷◌, map}
use Prim.Native.Nat.{ℕ, ◌%◌, ◌≤◌, ◌<◌}
use native.Mathlib.Omega.{arith}
use lib.Dec.{eqb, lit<}
use lib.ListN.{get_or}
use borrow.Author.Tests.{eqb-true, eqb-false, lt-ltb}
use Rattle.machine.specs.declared.Entry.{Entry}
use Rattle.machine.specs.declared.Site.{Site}
use Rattle.machine.specs.declared.Crossing.{Crossing}
use Rattle.machine.specs.declared.Plant.{Plant}
use Rattle.machine.specs.declared.Event.{Event}
use Rattle.machine.specs.Events.{From, Command, listed}
use Rattle.machine.specs.Plant.{boom, lamp, entry, crossing, no_entry, no_crossing, fresh_crossing, fresh_plant, lamps_at, old_booms, lamp_count, booms_closed, boom_lamps_whole, normal, secured}
use Rattle.machine.specs.Effects.{tick}
use Rattle.machine.specs.Settling.{settle}
use Rattle.machine.specs.Step.{touch, step, after}
use Rattle.machine.specs.Panel.{row}
use Rattle.machine.specs.SiteBook.{read}
use Rattle.machine.proofs.Tools.{by_test, by_cond, and_both, getD_tab}
use Rattle.machine.proofs.Taken.{step_site}
use Rattle.machine.proofs.Ranges.{PlantIn, plant_reads, entry_of}
use Rattle.machine.proofs.Laws.{fresh_of, fresh_in_range, panel_at}
use Rattle.demand.specs.Words.{as_demanded, all_closed}
use Rattle.demand.specs.Ledger.{log, Stage, free, warns, lowers, shut, rises, ticks_left, some_unsure, stands, rested, state}
use Rattle.demand.specs.Demand.{known, stands_after, up_after, left_after, Unbroken, Ready, needed, soonest, shown, may_tick, a_tick, WholeAfter, Closed, Pauses, Ordered, Kept, Demand, UnsentDemand, ClosesSooner}
use Rattle.demand.proofs.Unbroken.{stands_now, at_least}
use Rattle.demand.proofs.Stages.{numbers, rests, resting, not_resting, left_open, stands_open}
use Rattle.demand.proofs.Timing.{Timed}
use Rattle.demand.proofs.Agree.{reason_stands, same_booms, same_up}
use Rattle.demand.proofs.Each.{Holds}
use Rattle.demand.proofs.Answers.{crossing_after, tick_taken}
use Rattle.demand.proofs.Run.{same_sum, Sound, sound}
use Rattle.demand.proofs.Closing.{in_time}
use Rattle.demand.proofs.Shown.{passable_secured, passable_white, released_secured, none_released, right_up, left_up, opened, normal_bit, bit_normal, all_ordered}

-- where a reason stands after a log, phase 0 has ticks left: before any event none stands
open_left : (s : Entry) (h : List Event) → stands (state s h) ≡ true → (numbers (state s h).stage).phase ≡ 0 → 0 < ticks_left (state s h).stage
unfolding state rested stands
open_left s [] r = absurd (false≢true r)
open_left s (e ∷ h) r = rw r (stands_open s _ _)

-- One crossing ---------------------------------------------------------------------------------------------------------------------
-- byte j of crossing i in a plant with the site of p
shows : (p q : Plant) → q.site ≡ p.site → (i j : ℕ) → i < p.site.n → j < 16 → shown q i j ≡ get_or (row q.beat (entry p i) (crossing q i)) j 0
shows p q s i j l b = panel_at q i j (rw s l) b ∙ ap (λ x. get_or (row q.beat (get_or x.entries i no_entry) (crossing q i)) j 0) s

module _ (p : Plant) (es : List Command) (k : Sound p es) (i : ℕ) (l : i < p.site.n) where
  abbrev q : Plant
  q = after p es

  abbrev s : Entry
  s = entry p i

  abbrev c : Crossing
  c = crossing q i

  abbrev at : Holds p es i c
  at = k.each i l

  range : PlantIn q
  range = plant_reads q k.range

  -- phase and timer are those of the ledger's stage
  phase_is : c.phase ≡ (numbers (known p i es).stage).phase
  phase_is = ap (λ k. k.phase) at.agree.stage

  timer_is : c.timer ≡ (numbers (known p i es).stage).timer
  timer_is = ap (λ k. k.timer) at.agree.stage

  -- all ordered down: no tick is to come
  waited : c.phase ≡ 3 → Unbroken p i (needed s) es
  waited three = by_stage (known p i es).stage (sym phase_is ∙ three) at.timed
    where
      by_stage : (x : Stage) → (numbers x).phase ≡ 3 → Timed (λ n. Unbroken p i n es) s x → Unbroken p i (needed s) es
      by_stage (free n) z t = absurd (omega arith)
      by_stage (warns n) z t = absurd (omega arith)
      by_stage (lowers n) z t = absurd (omega arith)
      by_stage shut z t = let u = t refl in at_least p i (needed s) es (let b = u.2 in omega arith) u.1
      by_stage rises z t = absurd (omega arith)

  -- a lamp that the kind has and that is whole was last reported so
  whole : (l : ℕ) → l < lamp_count s.kind → lamp c l ≡ true → WholeAfter p i es l
  whole l b q = sym (at.agree.lamp l b) ∙ eqb-true _ _ q

  red_whole : lamp c 1 ≡ true → WholeAfter p i es 1
  red_whole = whole 1 (by_cond (λ n. 1 < n) (old_booms s.kind) (λ _. lit< tt) (λ _. lit< tt))

  closed : secured s c ≡ true → Closed p es i
  unfolding secured booms_closed all_closed
  closed v =
      let d = and_both _ (boom_lamps_whole s.kind (lamp c)) v in
      let a = and_both _ (booms_closed s.kind (boom c)) d.0 in
      let b = and_both (eqb c.phase 3) (lamp c 1) a.0 in
      record {
        unbroken = waited (eqb-true _ _ b.0);
        booms = sym (same_booms at.agree s.kind (as_demanded s.kind)) ∙ a.1;
        boom_lamps = λ six. let e = and_both (lamp c 5) (lamp c 6) (rw six at d.1) in (whole 5 (rw six (lit< tt)) e.0, whole 6 (rw six (lit< tt)) e.1);
        red = red_whole b.1;
      }

  -- in phases 1 and 3 a reason stands
  stands_closing : (eqb c.phase 1 || eqb c.phase 3) ≡ true → stands_after p i es ≡ true
  stands_closing q = stands_now p i (at.timed (not_resting (known p i es).stage (rw (← phase_is) q))).1

  module _ (none : stands_after p i es ≡ false) where
    at_rest : rests (known p i es).stage ≡ true
    at_rest = by_test (rests (known p i es).stage) (λ r. r) (λ r. absurd (true≢false (sym (stands_now p i (at.timed r).1) ∙ none)))

    phases : (c.phase ≡ 0) ⊎ (c.phase ≡ 4)
    phases = rw phase_is (resting (known p i es).stage at_rest).0

    after_tick : up_after p i es ≡ true → (from : From) → may_tick from ≡ true → shown (step q (a_tick from)).plant i 9 % 2 ≡ 1
    unfolding touch row
    after_tick raised from may =
        let t = tick_taken q from may k.range in
        let same : entry q i ≡ s = ap (λ x. get_or x.entries i no_entry) k.site in
        let byte = shows p (step q (a_tick from)).plant (step_site q (a_tick from) ∙ k.site) i 9 l (lit< tt) in
        let now = crossing_after q (a_tick from) t i (omega (arith, range.count, ap (λ x. x.n) k.site)) in
        rw (byte, now, same) (normal_bit s (settle s 1 (tick s c)) (opened s c phases (timer_is ∙ (resting (known p i es).stage at_rest).1) (reason_stands at.agree ∙ none) (same_up at.agree s.kind ∙ raised)))

  -- an unsure track is a reason
  marked : some_unsure (known p i es) ≡ true → stands_after p i es ≡ true
  unfolding stands
  marked m = rw (m, or-true)

  -- with a reason a crossing is in normal position only while ticks are left
  only_left : stands_after p i es ≡ true → shown q i 9 % 2 ≡ 1 → 0 < left_after p i es
  unfolding row normal
  only_left r v =
      let n = bit_normal s c (ap (λ x. x % 2) (sym (shows p q k.site i 9 l (lit< tt))) ∙ v) in
      open_left s (log p i es) r (sym phase_is ∙ eqb-true _ _ (and_both (eqb c.phase 0) _ n).0)

  -- phase 0 is not secured
  pauses : 0 < left_after p i es → Pauses p es i
  unfolding row secured
  pauses m =
      let zero : c.phase ≡ 0 = phase_is ∙ left_open (known p i es).stage m in
      let unsecured : secured s c ≡ true → ⊥ = (λ v. false≢true (rw zero at v)) in
      record {
        phase = shows p q k.site i 10 l (lit< tt) ∙ zero;
        signal = λ v. let two = sym (shows p q k.site i 6 l (lit< tt)) ∙ v in by_test (eqb s.kind 5)
            (λ five. false≢true (rw zero at (passable_white s c (eqb-true _ _ five) two).0))
            (λ other. unsecured (passable_secured s c (eqb-false _ _ other) two));
        released = shows p q k.site i 8 l (lit< tt) ∙ none_released s c unsecured;
      }

  pub ordered : (known p i es).stage ≡ shut → Ordered p es i
  unfolding row
  ordered z =
      let three : c.phase ≡ 3 = phase_is ∙ ap (λ x. (numbers x).phase) z in
      let o = all_ordered s c three in
      record {
        phase = shows p q k.site i 10 l (lit< tt) ∙ three;
        right = λ b. shows p q k.site i 4 l (lit< tt) ∙ o.0 b;
        left = λ b. shows p q k.site i 5 l (lit< tt) ∙ o.1 b;
      }

  pub closes : {n : ℕ} → soonest s ≤ n → Ready p i n es → Ordered p es i
  closes m u = ordered (in_time p i (rw same at (entry_of range i (rw k.site l))) es m u)
    where
      same : entry q i ≡ s
      same = ap (λ x. get_or x.entries i no_entry) k.site

  pub kept : Kept p es i
  unfolding row
  kept = record {
    account = at.even;
    passable = λ other v. closed (passable_secured s c other (sym (shows p q k.site i 6 l (lit< tt)) ∙ v));
    white = λ five v. let w = passable_white s c five (sym (shows p q k.site i 6 l (lit< tt)) ∙ v) in (stands_closing w.0, red_whole w.1);
    released = λ (v : 0 < shown q i 8). closed (released_secured s c (rw (shows p q k.site i 8 l (lit< tt)) at v));
    opening = λ none. record {
      right = shows p q k.site i 4 l (lit< tt) ∙ right_up s c (phases none);
      left = shows p q k.site i 5 l (lit< tt) ∙ left_up s c (phases none);
      normal = after_tick none;
    };
    unsure = λ m. only_left (marked m);
    motorists = pauses;
    closing = closes (omega arith);
  }

-- The claim ------------------------------------------------------------------------------------------------------------------------
fresh_at : (s : Site) (i : ℕ) → i < s.n → s.n ≤ 8 → crossing (fresh_plant s) i ≡ fresh_of (entry (fresh_plant s) i)
unfolding fresh_plant
fresh_at s i l few = getD_tab 8 (λ j. fresh_crossing (lamps_at s j)) no_crossing i (omega arith) ∙ rw (lt-ltb i s.n l)

-- what holds after every list from the fresh plant of a book
sound_book : (book : List ℕ) (es : List Command) → (read book).number ≡ 0 → Sound (read book).plant es
unfolding read fresh_plant
sound_book book es v = let p = (read book).plant in let g = fresh_in_range book v in sound p g (λ i l. fresh_at p.site i l (plant_reads p g).count) es

pub demand : Demand
unfolding Demand
demand book es v =
    let p = (read book).plant in
    let k = sound_book book es v in
    record { each = kept p es k; sum = same_sum p.site.n _ ∙ k.sum; tick = λ from may. tick_taken (after p es) from may k.range }

-- lists without senders
pub unsent_demand : UnsentDemand
unfolding Demand UnsentDemand
unsent_demand book es = demand book (map listed es)

-- one tick sooner than the claim asks
pub closes_sooner : ClosesSooner
unfolding ClosesSooner
closes_sooner book es v i l = closes (read book).plant es (sound_book book es v) i l (omega arith)
