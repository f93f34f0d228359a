-- Laws of the eight slots.
use mathlib.Core.Path.{◌≡◌, refl, sym, ◌∙◌, ap}
use mathlib.Core.List.{List, [], ◌∷◌}
use Prim.Native.Nat.{ℕ, zero, suc, ◌+◌, ◌≤◌, ◌<◌}
use native.Mathlib.Omega.{arith}
use lib.Dec.{eqb}
use lib.ListN.{length, get_or, set, length-set}
use lib.Seq.{ext_get_or, get_or-set_same, get_or-set_other}
use borrow.Author.Tests.{eqb-true, eqb-false, lt-ltb, le-ltb}
use Rattle.machine.specs.declared.Entry.{Entry}
use Rattle.machine.specs.declared.Site.{Site}
use Rattle.machine.specs.declared.Crossing.{Crossing}
use Rattle.machine.specs.declared.Plant.{Plant}
use Rattle.machine.specs.declared.Event.{Event}
use Rattle.machine.specs.Plant.{no_crossing, total}
use Rattle.machine.specs.Common.{bit}
use Rattle.machine.specs.Effects.{act, tick, releases}
use Rattle.machine.specs.Settling.{settle}
use Rattle.machine.proofs.Tools.{by_test, below_suc, sum_same, getD_tab, tab_same, tab_getD}
use Rattle.plant_tick.specs.Ticks.{ticked_plant}
use Rattle.plant.proofs.Laws.{unread, crossing_read}
use Rattle.lane.specs.Lanes.{Small}
use Rattle.slot.specs.declared.Packed.{Packed}
use Rattle.slot.specs.Slots.{Slot, first_slot, seen, current, laid, woken, written_off, acted}
use Rattle.quiet.proofs.Quiet.{passed_none}
use Rattle.slot.proofs.Slots.{Good, quiet_good, quiet_current, quiet_written, woken_good, woken_current, woken_written, acted_good, acted_current}
use Rattle.slots.specs.Eight.{no_packed, slot_at, entry_at, crossing_at, AllSmall, Begun, shown, Swept}

module _ (s : Entry) (now : ℕ) (z : Slot) where
  woken_quiet : now < z.due → (woken s now z ≡ z) × (written_off s now z ≡ 0)
  unfolding woken written_off
  woken_quiet b = (rw (lt-ltb now z.due b), rw (lt-ltb now z.due b))

  woken_due : z.due ≤ now → (woken s now z ≡ laid s (suc now) (settle s 1 (tick s (current s now z)))) × (written_off s now z ≡ bit (releases s (current s now z)) (total (current s now z)))
  unfolding woken written_off
  woken_due b = (rw (le-ltb now z.due b), rw (le-ltb now z.due b))

-- a slot stored
module _ (ps : List Packed) (j : ℕ) (d : Packed) where
  pub stored_same : j < length ps → slot_at (set ps j d) j ≡ seen d
  stored_same b = ap seen (get_or-set_same ps j d no_packed b)

  pub stored_other : (i : ℕ) → (i ≡ j → ⊥) → slot_at (set ps j d) i ≡ slot_at ps i
  stored_other i n = ap seen (get_or-set_other ps j i d no_packed n)

-- A sweep, slot by slot ------------------------------------------------------------------------------------------------------------
pub swept_none : (site : Site) (now : ℕ) (ps : List Packed) (m : ℕ) → Swept site now ps ps 0 m 0
swept_none site now ps m = record {
  size = refl;
  done = λ j b. absurd (omega arith);
  rest = λ j b. refl;
  ahead = λ j b. absurd (omega arith);
  sum = refl;
  bound = omega arith;
}

module _ (site : Site) (now : ℕ) (before after : List Packed) (i m w : ℕ) (h : Swept site now before after i m w) where
  here : slot_at after i ≡ slot_at before i
  here = h.rest i (omega arith)

  pub swept_quiet : now < (slot_at after i).due → (r : ℕ) → r ≤ m → r ≤ (slot_at after i).due → Swept site now before after (suc i) r w
  swept_quiet b r l k =
      let q = woken_quiet (entry_at site i) now (slot_at before i) (let x = ap (λ a. a.due) here in omega arith) in
      let q1 = q.1 in
      record {
        size = h.size;
        done = below_suc (λ j. slot_at after j ≡ woken (entry_at site j) now (slot_at before j)) i h.done (here ∙ sym q.0);
        rest = λ j n. h.rest j (omega arith);
        ahead = below_suc (λ j. r ≤ (slot_at after j).due) i (λ j n. let x = h.ahead j n in omega arith) k;
        sum = let x = h.sum in omega arith;
        bound = let x = h.bound in omega arith;
      }

  pub swept_due : (slot_at after i).due ≤ now → i < length before → (d : Packed) → seen d ≡ laid (entry_at site i) (suc now) (settle (entry_at site i) 1 (tick (entry_at site i) (current (entry_at site i) now (slot_at after i))))
      → (v : ℕ) → v ≡ bit (releases (entry_at site i) (current (entry_at site i) now (slot_at after i))) (total (current (entry_at site i) now (slot_at after i))) → v ≤ 2040
      → (r : ℕ) → r ≤ m → r ≤ d.due → Swept site now before (set after i d) (suc i) r (w + v)
  swept_due b n d e v f u r l k =
      let q = woken_due (entry_at site i) now (slot_at before i) (let x = ap (λ a. a.due) here in omega arith) in
      let z = h.size in
      let same = stored_same after i d (omega arith) in
      let v1 : v ≡ written_off (entry_at site i) now (slot_at before i) = f ∙ ap (λ a. bit (releases (entry_at site i) (current (entry_at site i) now a)) (total (current (entry_at site i) now a))) here ∙ sym q.1 in
      record {
        size = length-set after i d ∙ h.size;
        done = below_suc (λ j. slot_at (set after i d) j ≡ woken (entry_at site j) now (slot_at before j)) i
            (λ j x. stored_other after i d j (λ y. omega arith) ∙ h.done j x)
            (same ∙ e ∙ ap (λ a. laid (entry_at site i) (suc now) (settle (entry_at site i) 1 (tick (entry_at site i) (current (entry_at site i) now a)))) here ∙ sym q.0);
        rest = λ j x. stored_other after i d j (λ y. omega arith) ∙ h.rest j (omega arith);
        ahead = below_suc (λ j. r ≤ (slot_at (set after i d) j).due) i
            (λ j x. let y = h.ahead j x in let t = ap (λ a. a.due) (stored_other after i d j (λ y. omega arith)) in omega arith)
            (let t = ap (λ a. a.due) same in omega arith);
        sum = let x = h.sum in omega arith;
        bound = let x = h.bound in omega arith;
      }

-- The slots speak of the tick `now` --------------------------------------------------------------------------------------------------
pub record Lazy (site : Site) (now : ℕ) (ps : List Packed) (m : ℕ) : Type 0 where
  pub eight : length ps ≡ 8
  pub good : (i : ℕ) → i < 8 → Good (entry_at site i) now (slot_at ps i)
  pub least : (i : ℕ) → i < 8 → m ≤ (slot_at ps i).due

-- the plant that they show
abbrev pub plant_of : Site → ℕ → ℕ → List Packed → Plant
plant_of site beat now ps = record { site = site; beat = beat; crossings = shown site now ps }

module _ (site : Site) (now : ℕ) (ps : List Packed) where
  pub shown_at : (i : ℕ) → i < 8 → crossing_at (shown site now ps) i ≡ current (entry_at site i) now (slot_at ps i)
  unfolding shown
  shown_at i l = getD_tab 8 (λ i. current (entry_at site i) now (slot_at ps i)) no_crossing i l

  pub shown_eight : length (shown site now ps) ≡ 8
  unfolding shown
  shown_eight = refl

-- eight slots, one for each crossing
pub begun_eight : (cs : List Crossing) → length cs ≡ 8 → (z0 z1 z2 z3 z4 z5 z6 z7 : Packed)
    → seen z0 ≡ first_slot (get_or cs 0 unread)
    → seen z1 ≡ first_slot (get_or cs 1 unread)
    → seen z2 ≡ first_slot (get_or cs 2 unread)
    → seen z3 ≡ first_slot (get_or cs 3 unread)
    → seen z4 ≡ first_slot (get_or cs 4 unread)
    → seen z5 ≡ first_slot (get_or cs 5 unread)
    → seen z6 ≡ first_slot (get_or cs 6 unread)
    → seen z7 ≡ first_slot (get_or cs 7 unread)
    → Begun cs (z0 ∷ z1 ∷ z2 ∷ z3 ∷ z4 ∷ z5 ∷ z6 ∷ z7 ∷ [])
begun_eight cs len z0 z1 z2 z3 z4 z5 z6 z7 e0 e1 e2 e3 e4 e5 e6 e7 = record { eight = refl; each = at }
  where
    at : (i : ℕ) → i < 8 → slot_at (z0 ∷ z1 ∷ z2 ∷ z3 ∷ z4 ∷ z5 ∷ z6 ∷ z7 ∷ []) i ≡ first_slot (crossing_at cs i)
    at zero l = e0 ∙ ap first_slot (crossing_read cs 0 (omega arith))
    at (suc zero) l = e1 ∙ ap first_slot (crossing_read cs 1 (omega arith))
    at (suc (suc zero)) l = e2 ∙ ap first_slot (crossing_read cs 2 (omega arith))
    at (suc (suc (suc zero))) l = e3 ∙ ap first_slot (crossing_read cs 3 (omega arith))
    at (suc (suc (suc (suc zero)))) l = e4 ∙ ap first_slot (crossing_read cs 4 (omega arith))
    at (suc (suc (suc (suc (suc zero))))) l = e5 ∙ ap first_slot (crossing_read cs 5 (omega arith))
    at (suc (suc (suc (suc (suc (suc zero)))))) l = e6 ∙ ap first_slot (crossing_read cs 6 (omega arith))
    at (suc (suc (suc (suc (suc (suc (suc zero))))))) l = e7 ∙ ap first_slot (crossing_read cs 7 (omega arith))
    at (suc (suc (suc (suc (suc (suc (suc (suc i)))))))) l = absurd (omega arith)

pub small_read : (cs : List Crossing) → length cs ≡ 8 → AllSmall cs → (i : ℕ) → i < 8 → Small (get_or cs i unread)
small_read cs len h i l = rw (crossing_read cs i (omega arith)) (h.each i l)

-- Before the first tick ------------------------------------------------------------------------------------------------------------
module _ (site : Site) (cs : List Crossing) (len : length cs ≡ 8) (top : (i : ℕ) → i < 8 → (crossing_at cs i).out ≤ 1080) (ps : List Packed) (g : Begun cs ps) where
  pub begun_lazy : Lazy site 0 ps 0
  begun_lazy = record {
    eight = g.eight;
    good = λ i l. rw (g.each i l) (record {
      past = omega arith;
      ahead = omega arith;
      quiet = record { next = λ k b. absurd (omega arith); none = λ k b. absurd (omega arith); top = top i l };
    });
    least = λ i l. omega arith;
  }

  first_current : (i : ℕ) → i < 8 → current (entry_at site i) 0 (first_slot (crossing_at cs i)) ≡ crossing_at cs i
  unfolding current
  first_current i l = passed_none (entry_at site i) (crossing_at cs i) (top i l)

  pub begun_shown : shown site 0 ps ≡ cs
  unfolding shown
  begun_shown = tab_same 8 (λ i. current (entry_at site i) 0 (slot_at ps i)) (λ i. crossing_at cs i) (λ i l. ap (λ z. current (entry_at site i) 0 z) (g.each i l) ∙ first_current i l)
      ∙ tab_getD 8 cs no_crossing len

-- A tick ---------------------------------------------------------------------------------------------------------------------------
module _ (site : Site) (beat now : ℕ) (ps : List Packed) (least : ℕ) (h : Lazy site now ps least) where
  abbrev tick_at : ℕ → Crossing
  tick_at i = settle (entry_at site i) 1 (tick (entry_at site i) (crossing_at (shown site now ps) i))

  abbrev off_at : ℕ → ℕ
  off_at i = bit (releases (entry_at site i) (crossing_at (shown site now ps) i)) (total (crossing_at (shown site now ps) i))

  -- that no slot is due at: they stay as they are
  module _ (b : now < least) where
    quick : (i : ℕ) → i < 8 → now < (slot_at ps i).due
    quick i l = let d = h.least i l in omega arith

    pub quick_lazy : Lazy site (suc now) ps least
    quick_lazy = record {
      eight = h.eight;
      good = λ i l. quiet_good (entry_at site i) now (slot_at ps i) (h.good i l) (quick i l);
      least = h.least;
    }

    pub quick_shown : (ticked_plant (plant_of site beat now ps)).crossings ≡ shown site (suc now) ps
    unfolding shown
    quick_shown = tab_same 8 tick_at (λ i. current (entry_at site i) (suc now) (slot_at ps i)) (λ i l. rw (shown_at site now ps i l) (sym (quiet_current (entry_at site i) now (slot_at ps i) (h.good i l) (quick i l))))

    pub quick_written : (ticked_plant (plant_of site beat now ps)).written ≡ 0
    quick_written = sum_same 8 off_at (λ i. 0) (λ i l. rw (shown_at site now ps i l, quiet_written (entry_at site i) now (slot_at ps i) (h.good i l) (quick i l)))

  -- that some may be due at
  module _ (next : List Packed) (m w : ℕ) (g : Swept site now ps next 8 m w) where
    pub swept_lazy : Lazy site (suc now) next m
    swept_lazy = record {
      eight = g.size ∙ h.eight;
      good = λ i l. rw (g.done i l) (woken_good (entry_at site i) now (slot_at ps i) (h.good i l));
      least = g.ahead;
    }

    pub swept_shown : (ticked_plant (plant_of site beat now ps)).crossings ≡ shown site (suc now) next
    unfolding shown
    swept_shown = tab_same 8 tick_at (λ i. current (entry_at site i) (suc now) (slot_at next i)) (λ i l. rw (shown_at site now ps i l, g.done i l) (sym (woken_current (entry_at site i) now (slot_at ps i) (h.good i l))))

    pub swept_written : (ticked_plant (plant_of site beat now ps)).written ≡ w
    swept_written = sum_same 8 off_at (λ i. written_off (entry_at site i) now (slot_at ps i)) (λ i l. rw (shown_at site now ps i l) (woken_written (entry_at site i) now (slot_at ps i) (h.good i l))) ∙ sym g.sum

  -- An event of crossing j ---------------------------------------------------------------------------------------------------------
  module _ (e : Event) (j : ℕ) (b : j < 8) (d : Packed) (a : seen d ≡ acted (entry_at site j) now (slot_at ps j) e) where
    same : slot_at (set ps j d) j ≡ acted (entry_at site j) now (slot_at ps j) e
    same = let x = h.eight in stored_same ps j d (omega arith) ∙ a

    pub own_lazy : (m : ℕ) → m ≤ least → m ≤ d.due → Lazy site now (set ps j d) m
    own_lazy m l n = record {
      eight = length-set ps j d ∙ h.eight;
      good = λ i k. by_test (eqb i j)
          (λ q. let x : i ≡ j = eqb-true _ _ q in rw (x, same) (acted_good (entry_at site j) now (slot_at ps j) e))
          (λ q. rw (stored_other ps j d i (eqb-false _ _ q)) (h.good i k));
      least = λ i k. by_test (eqb i j)
          (λ q. let x : i ≡ j = eqb-true _ _ q in let y = h.eight in let t = ap (λ z. z.due) (stored_same ps j d (omega arith)) in rw x (omega arith))
          (λ q. let x = h.least i k in let t = ap (λ z. z.due) (stored_other ps j d i (eqb-false _ _ q)) in omega arith);
    }

    pub own_shown : set (shown site now ps) j (settle (entry_at site j) 0 (act (entry_at site j) (current (entry_at site j) now (slot_at ps j)) e)) ≡ shown site now (set ps j d)
    own_shown = ext_get_or no_crossing _ _ (length-set (shown site now ps) j after ∙ shown_eight site now ps ∙ sym (shown_eight site now (set ps j d))) (λ i k.
        let x = length-set (shown site now ps) j after in
        let y = shown_eight site now ps in
        let l : i < 8 = omega arith in
        by_test (eqb i j)
        (λ q. let z : i ≡ j = eqb-true _ _ q in
        rw z (get_or-set_same (shown site now ps) j after no_crossing (omega arith) ∙ sym (shown_at site now (set ps j d) j b ∙ rw same (acted_current (entry_at site j) now (slot_at ps j) e))))
        (λ q. let n : i ≡ j → ⊥ = eqb-false _ _ q in
        get_or-set_other (shown site now ps) j i after no_crossing n ∙ shown_at site now ps i l ∙ sym (shown_at site now (set ps j d) i l ∙ rw (stored_other ps j d i n))))
      where
        after : Crossing
        after = settle (entry_at site j) 0 (act (entry_at site j) (current (entry_at site j) now (slot_at ps j)) e)
