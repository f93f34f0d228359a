-- The run so far: what a loop over the events of a sheet keeps.
use mathlib.Core.Path.{◌≡◌, refl, sym, ◌∙◌}
use mathlib.Core.Bool.{Bool, true, false, not}
use Prim.Native.Nat.{ℕ, suc, ◌+◌, ◌*◌, ◌%◌, ◌≤◌, ◌<◌}
use native.Mathlib.Nat.{add-zero, mod-eq_of_lt}
use borrow.Author.Tests.{ne_eqb}
use native.Mathlib.Omega.{arith}
use native.Mathlib.Numerals.{add-one}
use lib.Dec.{eqb}
use lib.ListN.{length, get_or, set, length-set}
use Rattle.machine.specs.declared.Plant.{Plant}
use Rattle.machine.specs.declared.Event.{Event}
use Rattle.machine.specs.declared.Answer.{Answer}
use Rattle.machine.specs.Common.{bit}
use Rattle.machine.specs.Range.{in_range}
use Rattle.machine.specs.Step.{step}
use Rattle.machine.specs.Sheet.{counted, ran}
use Rattle.machine.specs.Plant.{no_entry, entry, crossing}
use Rattle.machine.specs.Events.{Command, listed, is, is_known, entitled, refusal, number}
use Rattle.machine.specs.Effects.{sweeps, act}
use Rattle.machine.specs.Settling.{settle}
use Rattle.machine.proofs.Taken.{refused_answer}
use Rattle.machine.proofs.Stays.{stays_in_range}
use Rattle.plant.proofs.Laws.{unread, crossing_read}
use Rattle.train.specs.Room.{Room}
use Rattle.plant_tick.specs.Ticks.{ticked_plant}
use Rattle.event.proofs.Steps.{judged, own_below, own_room, tick_step, own_step}

-- after k events f of p: the plant q and the three counts are the machine's, in range and within their bounds
pub record Played (p : Plant) (f : ℕ → Event) (k : ℕ) (q : Plant) (taken refused written : ℕ) : Type 0 where
  pub same : ran p f k ≡ record { number = 0; plant = q; taken = taken; refused = refused; written = written }
  pub range : in_range q ≡ true
  pub eight : length q.crossings ≡ 8
  pub counts : taken + refused ≡ k
  pub bound : written ≤ 16320 * k

-- an event of one crossing writes off one train at most
one_at_most : (b : Bool) → bit b 1 ≤ 1
one_at_most true = omega arith
one_at_most false = omega arith

module _ (p : Plant) (f : ℕ → Event) where
  pub played_none : in_range p ≡ true → length p.crossings ≡ 8 → Played p f 0 p 0 0 0
  unfolding ran
  played_none r e = record { same = refl; range = r; eight = e; counts = refl; bound = omega arith }

  -- one event more, by its answer
  pub played_next : (k : ℕ) (q : Plant) (t r w : ℕ) → Played p f k q t r w → (a : Answer) → step q (listed (f k)) ≡ a → length a.plant.crossings ≡ 8 → a.written ≤ 16320
      → Played p f (suc k) a.plant (t + bit (eqb a.number 0) 1) (r + bit (not (eqb a.number 0)) 1) (w + a.written)
  unfolding ran counted
  played_next k q t r w h a s e b = record {
    same = rw (h.same, s);
    range = rw s at (stays_in_range q (listed (f k)) h.range);
    eight = e;
    counts = let c = h.counts in one (eqb a.number 0) c;
    bound = let c = h.bound in omega arith;
  }
    where
      one : (b : Bool) → t + r ≡ k → t + bit b 1 + (r + bit (not b) 1) ≡ suc k
      one true c = omega arith
      one false c = omega arith

  -- one event more, as the loop takes it: e is event k, j its crossing's place in the arrays, and v the number of the verdict on it
  module _ (k : ℕ) (q : Plant) (t r w : ℕ) (h : Played p f k q t r w) (e : Event) (read : e ≡ f k) (j : ℕ) (place : j ≡ e.crossing % 8) (v : ℕ)
      (told : v ≡ refusal q.site.n (get_or q.site.entries j no_entry) (get_or q.crossings j unread) true e) where
    abbrev x : Command
    x = listed e

    by_number : v ≡ number q x
    unfolding is_known entitled
    by_number = judged q x v true h.eight h.range refl refl (rw place at told)

    next : (a : Answer) → step q x ≡ a → length a.plant.crossings ≡ 8 → a.written ≤ 16320
        → Played p f (k + 1) a.plant (t + bit (eqb a.number 0) 1) (r + bit (not (eqb a.number 0)) 1) (w + a.written)
    next a s = rw (add-one k) (played_next k q t r w h a (rw read at s))

    pub played_refused : (v ≡ 0 → ⊥) → Played p f (k + 1) q t (r + 1) w
    played_refused g =
        let z : number q x ≡ 0 → ⊥ = λ o. g (by_number ∙ o) in
        simp (ne_eqb _ _ z, add-zero) at (next _ (refused_answer q x z) h.eight (omega arith))

    module _ (taken : v ≡ 0) where
      pub accepted : number q x ≡ 0
      accepted = sym by_number ∙ taken

      pub played_tick : e.code ≡ 0 → (ticked_plant q).written ≤ 16320
          → Played p f (k + 1) (record { site = q.site; beat = (ticked_plant q).beat; crossings = (ticked_plant q).crossings }) (t + 1) r (w + (ticked_plant q).written)
      played_tick z b = simp add-zero at (next _ (tick_step q x accepted z) refl b)

      -- an event of one crossing is at a place of the array, and reads there
      module _ (z : is 0 e ≡ false) where
        own_place : (j ≡ e.crossing) × (get_or q.crossings j unread ≡ crossing q e.crossing)
        own_place =
            let b : e.crossing < 8 = own_below q x accepted z in
            let m : j ≡ e.crossing = place ∙ mod-eq_of_lt b in
            let k = h.eight in
            let l : e.crossing < length q.crossings = omega arith in
            (m, rw m (crossing_read q.crossings e.crossing l))

        pub own_room_at : Room (get_or q.crossings j unread) e
        own_room_at = rw own_place.1 (own_room q x accepted z)

        pub played_own : Played p f (k + 1) (record { site = q.site; beat = q.beat; crossings = set q.crossings j (settle (get_or q.site.entries j no_entry) 0 (act (get_or q.site.entries j no_entry) (get_or q.crossings j unread) e)) }) (t + 1) r (w + bit (sweeps (get_or q.crossings j unread) e) 1)
        played_own =
            let one = one_at_most (sweeps (crossing q e.crossing) e) in
            rw (own_place.1, own_place.0) (simp add-zero at (next _ (own_step q x h.eight accepted z) (length-set q.crossings e.crossing (settle (entry q e.crossing) 0 (act (entry q e.crossing) (crossing q e.crossing) e)) ∙ h.eight) (omega arith)))
