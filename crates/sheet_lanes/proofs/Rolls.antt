-- What the loop of the run keeps, and what one event more makes of it: the run so far, told by the plant that the slots show.
use mathlib.Core.Path.{◌≡◌, refl, sym, ◌∙◌, ap}
use mathlib.Core.Bool.{true, false}
use mathlib.Core.List.{List}
use Prim.Native.Nat.{ℕ, ◌+◌, ◌%◌, ◌≤◌, ◌<◌}
use native.Mathlib.Nat.{add-zero}
use native.Mathlib.Omega.{arith}
use native.Mathlib.Numerals.{add-one}
use borrow.Author.Tests.{eq-eqb, ne_eqb}
use lib.ListN.{length, get_or, set}
use Rattle.machine.specs.declared.Entry.{Entry}
use Rattle.machine.specs.declared.Site.{Site}
use Rattle.machine.specs.declared.Plant.{Plant}
use Rattle.machine.specs.declared.Event.{Event}
use Rattle.machine.specs.Common.{bit}
use Rattle.machine.specs.Range.{in_range}
use Rattle.machine.specs.Plant.{no_entry, no_crossing}
use Rattle.machine.specs.Events.{Command, listed, is, refusal, number}
use Rattle.machine.specs.Effects.{sweeps, act}
use Rattle.machine.specs.Settling.{settle}
use Rattle.machine.proofs.Taken.{taken_accepted}
use Rattle.plant.proofs.Laws.{unread, within}
use Rattle.plant_tick.specs.Ticks.{ticked_plant}
use Rattle.verdict.specs.Cases.{tick_refusal}
use Rattle.verdict.proofs.Table.{of_tick}
use Rattle.slot.specs.Ready.{Ready}
use Rattle.slot.specs.declared.Packed.{Packed}
use Rattle.quiet.specs.Passing.{passed}
use Rattle.slot.specs.Slots.{Slot, seen, current, acted}
use Rattle.slot.proofs.Slots.{current_refusal}
use Rattle.slots.specs.Eight.{slot_at, entry_at, shown, Begun, Swept}
use Rattle.slots.proofs.Sweeps.{Lazy, plant_of, shown_at, shown_eight, begun_lazy, begun_shown, quick_lazy, quick_shown, quick_written, swept_lazy, swept_shown, swept_written, own_lazy, own_shown}
use Rattle.sheet.proofs.Runs.{Played, played_none, accepted, played_refused, played_tick, own_room_at, played_own}
use Rattle.sheet_lanes.proofs.Limits.{top_of}

-- after k events f from the plant p, at the tick `now`: the slots show the plant of the run so far, t, r and w are its counts, and
-- none of the slots is due before `least`
pub record Kept (p : Plant) (f : ℕ → Event) (k beat now : ℕ) (slots : List Packed) (least t r w : ℕ) : Type 0 where
  pub ticks : now ≤ k
  pub played : Played p f k (plant_of p.site beat now slots) t r w
  pub lazy : Lazy p.site now slots least

-- before the first event
pub kept_none : (p : Plant) (f : ℕ → Event) → in_range p ≡ true → length p.crossings ≡ 8 → (slots : List Packed) → Begun p.crossings slots
    → Kept p f 0 p.beat 0 slots 0 0 0 0
kept_none p f r len slots b = record {
  ticks = omega arith;
  played = rw (begun_shown p.site p.crossings len (top_of p r) slots b) (played_none p f r len);
  lazy = begun_lazy p.site p.crossings len (top_of p r) slots b;
}

-- quiet ticks change nothing that an event asks
held_sweeps : (s : Entry) (now : ℕ) (z : Slot) (e : Event) → sweeps (current s now z) e ≡ sweeps z.crossing e
unfolding current passed
held_sweeps s now z e = refl

-- One event more: v is the number of the verdict on it by what its slot holds -------------------------------------------------------
module _ {p : Plant} {f : ℕ → Event} {k beat now : ℕ} {slots : List Packed} {least t r w : ℕ} (h : Kept p f k beat now slots least t r w) where
  abbrev e : Event
  e = f k

  abbrev x : Command
  x = listed e

  abbrev site : Site
  site = p.site

  abbrev q : Plant
  q = plant_of site beat now slots

  abbrev i : ℕ
  i = e.crossing % 8

  -- the verdict on an event of code 0 asks no slot
  pub tick_told : e.code ≡ 0 → {v : ℕ} → v ≡ tick_refusal e → v ≡ refusal site.n (entry_at site i) (slot_at slots i).crossing true e
  tick_told c j = j ∙ sym (of_tick site.n (entry_at site i) (slot_at slots i).crossing e c)

  module _ {v : ℕ} (j : v ≡ refusal site.n (entry_at site i) (slot_at slots i).crossing true e) where
    -- the slot's crossing at the tick `now`
    read_at : get_or (shown site now slots) i unread ≡ current (entry_at site i) now (slot_at slots i)
    read_at =
        let y = shown_eight site now slots in
        within (shown site now slots) i unread no_crossing (omega arith) ∙ shown_at site now slots i (omega arith)

    -- the verdict by the plant that the slots show
    by_plant : v ≡ refusal site.n (get_or site.entries i no_entry) (get_or (shown site now slots) i unread) true e
    by_plant = j ∙ current_refusal site.n (entry_at site i) now (slot_at slots i) e ∙ ap (λ c. refusal site.n (entry_at site i) c true e) (sym read_at)

    pub kept_refused : (v ≡ 0 → ⊥) → Kept p f (k + 1) beat now slots least t (r + 1) w
    kept_refused g = let n = h.ticks in record {
      ticks = omega arith;
      played = played_refused p f k q t r w h.played e refl i refl v by_plant g;
      lazy = h.lazy;
    }

    module _ (taken : v ≡ 0) where
      -- A tick ---------------------------------------------------------------------------------------------------------------------
      module _ (c : e.code ≡ 0) where
        tick_next : (ticked_plant q).written ≤ 16320
            → Played p f (k + 1) (record { site = site; beat = (beat + 1) % 4; crossings = (ticked_plant q).crossings }) (t + 1) r (w + (ticked_plant q).written)
        tick_next b = played_tick p f k q t r w h.played e refl i refl v by_plant taken c b

        pub kept_quiet : now < least → Kept p f (k + 1) ((beat + 1) % 4) (now + 1) slots least (t + 1) r w
        kept_quiet b =
            let o = quick_written site beat now slots least h.lazy b in
            let n = h.ticks in
            record {
              ticks = omega arith;
              played = rw (add-one now) (simp (o, add-zero, quick_shown site beat now slots least h.lazy b) at (tick_next (omega arith)));
              lazy = rw (add-one now) (quick_lazy site beat now slots least h.lazy b);
            }

        pub kept_swept : {next : List Packed} {first off : ℕ} → Swept site now slots next 8 first off → Kept p f (k + 1) ((beat + 1) % 4) (now + 1) next first (t + 1) r (w + off)
        kept_swept s =
            let o = swept_written site beat now slots least h.lazy _ _ _ s in
            let b = s.bound in
            let n = h.ticks in
            record {
              ticks = omega arith;
              played = rw (add-one now) (simp (o, swept_shown site beat now slots least h.lazy _ _ _ s) at (tick_next (omega arith)));
              lazy = rw (add-one now) (swept_lazy site beat now slots least h.lazy _ _ _ s);
            }

      -- An event of one crossing ---------------------------------------------------------------------------------------------------
      module _ (c : e.code ≡ 0 → ⊥) where
        own : is 0 e ≡ false
        own = ne_eqb _ _ c

        zero : number q x ≡ 0
        zero = accepted p f k q t r w h.played e refl i refl v by_plant taken

        pub ready : Ready (current (entry_at site i) now (slot_at slots i)) e
        ready = record {
          room = rw read_at at (own_room_at p f k q t r w h.played e refl i refl v by_plant taken own);
          value = (taken_accepted q x zero e.crossing (eq-eqb e.crossing e.crossing refl)).value;
        }

        module _ (d : Packed) (a : seen d ≡ acted (entry_at site i) now (slot_at slots i) e) where
          off : bit (sweeps (get_or (shown site now slots) i unread) e) 1 ≡ bit (sweeps (slot_at slots i).crossing e) 1
          off = ap (λ c. bit (sweeps c e) 1) read_at ∙ ap (λ b. bit b 1) (held_sweeps (entry_at site i) now (slot_at slots i) e)

          stored : set (shown site now slots) i (settle (entry_at site i) 0 (act (entry_at site i) (get_or (shown site now slots) i unread) e)) ≡ shown site now (set slots i d)
          stored = rw read_at (own_shown site beat now slots least h.lazy e i (omega arith) d a)

          pub kept_own : {o first : ℕ} → o ≡ bit (sweeps (slot_at slots i).crossing e) 1 → first ≤ least → first ≤ d.due → Kept p f (k + 1) beat now (set slots i d) first (t + 1) r (w + o)
          kept_own s b n = let u = h.ticks in record {
            ticks = omega arith;
            played = rw (s, ← off) (rw stored at (played_own p f k q t r w h.played e refl i refl v by_plant taken own));
            lazy = own_lazy site beat now slots least h.lazy e i (omega arith) d a _ b n;
          }
