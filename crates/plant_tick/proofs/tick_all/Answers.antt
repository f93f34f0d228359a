use mathlib.Core.Path.{◌≡◌, ◌∙◌}
use Prim.Native.Nat.{ℕ, ◌≤◌, ◌<◌}
use native.Mathlib.Numerals.{add-one}
use native.Mathlib.Omega.{arith}
use lib.ListN.{length, get_or}
use native.Mathlib.Nat.{le_refl}
use borrow.Author.Rules.{rules}
use Rattle.machine.specs.Plant.{no_entry, no_crossing}
use Rattle.machine.proofs.Tools.{sum_past}
use Rattle.machine.proofs.First.{put_first, past_first, first_tab}
use Rattle.machine.proofs.Entries.{zero_kind}
use Rattle.machine.proofs.Ranges.{plant_reads}
use Rattle.plant.proofs.Laws.{unread, crossing_read}
use Rattle.tick.proofs.Still.{Tracks}
use Rattle.plant_tick.proofs.Past.{each_tracks, next_at, written_off, past_stays, past_written}
use Rattle.plant_tick.proofs.tick_all.Goals as goal

pub loop-i-init : goal.loop-i-init
loop-i-init c =
    let h = plant_reads _ c.requires in
    (rw c.from-n.ensures h.count, search rules)

pub loop-i-preserved : goal.loop-i-preserved
loop-i-preserved c =
    let a = c in
    let l = a.args.crossings in
    let m = c.loop-i in
    let w = m.invariant in
    let t = c.tick-t.ensures in
    let eight : length l ≡ 8 = search (a.well_formed, rules) in
    let few : m.i < length l = omega arith in
    let r : get_or (put_first m.i (next_at a.args.site l) l) m.i unread ≡ get_or l m.i no_crossing =
    past_first (next_at a.args.site l) l unread m.i m.i (le_refl m.i) ∙ crossing_read l m.i few in
    (w.0, (simp (add-one, t.value, w.1.0, r), (simp (add-one, t.value, w.1.0, w.1.1.0, r), omega (arith, t.written_bound))))

pub overflow_add-result : goal.overflow_add-result
overflow_add-result c = let h = plant_reads _ c.requires in omega (arith, h.beat)

pub returns-clause-value : goal.returns-clause-value
returns-clause-value c =
    let a = c in
    let l = a.args.crossings in
    let site = a.args.site in
    let h = plant_reads _ a.requires in
    let w = c.loop-i.invariant in
    let eight : length l ≡ 8 = search (a.well_formed, rules) in
    let end : c.loop-i.i ≡ site.n = omega arith in
    let g : (i : ℕ) → Tracks (get_or l i no_crossing) = (λ i. each_tracks l _ i a.well_formed.1.1.0.1.1) in
    let past : (i : ℕ) → site.n ≤ i → i < 8 → next_at site l i ≡ get_or l i no_crossing =
    (λ i m b. past_stays _ _ (h.past i b m) (zero_kind _ (h.entry_past i b m)) (g i)) in
    let none : (i : ℕ) → site.n ≤ i → i < 8 → written_off site l i ≡ 0 = (λ i m b. past_written (get_or site.entries i no_entry) _ (h.past i b m) (zero_kind _ (h.entry_past i b m))) in
    simp (w.1.0, w.1.1.0, end, first_tab (next_at site l) l no_crossing site.n 8 eight h.count past, ← sum_past (written_off site l) 8 site.n h.count none)
