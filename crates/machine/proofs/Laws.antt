-- Laws of the whole machine that the crates above cite: fresh plants, other crossings, lengths.
use mathlib.Core.Path.{◌≡◌, refl, ◌∙◌}
use mathlib.Core.Bool.{true, false, cond, not}
use mathlib.Core.List.{List}
use Prim.Native.Nat.{ℕ, ◌+◌, ◌*◌, ◌≤◌, ◌<◌}
use native.Mathlib.Omega.{arith}
use lib.Dec.{eqb, ltb, leb, leb-zero, lit≤}
use lib.ListN.{get_or, length, length-append}
use borrow.Author.Tests.{eqb-true, eqb-false, eq-eqb, leb-true, le-leb, lt-ltb, le-ltb, not-false}
use Rattle.machine.specs.Common.{tab, all_below, bit}
use Rattle.machine.specs.Plant.{Entry, Site, Crossing, Plant, entry, crossing, no_entry, no_crossing, fresh_crossing, fresh_plant, boom_count, lamp_count, lamps_at}
use Rattle.machine.specs.Range.{entry_in, entry_zero, report_limit, boom_in, crossing_zero, count_in, in_range}
use Rattle.machine.specs.Events.{Command, is, number}
use Rattle.machine.specs.Step.{touch, apply, step}
use Rattle.machine.specs.Panel.{row, panel}
use Rattle.machine.specs.SiteBook.{book_size, book_length, book_entry, book_site, read_number, read, setting, first_part, second_part, book}
use Rattle.machine.proofs.Tools.{by_test, below4, and_both, passed, all_below_at, getD_tab, each_tab, length_concat, getD_concat}
use Rattle.machine.proofs.Taken.{taken_answer, refused_answer}
use Rattle.machine.proofs.Entries.{at_most_eight}
use Rattle.machine.proofs.Ranges.{TrackIn, TrackAt, opened, CrossingIn, NoCrossing, no_crossing_reads, PlantIn, plant_tests}

-- A fresh plant is in range --------------------------------------------------------------------------------------------------------
abbrev pub fresh_of : Entry → Crossing
fresh_of s = fresh_crossing (lamp_count s.kind)

fresh_used : (s : Entry) → CrossingIn s (fresh_of s)
fresh_used s = record {
  track = below4 (TrackAt s (fresh_of s)) (empty 0) (empty 1) (empty 2) (empty 3);
  boom = below4 (λ b. boom_in s (fresh_of s) b ≡ true) (up 0) (up 1) (up 2) (up 3);
  lamp = each_tab 7 (λ l. bit (ltb l (lamp_count s.kind)) 1) 0 (λ l x. leb x (bit (ltb l (lamp_count s.kind)) 1) ≡ true) (λ l b. le-leb (bit (ltb l (lamp_count s.kind)) 1) _ (omega arith));
  kiosk = lit≤ tt;
  operator = lit≤ tt;
  countdown = lit≤ tt;
  phase = opened refl refl;
  left = omega arith;
  out = lit≤ tt;
}
  where
    empty : (t : ℕ) → TrackIn s t 0 0 0 0 0
    empty t = record {
      few = lit≤ tt;
      route = lit≤ tt;
      occupied = lit≤ tt;
      unsure = lit≤ tt;
      plain = λ _. (refl, refl);
      lacking = λ _. record { calling = refl; waiting = refl; route = refl; occupied = refl; unsure = refl };
    }

    up : (b : ℕ) → leb 0 (report_limit (ltb b (boom_count s.kind))) ≡ true
    up b = leb-zero (report_limit (ltb b (boom_count s.kind)))

fresh_past : NoCrossing no_crossing
unfolding crossing_zero
fresh_past = no_crossing_reads no_crossing refl

pub fresh_plant_in : (s : Site) → count_in s.n ≡ true → ((i : ℕ) → i < s.n → entry_in (setting s i) ≡ true) → ((i : ℕ) → i < 8 → s.n ≤ i → entry_zero (setting s i) ≡ true) → PlantIn (fresh_plant s)
unfolding fresh_plant
fresh_plant_in s q t z =
    let n = and_both (leb 1 s.n) (leb s.n 8) q in
    let few : s.n ≤ 8 = leb-true _ _ n.1 in
    record {
      some = leb-true _ _ n.0;
      count = few;
      beat = lit≤ tt;
      entry_test = t;
      used = λ i l. rw (at i (omega arith), lt-ltb i s.n l) (fresh_used (setting s i));
      entry_past = z;
      past = λ i l m. rw (at i l, le-ltb i s.n m) fresh_past;
    }
  where
    at : (i : ℕ) → i < 8 → get_or (tab 8 (λ j. fresh_crossing (lamps_at s j))) i no_crossing ≡ fresh_crossing (lamps_at s i)
    at i l = getD_tab 8 (λ j. fresh_crossing (lamps_at s j)) no_crossing i l

-- what a book read with number 0 passed
pub record BookIn (b : List ℕ) : Type 0 where
  pub some : (length b ≡ 0 → ⊥)
  pub count : count_in (book_size b) ≡ true
  pub size : length b ≡ book_length (book_size b)
  pub entry_test : (i : ℕ) → i < book_size b → entry_in (book_entry b i) ≡ true

pub book_reads : (b : List ℕ) → read_number b ≡ 0 → BookIn b
unfolding read_number
book_reads b q =
    let v0 = passed (eqb (length b) 0) 0 _ q in
    let v2 = passed (not (count_in (book_size b))) 1 _ v0.1 in
    let v1 = passed (not (eqb (length b) (book_length (book_size b)))) 0 _ v2.1 in
    let v3 = passed (not (all_below (book_size b) (λ i. entry_in (book_entry b i)))) 2 _ v1.1 in
    record {
      some = eqb-false _ _ v0.0;
      count = not-false _ v2.0;
      size = eqb-true _ _ (not-false _ v1.0);
      entry_test = all_below_at (book_size b) (λ i. entry_in (book_entry b i)) (not-false _ v3.0);
    }

pub reading_number : (b : List ℕ) → (read b).number ≡ read_number b
unfolding read
reading_number b = refl

-- the plant of such a book
pub read_plant : (b : List ℕ) → read_number b ≡ 0 → (read b).plant ≡ fresh_plant (book_site b)
unfolding read
read_plant b q = rw (eq-eqb (read_number b) 0 q)

-- the entry at a place of its site
pub site_entry : (b : List ℕ) (i : ℕ) → i < 8 → setting (book_site b) i ≡ cond (ltb i (book_size b)) (book_entry b i) no_entry
unfolding book_site
site_entry b i l = getD_tab 8 (λ j. cond (ltb j (book_size b)) (book_entry b j) no_entry) no_entry i l

pub fresh_in_range : (b : List ℕ) → read_number b ≡ 0 → in_range (read b).plant ≡ true
unfolding book_site entry_zero
fresh_in_range b q =
    let h = book_reads b q in
    let few = at_most_eight (book_size b) h.count in
    rw (read_plant b q) (plant_tests (fresh_plant (book_site b)) (fresh_plant_in (book_site b) h.count
    (λ i l. rw (site_entry b i (omega arith), lt-ltb i (book_size b) l) (h.entry_test i l))
    (λ i l m. rw (site_entry b i l, le-ltb i (book_size b) m) refl)))

-- An event of one crossing leaves the others -----------------------------------------------------------------------------------------
pub other_untouched : (p : Plant) (x : Command) (i : ℕ) → i < 8 → is 0 x.event ≡ false → eqb x.event.crossing i ≡ false → crossing (step p x).plant i ≡ crossing p i
unfolding apply touch
other_untouched p x i l z o = by_test (eqb (number p x) 0)
    (λ q. rw (taken_answer p x (eqb-true _ _ q)) (getD_tab 8 (λ j. touch (entry p j) j (crossing p j) x.event) no_crossing i l ∙ rw (z, o)))
    (λ q. rw (refused_answer p x (eqb-false _ _ q)))

-- Lengths: panel 16n, book 1 + 9n ----------------------------------------------------------------------------------------------------
pub panel_length : (p : Plant) → length (panel p) ≡ 16 * p.site.n
unfolding panel row
panel_length p = length_concat 16 (λ i. row p.beat (entry p i) (crossing p i)) (λ j. refl) p.site.n

pub panel_at : (p : Plant) (i k : ℕ) → i < p.site.n → k < 16 → get_or (panel p) (16 * i + k) 0 ≡ get_or (row p.beat (entry p i) (crossing p i)) k 0
unfolding panel row
panel_at p i k l b = getD_concat 16 (λ i. row p.beat (entry p i) (crossing p i)) (λ j. refl) p.site.n i k l b

pub book_bytes : (s : Site) → length (book s) ≡ book_length s.n
unfolding book first_part second_part
book_bytes s =
    let a = length_concat 3 (λ i. first_part (setting s i)) (λ j. refl) s.n in
    let b = length_concat 6 (λ i. second_part (setting s i)) (λ j. refl) s.n in
    simp length-append (omega arith)
