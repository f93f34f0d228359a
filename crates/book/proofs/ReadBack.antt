-- Settings written and read: those that are taken come back.
use mathlib.Core.Path.{◌≡◌, refl, ◌∙◌, ap}
use mathlib.Core.Bool.{true, cond}
use mathlib.Core.List.{List}
use Prim.Native.Nat.{ℕ, suc, ◌+◌, ◌*◌, ◌<◌}
use native.Mathlib.Omega.{arith}
use lib.Dec.{eqb, ltb, leb, lit<}
use lib.ListN.{length, get_or, get_or-append}
use lib.Seq.{get_or-append-add}
use borrow.Author.Tests.{eq-eqb, ne_eqb, eqb-true, lt-ltb, ltb-true, leb-true}
use Rattle.machine.specs.declared.Entry.{Entry}
use Rattle.machine.specs.declared.Site.{Site}
use Rattle.machine.specs.Common.{concat_below, byte, low, high}
use Rattle.machine.specs.Plant.{no_entry, fresh_plant}
use Rattle.machine.specs.Range.{entry_in, gap_in}
use Rattle.machine.specs.SiteBook.{book, book_entry, book_length, book_site, book_size, first_part, no_site, read, read_number, second_part, setting, write_number}
use Rattle.machine.proofs.Tools.{by_test, and_both, all_below_intro, tab_same, tab_getD, length_concat, getD_concat}
use Rattle.machine.proofs.Entries.{entry_reads, at_most_eight, entry_by, zero_entry}
use Rattle.machine.proofs.Laws.{BookIn, book_bytes}
use Rattle.book.specs.Copies.{reread}
use Rattle.book.proofs.Bytes.{word_of}
use Rattle.book_write.proofs.Accepted.{write_reads}

-- a site by its fields
site_of : {n : ℕ} {l : List Entry} (s : Site) → n ≡ s.n → l ≡ s.entries → record { n = n; entries = l } ≡ s
site_of s a b = rw (a, b)

gap_small : (kind gap : ℕ) → gap_in kind gap ≡ true → gap < 65536
gap_small kind gap q = by_test (eqb kind 4)
    (λ t. let h = leb-true gap 90 (and_both (leb 1 gap) (leb gap 90) (rw t at q)).1 in omega arith)
    (λ t. let h = eqb-true gap 0 (rw t at q) in omega arith)

-- a book that passes each test is taken
passes : (b : List ℕ) → BookIn b → read_number b ≡ 0
unfolding read_number
passes b h = rw (ne_eqb (length b) 0 h.some, h.count, eq-eqb (length b) (book_length (book_size b)) h.size, all_below_intro (book_size b) (λ i. entry_in (book_entry b i)) h.entry_test)

module _ (s : Site) where
  size_written : book_size (book s) ≡ s.n
  unfolding book
  size_written = refl

  first_at : (i k : ℕ) → i < s.n → k < 3 → byte (book s) (1 + 3 * i + k) ≡ get_or (first_part (setting s i)) k 0
  unfolding book first_part
  first_at i k l d =
      let f : ℕ → List ℕ = λ j. first_part (setting s j) in
      let m = length_concat 3 f (λ j. refl) s.n in
      let e : 1 + 3 * i + k ≡ suc (3 * i + k) = omega arith in
      rw e (get_or-append (concat_below s.n f) (concat_below s.n (λ j. second_part (setting s j))) 0 (3 * i + k) (omega arith)
      ∙ getD_concat 3 f (λ j. refl) s.n i k l d)

  second_at : (i k : ℕ) → i < s.n → k < 6 → byte (book s) (1 + 3 * s.n + 6 * i + k) ≡ get_or (second_part (setting s i)) k 0
  unfolding book first_part second_part
  second_at i k l d =
      let f : ℕ → List ℕ = λ j. first_part (setting s j) in
      let g : ℕ → List ℕ = λ j. second_part (setting s j) in
      let m = length_concat 3 f (λ j. refl) s.n in
      let e : 1 + 3 * s.n + 6 * i + k ≡ suc (length (concat_below s.n f) + (6 * i + k)) = omega arith in
      rw e (get_or-append-add (concat_below s.n f) (concat_below s.n g) (6 * i + k) 0 ∙ getD_concat 6 g (λ j. refl) s.n i k l d)

  entry_back : (i : ℕ) → i < s.n → entry_in (setting s i) ≡ true → book_entry (book s) i ≡ setting s i
  unfolding book_entry first_part second_part
  entry_back i l t =
      let x = setting s i in
      let v = entry_reads x t in
      let a = 1 + 3 * i in
      let b = 1 + 3 * s.n + 6 * i in
      let za : a + 0 ≡ a = omega arith in
      let zb : b + 0 ≡ b = omega arith in
      let e : b + 3 ≡ b + 2 + 1 = omega arith in
      let f : b + 5 ≡ b + 4 + 1 = omega arith in
      let p0 : byte (book s) b ≡ low x.pre = rw zb at (second_at i 0 l (lit< tt)) in
      let p1 : byte (book s) (b + 1) ≡ high x.pre = second_at i 1 l (lit< tt) in
      let g0 : byte (book s) (b + 2) ≡ low x.gap = second_at i 2 l (lit< tt) in
      let g1 : byte (book s) (b + 2 + 1) ≡ high x.gap = rw e at (second_at i 3 l (lit< tt)) in
      let m0 : byte (book s) (b + 4) ≡ low x.pause = second_at i 4 l (lit< tt) in
      let m1 : byte (book s) (b + 4 + 1) ≡ high x.pause = rw f at (second_at i 5 l (lit< tt)) in
      rw size_written (entry_by x
      (rw za at (first_at i 0 l (lit< tt)))
      (first_at i 1 l (lit< tt))
      (first_at i 2 l (lit< tt))
      (rw (p0, p1) (word_of x.pre (omega (arith, v.pre))))
      (rw (g0, g1) (word_of x.gap (gap_small x.kind x.gap v.gap)))
      (rw (m0, m1) (word_of x.pause (omega (arith, v.pause)))))

  module _ (lent : List ℕ) (eight : length s.entries ≡ 8) (q : write_number s lent ≡ 0) where
    setting_back : (i : ℕ) → i < 8 → cond (ltb i (book_size (book s))) (book_entry (book s) i) no_entry ≡ setting s i
    setting_back i l =
        let h = (write_reads s lent q).test i l in
        rw size_written (by_test (ltb i s.n)
        (λ t. rw t (entry_back i (ltb-true i s.n t) (rw t at h)))
        (λ t. rw t (zero_entry (setting s i) (rw t at h))))

    site_back : book_site (book s) ≡ s
    unfolding book_site
    site_back = site_of s size_written
        (tab_same 8 (λ i. cond (ltb i (book_size (book s))) (book_entry (book s) i) no_entry) (setting s) setting_back ∙ tab_getD 8 s.entries no_entry eight)

    number_read : read_number (book s) ≡ 0
    number_read =
        let h = write_reads s lent q in
        let m = at_most_eight s.n h.count in
        let k : length (book s) ≡ book_length s.n = book_bytes s in
        passes (book s) (record {
          some = λ z. omega arith;
          count = rw size_written h.count;
          size = rw size_written k;
          entry_test = λ i l.
              let j : i < s.n = rw size_written at l in
              let t : entry_in (setting s i) ≡ true = rw (lt-ltb i s.n j) at (h.test i (omega arith)) in
              rw (entry_back i j t) t;
        })

    -- read back, settings that are taken give their own fresh plant
    pub reading_back : read (book s) ≡ reread s lent
    unfolding read reread
    reading_back = rw (number_read, site_back, q)

    pub read_what_is_written : (read_number (book s) ≡ 0) × ((read (book s)).plant.site ≡ s)
    unfolding reread fresh_plant
    read_what_is_written = (number_read, ap {B = Site} (λ r. r.plant.site) reading_back ∙ rw q)

-- settings that are refused give the fresh plant of an all-zero site
pub reread_refused : (s : Site) (lent : List ℕ) → (write_number s lent ≡ 0 → ⊥) → reread s lent ≡ record { number = write_number s lent; plant = fresh_plant no_site }
unfolding reread
reread_refused s lent z = rw (ne_eqb (write_number s lent) 0 z)
