-- A book read and written: one that is taken comes back byte for byte.
use mathlib.Core.Path.{◌≡◌, sym, ◌∙◌, ap}
use mathlib.Core.Bool.{true, not}
use mathlib.Core.List.{List, [], ◌∷◌, ◌++◌}
use Prim.Native.Nat.{ℕ, suc, ◌+◌, ◌*◌, ◌<◌}
use native.Mathlib.Omega.{arith}
use lib.Dec.{eqb, ltb}
use lib.ListN.{length, take, drop}
use lib.Seq.{take-add, take_all}
use borrow.Author.Tests.{eq-eqb, ne_eqb, lt-ltb, ltb-true}
use Rattle.machine.specs.declared.Site.{Site}
use Rattle.machine.specs.Common.{refuse, byte, word, low, high}
use Rattle.machine.specs.Numbers.{bad_output_length}
use Rattle.machine.specs.Plant.{fresh_plant}
use Rattle.machine.specs.Range.{entry_zero}
use Rattle.machine.specs.SiteBook.{book, book_entry, book_site, book_size, first_part, read, read_number, second_part, setting, setting_in, write_number, written_book}
use Rattle.machine.proofs.Tools.{by_test, all_below_intro}
use Rattle.machine.proofs.Entries.{at_most_eight}
use Rattle.machine.proofs.Laws.{book_reads, read_plant, site_entry}
use Rattle.book.specs.Copies.{copied, copy_number}
use Rattle.book.proofs.Parts.{concat_same, concat_parts, part_bytes}
use Rattle.book.proofs.Bytes.{low_word, high_word}

module _ (b : List ℕ) (bytes : (k : ℕ) → byte b k < 256) (q : read_number b ≡ 0) where
  read_site : (read b).plant.site ≡ book_site b
  unfolding fresh_plant
  read_site = ap {B = Site} (λ p. p.site) (read_plant b q)

  -- the parts of an entry are the bytes at its places
  first_bytes : (i : ℕ) → i < book_size b → first_part (book_entry b i) ≡ take 3 (drop (1 + 3 * i) b)
  unfolding first_part book_entry
  first_bytes i l =
      let h = (book_reads b q).size in
      let k = 1 + 3 * i in
      let z : k + 0 ≡ k = omega arith in
      rw z at (part_bytes 3 k b (omega arith))

  second_bytes : (i : ℕ) → i < book_size b → second_part (book_entry b i) ≡ take 6 (drop (1 + 3 * book_size b + 6 * i) b)
  unfolding second_part book_entry
  second_bytes i l =
      let h = (book_reads b q).size in
      let k = 1 + 3 * book_size b + 6 * i in
      let z : k + 0 ≡ k = omega arith in
      let e : k + 2 + 1 ≡ k + 3 = omega arith in
      let f : k + 4 + 1 ≡ k + 5 = omega arith in
      rw (low_at k, high_at k) (rw (low_at (k + 2), high_at (k + 2), e) (rw (low_at (k + 4), high_at (k + 4), f) (rw z at (part_bytes 6 k b (omega arith)))))
    where
      low_at : (k : ℕ) → low (word b k) ≡ byte b k
      low_at k = low_word (byte b k) (byte b (k + 1)) (bytes k)

      high_at : (k : ℕ) → high (word b k) ≡ byte b (k + 1)
      high_at k = high_word (byte b k) (byte b (k + 1)) (bytes k) (bytes (k + 1))

  setting_read : (i : ℕ) → i < book_size b → setting (book_site b) i ≡ book_entry b i
  setting_read i l =
      let n = at_most_eight (book_size b) (book_reads b q).count in
      site_entry b i (omega arith) ∙ rw (lt-ltb i (book_size b) l)

  book_back : book (book_site b) ≡ b
  unfolding book book_site
  book_back =
      let n = book_size b in
      let first = concat_same n (λ i. first_part (setting (book_site b) i)) (λ i. take 3 (drop (1 + 3 * i) b)) (λ i l. ap {B = List ℕ} first_part (setting_read i l) ∙ first_bytes i l) in
      let second = concat_same n (λ i. second_part (setting (book_site b) i)) (λ i. take 6 (drop (1 + 3 * n + 6 * i) b)) (λ i l. ap {B = List ℕ} second_part (setting_read i l) ∙ second_bytes i l) in
      rw (first ∙ concat_parts 3 1 n b, second ∙ concat_parts 6 (1 + 3 * n) n b) (whole n b (book_reads b q).size)
    where
      whole : (n : ℕ) (l : List ℕ) → length l ≡ 1 + 9 * n → byte l 0 ∷ (take (3 * n) (drop 1 l) ++ take (6 * n) (drop (1 + 3 * n) l)) ≡ l
      whole n [] h = absurd (omega arith)
      whole n (x ∷ l) h =
          let e : 1 + 3 * n ≡ suc (3 * n) = omega arith in
          rw e (ap {B = List ℕ} (λ r. x ∷ r) (sym (take-add (3 * n) (6 * n) l) ∙ take_all (3 * n + 6 * n) l (omega arith)))

  number_written : (lent : List ℕ) → write_number (book_site b) lent ≡ refuse (not (eqb (length lent) (length b))) bad_output_length 0
  unfolding write_number book_site entry_zero
  number_written lent =
      let h = book_reads b q in
      rw (h.count, all_below_intro 8 (setting_in (book_site b)) test, h.size)
    where
      test : (i : ℕ) → i < 8 → setting_in (book_site b) i ≡ true
      test i l = by_test (ltb i (book_size b))
          (λ t. let m : i < book_size b = ltb-true i (book_size b) t in rw (t, setting_read i m) ((book_reads b q).entry_test i m))
          (λ t. rw (t, site_entry b i l, t))

  -- number and bytes of a copy, whatever the output's length
  pub copies : (lent : List ℕ) → (write_number (read b).plant.site lent ≡ copy_number b lent) × (written_book (read b).plant.site lent ≡ copied b lent)
  unfolding written_book copy_number copied
  copies lent =
      let n : write_number (read b).plant.site lent ≡ refuse (not (eqb (length lent) (length b))) bad_output_length 0 = rw read_site (number_written lent) in
      let r : book (read b).plant.site ≡ b = rw read_site book_back in
      (rw (n, q), rw (n, q, r))

  -- written into an output of its length, a book that is taken comes back byte for byte
  pub write_what_is_read : (lent : List ℕ) → length lent ≡ length b → (write_number (read b).plant.site lent ≡ 0) × (written_book (read b).plant.site lent ≡ b)
  unfolding copy_number copied
  write_what_is_read lent e =
      let t = eq-eqb (length lent) (length b) e in
      ((copies lent).0 ∙ rw (q, t), (copies lent).1 ∙ rw (q, t))

-- a book that is refused is not copied
pub copy_refused : (b lent : List ℕ) → (read_number b ≡ 0 → ⊥) → (read_number b ≡ copy_number b lent) × (lent ≡ copied b lent)
unfolding copied copy_number
copy_refused b lent z = let t = ne_eqb (read_number b) 0 z in (rw t, rw (t, t))
