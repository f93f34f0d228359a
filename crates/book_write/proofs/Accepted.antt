-- What a taken write passed, and what a write leaves in the lent bytes.
use mathlib.Core.Path.{◌≡◌}
use mathlib.Core.Bool.{true, not}
use mathlib.Core.List.{List}
use Prim.Native.Nat.{ℕ, ◌<◌}
use lib.Dec.{eqb}
use lib.ListN.{length}
use borrow.Author.Tests.{eq-eqb, ne_eqb, eqb-true, not-false}
use Rattle.machine.specs.declared.Site.{Site}
use Rattle.machine.specs.Common.{all_below}
use Rattle.machine.specs.Range.{count_in}
use Rattle.machine.specs.SiteBook.{book, book_length, setting_in, write_number, written_book}
use Rattle.machine.proofs.Tools.{passed, all_below_at}

pub record WriteIn (s : Site) (lent : List ℕ) : Type 0 where
  pub count : count_in s.n ≡ true
  pub test : (i : ℕ) → i < 8 → setting_in s i ≡ true
  pub size : length lent ≡ book_length s.n

pub write_reads : (s : Site) (lent : List ℕ) → write_number s lent ≡ 0 → WriteIn s lent
unfolding write_number
write_reads s lent q =
    let v2 = passed (not (count_in s.n)) 1 _ q in
    let v3 = passed (not (all_below 8 (setting_in s))) 2 _ v2.1 in
    let v14 = passed (not (eqb (length lent) (book_length s.n))) 13 _ v3.1 in
    record {
      count = not-false _ v2.0;
      test = all_below_at 8 (setting_in s) (not-false _ v3.0);
      size = eqb-true _ _ (not-false _ v14.0);
    }

module _ (s : Site) (lent : List ℕ) where
  pub written_taken : write_number s lent ≡ 0 → written_book s lent ≡ book s
  unfolding written_book
  written_taken q = rw (eq-eqb (write_number s lent) 0 q)

  pub written_refused : (write_number s lent ≡ 0 → ⊥) → written_book s lent ≡ lent
  unfolding written_book
  written_refused q = rw (ne_eqb (write_number s lent) 0 q)
