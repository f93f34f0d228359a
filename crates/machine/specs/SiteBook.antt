-- Site book: bytes to settings and settings to bytes.
use Rattle.std.specs.Prelude.{Bool, cond, not, List, [], ◌∷◌, ◌++◌, ℕ, ◌+◌, ◌*◌, eqb, ltb, length, get_or}
pub use Rattle.machine.specs.declared.Reading.{Reading}
use Rattle.machine.specs.Common.{tab, all_below, concat_below, refuse, byte, word, low, high}
use Rattle.machine.specs.Numbers.{bad_book_length, bad_count, bad_setting, bad_output_length}
use Rattle.machine.specs.Plant.{Entry, Site, no_entry, fresh_plant}
use Rattle.machine.specs.Range.{entry_in, entry_zero, count_in}

-- the size n, one byte
abbrev pub book_size : List ℕ → ℕ
book_size b = byte b 0

-- length 1 + 9n (T-06)
abbrev pub book_length : ℕ → ℕ
book_length n = 1 + 9 * n

-- entry i: its three bytes of the first array, its six of the second (T-06)
unfoldable pub book_entry : List ℕ → ℕ → Entry
book_entry b i =
    let first = 1 + 3 * i in
    let second = 1 + 3 * book_size b + 6 * i in
    record { kind = byte b first; tracks = byte b (first + 1); mask = byte b (first + 2); pre = word b second; gap = word b (second + 2); pause = word b (second + 4) }

-- the settings of a book: entries past n are zero
unfoldable pub book_site : List ℕ → Site
book_site b = record { n = book_size b; entries = tab 8 (λ i. cond (ltb i (book_size b)) (book_entry b i) no_entry) }

-- A book read: 1 if empty, 2, 1, 3
unfoldable pub read_number : List ℕ → ℕ
read_number b =
    refuse (eqb (length b) 0) bad_book_length
    (refuse (not (count_in (book_size b))) bad_count
    (refuse (not (eqb (length b) (book_length (book_size b)))) bad_book_length
    (refuse (not (all_below (book_size b) (λ i. entry_in (book_entry b i)))) bad_setting
    0)))

-- an all-zero site
abbrev pub no_site : Site
no_site = record { n = 0; entries = tab 8 (λ i. no_entry) }

-- reading gives the fresh plant of the book; refused, of an all-zero site
unfoldable pub read : List ℕ → Reading
read b = record { number = read_number b; plant = fresh_plant (cond (eqb (read_number b) 0) (book_site b) no_site) }

-- Writing takes settings alone: the entry at place i
abbrev pub setting : Site → ℕ → Entry
setting s i = get_or s.entries i no_entry

-- First array, 3 bytes each: kind, tracks, mask
unfoldable pub first_part : Entry → List ℕ
first_part x = x.kind ∷ x.tracks ∷ x.mask ∷ []

-- Second array, 6 bytes each: F, G and M (T-06), 16 bits, low byte first
unfoldable pub second_part : Entry → List ℕ
second_part x = low x.pre ∷ high x.pre ∷ low x.gap ∷ high x.gap ∷ low x.pause ∷ high x.pause ∷ []

-- n, then the two parallel arrays of n entries
unfoldable pub book : Site → List ℕ
book s = s.n ∷ (concat_below s.n (λ i. first_part (setting s i)) ++ concat_below s.n (λ i. second_part (setting s i)))

-- the setting at place i is in its range; past n it is zero
abbrev pub setting_in : Site → ℕ → Bool
setting_in s i = cond (ltb i s.n) (entry_in (setting s i)) (entry_zero (setting s i))

-- A book written: 2, 3 (also an entry past n that is not zero), 14
unfoldable pub write_number : Site → List ℕ → ℕ
write_number s lent =
    refuse (not (count_in s.n)) bad_count
    (refuse (not (all_below 8 (setting_in s))) bad_setting
    (refuse (not (eqb (length lent) (book_length s.n))) bad_output_length
    0))

-- the bytes of the output after the call: the book or, refused, what it held
unfoldable pub written_book : Site → List ℕ → List ℕ
written_book s lent = cond (eqb (write_number s lent) 0) (book s) lent
