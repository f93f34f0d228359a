-- What the tests of the settings say, as facts, as far as the laws ask.
use mathlib.Core.Path.{◌≡◌, sym, ap}
use mathlib.Core.Bool.{true, ◌&&◌}
use Prim.Native.Nat.{ℕ, ◌^◌, ◌≤◌}
use native.Mathlib.Omega.{arith}
use lib.Dec.{eqb, ltb, leb, lit≤}
use borrow.Author.Tests.{eqb-true, leb-true}
use Rattle.machine.specs.Plant.{Entry, no_entry, lights_only, four_booms, old_booms, boom_count, lamp_count}
use Rattle.machine.specs.Range.{pre_in, gap_in, entry_in, entry_zero, count_in}
use Rattle.machine.proofs.Tools.{by_test, by_cond, and_both}

pub record EntryIn (s : Entry) : Type 0 where
  pub tracks : s.tracks ≤ 4
  pub some_pre : 1 ≤ s.pre
  pub pre : s.pre ≤ 180
  pub gap : gap_in s.kind s.gap ≡ true
  pub pause : s.pause ≤ 540

-- F is 1 to 180, at every kind
pre_reads : (kind pre : ℕ) → pre_in kind pre ≡ true → (1 ≤ pre) × (pre ≤ 180)
pre_reads kind pre q = by_test (old_booms kind)
    (λ o. let f : pre ≡ 15 = eqb-true _ _ (rw o at q) in (omega arith, omega arith))
    (λ o. let f = and_both (leb 1 pre) (leb pre 180) (rw o at q) in (leb-true _ _ f.0, leb-true _ _ f.1))

pub entry_reads : (s : Entry) → entry_in s ≡ true → EntryIn s
unfolding entry_in
entry_reads s q =
    let r = and_both _ (leb s.pause 540) q in
    let g = and_both _ (gap_in s.kind s.gap) r.0 in
    let f = and_both _ (pre_in s.kind s.pre) g.0 in
    let m = and_both _ (ltb s.mask (2 ^ s.tracks)) f.0 in
    let t = and_both (leb 1 s.kind && leb s.kind 6) (leb 1 s.tracks && leb s.tracks 4) m.0 in
    let f2 = pre_reads s.kind s.pre f.1 in
    record {
      tracks = leb-true _ _ (and_both (leb 1 s.tracks) _ t.1).1;
      some_pre = f2.0;
      pre = f2.1;
      gap = g.1;
      pause = leb-true _ _ r.1;
    }

-- G of four booms is at least 1
pub some_gap : {s : Entry} → EntryIn s → four_booms s.kind ≡ true → 1 ≤ s.gap
some_gap {s} h four = leb-true _ _ (and_both (leb 1 s.gap) (leb s.gap 90) (rw four at h.gap)).0

-- no kind has more than four booms
pub at_most_four : (kind : ℕ) → boom_count kind ≤ 4
at_most_four kind = by_cond (λ x. x ≤ 4) (lights_only kind) (λ _. lit≤ tt) (λ _. by_cond (λ x. x ≤ 4) (four_booms kind) (λ _. lit≤ tt) (λ _. lit≤ tt))

-- or more than seven lamps
pub at_most_seven : (kind : ℕ) → lamp_count kind ≤ 7
at_most_seven kind = by_cond (λ x. x ≤ 7) (old_booms kind) (λ _. lit≤ tt) (λ _. lit≤ tt)

pub at_most_eight : (n : ℕ) → count_in n ≡ true → n ≤ 8
at_most_eight n q = leb-true n 8 (and_both (leb 1 n) (leb n 8) q).1

-- an entry by its fields
pub entry_by : {k t m p g r : ℕ} (x : Entry) → k ≡ x.kind → t ≡ x.tracks → m ≡ x.mask → p ≡ x.pre → g ≡ x.gap → r ≡ x.pause
    → record { kind = k; tracks = t; mask = m; pre = p; gap = g; pause = r } ≡ x
entry_by x a b c d e f = rw (a, b, c, d, e, f)

-- an entry past the last crossing is all zero
pub zero_entry : (x : Entry) → entry_zero x ≡ true → no_entry ≡ x
unfolding entry_zero
zero_entry x q =
    let r = and_both _ (eqb x.pause 0) q in
    let g = and_both _ (eqb x.gap 0) r.0 in
    let p = and_both _ (eqb x.pre 0) g.0 in
    let m = and_both _ (eqb x.mask 0) p.0 in
    let t = and_both (eqb x.kind 0) (eqb x.tracks 0) m.0 in
    entry_by x (sym (eqb-true _ _ t.0)) (sym (eqb-true _ _ t.1)) (sym (eqb-true _ _ m.1)) (sym (eqb-true _ _ p.1)) (sym (eqb-true _ _ g.1)) (sym (eqb-true _ _ r.1))

-- so it has kind 0 and no boom
pub zero_kind : (s : Entry) → entry_zero s ≡ true → s.kind ≡ 0
zero_kind s q = sym (ap (λ x. x.kind) (zero_entry s q))
