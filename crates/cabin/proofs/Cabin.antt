-- Hut against cabin (T-07), proved.
use mathlib.Core.Path.{◌≡◌, refl, sym, ap, ◌∙◌}
use mathlib.Core.Bool.{true, false}
use mathlib.Core.Logic.{◌↔◌}
use mathlib.Core.List.{List, []}
use Prim.Native.Nat.{ℕ, suc, ◌<◌}
use native.Mathlib.Omega.{arith}
use lib.Dec.{eqb}
use lib.ListN.{get_or, length, length-append}
use borrow.Author.Tests.{eqb-true, eqb-false, eq-eqb, ne_eqb}
use Rattle.machine.specs.Sheet.{sheet_size, sheet_event}
use Rattle.machine.specs.Shift.{pairwise, first_unlike, alike, stretches, agreed, first_failing, agree_number, agree}
use Rattle.machine.proofs.Tools.{by_test, length_tab}
use Rattle.machine.proofs.Lifted.{Lifted, lifted_refl, same_pairs}
use Rattle.cabin.specs.Cabin.{ticks, stretch, shift, Same, Comparable, Agree, Rearranged, Agrees, Exchanged, Cabin}
use Rattle.cabin.proofs.Numbers.{numbers_are, number_0}
use Rattle.cabin.proofs.Counts.{AsOften, same_often, often_same, alike_often, often_alike, by_often, alike_comm, often_perm, perm_often}
use Rattle.cabin.proofs.Pairs.{pairs_comm, pairs_length, pairs_at, pairs_from, before_first, first_none}
use Rattle.cabin.proofs.Parts.{same_tick, part, part_count, exchanged_parts}

-- The answer ---------------------------------------------------------------------------------------------------------------------------
number_is : (a b : List ℕ) → (agree a b).number ≡ agree_number a b
unfolding agree
number_is a b = by_test (eqb (agree_number a b) 0)
    (λ t. rw t (sym (eqb-true _ _ t)))
    (λ t. rw t)

compared_is : (a b : List ℕ) → (agree a b).number ≡ 0 ↔ (Comparable a × Comparable b)
compared_is a b = (λ q. (number_0 a b).0 (sym (number_is a b) ∙ q), λ c. number_is a b ∙ (number_0 a b).1 c)

-- Stretches ----------------------------------------------------------------------------------------------------------------------------
count_is : (s : List ℕ) → length (stretches s) ≡ suc (ticks (shift s))
unfolding stretches
count_is s = part_count [] (shift s)

at_is : (s : List ℕ) (k : ℕ) → get_or (stretches s) k [] ≡ stretch k (shift s)
unfolding stretches
at_is s k = part (shift s) k

module _ (a b : List ℕ) where
  -- a pair of stretches is alike exactly when they hold the same events, each as often
  alike_same : (k : ℕ) → alike (get_or (stretches a) k []) (get_or (stretches b) k []) ≡ true → Same (stretch k (shift a)) (stretch k (shift b))
  alike_same k q = often_same _ _ (alike_often _ _ (rw (at_is a k, at_is b k) at q))

  same_alike : (k : ℕ) → Same (stretch k (shift a)) (stretch k (shift b)) → alike (get_or (stretches a) k []) (get_or (stretches b) k []) ≡ true
  same_alike k p = rw (at_is a k, at_is b k) (often_alike _ _ (same_often _ _ p))

  rearranged_is : Agree (shift a) (shift b) ↔ Rearranged (shift a) (shift b)
  rearranged_is = (
    (λ h. (h.0, λ k. often_perm _ _ (same_often _ _ (h.1 k)))),
    (λ h. (h.0, λ k. often_same _ _ (perm_often _ _ (h.1 k)))),
  )

  agreed_is : (agreed a b ≡ true) ↔ Agree (shift a) (shift b)
  unfolding agreed
  agreed_is = (there, back)
    where
      there : pairwise alike (stretches a) (stretches b) ≡ true → Agree (shift a) (shift b)
      there q =
          let l = pairs_length alike (stretches a) (stretches b) q in
          let m = count_is a in
          let n = count_is b in
          (omega arith, λ k. alike_same k (pairs_at alike [] (often_alike [] [] (λ e. refl)) (stretches a) (stretches b) q k))

      back : Agree (shift a) (shift b) → pairwise alike (stretches a) (stretches b) ≡ true
      back h = pairs_from alike [] (stretches a) (stretches b) (count_is a ∙ ap suc h.0 ∙ sym (count_is b)) (λ k. same_alike k (h.1 k))

  abbrev First : ℕ → Type 0
  First f = ((k : ℕ) → k < f → Agrees k (shift a) (shift b)) × (Agrees f (shift a) (shift b) → ⊥)

  first_is : agreed a b ≡ false → First (first_failing a b)
  unfolding agreed first_failing
  first_is q = (before, λ h. first_none alike [] (stretches a) (stretches b) q (there h))
    where
      before : (k : ℕ) → k < first_unlike alike (stretches a) (stretches b) → Agrees k (shift a) (shift b)
      before k l =
          let w = before_first alike [] (stretches a) (stretches b) k l in
          (omega (arith, w.0, count_is a), omega (arith, w.1, count_is b), alike_same k w.2)

      there : {k : ℕ} → Agrees k (shift a) (shift b) → (k < length (stretches a)) × (k < length (stretches b)) × (alike (get_or (stretches a) k []) (get_or (stretches b) k []) ≡ true)
      there {k} h = (omega (arith, h.0, count_is a), omega (arith, h.1, count_is b), same_alike k h.2)

  -- the answer of two that are exchanged, and of one with neighbours exchanged
  turned : (agreed b a ≡ agreed a b) × (first_failing b a ≡ first_failing a b)
  unfolding agreed first_failing
  turned = pairs_comm alike alike_comm (stretches b) (stretches a)

  turned_number : agree_number a b ≡ 0 → agree_number b a ≡ 0
  turned_number q = let c = (number_0 a b).0 q in (number_0 b a).1 (c.1, c.0)

symmetric_is : (a b : List ℕ) → ((agree b a).agreed ≡ (agree a b).agreed) × ((agree b a).stretch ≡ (agree a b).stretch)
unfolding agree
symmetric_is a b = by_test (eqb (agree_number a b) 0)
    (λ t. let q = eq-eqb _ _ (turned_number a b (eqb-true _ _ t)) in
    (rw (t, q) (turned a b).0, rw (t, q, (turned a b).0, (turned a b).1)))
    (λ t. let q = ne_eqb _ _ (λ z. eqb-false _ _ t (turned_number b a z)) in (rw (t, q), rw (t, q)))

module _ (a c : List ℕ) (w : Exchanged a c) where
  size_is : sheet_size c ≡ sheet_size a
  size_is =
      let l = length_tab (sheet_size c) (sheet_event c) in
      let m = length_tab (sheet_size a) (sheet_event a) in
      let p = ap length w.here ∙ length-append w.before _ in
      let q = ap length w.there ∙ length-append w.before _ in
      sym l ∙ q ∙ sym p ∙ m

  stretches_is : Lifted AsOften (stretches a) (stretches c)
  unfolding stretches
  stretches_is =
      rw (w.here, w.there)
      (exchanged_parts w.x w.y (same_tick w.x ∙ w.no_tick.0) (same_tick w.y ∙ w.no_tick.1) w.after [] w.before)

  module _ (b : List ℕ) where
    same : Lifted AsOften (stretches b) (stretches b)
    same = lifted_refl AsOften (λ x e. refl) (stretches b)

    exchanged_is : (agree c b ≡ agree a b) × (agree b c ≡ agree b a)
    unfolding agree agree_number agreed first_failing
    exchanged_is =
        let h = same_pairs AsOften alike alike by_often stretches_is same in
        let g = same_pairs AsOften alike alike by_often same stretches_is in
        (rw (size_is, w.long, h.0, h.1) refl, rw (size_is, w.long, g.0, g.1) refl)

-- The claim ----------------------------------------------------------------------------------------------------------------------------
pub cabin : (a b : List ℕ) → Cabin a b
unfolding agree
cabin a b = record {
  numbers = number_is a b ∙ numbers_are a b;
  compared = compared_is a b;
  agreed = λ q. rw (is_taken q) (agreed_is a b);
  rearranged = rearranged_is a b;
  first = λ q f. let g : agreed a b ≡ false = rw (is_taken q) at f in rw (is_taken q, g) (first_is a b g);
  refused = λ q. let t = ne_eqb _ _ (λ z. q (number_is a b ∙ z)) in (rw t refl, rw t refl);
  no_stretch = λ f. by_test (eqb (agree_number a b) 0)
      (λ t. let g : agreed a b ≡ true = rw t at f in rw (t, g) refl)
      (λ t. rw t);
  symmetric = symmetric_is a b;
  exchanged = λ c w. exchanged_is a c w b;
}
  where
    is_taken : (agree a b).number ≡ 0 → eqb (agree_number a b) 0 ≡ true
    is_taken q = eq-eqb _ _ (sym (number_is a b) ∙ q)
