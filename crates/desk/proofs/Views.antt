-- Views (T-04), proved.
use mathlib.Core.Path.{◌≡◌, refl, sym, ◌∙◌, ap}
use mathlib.Core.Bool.{true, false, cond}
use mathlib.Core.List.{List}
use Prim.Native.Nat.{ℕ, zero, suc, ◌*◌, ◌≤◌, ◌<◌}
use native.Mathlib.Omega.{arith}
use lib.Dec.{eqb, leb}
use lib.ListN.{get_or, length}
use lib.Seq.{ext_get_or}
use borrow.Author.Tests.{eqb-true, eqb-false, eq-eqb, le-leb, lt-leb}
use Rattle.machine.specs.Common.{all_below, concat_below, bit}
use Rattle.machine.specs.declared.Plant.{Plant}
use Rattle.machine.specs.Plant.{entry, crossing}
use Rattle.machine.specs.Range.{in_range}
use Rattle.machine.specs.Rights.{sees}
use Rattle.machine.specs.Panel.{row, panel, seen, view, draw_number, drawn}
use Rattle.machine.proofs.Tools.{by_test, all_below_at, getD_tab, getD_concat}
use Rattle.machine.proofs.Laws.{panel_at}
use Rattle.desk.proofs.Tests.{agree, agrees}
use Rattle.desk.specs.Views.{at, shown_to, Alike, Views}

-- The machine's test is the claim's, at each byte ---------------------------------------------------------------------------------
same_tests : (k : ℕ) → all_below 16 (λ j. agree (sees k j) (shown_to k j)) ≡ true
unfolding sees shown_to
same_tests k = by_test (eqb k 0)
    (λ z. rw (eqb-true k 0 z))
    (λ z. by_test (eqb k 1)
    (λ o. rw (eqb-true k 1 o))
    (λ o. let far : leb k 1 ≡ false = lt-leb k 1 (let a = eqb-false k 0 z in let b = eqb-false k 1 o in omega arith) in rw (z, o, far)))

same_test : (k j : ℕ) → j < 16 → sees k j ≡ shown_to k j
same_test k j l = agrees (sees k j) (shown_to k j) (all_below_at 16 (λ j. agree (sees k j) (shown_to k j)) (same_tests k) j l)

-- A view byte by byte --------------------------------------------------------------------------------------------------------------
abbrev bytes : Plant → ℕ → List ℕ
bytes p i = row p.beat (entry p i) (crossing p i)

concat_same : (n : ℕ) (f g : ℕ → List ℕ) → ((i : ℕ) → i < n → f i ≡ g i) → concat_below n f ≡ concat_below n g
concat_same zero f g h = refl
concat_same (suc n) f g h = rw (concat_same n f g (λ i l. h i (omega arith)), h n (omega arith))

-- one crossing
seen_at : (k : ℕ) (row : List ℕ) (j : ℕ) → j < 16 → get_or (seen k row) j 0 ≡ cond (shown_to k j) (get_or row j 0) 0
seen_at k row j b = getD_tab 16 (λ j. bit (sees k j) (get_or row j 0)) 0 j b ∙ ap (λ t. bit t (get_or row j 0)) (same_test k j b)

view_at : (k : ℕ) (p : Plant) (i j : ℕ) → i < p.site.n → j < 16 → at (view k p) i j ≡ cond (shown_to k j) (at (panel p) i j) 0
unfolding view
view_at k p i j l b =
    getD_concat 16 (λ i. seen k (bytes p i)) (λ i. refl) p.site.n i j l b
    ∙ seen_at k (bytes p i) j b
    ∙ ap (bit (shown_to k j)) (sym (panel_at p i j l b))

view_same : (k : ℕ) (p q : Plant) → Alike k p q → view k p ≡ view k q
unfolding view
view_same k p q h = concat_same p.site.n (λ i. seen k (bytes p i)) (λ i. seen k (bytes q i)) (λ i l.
    let m : i < q.site.n = rw h.size at l in
    ext_get_or 0 _ _ refl (λ j b. seen_at k (bytes p i) j b ∙ by_test (shown_to k j)
    (λ t. rw t (sym (panel_at p i j l b) ∙ h.bytes i j l b t ∙ panel_at q i j m b))
    (λ t. rw t) ∙ sym (seen_at k (bytes q i) j b)))
    ∙ ap (λ n. concat_below n (λ i. seen k (bytes q i))) h.size

-- The claim ------------------------------------------------------------------------------------------------------------------------
number_same : (k : ℕ) (p q : Plant) → Alike k p q → (lent : List ℕ) → draw_number p k lent ≡ draw_number q k lent
unfolding draw_number
number_same k p q h lent = rw (h.range.0, h.range.1, h.size)

same : (k : ℕ) (p q : Plant) → Alike k p q → (lent : List ℕ) → (draw_number p k lent ≡ draw_number q k lent) × (drawn p k lent ≡ drawn q k lent)
unfolding drawn
same k p q h lent = let n = number_same k p q h lent in (n, rw (n, view_same k p q h))

-- one of the four senders is drawn its view
drawn_view : (k : ℕ) (p : Plant) → k ≤ 3 → in_range p ≡ true → (lent : List ℕ) → length lent ≡ 16 * p.site.n → drawn p k lent ≡ view k p
unfolding drawn draw_number
drawn_view k p l r lent f = rw (r, le-leb k 3 l, eq-eqb (length lent) (16 * p.site.n) f)

only : (k : ℕ) (p q : Plant) → k ≤ 3 → in_range p ≡ true → in_range q ≡ true → p.site.n ≡ q.site.n
    → (lent : List ℕ) → length lent ≡ 16 * p.site.n → drawn p k lent ≡ drawn q k lent → Alike k p q
only k p q l a b s lent f d =
    let v : view k p ≡ view k q = sym (drawn_view k p l a lent f) ∙ d ∙ drawn_view k q l b lent (rw s at f) in
    record {
      range = (a, b);
      size = s;
      bytes = λ i j m c t.
          let m2 : i < q.site.n = rw s at m in
          let one : at (view k p) i j ≡ at (panel p) i j = rw t at (view_at k p i j m c) in
          let two : at (view k q) i j ≡ at (panel q) i j = rw t at (view_at k q i j m2 c) in
          sym one ∙ ap (λ x. at x i j) v ∙ two;
    }

pub views : Views
unfolding drawn draw_number
views = record {
  same = same;
  only = only;
  bytes = λ k p lent z i j l b. rw (eq-eqb (draw_number p k lent) 0 z) (view_at k p i j l b);
  unknown = λ k p lent r l. rw (r, lt-leb k 3 l);
}
