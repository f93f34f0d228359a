-- The two halves of `alike`, in the words of std that iterators are told by.
use mathlib.Core.Path.{◌≡◌, refl, sym, ap, ◌∙◌}
use mathlib.Core.Bool.{Bool, ◌&&◌}
use mathlib.Core.List.{List, [], ◌∷◌, ◌++◌}
use Prim.Native.Nat.{ℕ}
use native.Mathlib.Nat.{zero-add}
use lib.Dec.{eqb}
use borrow.Author.Tests.{eqb-true, eqb-false, ne_eqb}
use Rattle.std.specs.List.{count_by, list_all}
use Rattle.std.proofs.lemmas.List.Folds.{list_all-append}
use Rattle.std.proofs.lemmas.List.Recursion.{is_count_by}
use Rattle.machine.specs.Shift.{how_many, all_of}
use Rattle.machine.proofs.Tools.{by_test}
use Rattle.stretch.specs.Keys.{as_often, alike}

eqb_comm : (x y : ℕ) → eqb x y ≡ eqb y x
eqb_comm x y = by_test (eqb x y)
    (λ t. rw (eqb-true x y t))
    (λ t. t ∙ sym (ne_eqb y x (λ e. eqb-false x y t (sym e))))

counted : (f : ℕ → Bool) (x : List ℕ) → how_many f x ≡ count_by f x
counted f x = is_count_by (how_many f) f refl (λ k y. by_test (f k) (λ t. rw t) (λ t. rw t (zero-add (how_many f y)))) x

module _ (f g : ℕ → Bool) (same : (k : ℕ) → f k ≡ g k) where
  all_are : (x : List ℕ) → all_of f x ≡ list_all g x
  all_are [] = refl
  all_are (k ∷ x) = rw (same k, all_are x)

-- each key of the first stands in both as often
abbrev pub one_way : List ℕ → List ℕ → Bool
one_way x y = list_all (λ k. eqb (count_by (eqb k) x) (count_by (eqb k) y)) x

pub both_ways : (x y : List ℕ) → alike x y ≡ (one_way x y && one_way y x)
unfolding alike
both_ways x y =
    let often : (k : ℕ) → as_often x y k ≡ eqb (count_by (eqb k) x) (count_by (eqb k) y) = (λ k. rw (counted (eqb k) x, counted (eqb k) y)) in
    all_are _ _ often (x ++ y) ∙ list_all-append _ x y
    ∙ ap (λ t. one_way x y && t) (sym (all_are _ _ (λ k. refl) y) ∙ all_are _ _ (λ k. eqb_comm (count_by (eqb k) x) (count_by (eqb k) y)) y)
