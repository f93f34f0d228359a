-- The number of two sheets: the machine's is the claim's, and it is 0 exactly when both can be compared.
use mathlib.Core.Path.{◌≡◌, refl, ap, ◌∙◌}
use mathlib.Core.Bool.{not, ◌||◌}
use mathlib.Core.Logic.{◌↔◌}
use mathlib.Core.List.{List}
use Prim.Native.Nat.{ℕ, zero, suc, ◌+◌, ◌*◌, ◌≤◌}
use native.Mathlib.Omega.{arith}
use lib.Dec.{eqb, ltb}
use lib.ListN.{length}
use borrow.Author.Tests.{eqb-true, eq-eqb, ltb-false, le-ltb, not-false}
use Rattle.machine.specs.Sheet.{sheet_size, sheet_number}
use Rattle.machine.specs.Shift.{agree_number}
use Rattle.machine.proofs.Tools.{by_test, passed, neither}
use Rattle.cabin.specs.Cabin.{own, too_long, or_else, Comparable}

-- a sheet's own number, then what follows
own_is : (s : List ℕ) (rest : ℕ) → sheet_number s rest ≡ or_else (own s) rest
unfolding own
own_is s rest = by_test (ltb (length s) 2)
    (λ t. rw t refl)
    (λ t. by_test (ltb 4096 (sheet_size s))
    (λ u. rw (t, u) refl)
    (λ u. by_test (eqb (length s) (2 + 4 * sheet_size s))
    (λ v. rw (t, u, v) refl)
    (λ v. rw (t, u, v) refl)))

-- the machine's chain: the hut's sheet, the cabin's, then 18
chain_is : (a b : List ℕ) → agree_number a b ≡ sheet_number a (sheet_number b (too_long a b))
unfolding agree_number too_long
chain_is a b = refl

pub numbers_are : (a b : List ℕ) → agree_number a b ≡ or_else (own a) (or_else (own b) (too_long a b))
numbers_are a b = chain_is a b ∙ own_is a _ ∙ ap (or_else (own a)) (own_is b _)

-- No number ----------------------------------------------------------------------------------------------------------------------------
none : (n next : ℕ) → or_else n next ≡ 0 → (n ≡ 0) × (next ≡ 0)
none zero next q = (refl, q)
none (suc n) next q = absurd (omega arith)

whole : (s : List ℕ) → own s ≡ 0 → (2 ≤ length s) × (length s ≡ 2 + 4 * sheet_size s)
unfolding own
whole s q =
    let a = passed (ltb (length s) 2) 3 _ q in
    let b = passed (ltb 4096 (sheet_size s)) 1 _ a.1 in
    let c = passed (not (eqb (length s) (2 + 4 * sheet_size s))) 3 _ b.1 in
    (ltb-false _ _ a.0, eqb-true _ _ (not-false _ c.0))

no_own : (s : List ℕ) → Comparable s → own s ≡ 0
unfolding own
no_own s c = rw (le-ltb (length s) 2 c.0, le-ltb 4096 (sheet_size s) (omega (arith, c.2)), eq-eqb _ _ c.1) refl

pub number_0 : (a b : List ℕ) → agree_number a b ≡ 0 ↔ (Comparable a × Comparable b)
unfolding too_long
number_0 a b = (there, back)
  where
    there : agree_number a b ≡ 0 → Comparable a × Comparable b
    there q =
        let h = none (own a) _ (rw (numbers_are a b) at q) in
        let c = none (own b) _ h.1 in
        let l = neither _ _ (passed (ltb 256 (sheet_size a) || ltb 256 (sheet_size b)) 17 0 c.1).0 in
        let x = whole a h.0 in
        let y = whole b c.0 in
        ((x.0, x.1, ltb-false _ _ l.0), (y.0, y.1, ltb-false _ _ l.1))

    back : Comparable a × Comparable b → agree_number a b ≡ 0
    back c = numbers_are a b ∙ rw (no_own a c.0, no_own b c.1, le-ltb 256 (sheet_size a) c.0.2, le-ltb 256 (sheet_size b) c.1.2) refl
