-- Two lists pair by pair: what `pairwise` and `first_unlike` tell of each place; d is what stands past the end.
use mathlib.Core.Path.{◌≡◌, refl, sym, ap, ◌∙◌}
use mathlib.Core.Bool.{Bool, true, false, true≢false}
use mathlib.Core.List.{List, [], ◌∷◌}
use Prim.Native.Nat.{ℕ, zero, suc, ◌<◌}
use native.Mathlib.Omega.{arith}
use lib.ListN.{get_or, length}
use Rattle.machine.specs.Shift.{pairwise, first_unlike}
use Rattle.machine.proofs.Tools.{by_test, and_both, and_intro}

module _ {A : Type 0} (f : A → A → Bool) where
  -- a test that does not care for the order
  pub pairs_comm : ((x y : A) → f x y ≡ f y x) → (l m : List A) → (pairwise f l m ≡ pairwise f m l) × (first_unlike f l m ≡ first_unlike f m l)
  pairs_comm c [] [] = (refl, refl)
  pairs_comm c [] (y ∷ m) = (refl, refl)
  pairs_comm c (x ∷ l) [] = (refl, refl)
  pairs_comm c (x ∷ l) (y ∷ m) = let r = pairs_comm c l m in (rw (c x y, r.0), rw (c x y, r.1))

  pub pairs_length : (l m : List A) → pairwise f l m ≡ true → length l ≡ length m
  pairs_length [] [] q = refl
  pairs_length [] (y ∷ m) q = absurd (true≢false (sym q))
  pairs_length (x ∷ l) [] q = absurd (true≢false (sym q))
  pairs_length (x ∷ l) (y ∷ m) q = ap suc (pairs_length l m (and_both (f x y) _ q).1)

  module _ (d : A) where
    pub pairs_at : f d d ≡ true → (l m : List A) → pairwise f l m ≡ true → (k : ℕ) → f (get_or l k d) (get_or m k d) ≡ true
    pairs_at e [] [] q k = e
    pairs_at e [] (y ∷ m) q k = absurd (true≢false (sym q))
    pairs_at e (x ∷ l) [] q k = absurd (true≢false (sym q))
    pairs_at e (x ∷ l) (y ∷ m) q zero = (and_both (f x y) _ q).0
    pairs_at e (x ∷ l) (y ∷ m) q (suc k) = pairs_at e l m (and_both (f x y) _ q).1 k

    pub pairs_from : (l m : List A) → length l ≡ length m → ((k : ℕ) → f (get_or l k d) (get_or m k d) ≡ true) → pairwise f l m ≡ true
    pairs_from [] [] e h = refl
    pairs_from [] (y ∷ m) e h = absurd (omega arith)
    pairs_from (x ∷ l) [] e h = absurd (omega arith)
    pairs_from (x ∷ l) (y ∷ m) e h = and_intro (h 0) (pairs_from l m (omega arith) (λ k. h (suc k)))

    abbrev pub Pair : List A → List A → ℕ → Type 0
    Pair l m k = (k < length l) × (k < length m) × (f (get_or l k d) (get_or m k d) ≡ true)

    -- every place before the first is a pair
    pub before_first : (l m : List A) (k : ℕ) → k < first_unlike f l m → Pair l m k
    before_first [] m k h = absurd (omega arith)
    before_first (x ∷ l) [] k h = absurd (omega arith)
    before_first (x ∷ l) (y ∷ m) zero h = by_test (f x y)
        (λ t. (omega arith, omega arith, t))
        (λ t. let z : 0 < 0 = rw t at h in absurd (omega arith))
    before_first (x ∷ l) (y ∷ m) (suc k) h = by_test (f x y)
        (λ t. let z : suc k < suc (first_unlike f l m) = rw t at h in
        let w = before_first l m k (omega arith) in (omega (arith, w.0), omega (arith, w.1), w.2))
        (λ t. let z : suc k < 0 = rw t at h in absurd (omega arith))

    -- and the first is none, unless all are
    pub first_none : (l m : List A) → pairwise f l m ≡ false → Pair l m (first_unlike f l m) → ⊥
    first_none [] [] q h = true≢false q
    first_none [] (y ∷ m) q h = omega (arith, h.0)
    first_none (x ∷ l) [] q h = omega (arith, h.1)
    first_none (x ∷ l) (y ∷ m) q h = by_test (f x y)
        (λ t. let w : Pair (x ∷ l) (y ∷ m) (suc (first_unlike f l m)) = rw t at h in
        first_none l m (rw t at q) (omega (arith, w.0), omega (arith, w.1), w.2))
        (λ t. let w : Pair (x ∷ l) (y ∷ m) 0 = rw t at h in true≢false (sym w.2 ∙ t))
