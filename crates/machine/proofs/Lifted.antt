-- Two lists whose elements are related one by one (T-07): every word of lists says the same of both.
use mathlib.Core.Path.{◌≡◌, refl}
use mathlib.Core.Bool.{Bool, true, false, cond}
use mathlib.Core.List.{List, [], ◌∷◌, ◌++◌}
use Prim.Native.Nat.{ℕ, zero, suc, ◌≤◌, ◌<◌}
use native.Mathlib.Omega.{arith}
use lib.ListN.{get_or, length, take}
use Rattle.machine.specs.Common.{tab}
use Rattle.machine.specs.Shift.{how_many, all_of, parted, pairwise, first_unlike}

pub data Lifted {A B : Type 0} (R : A → B → Type 0) : List A → List B → Type 0 where
  none : Lifted R [] []
  more : {x : A} {y : B} {l : List A} {m : List B} → R x y → Lifted R l m → Lifted R (x ∷ l) (y ∷ m)

-- picks by one test
pub by_conds : {A B : Type 0} (P : A → B → Type 0) (b : Bool) {x x' : A} {y y' : B} → P x y → P x' y' → P (cond b x x') (cond b y y')
by_conds P true p q = p
by_conds P false p q = q

pub lifted_refl : {A : Type 0} (R : A → A → Type 0) → ((x : A) → R x x) → (l : List A) → Lifted R l l
lifted_refl R h [] = none
lifted_refl R h (x ∷ l) = more (h x) (lifted_refl R h l)

module _ {A B : Type 0} (R : A → B → Type 0) where
  pub lifted_append : {l : List A} {m : List B} {k : List A} {n : List B} → Lifted R l m → Lifted R k n → Lifted R (l ++ k) (m ++ n)
  lifted_append none g = g
  lifted_append (more r h) g = more r (lifted_append h g)

  -- a table and the first places of an array
  pub lifted_take : (n : ℕ) (f : ℕ → A) (a : List B) (d : B) → n ≤ length a → ((i : ℕ) → i < n → R (f i) (get_or a i d)) → Lifted R (tab n f) (take n a)
  lifted_take zero f a d b h = none
  lifted_take (suc n) f [] d b h = absurd (omega arith)
  lifted_take (suc n) f (y ∷ a) d b h = more (h 0 (omega arith)) (lifted_take n (λ i. f (suc i)) a d (omega arith) (λ i l. h (suc i) (omega arith)))

  module _ (f : A → Bool) (g : B → Bool) (same : (x : A) (y : B) → R x y → f x ≡ g y) where
    pub same_many : {l : List A} {m : List B} → Lifted R l m → how_many f l ≡ how_many g m
    same_many none = refl
    same_many (more r h) = rw (same _ _ r, same_many h)

    pub same_all : {l : List A} {m : List B} → Lifted R l m → all_of f l ≡ all_of g m
    same_all none = refl
    same_all (more r h) = rw (same _ _ r, same_all h)

    pub same_parts : {s : List A} {t : List B} {l : List A} {m : List B} → Lifted R s t → Lifted R l m → Lifted (Lifted R) (parted f s l) (parted g t m)
    same_parts k none = more k none
    same_parts {s = s} {t = t} k (more {x = x} {y = y} r h) =
        rw (same _ _ r) (by_conds (Lifted (Lifted R)) (g y) (more k (same_parts {s = []} {t = []} none h)) (same_parts {s = s ++ (x ∷ [])} {t = t ++ (y ∷ [])} (lifted_append k (more r none)) h))

  module _ (f : A → A → Bool) (g : B → B → Bool) (same : (x x' : A) (y y' : B) → R x y → R x' y' → f x x' ≡ g y y') where
    pub same_pairs : {l : List A} {m : List B} {k : List A} {n : List B} → Lifted R l m → Lifted R k n → (pairwise f l k ≡ pairwise g m n) × (first_unlike f l k ≡ first_unlike g m n)
    same_pairs none none = (refl, refl)
    same_pairs none (more r h) = (refl, refl)
    same_pairs (more r h) none = (refl, refl)
    same_pairs (more r h) (more r' h') = let w = same_pairs h h' in (rw (same _ _ _ _ r r', w.0), rw (same _ _ _ _ r r', w.1))
