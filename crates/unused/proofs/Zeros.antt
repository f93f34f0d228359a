-- An array compared with zeros, and tests of every place taken together.
use mathlib.Core.Path.{◌≡◌, refl, sym, ◌∙◌, ap}
use mathlib.Core.Bool.{Bool, true, false, ◌&&◌, and-true}
use mathlib.Core.List.{List, [], ◌∷◌}
use Prim.Native.Nat.{ℕ, zero, suc, ◌<◌}
use native.Mathlib.Omega.{arith}
use lib.Dec.{eqb}
use lib.ListN.{length, get_or}
use lib.Pointwise.{pointwise}
use Rattle.std.specs.Array.{AllOfLen}
use Rattle.machine.specs.Common.{all_below}

both_swap : (a b c d : Bool) → (a && b) && (c && d) ≡ (a && c) && (b && d)
both_swap true true c d = refl
both_swap true false true d = refl
both_swap true false false d = refl
both_swap false b c d = refl

-- two tests of every place
pub all_both : (n : ℕ) (f g : ℕ → Bool) → all_below n (λ i. f i && g i) ≡ all_below n f && all_below n g
all_both zero f g = refl
all_both (suc n) f g = rw (all_both n f g) (both_swap (all_below n f) (all_below n g) (f n) (g n))

-- tests to the left
pub and_left : (a b c : Bool) → a && (b && c) ≡ (a && b) && c
and_left true b c = refl
and_left false b c = refl

-- five tests of every track, before what is left
pub five : (f g h j k : ℕ → Bool) (rest : Bool) →
    all_below 4 f && (all_below 4 g && (all_below 4 h && (all_below 4 j && (all_below 4 k && rest)))) ≡ all_below 4 (λ t. f t && g t && h t && j t && k t) && rest
five f g h j k rest = sym (
    ap (λ b. b && rest) (
    all_both 4 (λ t. f t && g t && h t && j t) k
    ∙ ap (λ b. b && all_below 4 k) (
    all_both 4 (λ t. f t && g t && h t) j
    ∙ ap (λ b. b && all_below 4 j) (all_both 4 (λ t. f t && g t) h ∙ ap (λ b. b && all_below 4 h) (all_both 4 f g))
    )
    )
    ∙ moved (all_below 4 f) (all_below 4 g) (all_below 4 h) (all_below 4 j) (all_below 4 k) rest
    )
  where
    moved : (a b c d e r : Bool) → ((((a && b) && c) && d) && e) && r ≡ a && (b && (c && (d && (e && r))))
    moved true true true true e r = refl
    moved true true true false e r = refl
    moved true true false d e r = refl
    moved true false c d e r = refl
    moved false b c d e r = refl

-- a test of every place, the first by itself
all_front : (n : ℕ) (f : ℕ → Bool) → all_below (suc n) f ≡ f 0 && all_below n (λ i. f (suc i))
all_front zero f = sym (and-true (f 0))
all_front (suc n) f = rw (all_front n f) (sym (and_left (f 0) (all_below n (λ i. f (suc i))) (f (suc n))))

against : (n : ℕ) (xs zs : List ℕ) → length xs ≡ n → length zs ≡ n → ((i : ℕ) → i < n → get_or zs i 0 ≡ 0) → pointwise eqb xs zs ≡ all_below n (λ i. eqb (get_or xs i 0) 0)
against zero [] [] k l h = refl
against (suc n) (x ∷ xs) (z ∷ zs) k l h =
    rw (h 0 (omega arith), against n xs zs (omega arith) (omega arith) (λ i b. h (suc i) (omega arith))) (sym (all_front n (λ i. eqb (get_or (x ∷ xs) i 0) 0)))
against zero [] (z ∷ zs) k l h = absurd (omega arith)
against zero (x ∷ xs) zs k l h = absurd (omega arith)
against (suc n) [] zs k l h = absurd (omega arith)
against (suc n) (x ∷ xs) [] k l h = absurd (omega arith)

pub against_zeros : (n : ℕ) (xs zs : List ℕ) → length xs ≡ n → AllOfLen (λ x. x ≡ 0) zs n → pointwise eqb xs zs ≡ all_below n (λ i. eqb (get_or xs i 0) 0)
against_zeros n xs zs k a = against n xs zs k a.long (λ i l. a.at i 0 l)
