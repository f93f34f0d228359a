-- One turn of the comparison: what is left of two shifts, from stretch k on, decides what the whole comes to.
use mathlib.Core.Path.{◌≡◌, refl}
use mathlib.Core.Bool.{true, false}
use mathlib.Core.List.{List, [], ◌∷◌}
use Prim.Native.Nat.{ℕ, suc, ◌+◌, ◌≤◌}
use native.Mathlib.Nat.{add-zero, zero-add}
use native.Mathlib.Omega.{arith}
use lib.ListN.{length}
use Rattle.std.specs.Prelude.{Some, None}
use Rattle.std.proofs.lemmas.List.Splits.{length-slice_split}
use Rattle.std.proofs.lemmas.List.Sums.{count_by-le-length}
use Rattle.machine.specs.Shift.{pairwise, first_unlike}
use Rattle.stretch.specs.Keys.{alike, is_zero}
use Rattle.agree.specs.Keyed.{stretches, compared}

module _ (a b : List ℕ) where
  -- x and y are what is left of the two from stretch k on
  pub record Decides (k : ℕ) (x y : List (List ℕ)) : Type 0 where
    pub agreed : pairwise alike x y ≡ pairwise alike (stretches a) (stretches b)
    pub stretch : k + first_unlike alike x y ≡ first_unlike alike (stretches a) (stretches b)
    pub few : k + length x ≤ length a + 1

  pub all_left : Decides 0 (stretches a) (stretches b)
  all_left = record { agreed = refl; stretch = zero-add _; few = omega (arith, length-slice_split is_zero a, count_by-le-length is_zero a) }

  module _ (k : ℕ) where
    fails : (x y : List (List ℕ)) → Decides k x y → pairwise alike x y ≡ false → first_unlike alike x y ≡ 0 → Some k ≡ compared a b
    unfolding compared
    fails x y d p q = rw (← d.agreed, p, ← d.stretch, q, add-zero k)

    pub alone_here : (s : List ℕ) (x : List (List ℕ)) → Decides k (s ∷ x) [] → Some k ≡ compared a b
    alone_here s x d = fails (s ∷ x) [] d refl refl

    pub alone_there : (t : List ℕ) (y : List (List ℕ)) → Decides k [] (t ∷ y) → Some k ≡ compared a b
    alone_there t y d = fails [] (t ∷ y) d refl refl

    pub end_together : Decides k [] [] → None ≡ compared a b
    unfolding compared
    end_together d = rw (← d.agreed)

    module _ (s t : List ℕ) (x y : List (List ℕ)) (d : Decides k (s ∷ x) (t ∷ y)) where
      pub differ : alike s t ≡ false → Some k ≡ compared a b
      differ z = fails (s ∷ x) (t ∷ y) d (rw z) (rw z)

      pub go_on : alike s t ≡ true → Decides (k + 1) x y
      go_on z = record {
        agreed = rw z at d.agreed;
        stretch = let e : k + suc (first_unlike alike x y) ≡ first_unlike alike (stretches a) (stretches b) = rw z at d.stretch in omega arith;
        few = let f : k + length (s ∷ x) ≤ length a + 1 = d.few in omega arith;
      }
