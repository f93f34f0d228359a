-- A sheet's own number: a sheet with number 0 is whole, and any other number comes before what follows.
use mathlib.Core.Path.{◌≡◌, refl}
use mathlib.Core.Bool.{Bool, true, false, cond, not}
use mathlib.Core.List.{List}
use Prim.Native.Nat.{ℕ, ◌+◌, ◌*◌, ◌≤◌}
use lib.Dec.{eqb, ltb}
use lib.ListN.{length}
use borrow.Author.Tests.{eqb-true, eq-eqb, ne_eqb, ltb-false, not-false}
use Rattle.machine.specs.Common.{refuse}
use Rattle.machine.specs.Sheet.{sheet_size, sheet_limit, sheet_number}
use Rattle.machine.proofs.Tools.{passed}
use Rattle.reader.specs.Whole.{Whole}

pub sheet_reads : (s : List ℕ) → sheet_number s 0 ≡ 0 → (2 ≤ length s) × Whole s (sheet_size s)
sheet_reads s q =
    let a = passed (ltb (length s) 2) 3 _ q in
    let b = passed (ltb sheet_limit (sheet_size s)) 1 _ a.1 in
    let d = passed (not (eqb (length s) (2 + 4 * sheet_size s))) 3 _ b.1 in
    (ltb-false _ _ a.0, (refl, ltb-false _ _ b.0, eqb-true _ _ (not-false _ d.0)))

chain : (a b d : Bool) (rest : ℕ) → refuse a 4 (refuse b 2 (refuse d 4 rest)) ≡ cond (eqb (refuse a 4 (refuse b 2 (refuse d 4 0))) 0) rest (refuse a 4 (refuse b 2 (refuse d 4 0)))
chain true b d rest = refl
chain false true d rest = refl
chain false false true rest = refl
chain false false false rest = refl

module _ (s : List ℕ) (rest : ℕ) where
  sheet_first : sheet_number s rest ≡ cond (eqb (sheet_number s 0) 0) rest (sheet_number s 0)
  sheet_first = chain (ltb (length s) 2) (ltb sheet_limit (sheet_size s)) (not (eqb (length s) (2 + 4 * sheet_size s))) rest

  pub sheet_passes : sheet_number s 0 ≡ 0 → sheet_number s rest ≡ rest
  sheet_passes q = rw (eq-eqb _ _ q) at sheet_first

  pub sheet_refuses : (sheet_number s 0 ≡ 0 → ⊥) → sheet_number s rest ≡ sheet_number s 0
  sheet_refuses q = rw (ne_eqb _ _ q) at sheet_first
