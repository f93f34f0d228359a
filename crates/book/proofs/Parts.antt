-- A list and its parts, one after the other.
use mathlib.Core.Path.{◌≡◌, refl, sym, ap}
use mathlib.Core.List.{List, ◌∷◌}
use Prim.Native.Nat.{ℕ, zero, suc, ◌+◌, ◌*◌, ◌≤◌, ◌<◌}
use native.Mathlib.Omega.{arith}
use native.Mathlib.Nat.{mul-suc}
use lib.ListN.{length, take, drop, get_or}
use lib.Seq.{take-add, drop-drop, drop-cons}
use Rattle.machine.specs.Common.{tab, concat_below}
use Rattle.machine.proofs.Tools.{tab_same}

pub concat_same : (n : ℕ) (f g : ℕ → List ℕ) → ((i : ℕ) → i < n → f i ≡ g i) → concat_below n f ≡ concat_below n g
concat_same zero f g h = refl
concat_same (suc n) f g h = rw (h n (omega arith), concat_same n f g (λ i l. h i (omega arith)))

-- the parts of a list, one after the other
pub concat_parts : (w at n : ℕ) (l : List ℕ) → concat_below n (λ i. take w (drop (at + w * i) l)) ≡ take (w * n) (drop at l)
concat_parts w at zero l = let z : w * 0 ≡ 0 = omega arith in rw z
concat_parts w at (suc n) l =
    let m : w * suc n ≡ w * n + w = mul-suc w n in
    rw (concat_parts w at n l, ← drop-drop (w * n) at l, m) (sym (take-add (w * n) w (drop at l)))

-- a part of a list, byte by byte
pub part_bytes : (w k : ℕ) (l : List ℕ) → k + w ≤ length l → tab w (λ j. get_or l (k + j) 0) ≡ take w (drop k l)
part_bytes zero k l h = refl
part_bytes (suc w) k l h =
    let z : k + 0 ≡ k = omega arith in
    let q : k < length l = omega arith in
    rw (drop-cons l k 0 q, z, ← part_bytes w (suc k) l (omega arith))
    (ap {B = List ℕ} (λ r. get_or l k 0 ∷ r) (tab_same w (λ j. get_or l (k + suc j) 0) (λ j. get_or l (suc k + j) 0) (λ j b. let e : k + suc j ≡ suc k + j = omega arith in rw e)))
