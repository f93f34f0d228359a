-- The heads across, as the code reads them.
use mathlib.Core.Path.{◌≡◌, refl}
use Prim.Native.Nat.{ℕ, zero, suc}
use lib.ListN.{get_or}
use lib.IntN.{pos}
use mir.Syntax.{w16}
use mir.Val.{to_z, of_z}
use Rattle.machine.specs.BoardTable.{table_gradients}

pub head : (j : ℕ) → to_z w16 (of_z w16 (get_or table_gradients j (pos 0))) ≡ get_or table_gradients j (pos 0)
head zero = refl
head (suc zero) = refl
head (suc (suc zero)) = refl
head (suc (suc (suc zero))) = refl
head (suc (suc (suc (suc zero)))) = refl
head (suc (suc (suc (suc (suc zero))))) = refl
head (suc (suc (suc (suc (suc (suc zero)))))) = refl
head (suc (suc (suc (suc (suc (suc (suc j))))))) = refl
