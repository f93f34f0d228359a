-- A row, stored whole, and the rows of a plant.
use mathlib.Core.Path.{◌≡◌, refl, sym, ◌∙◌}
use mathlib.Core.List.{List, append_assoc}
use Prim.Native.Nat.{ℕ, ◌+◌, ◌-◌, ◌*◌, ◌≤◌}
use native.Mathlib.Omega.{arith}
use lib.ListN.{length, take, drop}
use lib.Seq.{sets, sets-eq}
use borrow.Rule.Slice.PartMut.{put_mid, Post-is}
use Rattle.machine.specs.declared.Plant.{Plant}
use Rattle.machine.specs.Plant.{entry, crossing}
use Rattle.machine.specs.Rights.{sees}
use Rattle.machine.specs.Panel.{row, panel, seen, view}
use Rattle.machine.proofs.Tools.{length_concat}

-- a list of n, copied over those from a place on
pub put_whole : (d s : List ℕ) (at n : ℕ) → length s ≡ n → at + n ≤ length d → put_mid at (at + n - at) d s ≡ sets d at s
put_whole d s at n e h = rw (← e, Post-is at (at + length s) d (omega arith)) (sym (append_assoc (take at d) s (drop (at + length s) d)) ∙ sym (sets-eq s d at (omega arith)))

-- the rows of a plant as a sender sees them
abbrev pub row_at : ℕ → Plant → ℕ → List ℕ
row_at k p i = seen k (row p.beat (entry p i) (crossing p i))

pub row_length : (k : ℕ) (p : Plant) (i : ℕ) → length (row_at k p i) ≡ 16
row_length k p i = refl

pub view_length : (k : ℕ) (p : Plant) → length (view k p) ≡ 16 * p.site.n
unfolding view
view_length k p = length_concat 16 (row_at k p) (row_length k p) p.site.n

-- detection sees the whole panel
pub view_whole : (p : Plant) → view 0 p ≡ panel p
unfolding view panel sees row
view_whole p = refl
