use mathlib.Core.Path.{◌≡◌, refl}
use mathlib.Core.Bool.{Bool, true, false, cond}
use native.Mathlib.Nat.{add-zero}
use mir.Val.{bool_byte}
use Rattle.machine.specs.Panel.{row, bell, right_down, left_down, released, releases_shown, status, holds}
use Rattle.signals.specs.Shown.{shown_of}
use Rattle.panel_row.proofs.row.Goals as goal

-- a test as a number
as_bit : (b : Bool) → bool_byte b ≡ cond b 1 0
as_bit true = refl
as_bit false = refl

pub returns : goal.returns
unfolding row bell right_down left_down released releases_shown status holds shown_of
returns c = simp (c.to_le_bytes-2.ensures, c.to_le_bytes.ensures, c.flags-2.ensures, c.flags.ensures, c.released.ensures, c.from-3.ensures, c.four_booms.ensures, c.from-2.ensures, c.from.ensures, c.down.ensures, c.sum-2.ensures, c.sum.ensures, c.lit-lit.ensures, c.all-shown.ensures, c.is_secured-secured.ensures, c.is_normal-normal.ensures, c.lights_only-has_booms.ensures, add-zero, as_bit)
