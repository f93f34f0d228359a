use Prim.Native.Nat.{◌+◌, ◌*◌}
use native.Mathlib.Omega.{arith}
use Rattle.machine.specs.Board.{full_tens}
use Rattle.setting_out.specs.SettingOut.{top, bottom}
use Rattle.board.proofs.Laws.{ceiling, same_tens}
use Rattle.board.proofs.metres.Goals as goal

pub returns : goal.returns
unfolding full_tens top bottom
returns c =
    let v = c.from-v.result in
    let q = c.args.q in
    rw (c.div_ceil.ensures, ceiling (625000 * (v * v) + 135 * (v * q)) (1620 * q) (omega (arith, c.requires)), c.from-v.ensures) (same_tens (omega arith) (omega arith))
