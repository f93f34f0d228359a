use native.Mathlib.Omega.{arith}
use Rattle.std.proofs.lemmas.Grind.{common_steps}
use Rattle.machine.specs.Panel.{shows_white, signal}
use Rattle.signals.proofs.signal.Goals.{then-lights, else-lights, in-1, in_default}
use Rattle.signals.proofs.signal.Goals as goal

pub returns-then-old_sheet : goal.returns-then-old_sheet
unfolding signal shows_white
returns-then-old_sheet c = elim c.if-lights.branch [
  | then-lights w ↦ elim c.match-matches.branch [ in-1 m ↦ grind (arith, common_steps) | in_default m ↦ grind (arith, common_steps) ]
  | else-lights w ↦ grind (arith, common_steps)
]

pub returns : goal.returns
unfolding signal
returns c =
    simp (c.signal.ensures, ← c.old_sheet.ensures, c.if-old_sheet.false, c.requires.1)
