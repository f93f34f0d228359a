use Rattle.rhythm.proofs.Signals.{one_rhythm}
use Rattle.signals.specs.Shown.{shown_of}
use Rattle.signals.proofs.lit.Goals as goal

pub returns : goal.returns
unfolding shown_of
returns c =
    simp (c.flags.ensures, c.lit-4.ensures, c.lit-3.ensures, c.lit-2.ensures, c.old_sheet.ensures, c.lit.ensures, c.lit_steady-steady.ensures, c.lit_now-on.ensures, c.requires.0, c.requires.1, one_rhythm)
