use Rattle.std.proofs.Common.{rules}
use Rattle.machine.specs.Range.{track_in}
use Rattle.machine.proofs.Below.{all_range}
use Rattle.held.proofs.tracks_in.Goals as goal

pub returns : goal.returns
returns c = all_range 4 (track_in c.args.s c.args.c) (cc) c.all.ensures.ran (λ x b q k. search rules)
