use Rattle.machine.specs.Sheet.{sheet_event}
use Rattle.reader.proofs.SheetReader.event_at.Goals as goal

pub returns : goal.returns
unfolding sheet_event
returns c = rw (← c.requires.0.0)
