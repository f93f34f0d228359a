-- Preview (document 02, T-03, T-04): what an event of sender k done on a copy would answer and draw. `lent` is what the output held.
use Rattle.std.specs.Prelude.{cond, List, ℕ, eqb}
use Rattle.machine.specs.Plant.{Plant}
use Rattle.machine.specs.Events.{Event, sent, number}
use Rattle.machine.specs.Step.{written, apply}
use Rattle.machine.specs.Panel.{view, draw_number}

-- the number: 15, 16, 14, those of a drawing, then the event's own
unfoldable pub preview_number : Plant → ℕ → Event → List ℕ → ℕ
preview_number p k e lent = cond (eqb (draw_number p k lent) 0) (number p (sent k e)) (draw_number p k lent)

-- the count: the event's or, refused, 0
unfoldable pub preview_written : Plant → ℕ → Event → List ℕ → ℕ
preview_written p k e lent = cond (eqb (preview_number p k e lent) 0) (written p e) 0

-- the bytes of the output after the call: what the sender sees of the plant after the event or, refused, what it held
unfoldable pub preview_panel : Plant → ℕ → Event → List ℕ → List ℕ
preview_panel p k e lent = cond (eqb (preview_number p k e lent) 0) (view k (apply p e)) lent
