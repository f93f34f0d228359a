use mathlib.Core.Path.{refl}
use Rattle.machine.specs.Panel.{lit_at}
use Rattle.rhythm.proofs.Rows.{by_rhythm, by_beat, as_asked}
use Rattle.rhythm.proofs.row_of.Goals as goal

-- the table theorem: each row of the code's table equals document 01's rule at its rhythm and beat, computed: a line for a rhythm, a `refl` for
-- a row
pub each_row : goal.returns
unfolding lit_at
each_row c =
    let rhythm = c.args.rhythm in
    let beat = c.args.beat in
    simp c.place.ensures
    (rw (← as_asked rhythm beat)
    (by_rhythm rhythm
    (λ e. by_beat beat (λ f. rw (e, f) refl) (λ f. rw (e, f) refl) (λ f. rw (e, f) refl) (λ f. rw (e, f) refl))
    (λ e. by_beat beat (λ f. rw (e, f) refl) (λ f. rw (e, f) refl) (λ f. rw (e, f) refl) (λ f. rw (e, f) refl))
    (λ e. by_beat beat (λ f. rw (e, f) refl) (λ f. rw (e, f) refl) (λ f. rw (e, f) refl) (λ f. rw (e, f) refl))))

pub returns : goal.returns
returns = each_row
