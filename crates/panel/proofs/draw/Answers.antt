use mathlib.Core.Path.{sym, ◌∙◌}
use Rattle.machine.proofs.Ranges.{plant_reads}
use borrow.Author.Tests.{eq-eqb, ne_eqb}
use Rattle.machine.specs.Panel.{draw_number, drawn}
use Rattle.panel.proofs.draw.Goals as goal

pub returns-then-not-in_range : goal.returns-then-not-in_range
unfolding draw_number drawn
returns-then-not-in_range c =
    let ok = sym c.in_range.ensures ∙ c.if-not-in_range.true in
    record { number = rw ok; bytes = rw ok }

pub returns-then-not-known : goal.returns-then-not-known
unfolding draw_number drawn
returns-then-not-known c =
    let ok = sym c.in_range.ensures ∙ c.if-not-in_range.false in
    let who = sym c.known.ensures ∙ c.if-not-known.true in
    record { number = rw (ok, who); bytes = rw (ok, who) }

pub returns-then-out-from : goal.returns-then-out-from
unfolding draw_number drawn
returns-then-out-from c =
    let ok = sym c.in_range.ensures ∙ c.if-not-in_range.false in
    let who = sym c.known.ensures ∙ c.if-not-known.false in
    let size = rw c.from.ensures at (ne_eqb _ _ c.if-out-from.true) in
    record { number = rw (ok, who, size); bytes = rw (ok, who, size) }

pub show-requires : goal.show-requires
show-requires c =
    let ok = sym c.in_range.ensures ∙ c.if-not-in_range.false in
    ((plant_reads _ ok).count, rw c.from.ensures at c.if-out-from.false)

pub returns : goal.returns
unfolding draw_number drawn
returns c =
    let ok = sym c.in_range.ensures ∙ c.if-not-in_range.false in
    let who = sym c.known.ensures ∙ c.if-not-known.false in
    let size = rw c.from.ensures at (eq-eqb _ _ c.if-out-from.false) in
    record { number = rw (ok, who, size); bytes = c.show.ensures ∙ rw (ok, who, size) }
