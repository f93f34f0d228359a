use mathlib.Core.Path.{◌≡◌, sym, ◌∙◌}
use Prim.Native.Nat.{◌*◌, ◌<◌}
use native.Mathlib.Nat.{zero-add}
use native.Mathlib.Omega.{arith}
use lib.ListN.{length}
use borrow.Author.Rules.{rules}
use borrow.Rule.Slice.PartMut.{same_len_mid}
use Rattle.machine.specs.Panel.{view}
use Rattle.machine.proofs.Tools.{next_row, sets_whole}
use Rattle.plant.proofs.Laws.{eight_crossings, crossing_read}
use Rattle.panel.proofs.Rows.{row_at, row_length, view_length, put_whole}
use Rattle.panel.proofs.show.Goals as goal

pub loop-i-preserved : goal.loop-i-preserved
loop-i-preserved c =
    let p = c.args.p in
    let k = c.args.sender in
    let l = c.loop-i in
    let w = l.invariant in
    let r = c.copy_from_slice in
    let eight = eight_crossings p _ c.well_formed.0 in
    let few : l.i < length p.crossings = omega (arith, c.requires) in
    let size : length c.seen-row.result ≡ 16 = search rules in
    let put = put_whole l.out c.seen-row.result (16 * l.i) 16 size (omega (arith, c.requires)) in (
      next_row 16 (row_at k p) (row_length k p) c.args.out.now 0 l.i w.0 (rw r.ensures.after (put ∙ rw (c.seen-row.ensures, c.row.ensures, crossing_read p.crossings l.i few, zero-add))),
      same_len_mid _ _ l.out _ r.ensures.len ∙ w.1,
    )

pub returns : goal.returns
unfolding view
returns c =
    let p = c.args.p in
    let k = c.args.sender in
    let l = c.loop-i in
    let end : l.i ≡ p.site.n = omega arith in
    l.invariant.0 ∙ rw end (sets_whole (view k p) c.args.out.now (c.requires.1 ∙ sym (view_length k p)))
