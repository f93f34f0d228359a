use Rattle.std.proofs.Common.{◌≡◌, ℕ, List, sym, ◌∙◌, ap}
use Rattle.machine.specs.declared.Reading.{Reading}
use Rattle.machine.specs.SiteBook.{read_number, write_number, written_book}
use Rattle.machine.proofs.Laws.{reading_number}
use Rattle.refusal.proofs.Numbers.{never_0, passed_on}
use Rattle.book.proofs.Copied.{copies, copy_refused}
use Rattle.book.proofs.copy.Goals as goal

pub returns : goal.returns
returns c =
    let b = c.args.b.now in
    let o = c.args.out.now in
    let e = c.in_ok-plant.ensures in
    let q : read_number b ≡ 0 = sym (ap {B = ℕ} (λ r. r.number) e ∙ reading_number b) in
    let w = c.write.ensures in
    let p = copies b (λ k. (c.type_inv.b k).fits) q o in
    record {
      number = w.number ∙ ap {B = ℕ} (λ (r : Reading). write_number r.plant.site o) e ∙ p.0;
      bytes = w.bytes ∙ ap {B = List ℕ} (λ (r : Reading). written_book r.plant.site o) e ∙ p.1;
    }

pub returns-in_err-plant : goal.returns-in_err-plant
returns-in_err-plant c =
    let b = c.args.b.now in
    let r = c.in_err-plant.field-0.0 in
    let e = ap {B = ℕ} (λ r. r.number) c.in_err-plant.ensures ∙ reading_number b in
    let p = copy_refused b c.args.out.now (λ z. never_0 r (e ∙ z)) in
    record { number = passed_on _ r c.from_residual.ensures.1 ∙ e ∙ p.0; bytes = p.1 }
