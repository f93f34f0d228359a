use mathlib.Core.Path.{◌≡◌, refl, sym, ◌∙◌, ap}
use mathlib.Core.List.{List}
use Prim.Native.Nat.{ℕ, ◌+◌, ◌*◌}
use lib.ListN.{length, set}
use lib.Seq.{sets}
use Rattle.machine.specs.Common.{concat_below}
use Rattle.machine.specs.SiteBook.{book, first_part, second_part, setting}
use Rattle.machine.proofs.Tools.{length_concat, sets_append, sets_whole}
use Rattle.machine.proofs.Laws.{book_bytes}
use Rattle.book_write.proofs.put_book.Goals as goal

pub returns : goal.returns
unfolding book first_part second_part
returns c =
    let s = c.args.s in
    let f = concat_below s.n (λ j. first_part (setting s j)) in
    let g = concat_below s.n (λ j. second_part (setting s j)) in
    let o = set c.args.out.now 0 s.n in
    let size : length f ≡ 3 * s.n = length_concat 3 (λ j. first_part (setting s j)) (λ j. refl) s.n in
    c.put_seconds.ensures
    ∙ ap {B = List ℕ} (λ l. sets l (1 + 3 * s.n) g) c.put_firsts.ensures
    ∙ ap {B = List ℕ} (λ k. sets (sets o 1 f) (1 + k) g) (sym size)
    ∙ sets_append f g o 1
    ∙ sets_whole (book s) c.args.out.now (c.requires.1 ∙ sym (book_bytes s))
