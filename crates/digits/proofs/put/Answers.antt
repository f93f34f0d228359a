use Rattle.std.proofs.Common.{rules}
use Rattle.digits.proofs.Laws.{stored}
use Rattle.digits.proofs.put.Goals as goal

pub overflow_sub-result : goal.overflow_sub-result
overflow_sub-result c =
    let a = c.args in
    (stored a.width a.n a.w a.t a.v c.at.result c.requires c.at.ensures.value).less

pub overflow_add-result : goal.overflow_add-result
overflow_add-result c =
    let a = c.args in
    let r = (stored a.width a.n a.w a.t a.v c.at.result c.requires c.at.ensures.value).room in
    search (r, rules)

pub returns : goal.returns
returns c =
    let a = c.args in
    (stored a.width a.n a.w a.t a.v c.at.result c.requires c.at.ensures.value).same
