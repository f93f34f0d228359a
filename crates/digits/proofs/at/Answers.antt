use Rattle.std.proofs.Common.{◌^◌, sym}
use Rattle.digits.proofs.Laws.{digit_at, shift, one_shifted}
use Rattle.digits.proofs.at.Goals as goal

pub returns-clause-value : goal.returns-clause-value
returns-clause-value c =
    let a = c.args in
    rw (one_shifted a.width c.requires.0, shift a.width a.t)
    (sym (digit_at (2 ^ a.width) a.w a.t))
