use native.Mathlib.Omega.{arith}
use Prim.Native.Nat.{◌<◌, ◌*◌, ◌+◌, ◌^◌}
use borrow.Author.Rules.{rules}
use Rattle.digits.proofs.Laws.{bytes_more, eight_bytes}
use Rattle.digits.proofs.join.Goals as goal

pub overflow_mul-word : goal.overflow_mul-word
overflow_mul-word g c =
    let l = c.loop-i in
    let more : 0 + c.args.base * l.word < 256 ^ (l.i + 1) = bytes_more c.args.base l.i c.requires.0 l.invariant.1 (omega arith) in
    let most = eight_bytes c.loop-i-test.true c.requires.1 in
    search (more, most, rules)

pub overflow_add-word : goal.overflow_add-word
overflow_add-word g c =
    let l = c.loop-i in
    let byte : c.from.result < 256 = search rules in
    let more : c.from.result + c.args.base * l.word < 256 ^ (l.i + 1) = bytes_more c.args.base l.i c.requires.0 l.invariant.1 byte in
    let most = eight_bytes c.loop-i-test.true c.requires.1 in
    search (more, most, rules)
