-- A list copied over a part of an output, as its bytes stored one after the other.
use Rattle.std.proofs.Common.{◌≡◌, take, drop, append_assoc, ℕ, ◌+◌, ◌≤◌, List, length, refl, sym, ◌∙◌, arith}
use Rattle.std.proofs.lemmas.List.Edits.{sets, sets-eq, paste_all}
use Rattle.std.proofs.lemmas.Slice.{put_mid-paste}
use borrow.Rule.Slice.PartMut.{put_mid}

pub stored : (at k : ℕ) (xs ys zs : List ℕ) → ys ≡ zs → k ≡ length zs → at + k ≤ length xs → put_mid at k xs ys ≡ sets xs at zs
stored at k xs ys zs e h le =
    let m : at + length zs ≤ length xs = omega arith in
    put_mid-paste at k xs ys zs k e refl h ∙ paste_all xs at zs k h ∙ rw (h, ← append_assoc (take at xs) zs (drop (at + length zs) xs)) (sym (sets-eq zs xs at m))
