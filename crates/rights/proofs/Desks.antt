-- Senders who are neither detection nor the kiosk see what a desk sees (document 02, T-04).
use Rattle.std.proofs.Common.{◌≡◌, ℕ, false, arith}
use Rattle.std.specs.Prelude.{eqb, ◌||◌, ◌<◌}
use borrow.Author.Tests.{leb-false, ne_eqb}
use Rattle.machine.specs.Rights.{known_sender}
use Rattle.machine.specs.Senders.{detection, kiosk}

-- an unknown sender is one of them
pub unknown_at_desk : (number : ℕ) → known_sender number ≡ false → (eqb number detection || eqb number kiosk) ≡ false
unknown_at_desk number q =
    let l : 3 < number = leb-false number 3 q in
    rw (ne_eqb number 0 (λ z. omega arith), ne_eqb number 1 (λ z. omega arith))
