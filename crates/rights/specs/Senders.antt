-- The number of each sender, and what a byte decodes to (document 02, T-04).
use Rattle.std.specs.Prelude.{◌≡◌, ℕ, false, Result, MatchResult}
use Rattle.machine.specs.Rights.{known_sender}
use Rattle.machine.specs.Senders.{detection, kiosk, local_operator, remote_centre}
use Rattle.refusal.specs.declared.Refusal.{Refusal}
use Rattle.refusal.specs.declared.Refusal.TheVariants.{UnknownSender}
use Rattle.rights.specs.declared.Sender.{Sender}
use Rattle.rights.specs.declared.Sender.TheVariants.{Detection, Kiosk, LocalOperator, RemoteCentre}

-- the number of each sender
abbrev pub sender_number : Sender → ℕ
sender_number Detection = detection
sender_number Kiosk = kiosk
sender_number LocalOperator = local_operator
sender_number RemoteCentre = remote_centre

-- the sender of this number; what is no number of a sender is refused
abbrev pub Decodes : ℕ → Result Sender Refusal → Type 0
Decodes number r = MatchResult r (λ sender. sender_number sender ≡ number) (λ e. (e ≡ UnknownSender) × (known_sender number ≡ false))
