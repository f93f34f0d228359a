-- A crossing in range has room for an event that is taken there.
use mathlib.Core.Path.{◌≡◌}
use mathlib.Core.Bool.{Bool, false, cond}
use Prim.Native.Nat.{ℕ, ◌≤◌, ◌<◌}
use native.Mathlib.Omega.{arith}
use lib.Dec.{eqb, lit≤}
use borrow.Author.Tests.{eqb-true}
use Rattle.machine.specs.declared.Entry.{Entry}
use Rattle.machine.specs.declared.Crossing.{Crossing}
use Rattle.machine.specs.declared.Event.{Event}
use Rattle.machine.specs.Plant.{full, trains}
use Rattle.machine.specs.Events.{is, on_track, place_limit}
use Rattle.machine.proofs.Tools.{by_test, by_cond}
use Rattle.machine.proofs.Entries.{EntryIn, at_most_four, at_most_seven}
use Rattle.machine.proofs.Ranges.{CrossingIn}
use Rattle.machine.proofs.Taken.{Accepted}
use Rattle.form.specs.Plain.{byte_limit}
use Rattle.train.specs.Room.{Room, Takes}

-- a crossing has at most four tracks and booms, and seven lamps
limit_fits : (s : Entry) (code : ℕ) → s.tracks ≤ 4 → place_limit s code ≤ cond (eqb code 9) 7 4
unfolding place_limit
limit_fits s code four = by_test (eqb code 9)
    (λ q. rw (eqb-true code 9 q) (at_most_seven s.kind))
    (λ q. rw q
    (by_cond (λ x. x ≤ 4) (on_track code) (λ _. four) (λ _.
    by_cond (λ x. x ≤ 4) (eqb code 8) (λ _. at_most_four s.kind) (λ _. lit≤ tt))))

pub taken_room : (n : ℕ) (s : Entry) (c : Crossing) (e : Event) → EntryIn s → CrossingIn s c → Accepted n s c e → Room c e
unfolding place_limit
taken_room n s c e g h a =
    let four = g.tracks in
    let l = limit_fits s e.code four in
    let p = a.place in
    record {
      place = omega (arith, p, l);
      most = by_cond (λ x. x ≤ full) (on_track e.code)
          (λ o. let t : e.place < s.tracks = rw o at p in
          (h.track e.place (omega arith)).few)
          (λ _. lit≤ tt);
      least = by_cond (λ x. x ≤ trains c e.place) (is 2 e) (λ i. let r = a.there i in omega arith) (λ _. omega arith);
    }

-- the places of the plant's crossing are bytes, as the value is
pub bytes_take : {c : Crossing} {e : Event} → Room c e → e.value < 256 → Takes byte_limit c e
bytes_take {c} {e} r l = record { room = r; value = byte (eqb e.code 5) (byte (eqb e.code 6) (byte (eqb e.code 8) (byte (eqb e.code 9) l))) }
  where
    byte : (b : Bool) {m : ℕ} → e.value < m → e.value < cond b 256 m
    byte b {m} k = by_cond (λ n. e.value < n) b (λ _. l) (λ _. k)
