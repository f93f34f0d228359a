-- A tick leaves a record past the last crossing as it is, with nothing written off.
use mathlib.Core.Path.{◌≡◌, refl}
use mathlib.Core.List.{List, [], ◌∷◌}
use Prim.Native.Nat.{ℕ, zero, suc}
use mir.Val.{Val}
use denote.Array.{each}
use denote.Shadow.{shadow}
use denote.Struct.Declared.{row}
use borrow.Author.Rules.{rules}
use Rattle.machine.specs.contracts.Crossing.{the_type}
use lib.ListN.{get_or}
use Rattle.machine.specs.declared.Entry.{Entry}
use Rattle.machine.specs.declared.Crossing.{Crossing}
use Rattle.machine.specs.Common.{bit}
use Rattle.machine.specs.declared.Site.{Site}
use Rattle.machine.specs.Plant.{total, no_entry, no_crossing}
use Rattle.machine.specs.Effects.{tick, releases}
use Rattle.machine.specs.Settling.{settle}
use Rattle.machine.proofs.Ranges.{NoCrossing}
use Rattle.machine.proofs.Stays.{zero_settles, zero_releases}
use Rattle.tick.proofs.Still.{Tracks, still_ticks}

pub each_tracks : (l : List Crossing) (us : List Val) (i : ℕ) → shadow (each Crossing (row the_type).own_val l us) → Tracks (get_or l i no_crossing)
each_tracks [] us i p = record { calling = refl; waiting = refl; unsure = refl }
each_tracks (x ∷ l) [] i p = absurd p
each_tracks (x ∷ l) (u ∷ us) zero p = record { calling = search (p.0, rules); waiting = search (p.0, rules); unsure = search (p.0, rules) }
each_tracks (x ∷ l) (u ∷ us) (suc i) p = each_tracks l us i p.1

module _ (s : Entry) (c : Crossing) (h : NoCrossing c) (none : s.kind ≡ 0) where
  pub past_stays : Tracks c → settle s 1 (tick s c) ≡ c
  past_stays z = rw (still_ticks s c h.countdown h.timer h.left (zero_releases s none c h) z) (zero_settles s none c h)

  pub past_written : bit (releases s c) (total c) ≡ 0
  past_written = rw (zero_releases s none c h)

-- what a tick makes of place i, and what it writes off there
abbrev pub next_at : Site → List Crossing → ℕ → Crossing
next_at site l i = settle (get_or site.entries i no_entry) 1 (tick (get_or site.entries i no_entry) (get_or l i no_crossing))

abbrev pub written_off : Site → List Crossing → ℕ → ℕ
written_off site l i = bit (releases (get_or site.entries i no_entry) (get_or l i no_crossing)) (total (get_or l i no_crossing))
