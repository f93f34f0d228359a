-- Demand 3, one claim about every list of commands from the fresh plant of a book, whose kinds are any of the six: the train account, the passage
-- rule, in three with T-09, the opening tick; with T-01 the unsure track; with T-06 the time for motorists and closing in time. A command (T-04)
-- is an event of any sender, or of a sheet and so of none; a list may mix them.
use Rattle.std.specs.Prelude.{◌≡◌, Bool, true, false, ◌&&◌, List, ◌++◌, map, ℕ, ◌+◌, ◌*◌, ◌%◌, ◌≤◌, ◌<◌, eqb, get_or}
use Rattle.machine.specs.declared.Entry.{Entry}
use Rattle.machine.specs.declared.Crossing.{Crossing}
use Rattle.machine.specs.declared.Plant.{Plant}
use Rattle.machine.specs.declared.Event.{Event}
use Rattle.machine.specs.Plant.{entry, crossing}
use Rattle.machine.specs.Events.{From, sheet, sender, Command, listed}
use Rattle.machine.specs.Step.{step, after, carried}
use Rattle.machine.specs.Panel.{panel}
use Rattle.machine.specs.SiteBook.{read}
use Rattle.demand.specs.Words.{bit, sum4, sum_over, no_booms, all_up, all_closed}
use Rattle.demand.specs.Ledger.{taken, log, ticks, strike_ins, passages, ticks_left, State, some_unsure, stands, state}

-- p is the plant before the list es, and i a crossing of it ------------------------------------------------------------------------
-- what is known of crossing i after the list
abbrev pub known : Plant → ℕ → List Command → State
known p i es = state (entry p i) (log p i es)

-- a reason stands there
abbrev pub stands_after : Plant → ℕ → List Command → Bool
stands_after p i es = stands (known p i es)

-- every boom there is last reported up
abbrev pub up_after : Plant → ℕ → List Command → Bool
up_after p i es = all_up (entry p i).kind (known p i es).boom

-- the ticks left to motorists there (T-06)
abbrev pub left_after : Plant → ℕ → List Command → ℕ
left_after p i es = ticks_left (known p i es).stage

-- some number of last commands hold k taken ticks or more, and a test holds before the first of them and after each
pub record Throughout (test : List Command → Bool) (p : Plant) (i k : ℕ) (es : List Command) : Type 0 where
  pub older : List Command
  pub latest : List Command
  pub split : es ≡ older ++ latest
  pub enough : k ≤ ticks (log (after p older) i latest)
  pub stood : (a b : List Command) → latest ≡ a ++ b → test (older ++ a) ≡ true

-- unbroken for at least k ticks: a reason stands throughout
abbrev pub Unbroken : Plant → ℕ → ℕ → List Command → Type 0
Unbroken p i = Throughout (stands_after p i) p i

-- a reason stands and all booms are last reported up, both throughout (T-06)
abbrev pub Ready : Plant → ℕ → ℕ → List Command → Type 0
Ready p i = Throughout (λ es. stands_after p i es && up_after p i es) p i

-- F ticks, F + G with four booms
abbrev pub needed : Entry → ℕ
needed s = s.pre + bit (eqb s.kind 4) s.gap

-- M + F + G ticks, which are enough from a fresh plant (T-06)
abbrev pub soonest : Entry → ℕ
soonest s = s.pause + s.pre + s.gap

-- M + F + G + 1 ticks, as the request has it (T-06)
abbrev pub enough_ticks : Entry → ℕ
enough_ticks s = soonest s + 1

-- byte k of crossing i in the panel of a plant
abbrev pub shown : Plant → ℕ → ℕ → ℕ
shown p i k = get_or (panel p) (16 * i + k) 0

-- calling and waiting of a crossing, over all tracks
abbrev pub there : Crossing → ℕ
there c = sum4 (λ t. get_or c.calling t 0 + get_or c.waiting t 0)

-- who may send a tick (T-04): a sheet, and of the senders detection, number 0
abbrev pub may_tick : From → Bool
may_tick sheet = true
may_tick (sender k) = eqb k 0

-- the further tick
abbrev pub a_tick : From → Command
a_tick from = record { from = from; event = record { code = 0; crossing = 0; place = 0; value = 0 } }

-- The parts ------------------------------------------------------------------------------------------------------------------------
-- train account: strike-ins taken = passages taken + trains written off + calling and waiting of the plant after the list
abbrev pub Account : Plant → List Command → ℕ → Type 0
Account p es i =
    let h = log p i es in
    strike_ins h ≡ passages h + (known p i es).written + there (crossing (after p es) i)

-- the last report of a lamp is that it is whole
abbrev pub WholeAfter : Plant → ℕ → List Command → ℕ → Type 0
WholeAfter p i es l = (known p i es).lamp l ≡ 1

-- what a train may rely on: a reason unbroken for long enough, the last reports of the booms as the kind demands, with kind 6 those of their lamps
-- too (T-09), and the road's red whole
pub record Closed (p : Plant) (es : List Command) (i : ℕ) : Type 0 where
  pub unbroken : Unbroken p i (needed (entry p i)) es
  pub booms : all_closed (entry p i).kind (known p i es).boom ≡ true
  pub boom_lamps : (entry p i).kind ≡ 6 → WholeAfter p i es 5 × WholeAfter p i es 6
  pub red : WholeAfter p i es 1

-- passage rule: passable (byte 6 is 2), at every kind but 5, only then
abbrev pub Passable : Plant → List Command → ℕ → Type 0
Passable p es i = ((entry p i).kind ≡ 5 → ⊥) → shown (after p es) i 6 ≡ 2 → Closed p es i

-- released (a bit of byte 8 is set), at every kind, only then
abbrev pub Released : Plant → List Command → ℕ → Type 0
Released p es i = 0 < shown (after p es) i 8 → Closed p es i

-- the white of kind 5 (T-09): a reason stands and the road's red is whole; no ticks are asked
abbrev pub White : Plant → List Command → ℕ → Type 0
White p es i = (entry p i).kind ≡ 5 → shown (after p es) i 6 ≡ 2 → (stands_after p i es ≡ true) × WholeAfter p i es 1

-- no boom is ordered down (bytes 4 and 5); with all booms last reported up, one further tick leaves normal position (the normal bit of byte 9)
pub record Opens (p : Plant) (es : List Command) (i : ℕ) : Type 0 where
  pub right : shown (after p es) i 4 ≡ 0
  pub left : shown (after p es) i 5 ≡ 0
  pub normal : up_after p i es ≡ true → (from : From) → may_tick from ≡ true → shown (step (after p es) (a_tick from)).plant i 9 % 2 ≡ 1

-- opening tick: that holds where no reason stands
abbrev pub Opening : Plant → List Command → ℕ → Type 0
Opening p es i = stands_after p i es ≡ false → Opens p es i

-- unsure track (T-01): a crossing that has one shows the normal bit only while ticks are left to motorists (T-06)
abbrev pub Unsure : Plant → List Command → ℕ → Type 0
Unsure p es i = some_unsure (known p i es) ≡ true → shown (after p es) i 9 % 2 ≡ 1 → 0 < left_after p i es

-- no warning has begun (byte 10 is 0), no train signal shows passable and no main signal is released
pub record Pauses (p : Plant) (es : List Command) (i : ℕ) : Type 0 where
  pub phase : shown (after p es) i 10 ≡ 0
  pub signal : shown (after p es) i 6 ≡ 2 → ⊥
  pub released : shown (after p es) i 8 ≡ 0

-- time for motorists (T-06): that holds while ticks are left to them
abbrev pub Motorists : Plant → List Command → ℕ → Type 0
Motorists p es i = 0 < left_after p i es → Pauses p es i

-- all booms are ordered down: byte 10 is 3 for every kind, byte 4 is 1 for kinds with booms, byte 5 too for kind 4
pub record Ordered (p : Plant) (es : List Command) (i : ℕ) : Type 0 where
  pub phase : shown (after p es) i 10 ≡ 3
  pub right : no_booms (entry p i).kind ≡ false → shown (after p es) i 4 ≡ 1
  pub left : eqb (entry p i).kind 4 ≡ true → shown (after p es) i 5 ≡ 1

-- closing in time (T-06): that holds after k taken ticks throughout which a reason stands and all booms are last reported up
abbrev pub Closing : ℕ → Plant → List Command → ℕ → Type 0
Closing k p es i = Ready p i k es → Ordered p es i

-- the parts, per crossing
pub record Kept (p : Plant) (es : List Command) (i : ℕ) : Type 0 where
  pub account : Account p es i
  pub passable : Passable p es i
  pub white : White p es i
  pub released : Released p es i
  pub opening : Opening p es i
  pub unsure : Unsure p es i
  pub motorists : Motorists p es i
  pub closing : Closing (enough_ticks (entry p i)) p es i

-- The claim ------------------------------------------------------------------------------------------------------------------------
-- at each crossing the parts; over all crossings the trains written off add up to what the answers carry; and a further tick is taken
pub record Demand3 (p : Plant) (es : List Command) : Type 0 where
  pub each : (i : ℕ) → i < p.site.n → Kept p es i
  pub sum : sum_over p.site.n (λ i. (known p i es).written) ≡ carried p es
  pub tick : (from : From) → may_tick from ≡ true → taken (after p es) (a_tick from) ≡ true

-- for every book read with number 0 and every list of commands, each of any sender or of a sheet, and of any four numbers
unfoldable pub Demand : Type 0
Demand = (book : List ℕ) (es : List Command) → (read book).number ≡ 0 → Demand3 (read book).plant es

-- its case without senders: every list of events, as a sheet has them
unfoldable pub UnsentDemand : Type 0
UnsentDemand = (book : List ℕ) (es : List Event) → (read book).number ≡ 0 → Demand3 (read book).plant (map listed es)

-- beside the claim: already M + F + G ticks are enough (T-06)
unfoldable pub ClosesSooner : Type 0
ClosesSooner = (book : List ℕ) (es : List Command) → (read book).number ≡ 0 → (i : ℕ) → i < (read book).plant.site.n → Closing (soonest (entry (read book).plant i)) (read book).plant es i
