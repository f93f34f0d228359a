-- The ledger of a crossing: what the rules of document 01, amended by T-01, T-06 and T-09, make of its taken events, worked out from the list and not
-- read from the plant.
use Rattle.std.specs.Prelude.{Bool, true, false, cond, not, ◌&&◌, ◌||◌, List, [], ◌∷◌, ◌++◌, ℕ, ◌+◌, pred, eqb, ltb, leb}
use Rattle.machine.specs.declared.Entry.{Entry}
use Rattle.machine.specs.declared.Plant.{Plant}
use Rattle.machine.specs.declared.Event.{Event}
use Rattle.machine.specs.Events.{Command}
use Rattle.machine.specs.Step.{step}
use Rattle.demand.specs.Words.{bit, sum4, some_track, is, is_to, is_at, depends, no_booms, under_1959, up, all_up}

-- The taken events ---------------------------------------------------------------------------------------------------------------
-- taken: answered with number 0, whoever sent it (T-04)
unfoldable pub taken : Plant → Command → Bool
taken p x = eqb (step p x).number 0

-- an event of crossing i; a tick is of the whole plant
abbrev pub is_of : ℕ → Event → Bool
is_of i e = is 0 e || eqb e.crossing i

-- what a command adds to the log of crossing i: its event; a refused one counts nowhere
unfoldable pub note : Plant → ℕ → Command → List Event
note p i x = cond (taken p x && is_of i x.event) (x.event ∷ []) []

-- the log of crossing i: its taken events, the newest first, each answered by the plant that the last one returned
unfoldable pub log : Plant → ℕ → List Command → List Event
log p i [] = []
log p i (x ∷ xs) = log (step p x).plant i xs ++ note p i x

-- the events of a code in a log
unfoldable pub count : ℕ → List Event → ℕ
count code [] = 0
count code (e ∷ h) = bit (is code e) 1 + count code h

-- taken ticks
abbrev pub ticks : List Event → ℕ
ticks h = count 0 h

-- strike-ins taken
abbrev pub strike_ins : List Event → ℕ
strike_ins h = count 1 h

-- passages taken
abbrev pub passages : List Event → ℕ
passages h = count 2 h

-- The trains of one track ----------------------------------------------------------------------------------------------------------
-- calling and waiting
pub record Queue : Type 0 where
  pub calling : ℕ
  pub waiting : ℕ

-- no train
abbrev pub empty : Queue
empty = record { calling = 0; waiting = 0 }

-- strike-in: calling + 1 where it calls, otherwise waiting + 1
unfoldable pub joined : Bool → Queue → Queue
joined calls q = cond calls (record { calling = q.calling + 1; waiting = q.waiting }) (record { calling = q.calling; waiting = q.waiting + 1 })

-- passage: calling - 1, or waiting - 1 where calling is 0
unfoldable pub gone : Queue → Queue
gone q = cond (eqb q.calling 0) (record { calling = 0; waiting = pred q.waiting }) (record { calling = pred q.calling; waiting = q.waiting })

-- setting a route moves all waiting to calling
unfoldable pub moved : Queue → Queue
moved q = record { calling = q.calling + q.waiting; waiting = 0 }

-- The stage of a crossing ---------------------------------------------------------------------------------------------------------
-- open, with the ticks left to motorists (T-06); in warning, or with the right booms of four ordered down, with the ticks to come; with all
-- ordered down; or raising
pub data Stage : Type 0 where
  free : ℕ → Stage
  warns : ℕ → Stage
  lowers : ℕ → Stage
  shut : Stage
  rises : Stage

-- a tick lowers what is left or to come: F ticks of warning, with four booms G more
unfoldable pub ticked : Entry → Stage → Stage
ticked s (free n) = free (pred n)
ticked s (warns n) = cond (eqb n 1) (cond (eqb s.kind 4) (lowers s.gap) shut) (warns (pred n))
ticked s (lowers n) = cond (eqb n 1) shut (lowers (pred n))
ticked s shut = shut
ticked s rises = rises

-- no reason keeps it closed: raising, but lights only are open at once, with M ticks left (T-06)
abbrev pub lifted : Entry → Stage
lifted s = cond (no_booms s.kind) (free s.pause) rises

-- it settles, where a reason stands or not and every boom is last reported up or not: no warning begins while ticks are left, raising that ends
-- leaves M of them, and a warning given up none (T-06)
unfoldable pub settled : Entry → Bool → Bool → Stage → Stage
settled s stands up (free n) = cond (stands && eqb n 0) (warns s.pre) (free n)
settled s stands up (warns n) = cond stands (warns n) (free 0)
settled s stands up (lowers n) = cond stands (lowers n) (lifted s)
settled s stands up shut = cond stands shut (lifted s)
settled s stands up rises = cond up (cond (stands && eqb s.pause 0) (warns s.pre) (free s.pause)) rises

-- the road is open
abbrev pub is_free : Stage → Bool
is_free (free n) = true
is_free (warns n) = false
is_free (lowers n) = false
is_free shut = false
is_free rises = false

-- the ticks left to motorists (T-06)
abbrev pub ticks_left : Stage → ℕ
ticks_left (free n) = n
ticks_left (warns n) = 0
ticks_left (lowers n) = 0
ticks_left shut = 0
ticks_left rises = 0

-- What a crossing is known to hold -----------------------------------------------------------------------------------------------
-- the queue of each track; 1 where a track is unsure (T-01); the value of the last event that set a route, reported an approach, a boom or a
-- lamp, or put a hold on or off; the release countdown; the trains written off; the stage; the ticks since normal position was left (T-09)
pub record State : Type 0 where
  pub queue : ℕ → Queue
  pub unsure : ℕ → ℕ
  pub route : ℕ → ℕ
  pub occupied : ℕ → ℕ
  pub boom : ℕ → ℕ
  pub lamp : ℕ → ℕ
  pub kiosk : ℕ
  pub operator : ℕ
  pub countdown : ℕ
  pub written : ℕ
  pub stage : Stage
  pub out : ℕ

-- before any event: no trains, routes, occupation or holds, no track unsure, every boom up, every lamp whole, the road open with no ticks left
abbrev pub start : State
start = record {
  queue = λ t. empty;
  unsure = λ t. 0;
  route = λ t. 0;
  occupied = λ t. 0;
  boom = λ b. up;
  lamp = λ l. 1;
  kiosk = 0;
  operator = 0;
  countdown = 0;
  written = 0;
  stage = free 0;
  out = 0;
}

-- the trains of all tracks
abbrev pub trains : State → ℕ
trains k = sum4 (λ t. (k.queue t).calling + (k.queue t).waiting)

-- some track is unsure (T-01)
abbrev pub some_unsure : State → Bool
some_unsure k = some_track (λ t. eqb (k.unsure t) 1)

-- a hold is on
abbrev pub held : State → Bool
held k = eqb k.kiosk 1 || eqb k.operator 1

-- a reason stands: some track is calling or a hold is on, or some track is unsure (T-01)
unfoldable pub stands : State → Bool
stands k = held k || some_track (λ t. ltb 0 (k.queue t).calling) || some_unsure k

-- One more event -------------------------------------------------------------------------------------------------------------------
-- the 1959 sheet's own release (T-09): at least 1,079 ticks out of normal, no hold on, every approach free
abbrev pub too_long : Entry → State → Bool
too_long s k = under_1959 s.kind && leb 1079 k.out && not (held k || some_track (λ t. eqb (k.occupied t) 1))

-- what a tick must find for a release to complete: that, or a running countdown at its last tick
abbrev pub due : Entry → State → Bool
due s k = too_long s k || eqb k.countdown 1

-- a release completes
abbrev pub completes : Entry → Event → State → Bool
completes s e k = is 0 e && due s k

-- a swept strike-in (T-01): its track has 255 trains already
abbrev pub swept : Event → State → Bool
swept e k = is 1 e && leb 255 ((k.queue e.place).calling + (k.queue e.place).waiting)

-- a completed release clears a track; a swept strike-in leaves the counts (T-01); a strike-in calls on a plain track or with the route set
unfoldable pub queue_next : Entry → Event → State → ℕ → Queue
queue_next s e k t =
    cond (completes s e k) empty
    (cond (swept e k) (k.queue t)
    (cond (is_at 1 t e) (joined (not (depends s t) || eqb (k.route t) 1) (k.queue t))
    (cond (is_at 2 t e) (gone (k.queue t))
    (cond (is_at 5 t e && eqb e.value 1) (moved (k.queue t))
    (k.queue t)))))

-- a completed release leaves no track unsure; a swept strike-in makes its own so (T-01)
unfoldable pub unsure_next : Entry → Event → State → ℕ → ℕ
unsure_next s e k t = cond (completes s e k) 0 (cond (swept e k && eqb e.place t) 1 (k.unsure t))

-- a completed release leaves no countdown (T-09); a tick lowers it, a time release sets it to 270; a strike-in, a hold on, a route set or an
-- approach occupied make it 0
unfoldable pub countdown_next : Entry → Event → State → ℕ
countdown_next s e k =
    cond (completes s e k) 0
    (cond (is 0 e) (pred k.countdown)
    (cond (is 7 e) 270
    (cond (is 1 e || is_to 3 1 e || is_to 4 1 e || is_to 5 1 e || is_to 6 1 e) 0
    k.countdown)))

-- what an event does before the crossing settles: a hold, a route or a report is what the last event of its code says; the trains that a completed
-- release clears are written off, and so is that of a swept strike-in (T-01)
unfoldable pub worked : Entry → Event → State → State
worked s e k = record {
  queue = queue_next s e k;
  unsure = unsure_next s e k;
  route = λ t. cond (is_at 5 t e) e.value (k.route t);
  occupied = λ t. cond (is_at 6 t e) e.value (k.occupied t);
  boom = λ b. cond (is_at 8 b e) e.value (k.boom b);
  lamp = λ l. cond (is_at 9 l e) e.value (k.lamp l);
  kiosk = cond (is 3 e) e.value k.kiosk;
  operator = cond (is 4 e) e.value k.operator;
  countdown = countdown_next s e k;
  written = k.written + bit (completes s e k) (trains k) + bit (swept e k) 1;
  stage = cond (is 0 e) (ticked s k.stage) k.stage;
  out = k.out;
}

-- then the crossing settles; in normal position no ticks out of it are counted, otherwise those of the event, 1 or 0, are added (T-09)
unfoldable pub rested : Entry → ℕ → State → State
rested s add k =
    let raised = all_up s.kind k.boom in
    let next = settled s (stands k) raised k.stage in
    record {
      queue = k.queue;
      unsure = k.unsure;
      route = k.route;
      occupied = k.occupied;
      boom = k.boom;
      lamp = k.lamp;
      kiosk = k.kiosk;
      operator = k.operator;
      countdown = k.countdown;
      written = k.written;
      stage = next;
      out = cond (is_free next && raised) 0 (k.out + add);
    }

-- over a log, event by event
unfoldable pub state : Entry → List Event → State
state s [] = start
state s (e ∷ h) = rested s (bit (is 0 e) 1) (worked s e (state s h))
