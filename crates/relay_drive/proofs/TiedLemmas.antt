-- What each call of a port tells of an end is what its entries say of it.
use Rattle.std.proofs.Common.{◌≡◌, ℕ, ◌+◌, Bool, true, false, ◌&&◌, ◌||◌, ◌==◌, List, [], ◌∷◌, ◌++◌, length, if◌then◌else◌, refl, sym, ◌∙◌}
use Rattle.std.proofs.Common.{ap, subst, arith, append-nil, zero-add, take, Option, count_by, eqb-true, eq-eqb}
use Rattle.std.specs.Prelude.{sum_by}
use Rattle.std.specs.List.{list_all}
use Rattle.std.proofs.Math.Bool.{or-false}
use Rattle.std.proofs.lemmas.Bool.{and_parts}
use Rattle.std.proofs.lemmas.List.Sums.{sum_by-append, sum_by-cons}
use Rattle.ev_types.specs.declared.side.Side.{Side}
use Rattle.ev_types.specs.declared.side.Side.TheVariants.{In, Out}
use Rattle.ev_types.specs.declared.side.SideId.{SideId}
use Rattle.ev_types.specs.declared.answer.ConnAnswer.{ConnAnswer}
use Rattle.ev_types.specs.declared.answer.ConnAnswer.TheVariants as conn
use Rattle.ev_types.specs.declared.answer.ReadAnswer.{ReadAnswer}
use Rattle.ev_types.specs.declared.answer.ReadAnswer.TheVariants as read
use Rattle.ev_types.specs.declared.answer.WriteAnswer.{WriteAnswer}
use Rattle.ev_types.specs.declared.answer.WriteAnswer.TheVariants as write
use Rattle.ev_types.specs.declared.entry.Entry.TheVariants as entry
use Rattle.ev_types.specs.Sides.{same_side, same_end}
use Rattle.ev_types.specs.Trace.{Event, Trace}
use Rattle.relay_model.specs.Trace.{bytes_read, bytes_given, has_ended, is_write_closed}
use Rattle.relay_model.specs.Totals.{is_read_of, is_write_of, is_check_of, room_by, offered_by, wants_read_by, wants_write_by}
use Rattle.relay_model.specs.Totals.{marks_read_by, marks_write_by, comes_connected, is_made_connected, is_connected, is_closed}
use Rattle.relay_model.specs.Tied.{EndTied}
use Rattle.ev_types.specs.Told.{EndTold}
use Rattle.ev_port.specs.EndSteps.{EndStep, no_step, EndWent, EndsWent, AllWent}
use Rattle.ev_port.specs.declared.port.Accepted.{Accepted}
use Rattle.ev_port.specs.declared.port.Accepted.TheVariants as accepted
use Rattle.ev_port.specs.declared.port.Want.{Want}
use Rattle.ev_port.specs.declared.port.Polled.{Polled}
use Rattle.ev_port.specs.declared.port.Polled.TheVariants as polled
use Rattle.ev_port.specs.Polling.{want_events, ready_events, poll_events, poll_step}
use Rattle.ev_port.specs.Calls.{accept_events, accept_step}
use Rattle.ev_port.specs.Ends.{conn_step, conn_events, read_step, read_events, write_step, write_events, close_write_step}
use Rattle.ev_port.specs.Ends.{close_write_events, close_step, close_events}
use Rattle.relay_drive.proofs.EndNames.{same_end-true, same_end-false}

-- what entries say of an end, as one step
abbrev pub step_of : SideId → Trace → EndStep
step_of e u = record {
  got = bytes_read e u;
  took = bytes_given e u;
  made_connected = is_made_connected e u;
  ended = has_ended e u;
  connected = is_connected e u;
  write_ended = is_write_closed e u;
  closed = is_closed e u;
  reads = count_by (is_read_of e) u;
  writes = count_by (is_write_of e) u;
  checks = count_by (is_check_of e) u;
  room = sum_by (room_by e) u;
  offer = sum_by (offered_by e) u;
  read_wants = count_by (wants_read_by e) u;
  write_wants = count_by (wants_write_by e) u;
  read_marks = count_by (marks_read_by e) u;
  write_marks = count_by (marks_write_by e) u;
}

-- an end that went as entries say is tied to them
pub tied_of : (e : SideId) (old new : EndTold) (u : Trace) → EndWent old new (step_of e u) → EndTied old new e u
tied_of e old new u w = record {
  handed_out = w.handed_out;
  taken = w.taken;
  made_connected = w.made_connected;
  ended = w.ended;
  connected = w.connected;
  write_ended = w.write_ended;
  closed = w.closed;
  reads = w.reads;
  writes = w.writes;
  checks = w.checks;
  rooms = w.rooms;
  offers = w.offers;
  read_wants = w.read_wants;
  write_wants = w.write_wants;
  read_marks = w.read_marks;
  write_marks = w.write_marks;
}

-- one end went so
pub one_end : (old new : SideId → EndTold) (end : SideId) (step : EndStep) (u : Trace) →
    ((e : SideId) → step_of e u ≡ (if same_end end e then step else no_step)) → EndsWent old new end step →
    AllWent old new (λ e. step_of e u)
one_end old new end step u is h = λ e. subst (λ z. EndWent (old e) (new e) z) (sym (is e)) (go e (same_end end e) refl)
  where
    go : (e : SideId) (b : Bool) → same_end end e ≡ b → EndWent (old e) (new e) (if b then step else no_step)
    go e true k = subst (λ z. EndWent (old z) (new z) step) (sym (same_end-true end e k)) h.own
    go e false k = h.others e (same_end-false end e k)

-- each end went so
pub all_ends : (old new : SideId → EndTold) (step : SideId → EndStep) (u : Trace) → ((e : SideId) → step_of e u ≡ step e) →
    AllWent old new step → AllWent old new (λ e. step_of e u)
all_ends old new step u is h = λ e. subst (λ z. EndWent (old e) (new e) z) (sym (is e)) (h e)

-- a step in which so much is said of one end alone
abbrev chosen : Bool → EndStep → EndStep
chosen b step = if b then step else no_step

pub read_says : (end e : SideId) (into : List ℕ) (answer : ReadAnswer) →
    step_of e (read_events end into answer) ≡ (if same_end end e then read_step answer into else no_step)
read_says end e into answer = go answer (same_end end e) refl
  where
    go : (answer : ReadAnswer) (b : Bool) → same_end end e ≡ b → step_of e (read_events end into answer) ≡ chosen b (read_step answer into)
    go (read.Got n) true h = rw (h, append-nil, zero-add (length into))
    go read.Ended true h = rw (h, zero-add (length into))
    go read.NotYet true h = rw (h, zero-add (length into))
    go read.Failed true h = rw (h, zero-add (length into))
    go (read.Got n) false h = rw h
    go read.Ended false h = rw h
    go read.NotYet false h = rw h
    go read.Failed false h = rw h

pub write_says : (end e : SideId) (from : List ℕ) (answer : WriteAnswer) →
    step_of e (write_events end from answer) ≡ (if same_end end e then write_step answer from else no_step)
write_says end e from answer = go answer (same_end end e) refl
  where
    go : (answer : WriteAnswer) (b : Bool) → same_end end e ≡ b →
        step_of e (write_events end from answer) ≡ chosen b (write_step answer from)
    go (write.Took n) true h = rw (h, append-nil (take n from), zero-add (length from))
    go write.NotYet true h = rw (h, zero-add (length from))
    go write.Failed true h = rw (h, zero-add (length from))
    go write.NoMemory true h = refl
    go (write.Took n) false h = rw h
    go write.NotYet false h = rw h
    go write.Failed false h = rw h
    go write.NoMemory false h = refl

pub conn_says : (end e : SideId) (answer : ConnAnswer) →
    step_of e (conn_events end answer) ≡ (if same_end end e then conn_step answer else no_step)
conn_says end e answer = go answer (same_end end e) refl
  where
    go : (answer : ConnAnswer) (b : Bool) → same_end end e ≡ b → step_of e (conn_events end answer) ≡ chosen b (conn_step answer)
    go conn.Connected true h = rw h
    go conn.Pending true h = rw h
    go conn.Failed true h = rw h
    go conn.Connected false h = rw h
    go conn.Pending false h = rw h
    go conn.Failed false h = rw h

pub close_write_says : (end e : SideId) → step_of e (close_write_events end) ≡ (if same_end end e then close_write_step else no_step)
close_write_says end e = go (same_end end e) refl
  where
    go : (b : Bool) → same_end end e ≡ b → step_of e (close_write_events end) ≡ chosen b close_write_step
    go true h = rw h
    go false h = rw h

pub close_says : (end e : SideId) → step_of e (close_events end) ≡ (if same_end end e then close_step else no_step)
close_says end e = go (same_end end e) refl
  where
    go : (b : Bool) → same_end end e ≡ b → step_of e (close_events end) ≡ chosen b close_step
    go true h = rw h
    go false h = rw h

-- Accepting

eqb_sym : (m n : ℕ) → (m == n) ≡ (n == m)
eqb_sym m n = go (m == n) (n == m) refl refl
  where
    go : (a b : Bool) → (m == n) ≡ a → (n == m) ≡ b → a ≡ b
    go true true p q = refl
    go false false p q = refl
    go true false p q = let e = eq-eqb n m (sym (eqb-true m n p)) in sym e ∙ q
    go false true p q = let e = eq-eqb m n (sym (eqb-true n m q)) in sym p ∙ e

-- the ends of a link, by its number and their sides
made_is : (link : ℕ) (connected : Bool) (number : ℕ) (side : Side) →
    (link == number && comes_connected side connected)
    ≡ ((number == link && same_side side In) || ((number == link && same_side side Out) && connected))
made_is link connected number In = in_case (link == number) (number == link) (eqb_sym link number)
  where
    in_case : (a b : Bool) → a ≡ b → (a && true) ≡ ((b && true) || ((b && false) && connected))
    in_case true true h = refl
    in_case false false h = refl
    in_case true false h = absurd (cc)
    in_case false true h = absurd (cc)
made_is link connected number Out = out_case (link == number) (number == link) (eqb_sym link number)
  where
    out_case : (a b : Bool) → a ≡ b → (a && connected) ≡ ((b && false) || ((b && true) && connected))
    out_case true true h = refl
    out_case false false h = refl
    out_case true false h = absurd (cc)
    out_case false true h = absurd (cc)

pub accept_says : (link : ℕ) (answer : Accepted) (e : SideId) → step_of e (accept_events link answer) ≡ accept_step link answer e
accept_says link (accepted.Link connected) e = rw (made_is link connected e.link e.side, or-false)
accept_says link accepted.NotYet e = refl
accept_says link accepted.Failed e = refl
accept_says link accepted.NoMemory e = refl

-- Polling

abbrev pub is_named : Event → Bool
is_named (entry.Poll timeout, bytes) = true
is_named (entry.Want side r w, bytes) = true
is_named (entry.Ready side r w, bytes) = true
is_named (entry.PollFailed, bytes) = true
is_named _ = false

abbrev mark_events : Bool → Bool → SideId → Trace
mark_events r w side = if r then (entry.Ready side true w, []) ∷ [] else (if w then (entry.Ready side false true, []) ∷ [] else [])

-- the entries of a poll behind the first
abbrev pub rest_of : List Want → Polled → Trace
rest_of ws (polled.Ready accept) = want_events ws ++ ready_events ws
rest_of ws polled.Failed = want_events ws ++ (entry.PollFailed, []) ∷ []

-- what is so of a poll's entries, each by itself

all_append : (p : Event → Bool) (t u : Trace) → list_all p t ≡ true → list_all p u ≡ true → list_all p (t ++ u) ≡ true
all_append p [] u h k = k
all_append p (x ∷ t) u h k =
    let parts = and_parts (p x) (list_all p t) h in
    let one = parts.0 in
    let rest = all_append p t u parts.1 k in
    rw (one, rest)

module _ (p : Event → Bool) (want : (side : SideId) (r w : Bool) → p (entry.Want side r w, []) ≡ true)
    (ready : (side : SideId) (r w : Bool) → p (entry.Ready side r w, []) ≡ true) (failed : p (entry.PollFailed, []) ≡ true) where
  all_wants : (ws : List Want) → list_all p (want_events ws) ≡ true
  all_wants [] = refl
  all_wants (w ∷ ws) =
      let one = want w.side w.read w.write in
      let rest = all_wants ws in
      rw (one, rest)

  all_marks : (ws : List Want) → list_all p (ready_events ws) ≡ true
  all_marks [] = refl
  all_marks (w ∷ ws) = all_append p (mark_events w.can_read w.can_write w.side) (ready_events ws) (one w.can_read w.can_write)
      (all_marks ws)
    where
      one : (r c : Bool) → list_all p (mark_events r c w.side) ≡ true
      one true c = ap (λ b. b && true) (ready w.side true c)
      one false true = ap (λ b. b && true) (ready w.side false true)
      one false false = refl

  -- of all behind the first
  pub poll_rest : (ws : List Want) (answer : Polled) → list_all p (rest_of ws answer) ≡ true
  poll_rest ws (polled.Ready accept) = all_append p (want_events ws) (ready_events ws) (all_wants ws) (all_marks ws)
  poll_rest ws polled.Failed = all_append p (want_events ws) ((entry.PollFailed, []) ∷ []) (all_wants ws) (ap (λ b. b && true) failed)

pub poll_all : (p : Event → Bool) → ((timeout : Option ℕ) → p (entry.Poll timeout, []) ≡ true) →
    ((side : SideId) (r w : Bool) → p (entry.Want side r w, []) ≡ true) →
    ((side : SideId) (r w : Bool) → p (entry.Ready side r w, []) ≡ true) → p (entry.PollFailed, []) ≡ true →
    (timeout : Option ℕ) (ws : List Want) (answer : Polled) → list_all p (poll_events timeout ws answer) ≡ true
poll_all p poll want ready failed timeout ws (polled.Ready accept) = let one = poll timeout in
    let rest = poll_rest p want ready failed ws (polled.Ready accept) in rw (one, rest)
poll_all p poll want ready failed timeout ws polled.Failed = let one = poll timeout in
    let rest = poll_rest p want ready failed ws polled.Failed in rw (one, rest)

-- what the entries of a poll say of an end, but for what is wanted and marked: nothing
record SaysNo (e : SideId) (u : Trace) : Type 0 where
  got : bytes_read e u ≡ []
  took : bytes_given e u ≡ []
  made_connected : is_made_connected e u ≡ false
  ended : has_ended e u ≡ false
  connected : is_connected e u ≡ false
  write_ended : is_write_closed e u ≡ false
  closed : is_closed e u ≡ false
  reads : count_by (is_read_of e) u ≡ 0
  writes : count_by (is_write_of e) u ≡ 0
  checks : count_by (is_check_of e) u ≡ 0
  room : sum_by (room_by e) u ≡ 0
  offer : sum_by (offered_by e) u ≡ 0

says_cons : (e : SideId) (x : Event) (u : Trace) → is_named x ≡ true → SaysNo e u → SaysNo e (x ∷ u)
says_cons e (entry.Poll timeout, b) u h c = record {
  got = c.got;
  took = c.took;
  made_connected = c.made_connected;
  ended = c.ended;
  connected = c.connected;
  write_ended = c.write_ended;
  closed = c.closed;
  reads = c.reads;
  writes = c.writes;
  checks = c.checks;
  room = c.room;
  offer = c.offer;
}
says_cons e (entry.Want side r w, b) u h c = record {
  got = c.got;
  took = c.took;
  made_connected = c.made_connected;
  ended = c.ended;
  connected = c.connected;
  write_ended = c.write_ended;
  closed = c.closed;
  reads = c.reads;
  writes = c.writes;
  checks = c.checks;
  room = c.room;
  offer = c.offer;
}
says_cons e (entry.Ready side r w, b) u h c = record {
  got = c.got;
  took = c.took;
  made_connected = c.made_connected;
  ended = c.ended;
  connected = c.connected;
  write_ended = c.write_ended;
  closed = c.closed;
  reads = c.reads;
  writes = c.writes;
  checks = c.checks;
  room = c.room;
  offer = c.offer;
}
says_cons e (entry.PollFailed, b) u h c = record {
  got = c.got;
  took = c.took;
  made_connected = c.made_connected;
  ended = c.ended;
  connected = c.connected;
  write_ended = c.write_ended;
  closed = c.closed;
  reads = c.reads;
  writes = c.writes;
  checks = c.checks;
  room = c.room;
  offer = c.offer;
}
says_cons e _ u h c = absurd (cc)

says_none : (e : SideId) (u : Trace) → list_all is_named u ≡ true → SaysNo e u
says_none e [] h = record {
  got = refl;
  took = refl;
  made_connected = refl;
  ended = refl;
  connected = refl;
  write_ended = refl;
  closed = refl;
  reads = refl;
  writes = refl;
  checks = refl;
  room = refl;
  offer = refl;
}
says_none e (x ∷ u) h =
    let parts = and_parts (is_named x) (list_all is_named u) h in
    says_cons e x u parts.0 (says_none e u parts.1)

-- what a poll named and marked is counted by its entries

once_more : (f : Event → Bool) (x : Event) (u : Trace) → count_by f (x ∷ u) ≡ (if f x then 1 else 0) + count_by f u
once_more f x u = sum_by-cons (λ y. if f y then 1 else 0) x u

want_more : (f : Want → Bool) (w : Want) (ws : List Want) → count_by f (w ∷ ws) ≡ (if f w then 1 else 0) + count_by f ws
want_more f w ws = sum_by-cons (λ y. if f y then 1 else 0) w ws

two_parts : (f : Event → Bool) (t u : Trace) → count_by f (t ++ u) ≡ count_by f t + count_by f u
two_parts f t u = sum_by-append (λ y. if f y then 1 else 0) t u

read_wants_are : (e : SideId) (ws : List Want) →
    count_by (wants_read_by e) (want_events ws) ≡ count_by (λ w. same_end w.side e && w.read) ws
read_wants_are e [] = refl
read_wants_are e (w ∷ ws) =
    once_more (wants_read_by e) (entry.Want w.side w.read w.write, []) (want_events ws)
    ∙ ap (λ n. (if same_end w.side e && w.read then 1 else 0) + n) (read_wants_are e ws)
    ∙ sym (want_more (λ w. same_end w.side e && w.read) w ws)

write_wants_are : (e : SideId) (ws : List Want) →
    count_by (wants_write_by e) (want_events ws) ≡ count_by (λ w. same_end w.side e && w.write) ws
write_wants_are e [] = refl
write_wants_are e (w ∷ ws) =
    once_more (wants_write_by e) (entry.Want w.side w.read w.write, []) (want_events ws)
    ∙ ap (λ n. (if same_end w.side e && w.write then 1 else 0) + n) (write_wants_are e ws)
    ∙ sym (want_more (λ w. same_end w.side e && w.write) w ws)

-- wants mark nothing, and marks want nothing
wants_mark : (e : SideId) (ws : List Want) → (count_by (marks_read_by e) (want_events ws) ≡ 0) ×
    (count_by (marks_write_by e) (want_events ws) ≡ 0)
wants_mark e [] = (refl, refl)
wants_mark e (w ∷ ws) = wants_mark e ws

one_mark : (e side : SideId) (r w : Bool) →
    (count_by (marks_read_by e) (mark_events r w side) ≡ (if same_end side e && r then 1 else 0)) ×
    (count_by (marks_write_by e) (mark_events r w side) ≡ (if same_end side e && w then 1 else 0))
    × (count_by (wants_read_by e) (mark_events r w side) ≡ 0) × (count_by (wants_write_by e) (mark_events r w side) ≡ 0)
one_mark e side r w = go (same_end side e) refl r w
  where
    go : (b : Bool) → same_end side e ≡ b → (r w : Bool) →
        (count_by (marks_read_by e) (mark_events r w side) ≡ (if same_end side e && r then 1 else 0)) ×
        (count_by (marks_write_by e) (mark_events r w side) ≡ (if same_end side e && w then 1 else 0))
        × (count_by (wants_read_by e) (mark_events r w side) ≡ 0) × (count_by (wants_write_by e) (mark_events r w side) ≡ 0)
    go true h true true = rw h (refl, refl, refl, refl)
    go true h true false = rw h (refl, refl, refl, refl)
    go true h false true = rw h (refl, refl, refl, refl)
    go true h false false = rw h (refl, refl, refl, refl)
    go false h true true = rw h (refl, refl, refl, refl)
    go false h true false = rw h (refl, refl, refl, refl)
    go false h false true = rw h (refl, refl, refl, refl)
    go false h false false = rw h (refl, refl, refl, refl)

pub record Marked (e : SideId) (ws : List Want) : Type 0 where
  pub read : count_by (marks_read_by e) (ready_events ws) ≡ count_by (λ w. same_end w.side e && w.can_read) ws
  pub write : count_by (marks_write_by e) (ready_events ws) ≡ count_by (λ w. same_end w.side e && w.can_write) ws
  pub want_read : count_by (wants_read_by e) (ready_events ws) ≡ 0
  pub want_write : count_by (wants_write_by e) (ready_events ws) ≡ 0

marks_are : (e : SideId) (ws : List Want) → Marked e ws
marks_are e [] = record { read = refl; write = refl; want_read = refl; want_write = refl }
marks_are e (w ∷ ws) =
    let one = one_mark e w.side w.can_read w.can_write in
    let rest = marks_are e ws in
    let first = mark_events w.can_read w.can_write w.side in
    record {
      read = two_parts (marks_read_by e) first (ready_events ws) ∙ (λ i. one.0 i + rest.read i)
          ∙ sym (want_more (λ w. same_end w.side e && w.can_read) w ws);
      write = two_parts (marks_write_by e) first (ready_events ws) ∙ (λ i. one.1 i + rest.write i)
          ∙ sym (want_more (λ w. same_end w.side e && w.can_write) w ws);
      want_read = (let p = two_parts (wants_read_by e) first (ready_events ws) in let a = one.2 in let b = rest.want_read in
          omega (arith, p, a, b));
      want_write = (let p = two_parts (wants_write_by e) first (ready_events ws) in let a = one.3 in let b = rest.want_write in
          omega (arith, p, a, b));
    }

count_none : (ws : List Want) → count_by (λ (w : Want). false) ws ≡ 0
count_none [] = refl
count_none (w ∷ ws) = count_none ws

pub poll_says : (e : SideId) (timeout : Option ℕ) (ws : List Want) (answer : Polled) →
    step_of e (poll_events timeout ws answer) ≡ poll_step ws answer e
poll_says e timeout ws (polled.Ready accept) =
    let u = poll_events timeout ws (polled.Ready accept) in
    let s = says_none e u (poll_all is_named (λ t. refl) (λ a b c. refl) (λ a b c. refl) refl timeout ws (polled.Ready accept)) in
    let m = marks_are e ws in
    let none = wants_mark e ws in
    let wanted_read : count_by (wants_read_by e) u ≡ count_by (λ (w : Want). same_end w.side e && w.read) ws =
    (let p = two_parts (wants_read_by e) (want_events ws) (ready_events ws) in let a = read_wants_are e ws in
    let b = m.want_read in omega (arith, p, a, b)) in
    let wanted_write : count_by (wants_write_by e) u ≡ count_by (λ (w : Want). same_end w.side e && w.write) ws =
    (let p = two_parts (wants_write_by e) (want_events ws) (ready_events ws) in let a = write_wants_are e ws in
    let b = m.want_write in omega (arith, p, a, b)) in
    let marked_read : count_by (marks_read_by e) u ≡ count_by (λ (w : Want). same_end w.side e && w.can_read) ws =
    (let p = two_parts (marks_read_by e) (want_events ws) (ready_events ws) in let a = none.0 in let b = m.read in
    omega (arith, p, a, b)) in
    let marked_write : count_by (marks_write_by e) u ≡ count_by (λ (w : Want). same_end w.side e && w.can_write) ws =
    (let p = two_parts (marks_write_by e) (want_events ws) (ready_events ws) in let a = none.1 in let b = m.write in
    omega (arith, p, a, b)) in
    λ i. record {
      got = s.got i;
      took = s.took i;
      made_connected = s.made_connected i;
      ended = s.ended i;
      connected = s.connected i;
      write_ended = s.write_ended i;
      closed = s.closed i;
      reads = s.reads i;
      writes = s.writes i;
      checks = s.checks i;
      room = s.room i;
      offer = s.offer i;
      read_wants = wanted_read i;
      write_wants = wanted_write i;
      read_marks = marked_read i;
      write_marks = marked_write i;
    }
poll_says e timeout ws polled.Failed =
    let u = poll_events timeout ws polled.Failed in
    let last : Trace = (entry.PollFailed, []) ∷ [] in
    let s = says_none e u (poll_all is_named (λ t. refl) (λ a b c. refl) (λ a b c. refl) refl timeout ws polled.Failed) in
    let none = wants_mark e ws in
    let unmarked = count_none ws in
    let wanted_read : count_by (wants_read_by e) u ≡ count_by (λ (w : Want). same_end w.side e && w.read) ws =
    (let p = two_parts (wants_read_by e) (want_events ws) last in let a = read_wants_are e ws in omega (arith, p, a)) in
    let wanted_write : count_by (wants_write_by e) u ≡ count_by (λ (w : Want). same_end w.side e && w.write) ws =
    (let p = two_parts (wants_write_by e) (want_events ws) last in let a = write_wants_are e ws in omega (arith, p, a)) in
    let marked_read : count_by (marks_read_by e) u ≡ count_by (λ (w : Want). false) ws =
    (let p = two_parts (marks_read_by e) (want_events ws) last in let a = none.0 in omega (arith, p, a, unmarked)) in
    let marked_write : count_by (marks_write_by e) u ≡ count_by (λ (w : Want). false) ws =
    (let p = two_parts (marks_write_by e) (want_events ws) last in let a = none.1 in omega (arith, p, a, unmarked)) in
    λ i. record {
      got = s.got i;
      took = s.took i;
      made_connected = s.made_connected i;
      ended = s.ended i;
      connected = s.connected i;
      write_ended = s.write_ended i;
      closed = s.closed i;
      reads = s.reads i;
      writes = s.writes i;
      checks = s.checks i;
      room = s.room i;
      offer = s.offer i;
      read_wants = wanted_read i;
      write_wants = wanted_write i;
      read_marks = marked_read i;
      write_marks = marked_write i;
    }
