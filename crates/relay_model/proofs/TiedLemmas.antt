-- What an end tells over two traces in a row.
use Rattle.std.proofs.Common.{◌≡◌, ℕ, ◌+◌, ◌-◌, ◌^◌, ◌<◌, Bool, true, false, ◌||◌, List, [], ◌∷◌, ◌++◌, Option, Some, None, refl, sym, ◌∙◌}
use Rattle.std.proofs.Common.{ap, subst, append_assoc, arith, cond, count_by}
use Rattle.std.specs.Prelude.{⊤, MatchOption, ◌&&◌, nat_lt, if◌then◌else◌, max, min, unwrap_or}
use Rattle.std.proofs.lemmas.List.{append-nil}
use Rattle.std.proofs.lemmas.Grind.{flat_map-append}
use Rattle.std.proofs.lemmas.List.Folds.{list_any-append}
use Rattle.std.proofs.lemmas.List.Sums.{sum_by-append, sum_by-cons}
use Rattle.std.specs.List.{flat_map, list_any, sum_by, last_or}
use Rattle.ev_types.specs.declared.side.SideId.{SideId}
use Rattle.ev_types.specs.Trace.{Event, Trace}
use Rattle.relay_model.specs.Trace.{read_by, given_by, ended_by, write_closed_by}
use Rattle.relay_model.specs.Totals.{is_read_of, is_write_of, is_check_of, room_by, offered_by, wants_read_by, wants_write_by}
use Rattle.relay_model.specs.Totals.{marks_read_by, marks_write_by, made_connected_by, connected_by, closed_by, last_timeout}
use Rattle.relay_model.specs.Totals.{polls_that_accept, opened, is_opened, is_poll}
use Rattle.ev_types.specs.Times.{latest}
use Rattle.ev_types.specs.Told.{Adds, Raises, Counts, Stays, EndTold}
use Rattle.relay_model.specs.Tied.{TellsReading, LastFollows, EndTied, EndTiesJoin, NothingIsTied}

pub Adds-append : (p q r : Option (List ℕ)) (xs ys : List ℕ) → Adds p q xs → Adds q r ys → Adds p r (xs ++ ys)
Adds-append None q r xs ys h k = tt
Adds-append (Some before) q r xs ys h k = subst (λ z. Adds z r ys) h k ∙ ap (λ z. Some z) (append_assoc before xs ys)

or_assoc : (a b c : Bool) → ((a || b) || c) ≡ (a || (b || c))
or_assoc true b c = refl
or_assoc false b c = refl

pub Raises-or : (p q r : Option Bool) (a b : Bool) → Raises p q a → Raises q r b → Raises p r (a || b)
Raises-or None q r a b h k = tt
Raises-or (Some before) q r a b h k = subst (λ z. Raises z r b) h k ∙ ap (λ z. Some z) (or_assoc before a b)

pub Counts-plus : (p q r : Option ℕ) (m n : ℕ) → Counts p q m → Counts q r n → Counts p r (m + n)
Counts-plus None q r m n h k = tt
Counts-plus (Some before) q r m n h k = λ fits.
    let first = h (omega (arith, fits)) in
    let second : (before + m + n < 2 ^ 64 - 1 → r ≡ Some (before + m + n)) = subst (λ z. Counts z r n) first k in
    second (omega (arith, fits)) ∙ ap (λ z. Some z) (omega arith)

module _ (e : SideId) (t u : Trace) where
  bytes : (p q r : Option (List ℕ)) (f : Event → List ℕ) → Adds p q (flat_map f t) → Adds q r (flat_map f u) → Adds p r
      (flat_map f (t ++ u))
  bytes p q r f h k = subst (λ z. Adds p r z) (sym (flat_map-append f t u)) (Adds-append p q r (flat_map f t) (flat_map f u) h k)

  flag : (p q r : Option Bool) (f : Event → Bool) → Raises p q (list_any f t) → Raises q r (list_any f u) → Raises p r (list_any f (t ++ u))
  flag p q r f h k = subst (λ z. Raises p r z) (sym (list_any-append f t u)) (Raises-or p q r (list_any f t) (list_any f u) h k)

  number : (p q r : Option ℕ) (f : Event → ℕ) → Counts p q (sum_by f t) → Counts q r (sum_by f u) → Counts p r (sum_by f (t ++ u))
  number p q r f h k = subst (λ z. Counts p r z) (sym (sum_by-append f t u)) (Counts-plus p q r (sum_by f t) (sum_by f u) h k)

  count : (p q r : Option ℕ) (f : Event → Bool) → Counts p q (count_by f t) → Counts q r (count_by f u) → Counts p r (count_by f (t ++ u))
  count p q r f h k = number p q r (λ x. cond (f x) 1 0) h k

  pub end_ties_join : (began mid now : EndTold) → EndTied began mid e t → EndTied mid now e u → EndTied began now e (t ++ u)
  end_ties_join began mid now h k = record {
    handed_out = bytes began.handed_out mid.handed_out now.handed_out (read_by e) h.handed_out k.handed_out;
    taken = bytes began.taken mid.taken now.taken (given_by e) h.taken k.taken;
    made_connected = flag began.made_connected mid.made_connected now.made_connected (made_connected_by e) h.made_connected
        k.made_connected;
    ended = flag began.ended mid.ended now.ended (ended_by e) h.ended k.ended;
    connected = flag began.connected mid.connected now.connected (connected_by e) h.connected k.connected;
    write_ended = flag began.write_ended mid.write_ended now.write_ended (write_closed_by e) h.write_ended k.write_ended;
    closed = flag began.closed mid.closed now.closed (closed_by e) h.closed k.closed;
    reads = count began.reads mid.reads now.reads (is_read_of e) h.reads k.reads;
    writes = count began.writes mid.writes now.writes (is_write_of e) h.writes k.writes;
    checks = count began.checks mid.checks now.checks (is_check_of e) h.checks k.checks;
    rooms = number began.rooms mid.rooms now.rooms (room_by e) h.rooms k.rooms;
    offers = number began.offers mid.offers now.offers (offered_by e) h.offers k.offers;
    read_wants = count began.read_wants mid.read_wants now.read_wants (wants_read_by e) h.read_wants k.read_wants;
    write_wants = count began.write_wants mid.write_wants now.write_wants (wants_write_by e) h.write_wants k.write_wants;
    read_marks = count began.read_marks mid.read_marks now.read_marks (marks_read_by e) h.read_marks k.read_marks;
    write_marks = count began.write_marks mid.write_marks now.write_marks (marks_write_by e) h.write_marks k.write_marks;
  }

pub ends_join : EndTiesJoin
ends_join began mid now e t more h k = end_ties_join e t more began mid now h k

-- with nothing more

adds-none : (p : Option (List ℕ)) → Adds p p []
adds-none None = tt
adds-none (Some before) = ap (λ z. Some z) (sym (append-nil before))

or-false : (b : Bool) → b ≡ (b || false)
or-false true = refl
or-false false = refl

raises-none : (p : Option Bool) → Raises p p false
raises-none None = tt
raises-none (Some before) = ap (λ z. Some z) (or-false before)

counts-none : (p : Option ℕ) → Counts p p 0
counts-none None = tt
counts-none (Some before) = λ fits. ap (λ z. Some z) (omega arith)

tells_reading-none : (p : Option ℕ) → TellsReading p p []
tells_reading-none None = tt
tells_reading-none (Some before) = refl

stays-none : {T : Type 0} (p : Option T) → Stays p p
stays-none None = tt
stays-none (Some before) = refl

tells_timeout-none : (p : Option (Option ℕ)) → MatchOption p ⊤ (λ before. p ≡ Some (last_timeout before []))
tells_timeout-none None = tt
tells_timeout-none (Some before) = refl

pub nothing_is_tied : NothingIsTied
nothing_is_tied g port ends = record {
  port = record {
    accept_polls = counts-none port.accept_polls;
    timeout = tells_timeout-none port.timeout;
    links = counts-none port.links;
    accepting = λ told. told;
    readings = counts-none port.readings;
    reading = tells_reading-none port.reading;
    started = stays-none port.started;
  };
  ends = λ e. record {
    handed_out = adds-none (ends e).handed_out;
    taken = adds-none (ends e).taken;
    made_connected = raises-none (ends e).made_connected;
    ended = raises-none (ends e).ended;
    connected = raises-none (ends e).connected;
    write_ended = raises-none (ends e).write_ended;
    closed = raises-none (ends e).closed;
    reads = counts-none (ends e).reads;
    writes = counts-none (ends e).writes;
    checks = counts-none (ends e).checks;
    rooms = counts-none (ends e).rooms;
    offers = counts-none (ends e).offers;
    read_wants = counts-none (ends e).read_wants;
    write_wants = counts-none (ends e).write_wants;
    read_marks = counts-none (ends e).read_marks;
    write_marks = counts-none (ends e).write_marks;
  };
}

-- one turn more follows the time of the last one
pub LastFollows-push : (before : ℕ) (ts : List ℕ) (time reading : ℕ) → time ≡ max (unwrap_or (last_or (Some before) ts) 0)
    (min reading latest) → LastFollows before (ts ++ time ∷ []) reading
LastFollows-push before [] time reading h = h
LastFollows-push before (x ∷ []) time reading h = h
LastFollows-push before (x ∷ y ∷ ts) time reading h = LastFollows-push x (y ∷ ts) time reading h

-- the polls that ask to accept, of two traces in a row
pub polls_that_accept-append : (links n : ℕ) (t u : Trace) → polls_that_accept links n (t ++ u) ≡ polls_that_accept links n t +
    polls_that_accept links (n + opened t) u
polls_that_accept-append links n [] u =
    let same : polls_that_accept links n u ≡ polls_that_accept links (n + 0) u = ap (λ k. polls_that_accept links k u) (omega arith) in
    omega (arith, same)
polls_that_accept-append links n (x ∷ t) u =
    let asks : ℕ = if is_poll x && nat_lt n links then 1 else 0 in
    let opens : ℕ = if is_opened x then 1 else 0 in
    let rest = polls_that_accept-append links (n + opens) t u in
    let count : n + opens + opened t ≡ n + opened (x ∷ t) = (let parts = sum_by-cons (λ y. if is_opened y then 1 else 0) x t in
    omega (arith, parts)) in
    let same : polls_that_accept links (n + opens + opened t) u ≡ polls_that_accept links (n + opened (x ∷ t)) u = ap
    (λ k. polls_that_accept links k u) count in
    omega (arith, rest, same)
