-- What each call of a port tells of the whole port is what its entries say.
use Rattle.std.proofs.Common.{◌≡◌, ℕ, ◌+◌, Bool, false, List, [], ◌∷◌, ◌++◌, max, min, if◌then◌else◌, Option, Some, None, refl, sym, ◌∙◌}
use Rattle.std.proofs.Common.{ap, subst, arith, append-nil, nat_lt, length, zero-add, length-append}
use Rattle.std.specs.Prelude.{⊤, MatchOption, IsSome, IsSomeAnd, is_some, unwrap_or}
use Rattle.std.specs.List.{last_or}
use Rattle.ev_types.specs.declared.entry.Entry.TheVariants as entry
use Rattle.ev_types.specs.Trace.{Trace}
use Rattle.relay_model.specs.Settings.{Settings}
use Rattle.ev_types.specs.Times.{latest}
use Rattle.relay_model.specs.Totals.{opened, times, last_timeout, polls_that_accept}
use Rattle.ev_types.specs.Told.{Counts, PortTold, Becomes, Stays}
use Rattle.relay_model.specs.Tied.{TellsReading, LastFollows, PortTied}
use Rattle.relay_model.proofs.TiedLemmas.{Counts-plus, LastFollows-push, polls_that_accept-append}
use Rattle.ev_port.specs.declared.port.Accepted.TheVariants as accepted
use Rattle.ev_port.specs.declared.port.Polled.{Polled}
use Rattle.ev_port.specs.declared.port.Polled.TheVariants as polled
use Rattle.ev_port.specs.declared.port.Want.{Want}
use Rattle.ev_port.specs.EndSteps.{PortStays}
use Rattle.ev_port.specs.Calls.{ClockRead, AcceptedLink}
use Rattle.ev_port.specs.Polling.{poll_events, opens_accepting, PolledWith}
use Rattle.relay_drive.proofs.CalmLemmas.{Calm, calm_list, is_calm, opened-append, times-append, timeout-append}
use Rattle.relay_drive.proofs.TiedLemmas.{rest_of, poll_rest}

-- One meaning over one call

number_stays : (p q r : Option ℕ) (m k : ℕ) → Counts p q m → Stays q r → k ≡ m → Counts p r k
number_stays None q r m k h s e = tt
number_stays (Some b) q r m k h s e = λ fits.
    let was = h (omega (arith, fits, e)) in
    let now : r ≡ Some (b + m) = subst (λ z. MatchOption z ⊤ (λ before. r ≡ Some before)) was s in
    now ∙ ap (λ n. Some (b + n)) (sym e)

number_counts : (p q r : Option ℕ) (m n k : ℕ) → Counts p q m → Counts q r n → k ≡ m + n → Counts p r k
number_counts p q r m n k h c e = subst (λ z. Counts p r z) (sym e) (Counts-plus p q r m n h c)

abbrev TellsTimeout : Option (Option ℕ) → Option (Option ℕ) → Trace → Type 0
TellsTimeout began now t = MatchOption began ⊤ (λ before. now ≡ Some (last_timeout before t))

timeout_stays : (p q r : Option (Option ℕ)) (t u : Trace) → TellsTimeout p q t → Stays q r →
    ((was : Option ℕ) → last_timeout was u ≡ was) → TellsTimeout p r (t ++ u)
timeout_stays None q r t u h s calm = tt
timeout_stays (Some b) q r t u h s calm =
    let now : r ≡ Some (last_timeout b t) = subst (λ z. MatchOption z ⊤ (λ before. r ≡ Some before)) h s in
    now ∙ ap Some (sym (timeout-append b t u ∙ calm (last_timeout b t)))

timeout_becomes : (p q r : Option (Option ℕ)) (t u : Trace) (most : Option ℕ) → TellsTimeout p q t → Becomes q r most →
    ((was : Option ℕ) → last_timeout was u ≡ most) → TellsTimeout p r (t ++ u)
timeout_becomes None q r t u most h s is = tt
timeout_becomes (Some b) q r t u most h s is =
    let now : r ≡ Some most = subst (λ z. MatchOption z ⊤ (λ _. r ≡ Some most)) h s in
    now ∙ ap Some (sym (timeout-append b t u ∙ is (last_timeout b t)))

pub tells_still : (p q r : Option Bool) → (IsSome p → IsSome q) → Stays q r → IsSome p → IsSome r
tells_still p None r h s k = absurd (let n = h k in cc)
tells_still p (Some b) r h s k = ap is_some s

pub tells_now : (p q r : Option Bool) (b : Bool) → (IsSome p → IsSome q) → Becomes q r b → IsSome p → r ≡ Some b
tells_now p None r b h s k = absurd (let n = h k in cc)
tells_now p (Some x) r b h s k = s

tells_anyway : (p q r : Option Bool) (b : Bool) → (IsSome p → IsSome q) → Becomes q r b → IsSome p → IsSome r
tells_anyway p q r b h s k = ap is_some (tells_now p q r b h s k)

-- a value that stayed stays on
stays_on : {T : Type 0} (p q r : Option T) → Stays p q → Stays q r → Stays p r
stays_on None q r h s = tt
stays_on (Some b) q r h s = subst (λ z. MatchOption z ⊤ (λ before. r ≡ Some before)) h s

reading_stays : (p q r : Option ℕ) (ts : List ℕ) → TellsReading p q ts → Stays q r → TellsReading p r ts
reading_stays None q r [] h s = tt
reading_stays (Some b) q r [] h s = stays_on (Some b) q r h s
reading_stays None q r (x ∷ ts) h s = tt
reading_stays (Some b) None r (x ∷ ts) h s = absurd h
reading_stays (Some b) (Some y) r (x ∷ ts) h s = subst (λ z. IsSomeAnd z (LastFollows 0 (x ∷ ts))) (sym s) h

reading_on : (p q r : Option ℕ) (ts us : List ℕ) → TellsReading p q ts → Stays q r → us ≡ ts → TellsReading p r us
reading_on p q r ts us h s e = subst (λ z. TellsReading p r z) (sym e) (reading_stays p q r ts h s)

abbrev Follows : Option ℕ → Option ℕ → List ℕ → Type 0
Follows p r ts = MatchOption p ⊤ (λ before. IsSomeAnd r (LastFollows 0 ts))

was_told : (b : ℕ) (q : Option ℕ) (ts : List ℕ) → TellsReading (Some b) q ts → IsSome q
was_told b q [] h = ap is_some h
was_told b None (x ∷ ts) h = absurd h
was_told b (Some y) (x ∷ ts) h = refl

as_list : (p r : Option ℕ) (ts : List ℕ) (time : ℕ) → Follows p r (ts ++ time ∷ []) → TellsReading p r (ts ++ time ∷ [])
as_list p r [] time h = h
as_list p r (x ∷ ts) time h = h

reading_becomes : (p q r : Option ℕ) (ts : List ℕ) (reading time : ℕ) → TellsReading p q ts → Becomes q r reading →
    time ≡ max (unwrap_or (last_or (Some 0) ts) 0) (min reading latest) → TellsReading p r (ts ++ time ∷ [])
reading_becomes None q r ts reading time h s e = as_list None r ts time tt
reading_becomes (Some b) None r ts reading time h s e = absurd (let told = was_told b None ts h in cc)
reading_becomes (Some b) (Some y) r ts reading time h s e =
    as_list (Some b) r ts time (subst (λ z. IsSomeAnd z (LastFollows 0 (ts ++ time ∷ []))) (sym s) (LastFollows-push 0 ts time reading e))

abbrev once : Bool → ℕ
once b = if b then 1 else 0

pub poll_split : (timeout : Option ℕ) (ws : List Want) (answer : Polled) →
    poll_events timeout ws answer ≡ (entry.Poll timeout, []) ∷ rest_of ws answer
poll_split timeout ws (polled.Ready accept) = refl
poll_split timeout ws polled.Failed = refl

-- All meanings over one call

module _ (g : Settings) (began : PortTold) (told new : PortTold) (t : Trace) (tied : PortTied g began told t) where
  polls_on : (u : Trace) (n : ℕ) → polls_that_accept g.links (0 + opened t) u ≡ n →
      polls_that_accept g.links 0 (t ++ u) ≡ polls_that_accept g.links 0 t + n
  polls_on u n h = polls_that_accept-append g.links 0 t u ∙ ap (λ k. polls_that_accept g.links 0 t + k) h

  opened_on : (u : Trace) (n : ℕ) → opened u ≡ n → opened (t ++ u) ≡ opened t + n
  opened_on u n h = opened-append t u ∙ ap (λ k. opened t + k) h

  times_on : (u : Trace) → times u ≡ [] → times (t ++ u) ≡ times t
  times_on u h = times-append t u ∙ ap (λ z. times t ++ z) h ∙ append-nil (times t)

  none_more : (m n : ℕ) → m ≡ n + 0 → m ≡ n
  none_more m n h = omega (arith, h)

  -- a call with such entries as say nothing of the whole port
  pub port_calm : (u : Trace) → Calm u → PortStays told new → PortTied g began new (t ++ u)
  port_calm u c s = record {
    accept_polls = number_stays began.accept_polls told.accept_polls new.accept_polls _ _ tied.accept_polls s.accept_polls
        (none_more _ _ (polls_on u 0 (c.polls g.links (0 + opened t))));
    timeout = timeout_stays began.timeout told.timeout new.timeout t u tied.timeout s.timeout c.timeout;
    links = number_stays began.links told.links new.links _ _ tied.links s.links (none_more _ _ (opened_on u 0 c.opens));
    accepting = tells_still began.accepting told.accepting new.accepting tied.accepting s.accepting;
    readings = number_stays began.readings told.readings new.readings _ _ tied.readings s.readings (ap length (times_on u c.times));
    reading = reading_on began.reading told.reading new.reading (times t) (times (t ++ u)) tied.reading s.reading (times_on u c.times);
    started = stays_on began.started told.started new.started tied.started s.started;
  }

  -- a poll, which asks to accept exactly where fewer links than may be opened were opened
  pub port_polled : (ws : List Want) (answer : Polled) (accept : Bool) (timeout : Option ℕ) →
      PolledWith told new accept timeout answer → accept ≡ nat_lt (opened t) g.links →
      PortTied g began new (t ++ poll_events timeout ws answer)
  port_polled ws answer accept timeout s asks = record {
    accept_polls = number_counts began.accept_polls told.accept_polls new.accept_polls _ _ _ tied.accept_polls s.accept_polls
        (polls_on u (if accept then 1 else 0) polls);
    timeout = timeout_becomes began.timeout told.timeout new.timeout t u timeout tied.timeout s.timeout last;
    links = number_stays began.links told.links new.links _ _ tied.links s.links (none_more _ _ (opened_on u 0 opens));
    accepting = tells_anyway began.accepting told.accepting new.accepting (opens_accepting answer) tied.accepting s.accepting;
    readings = number_stays began.readings told.readings new.readings _ _ tied.readings s.readings (ap length (times_on u none));
    reading = reading_on began.reading told.reading new.reading (times t) (times (t ++ u)) tied.reading s.reading (times_on u none);
    started = stays_on began.started told.started new.started tied.started s.started;
  }
    where
      u : Trace
      u = poll_events timeout ws answer

      c : Calm (rest_of ws answer)
      c = calm_list (rest_of ws answer) (poll_rest is_calm (λ a b c. refl) (λ a b c. refl) refl ws answer)

      split : u ≡ (entry.Poll timeout, []) ∷ rest_of ws answer
      split = poll_split timeout ws answer

      opens : opened u ≡ 0
      opens = ap opened split ∙ c.opens

      none : times u ≡ []
      none = ap times split ∙ c.times

      last : (was : Option ℕ) → last_timeout was u ≡ timeout
      last was = ap (last_timeout was) split ∙ c.timeout timeout

      polls : polls_that_accept g.links (0 + opened t) u ≡ (if accept then 1 else 0)
      polls =
          let one : once (nat_lt (0 + opened t) g.links) ≡ once accept =
          ap once (ap (λ k. nat_lt k g.links) (zero-add (opened t)) ∙ sym asks) in
          let more = c.polls g.links (0 + opened t + 0) in
          ap (polls_that_accept g.links (0 + opened t)) split ∙ omega (arith, one, more)

  -- a link was accepted
  pub port_linked : (link : ℕ) (connected : Bool) → AcceptedLink told new (accepted.Link connected) →
      PortTied g began new (t ++ (entry.Opened link connected, []) ∷ [])
  port_linked link connected s = record {
    accept_polls = number_stays began.accept_polls told.accept_polls new.accept_polls _ _ tied.accept_polls s.0.accept_polls
        (none_more _ _ (polls_on u 0 refl));
    timeout = timeout_stays began.timeout told.timeout new.timeout t u tied.timeout s.0.timeout (λ was. refl);
    links = number_counts began.links told.links new.links _ _ _ tied.links s.1 (opened_on u 1 refl);
    accepting = tells_still began.accepting told.accepting new.accepting tied.accepting s.0.accepting;
    readings = number_stays began.readings told.readings new.readings _ _ tied.readings s.0.readings (ap length (times_on u refl));
    reading = reading_on began.reading told.reading new.reading (times t) (times (t ++ u)) tied.reading s.0.reading (times_on u refl);
    started = stays_on began.started told.started new.started tied.started s.0.started;
  }
    where
      u : Trace
      u = (entry.Opened link connected, []) ∷ []

  -- or none was, which closed accepting
  pub port_closed : PortStays (record told { accepting = None }) new → Becomes told.accepting new.accepting false → PortTied g began new t
  port_closed s closed = record {
    accept_polls = number_stays began.accept_polls told.accept_polls new.accept_polls _ _ tied.accept_polls s.accept_polls refl;
    timeout = subst (λ z. TellsTimeout began.timeout new.timeout z) (append-nil t)
        (timeout_stays began.timeout told.timeout new.timeout t [] tied.timeout s.timeout (λ was. refl));
    links = number_stays began.links told.links new.links _ _ tied.links s.links refl;
    accepting = tells_anyway began.accepting told.accepting new.accepting false tied.accepting closed;
    readings = number_stays began.readings told.readings new.readings _ _ tied.readings s.readings refl;
    reading = reading_stays began.reading told.reading new.reading (times t) tied.reading s.reading;
    started = stays_on began.started told.started new.started tied.started s.started;
  }

  -- the clock was read
  pub port_clocked : (reading ms : ℕ) → ClockRead told new reading →
      ms ≡ max (unwrap_or (last_or (Some 0) (times t)) 0) (min reading latest) → PortTied g began new (t ++ (entry.Turn ms, []) ∷ [])
  port_clocked reading ms s is = record {
    accept_polls = number_stays began.accept_polls told.accept_polls new.accept_polls _ _ tied.accept_polls s.accept_polls
        (none_more _ _ (polls_on u 0 refl));
    timeout = timeout_stays began.timeout told.timeout new.timeout t u tied.timeout s.timeout (λ was. refl);
    links = number_stays began.links told.links new.links _ _ tied.links s.links (none_more _ _ (opened_on u 0 refl));
    accepting = tells_still began.accepting told.accepting new.accepting tied.accepting s.accepting;
    readings = number_counts began.readings told.readings new.readings _ _ _ tied.readings s.readings
        (ap length (times-append t u) ∙ length-append (times t) (ms ∷ []));
    reading = subst (λ z. TellsReading began.reading new.reading z) (sym (times-append t u))
        (reading_becomes began.reading told.reading new.reading (times t) reading ms tied.reading s.reading is);
    started = stays_on began.started told.started new.started tied.started s.started;
  }
    where
      u : Trace
      u = (entry.Turn ms, []) ∷ []
