-- Entries that begin no turn, poll nothing and open no link say nothing of the whole port.
use Rattle.std.proofs.Common.{◌≡◌, ℕ, ◌+◌, Bool, true, false, List, [], ◌∷◌, ◌++◌, max, min, ◌^◌, Option, Some, refl, sym, ◌∙◌, ap, subst}
use Rattle.std.proofs.Common.{arith, append-nil, count_by, if◌then◌else◌}
use Rattle.std.specs.Prelude.{fold, unwrap_or}
use Rattle.std.specs.List.{list_all, last_or}
use Rattle.std.proofs.lemmas.Bool.{and_parts}
use Rattle.std.proofs.lemmas.List.Sums.{sum_by-append, fold-append}
use Rattle.std.proofs.lemmas.Grind.{flat_map-append}
use Rattle.ev_types.specs.declared.entry.Entry.TheVariants as entry
use Rattle.ev_types.specs.Trace.{Event, Trace}
use Rattle.relay_model.specs.RatesKept.{is_turn}
use Rattle.relay_model.specs.Totals.{is_opened, opened, opened_by, opened_in_turn, times, time_of_turn, timeout_by, last_timeout}
use Rattle.relay_model.specs.Totals.{polls_that_accept}
use Rattle.relay_model.specs.Plays.{is_served}
use Rattle.ev_types.specs.Times.{greatest_time}
use Rattle.relay_state.specs.State.{State}
use Rattle.relay_state.specs.Time.{begun}
use Rattle.relay_steps.proofs.FrameLemmas.{frame-begun}
use Rattle.relay_state.specs.Opening.{after_opened}
use Rattle.relay_drive.specs.Known.{IsInStep}

-- The time of a trace

pub greatest_time-append : (t a : Trace) → greatest_time (t ++ a) ≡ max (greatest_time t) (greatest_time a)
greatest_time-append [] a = omega arith
greatest_time-append ((entry.Turn ms, b) ∷ t) a = let h = greatest_time-append t a in omega (arith, h)
greatest_time-append ((entry.Poll x, b) ∷ t) a = greatest_time-append t a
greatest_time-append ((entry.Want x y z, b) ∷ t) a = greatest_time-append t a
greatest_time-append ((entry.Ready x y z, b) ∷ t) a = greatest_time-append t a
greatest_time-append ((entry.PollFailed, b) ∷ t) a = greatest_time-append t a
greatest_time-append ((entry.Opened x y, b) ∷ t) a = greatest_time-append t a
greatest_time-append ((entry.Conn x y, b) ∷ t) a = greatest_time-append t a
greatest_time-append ((entry.Read x y z, b) ∷ t) a = greatest_time-append t a
greatest_time-append ((entry.Write x y z, b) ∷ t) a = greatest_time-append t a
greatest_time-append ((entry.Fired x y, b) ∷ t) a = greatest_time-append t a
greatest_time-append ((entry.Asked x y z, b) ∷ t) a = greatest_time-append t a
greatest_time-append ((entry.Freed x y z w, b) ∷ t) a = greatest_time-append t a
greatest_time-append ((entry.CloseWrite x, b) ∷ t) a = greatest_time-append t a
greatest_time-append ((entry.Close x, b) ∷ t) a = greatest_time-append t a

-- is it an entry that begins no turn, no poll and no link
abbrev pub is_calm : Event → Bool
is_calm (entry.Turn ms, bytes) = false
is_calm (entry.Poll timeout, bytes) = false
is_calm (entry.Opened link connected, bytes) = false
is_calm _ = true

-- what such entries say of the whole port: nothing
pub record Calm (u : Trace) : Type 0 where
  pub opens : opened u ≡ 0
  pub turns : count_by is_turn u ≡ 0
  pub times : times u ≡ []
  pub time : greatest_time u ≡ 0
  pub timeout : (was : Option ℕ) → last_timeout was u ≡ was
  pub polls : (links n : ℕ) → polls_that_accept links n u ≡ 0
  pub in_turn : (n : ℕ) → fold opened_by n u ≡ n

calm_cons : (x : Event) (u : Trace) → is_calm x ≡ true → Calm u → Calm (x ∷ u)
calm_cons (entry.Turn ms, b) u h c = absurd (cc)
calm_cons (entry.Poll timeout, b) u h c = absurd (cc)
calm_cons (entry.Opened link connected, b) u h c = absurd (cc)
calm_cons _ u h c = record {
  opens = c.opens;
  turns = c.turns;
  times = c.times;
  time = c.time;
  timeout = c.timeout;
  polls = λ links n. let k = c.polls links (n + 0) in omega (arith, k);
  in_turn = c.in_turn;
}

pub calm_list : (u : Trace) → list_all is_calm u ≡ true → Calm u
calm_list [] h = record {
  opens = refl;
  turns = refl;
  times = refl;
  time = refl;
  timeout = λ was. refl;
  polls = λ links n. refl;
  in_turn = λ n. refl;
}
calm_list (x ∷ u) h =
    let parts = and_parts (is_calm x) (list_all is_calm u) h in
    calm_cons x u parts.0 (calm_list u parts.1)

served_calm : (x : Event) → is_served x ≡ true → is_calm x ≡ true
served_calm (entry.Turn ms, b) h = absurd (cc)
served_calm (entry.Poll timeout, b) h = absurd (cc)
served_calm (entry.Opened link connected, b) h = absurd (cc)
served_calm _ h = refl

pub served_list : (u : Trace) → list_all is_served u ≡ true → list_all is_calm u ≡ true
served_list [] h = refl
served_list (x ∷ u) h =
    let parts = and_parts (is_served x) (list_all is_served u) h in
    let one = served_calm x parts.0 in
    let rest = served_list u parts.1 in
    rw (one, rest)

pub opened-append : (t u : Trace) → opened (t ++ u) ≡ opened t + opened u
opened-append t u = sum_by-append (λ x. if is_opened x then 1 else 0) t u

pub times-append : (t u : Trace) → times (t ++ u) ≡ times t ++ times u
times-append t u = flat_map-append time_of_turn t u

pub in_turn-append : (t u : Trace) → opened_in_turn (t ++ u) ≡ fold opened_by (opened_in_turn t) u
in_turn-append t u = fold-append opened_by 0 t u

pub timeout-append : (was : Option ℕ) (t u : Trace) → last_timeout was (t ++ u) ≡ last_timeout (last_timeout was t) u
timeout-append was t u = fold-append timeout_by was t u

-- the relay changed nothing that a trace must fit
pub record Same (s new : State) : Type 0 where
  pub time : new.plain.time ≡ s.plain.time
  pub opened : new.plain.opened ≡ s.plain.opened
  pub settings : new.settings ≡ s.settings

pub same : (s new : State) → new ≡ s → Same s new
same s new e = record {
  time = ap (λ (z : State). z.plain.time) e;
  opened = ap (λ (z : State). z.plain.opened) e;
  settings = ap
      (λ (z : State). z.settings) e;
}

-- entries that begin no turn and open no link
pub record Still (u : Trace) : Type 0 where
  pub opens : opened u ≡ 0
  pub times : times u ≡ []
  pub time : greatest_time u ≡ 0

pub still : (u : Trace) → Calm u → Still u
still u c = record { opens = c.opens; times = c.times; time = c.time }

pub still_none : Still []
still_none = record { opens = refl; times = refl; time = refl }

pub fits_still : (t u : Trace) (s new : State) → Still u → Same s new → IsInStep t s → IsInStep (t ++ u) new
fits_still t u s new c k f = record {
  time = (let h = greatest_time-append t u in omega (arith, h, c.time, f.time, k.time));
  last = ap (λ ts. unwrap_or (last_or (Some 0) ts) 0) (times-append t u ∙ ap (λ z. times t ++ z) c.times ∙ append-nil (times t))
      ∙ f.last ∙ sym k.time;
  opened = (let h = opened-append t u in omega (arith, h, c.opens, f.opened, k.opened));
}

last_or-push : (d : Option ℕ) (ts : List ℕ) (x : ℕ) → last_or d (ts ++ x ∷ []) ≡ Some x
last_or-push d [] x = refl
last_or-push d (y ∷ ts) x = last_or-push (Some y) ts x

-- a turn begins at that time
pub fits_turned : (t : Trace) (s new : State) (ms reading : ℕ) → ms ≡ max s.plain.time (min reading (2 ^ 62)) →
    new ≡ begun s ms → IsInStep t s → IsInStep (t ++ (entry.Turn ms, []) ∷ []) new
fits_turned t s new ms reading is e f = subst (IsInStep (t ++ u)) (sym e) (record {
  time = (let h = greatest_time-append t u in let k = f.time in let b = (frame-begun s ms).time in omega (arith, h, k, is, b));
  last = ap (λ ts. unwrap_or (last_or (Some 0) ts) 0) (times-append t u) ∙ ap (λ o. unwrap_or o 0) (last_or-push (Some 0) (times t) ms)
      ∙ sym (frame-begun s ms).time;
  opened = (let h = opened-append t u in let k = f.opened in let b = (frame-begun s ms).opened in omega (arith, h, k, b));
})
  where
    u : Trace
    u = (entry.Turn ms, []) ∷ []

-- a link is opened
pub fits_opened : (t : Trace) (s new : State) (link : ℕ) (connected : Bool) → new ≡ after_opened s connected → IsInStep t s →
    IsInStep (t ++ (entry.Opened link connected, []) ∷ []) new
fits_opened t s new link connected e f = subst (IsInStep (t ++ u)) (sym e) (record {
  time = (let h = greatest_time-append t u in let k = f.time in omega (arith, h, k));
  last = ap (λ ts. unwrap_or (last_or (Some 0) ts) 0) (times-append t u ∙ append-nil (times t)) ∙ f.last;
  opened = (let h = opened-append t u in let k = f.opened in omega (arith, h, k));
})
  where
    u : Trace
    u = (entry.Opened link connected, []) ∷ []
