-- Where turns begin in a run: it stands there between two turns, in one plain state, and from one such place steps lead to the next. A
-- trace is cut into its turns.
use Rattle.std.proofs.Common.{◌≡◌, ℕ, ◌≤◌, true, false, ◌||◌, List, [], ◌∷◌, ◌++◌, length, count_by, ◌⊎◌, inl, inr}
use Rattle.std.proofs.Common.{refl, sym, ◌∙◌, ap, subst, arith, length-append}
use Rattle.std.specs.List.{flat_map, list_any, AllByRecursion}
use Rattle.ev_types.specs.declared.entry.Entry.TheVariants as entry
use Rattle.ev_types.specs.Trace.{Event, Trace}
use Rattle.relay_model.specs.Settings.{Settings}
use Rattle.relay_model.specs.Plain.{Plain}
use Rattle.relay_model.specs.Stages.{Stage, State, at}
use Rattle.relay_model.specs.Turn.{Puts, Quietly, Reaches}
use Rattle.relay_model.specs.Onward.{Leads}
use Rattle.relay_model.specs.RatesKept.{is_turn}
use Rattle.relay_model.proofs.FaultSteps.{TurnOrNot, turn_or_not}
use Rattle.relay_model.proofs.KindLemmas.{put-kind}
use Rattle.relay_model.proofs.OneWayLemmas.{all_on_one_way}
use Rattle.relay_model.proofs.SplitLemmas.{IsLast, IsEarlier, pushed_split, reaches_split}
use Rattle.relay_model.proofs.ToldLemmas.{kept}
use Rattle.relay_laws.specs.TurnEnds.{begins_turn}
use Rattle.drain_laws.proofs.AnsweredTurns.{begun-append, none-count}

-- A turn begins between two turns, with no bytes beside it.
pub record TurnPut (x : Stage) (y : Event) : Type 0 where
  pub stage : x ≡ Stage.Between
  pub bytes : y.1 ≡ []

by-kind : (g : Settings) (t : Trace) (s : Plain) (x : Stage) (y : Event) (new : State) → TurnOrNot g t s x y new →
    is_turn y ≡ true → TurnPut x y
by-kind g t s x y new (TurnOrNot.turns) h = record { stage = refl; bytes = refl }
by-kind g t s x y new (TurnOrNot.stays no_turn) h = absurd (let k : true ≡ false = sym h ∙ no_turn in cc)

turn-put : (g : Settings) (t : Trace) (old new : State) (y : Event) → Reaches g t old → Puts g t old.stage old.plain y.0 y.1 new →
    is_turn y ≡ true → TurnPut old.stage y
turn-put g t old new y r p turn =
    by-kind g t old.plain old.stage y new
    (turn_or_not g t old.plain old.stage y new (put-kind g t old.stage old.plain y.0 y.1 new (kept g t old r).placed p)) turn

-- no bytes stand beside a turn
pub turn-bare : (g : Settings) (t : Trace) (s : State) → Reaches g t s → (before after : Trace) (ms : ℕ) (bytes : List ℕ) →
    t ≡ before ++ (entry.Turn ms, bytes) ∷ after → bytes ≡ []
turn-bare g t s r before after ms bytes is =
    let k = reaches_split g t s r before (entry.Turn ms, bytes) after is in
    (turn-put g before k.old k.new (entry.Turn ms, bytes) k.reached k.put refl).bytes

-- One state between turns

leads-longer : (g : Settings) (t : Trace) (s : State) (u : Trace) (new : State) → Leads g t s u new → length t ≤ length u
leads-longer g t s u new (Leads.stays) = omega arith
leads-longer g t s u new (Leads.goes {mid = mid} l q) = leads-longer g t s u mid l
leads-longer g t s u new (Leads.puts {u = v} {mid = mid} e bytes l p) =
    let a = leads-longer g t s v mid l in let b = length-append v ((e, bytes) ∷ []) in omega (arith, a, b)

-- with no entry nothing leads away from between two turns
leads-stay : (g : Settings) (t : Trace) (a : Plain) (u : Trace) (new : State) → Leads g t (at Stage.Between a) u new →
    length u ≤ length t → new ≡ at Stage.Between a
leads-stay g t a u new (Leads.stays) h = refl
leads-stay g t a u new (Leads.goes {mid = mid} l q) h =
    absurd (subst (λ (v : State). Quietly g u v.stage v.plain new) (leads-stay g t a u mid l h) q)
leads-stay g t a u new (Leads.puts {u = v} {mid = mid} e bytes l p) h =
    absurd (let k = leads-longer g t (at Stage.Between a) v mid l in let b = length-append v ((e, bytes) ∷ []) in
    let c : v ++ (e, bytes) ∷ [] ≡ v ++ (e, bytes) ∷ [] = refl in omega (arith, h, k, b))

-- A trace leads to one plain state between two turns.
pub between-one : (g : Settings) (t : Trace) (a b : Plain) → Reaches g t (at Stage.Between a) → Reaches g t (at Stage.Between b) → a ≡ b
between-one g t a b r q = elim (all_on_one_way g t (at Stage.Between a) (at Stage.Between b) r q) [
  | inl l ↦ sym (ap (λ (v : State). v.plain) (leads-stay g t a t (at Stage.Between b) l (omega arith)))
  | inr l ↦ ap (λ (v : State). v.plain) (leads-stay g t b t (at Stage.Between a) l (omega arith))
]

-- From between two turns steps lead to where the trace leads behind the turn that begins there.
leads-go : (g : Settings) (t : Trace) (s : Plain) → Reaches g t (at Stage.Between s) → (y : Event) → is_turn y ≡ true →
    (u : Trace) (new : State) → Reaches g u new → (part : Trace) → u ≡ t ++ y ∷ part → Leads g t (at Stage.Between s) u new
leads-go g t s r y turn u new (Reaches.begins) part is = absurd (none t is)
  where
    none : (v : Trace) → [] ≡ v ++ y ∷ part → ⊥
    none [] h = cc
    none (x ∷ v) h = cc
leads-go g t s r y turn u new (Reaches.goes {s = old} m q) part is = Leads.goes {mid = old} (leads-go g t s r y turn u old m part is) q
leads-go g t s r y turn u new (Reaches.puts {t = v} {s = old} e bytes m p) part is =
    go (λ rest k. leads-go g t s r y turn v old m rest k) (pushed_split v (e, bytes) t y part is)
  where
    go : ((rest : Trace) → v ≡ t ++ y ∷ rest → Leads g t (at Stage.Between s) v old) →
        IsLast v (e, bytes) t y part ⊎ IsEarlier v (e, bytes) t y part → Leads g t (at Stage.Between s) (v ++ (e, bytes) ∷ []) new
    go earlier (inr k) = Leads.puts {mid = old} e bytes (earlier k.rest k.there) p
    go earlier (inl k) =
        let put = turn-put g v old new (e, bytes) m p (ap is_turn (sym k.is) ∙ turn) in
        let there : Reaches g v (at Stage.Between old.plain) = subst (λ x. Reaches g v (at x old.plain)) put.stage m in
        let here : Reaches g v (at Stage.Between s) = subst (λ w. Reaches g w (at Stage.Between s)) k.before_is r in
        let same : old ≡ at Stage.Between s =
        (λ i. at (put.stage i) (between-one g v old.plain s there here i)) in
        subst (λ w. Leads g w (at Stage.Between s) (v ++ (e, bytes) ∷ []) new) (sym k.before_is)
        (Leads.puts {mid = at Stage.Between s} e bytes Leads.stays (subst (λ (w : State). Puts g v w.stage w.plain e bytes new) same p))

pub leads-on : (g : Settings) (t : Trace) (s : Plain) → Reaches g t (at Stage.Between s) → (y : Event) → is_turn y ≡ true →
    (part : Trace) (new : State) → Reaches g (t ++ y ∷ part) new → Leads g t (at Stage.Between s) (t ++ y ∷ part) new
leads-on g t s r y turn part new m = leads-go g t s r y turn (t ++ y ∷ part) new m part refl

-- A trace cut into its turns

-- one turn with what stands behind its beginning
pub record IsTurn (part : Trace) : Type 0 where
  pub ms : ℕ
  pub bytes : List ℕ
  pub rest : Trace
  pub is : part ≡ (entry.Turn ms, bytes) ∷ rest
  pub one : list_any is_turn rest ≡ false

-- what stands before the first turn of a trace, and its turns
pub record Cut (t : Trace) : Type 0 where
  pub head : Trace
  pub parts : List Trace
  pub is : t ≡ head ++ flat_map (λ part. part) parts
  pub quiet : list_any is_turn head ≡ false
  pub each : AllByRecursion IsTurn parts
  pub count : length parts ≡ count_by is_turn t

pub cut : (t : Trace) → Cut t
cut [] = record { head = []; parts = []; is = refl; quiet = refl; each = tt; count = refl }
cut (y ∷ t) = go (cut t) y
  where
    still : (c : Cut t) (y : Event) → is_turn y ≡ false → Cut (y ∷ t)
    still c y h = record {
      head = y ∷ c.head;
      parts = c.parts;
      is = ap (λ v. y ∷ v) c.is;
      quiet = ap (λ b. b || list_any is_turn c.head) h ∙ c.quiet;
      each = c.each;
      count = c.count ∙ sym (begun-append (y ∷ []) t
          ∙ (let a = none-count (y ∷ []) (ap (λ b. b || false) h) in omega (arith, a)));
    }

    go : (c : Cut t) (y : Event) → Cut (y ∷ t)
    go c (entry.Turn ms, bytes) = record {
      head = [];
      parts = ((entry.Turn ms, bytes) ∷ c.head) ∷ c.parts;
      is = ap (λ v. (entry.Turn ms, bytes) ∷ v) c.is;
      quiet = refl;
      each = (record { ms = ms; bytes = bytes; rest = c.head; is = refl; one = c.quiet }, c.each);
      count = (let a = begun-append ((entry.Turn ms, bytes) ∷ []) t in let b : count_by is_turn ((entry.Turn ms, bytes) ∷ []) ≡ 1 = refl in
          let d = c.count in omega (arith, a, b, d));
    }
    go c (entry.Poll timeout, bytes) = still c (entry.Poll timeout, bytes) refl
    go c (entry.Want side r w, bytes) = still c (entry.Want side r w, bytes) refl
    go c (entry.PollFailed, bytes) = still c (entry.PollFailed, bytes) refl
    go c (entry.Ready side r w, bytes) = still c (entry.Ready side r w, bytes) refl
    go c (entry.Opened link connected, bytes) = still c (entry.Opened link connected, bytes) refl
    go c (entry.Conn side answer, bytes) = still c (entry.Conn side answer, bytes) refl
    go c (entry.Read side room answer, bytes) = still c (entry.Read side room answer, bytes) refl
    go c (entry.Write side offered answer, bytes) = still c (entry.Write side offered answer, bytes) refl
    go c (entry.Fired side why, bytes) = still c (entry.Fired side why, bytes) refl
    go c (entry.Asked side act answer, bytes) = still c (entry.Asked side act answer, bytes) refl
    go c (entry.Freed side cause moved given, bytes) = still c (entry.Freed side cause moved given, bytes) refl
    go c (entry.CloseWrite side, bytes) = still c (entry.CloseWrite side, bytes) refl
    go c (entry.Close side, bytes) = still c (entry.Close side, bytes) refl

-- at the end of a trace, or where a turn begins
abbrev pub AtEnd : Trace → Type 0
AtEnd after = (begins_turn after ≡ true) ⊎ (after ≡ [])

pub parts-begin : (parts : List Trace) → AllByRecursion IsTurn parts → AtEnd (flat_map (λ part. part) parts)
parts-begin [] h = inr refl
parts-begin (p ∷ ps) h = inl (ap (λ v. begins_turn (v ++ flat_map (λ part. part) ps)) h.0.is)
