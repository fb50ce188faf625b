-- A marked side is served: it is asked what the model calls for. A mark that calls for nothing is passed over, and a connect check
-- changes what it changes in the model.
use Rattle.std.proofs.Common.{◌≡◌, ℕ, zero, suc, ◌<◌, Bool, true, false, not, ◌&&◌, nat_le, if◌then◌else◌, List, [], ◌∷◌, ◌++◌, refl, sym}
use Rattle.std.proofs.Common.{◌∙◌, ap, arith, le-leb}
use Rattle.std.specs.Prelude.{nat_lt}
use Rattle.std.proofs.lemmas.Bool.{lt-ltb}
use Rattle.token_bucket.specs.declared.limit.Dir.TheVariants as dir
use Rattle.ev_types.specs.declared.side.SideId.{SideId}
use Rattle.ev_types.specs.declared.answer.ConnAnswer.{ConnAnswer}
use Rattle.ev_types.specs.declared.answer.ConnAnswer.TheVariants as conn
use Rattle.ev_types.specs.declared.why.Why.TheVariants as why
use Rattle.ev_types.specs.declared.entry.Entry.TheVariants as entry
use Rattle.ev_types.specs.Trace.{Trace}
use Rattle.ev_port.specs.Ends.{conn_events}
use Rattle.relay_model.specs.Settings.{Settings}
use Rattle.relay_model.specs.Plain.{Plain}
use Rattle.relay_model.specs.Past.{Past, past}
use Rattle.relay_model.specs.Rooms.{Want, is_connecting}
use Rattle.relay_model.specs.Reasons.{happened, error_flag}
use Rattle.relay_model.specs.Serve as model
use Rattle.relay_model.specs.Serve.{Call, call_for, marks_left}
use Rattle.relay_model.specs.Stages.{Stage, at}
use Rattle.relay_model.specs.Turn.{Puts}
use Rattle.relay_state.specs.State.{State}
use Rattle.relay_state.specs.Rooms.{read_room, write_room}
use Rattle.relay_state.specs.Serving.{after_conn}
use Rattle.relay_steps.proofs.RateLemmas.{turns-same}
use Rattle.relay_steps.specs.Meaning.{StandsFor}
use Rattle.relay_steps.proofs.RoomLemmas.{read_room-is, write_room-is}
use Rattle.relay_steps.proofs.StillSteps.{IsStill, put-stands, quiet-stands, still-same, still-event, still-raised}

pub if_true : {A : Type 0} (b : Bool) (x y : A) → b ≡ true → (if b then x else y) ≡ x
if_true true x y h = refl
if_true false x y h = absurd (cc)

pub if_false : {A : Type 0} (b : Bool) (x y : A) → b ≡ false → (if b then x else y) ≡ y
if_false true x y h = absurd (cc)
if_false false x y h = refl

-- a room that is some is had by a side that may be read, or written
pub some-may : (b : Bool) (n : ℕ) → nat_lt 0 (if b then n else 0) ≡ true → b ≡ true
some-may true n h = refl
some-may false n h = absurd (cc)

pub one_or_more : (n : ℕ) → nat_le 1 n ≡ nat_lt 0 n
one_or_more zero = refl
one_or_more (suc n) = le-leb 1 (suc n) (omega arith) ∙ sym (lt-ltb 0 (suc n) (omega arith))

-- a mark of a side
abbrev pub mark : SideId → Bool → Bool → Want
mark e r w = record { side = e; read = r; write = w }

module _ (t : Trace) (s : State) (e : SideId) (r w : Bool) (ms : List Want) (k : StandsFor t (Stage.Serving (mark e r w ∷ ms)) s)
    (lt : e.link < s.plain.opened) where
  abbrev g : Settings
  g = s.settings

  abbrev P : Past
  P = past s.settings t

  abbrev p : Plain
  p = s.plain

  abbrev pub to_read : ℕ → Call
  to_read n = if nat_le 1 n then Call.AskRead n else Call.Nothing

  abbrev pub to_write : ℕ → Call
  to_write n = if w && nat_le 1 n then Call.AskWrite n else Call.Nothing

  -- what is called for, by whether the side is connecting, and is marked for reading
  abbrev pub called : Bool → Bool → Call
  called waiting reads =
      if waiting then (if w then Call.AskConnect else Call.Nothing)
      else (if reads then to_read (read_room s e) else to_write (write_room s e))

  abbrev pub marks_by : Bool → Bool → List Want
  marks_by waiting reads = if not waiting && reads then mark e false w ∷ ms else ms

  pub call-is : (b c : Bool) → is_connecting s.plain e ≡ b → r ≡ c → call_for g P p (mark e r w) ≡ called b c
  call-is b c q l =
      let m = read_room-is t (Stage.Serving (mark e r w ∷ ms)) s e k lt in
      let n = write_room-is t (Stage.Serving (mark e r w ∷ ms)) s e k lt in
      λ i. if q i then (if w then Call.AskConnect else Call.Nothing) else (if l i then to_read (sym m i) else to_write (sym n i))

  pub marks-are : (b c : Bool) → is_connecting s.plain e ≡ b → r ≡ c → marks_left p (mark e r w) ms ≡ marks_by b c
  marks-are b c q l = λ i. marks_by (q i) (l i)

  -- Marks that call for nothing

  skipped : (b c : Bool) → is_connecting s.plain e ≡ b → r ≡ c → called b c ≡ Call.Nothing → StandsFor t (Stage.Serving (marks_by b c)) s
  skipped b c q l nothing =
      quiet-stands t (Stage.Serving (mark e r w ∷ ms)) (Stage.Serving (marks_by b c)) s k
      (call-is b c q l ∙ nothing, ap (λ z. at (Stage.Serving z) p) (sym (marks-are b c q l)))

  -- a connecting side that isn't marked for writing
  pub waiting-skipped : is_connecting s.plain e ≡ true → w ≡ false → StandsFor t (Stage.Serving ms) s
  waiting-skipped q l = skipped true r q refl (if_false w Call.AskConnect Call.Nothing l)

  -- a side without room to read
  pub read-skipped : is_connecting s.plain e ≡ false → r ≡ true → nat_lt 0 (read_room s e) ≡ false →
      StandsFor t (Stage.Serving (mark e false w ∷ ms)) s
  read-skipped q l none =
      skipped false true q l
      (if_false (nat_le 1 (read_room s e)) (Call.AskRead (read_room s e)) Call.Nothing (one_or_more (read_room s e) ∙ none))

  -- a side that isn't marked for writing, or has nothing to write
  pub write-skipped : is_connecting s.plain e ≡ false → r ≡ false → (w && nat_lt 0 (write_room s e)) ≡ false →
      StandsFor t (Stage.Serving ms) s
  write-skipped q l none =
      skipped false false q l
      (if_false (w && nat_le 1 (write_room s e)) (Call.AskWrite (write_room s e)) Call.Nothing
      (ap (λ b. w && b) (one_or_more (write_room s e)) ∙ none))

  -- Connect checks

  conn-puts : (answer : ConnAnswer) → is_connecting s.plain e ≡ true → w ≡ true →
      Puts g t (Stage.Serving (mark e r w ∷ ms)) p (entry.Conn e answer) [] (at (Stage.Serving ms) (model.after_conn g e answer p))
  conn-puts answer q l = (
    refl,
    call-is true r q refl ∙ if_true w Call.AskConnect Call.Nothing l,
    refl,
    ap (λ z. at (Stage.Serving z) (model.after_conn g e answer p)) (sym (marks-are true r q refl)),
  )

  conn-still : (answer : ConnAnswer) → IsStill t (t ++ conn_events e answer) p (model.after_conn g e answer p)
  conn-still conn.Connected =
      still-event t (entry.Conn e conn.Connected, []) p (model.after_conn g e conn.Connected p)
      (still-raised g t p e (λ x. record x { connecting = false }) why.Connected (λ z. refl) (λ z. refl) (λ z. refl)) (λ a. refl)
      (λ a. refl) (λ a. (refl, refl))
  conn-still conn.Pending =
      still-event t (entry.Conn e conn.Pending, []) p p (still-same t t p (λ a. refl) (λ a. refl) (turns-same t)) (λ a. refl) (λ a. refl)
      (λ a. (refl, refl))
  conn-still conn.Failed =
      still-event t (entry.Conn e conn.Failed, []) p (model.after_conn g e conn.Failed p)
      (still-raised g t p e (λ x. record x { failed = true; writes = false }) (happened dir.Write error_flag) (λ z. refl) (λ z. refl)
      (λ z. refl))
      (λ a. refl) (λ a. refl) (λ a. (refl, refl))

  pub conn-stands : (answer : ConnAnswer) → is_connecting s.plain e ≡ true → w ≡ true →
      StandsFor (t ++ conn_events e answer) (Stage.Serving ms) (after_conn s e answer)
  conn-stands answer q l =
      put-stands t (Stage.Serving (mark e r w ∷ ms)) (Stage.Serving ms) s (model.after_conn g e answer p) (entry.Conn e answer) [] k
      (conn-puts answer q l) tt (conn-still answer)
