-- An end is connected once, after its link was opened, where no hook is set: by induction over the steps of a run.
use Rattle.std.proofs.Common.{◌≡◌, ℕ, ◌+◌, ◌*◌, ◌<◌, ◌≤◌, Bool, true, false, if◌then◌else◌, List, [], ◌∷◌, length, count_by, inl, inr, refl}
use Rattle.std.proofs.Common.{sym, ◌∙◌, ap, subst, arith}
use Rattle.std.specs.Prelude.{nat_lt}
use Rattle.std.proofs.lemmas.Bool.{cases_lt, lt-ltb, le-ltb, and_parts}
use Rattle.token_bucket.specs.declared.limit.Dir.TheVariants as dir
use Rattle.token_bucket.specs.declared.limit.Dir.{Dir}
use Rattle.ev_types.specs.declared.side.SideId.{SideId}
use Rattle.ev_types.specs.declared.answer.ConnAnswer.TheVariants as conn
use Rattle.ev_types.specs.declared.why.Why.TheVariants as why
use Rattle.ev_types.specs.declared.entry.Entry.{Entry}
use Rattle.ev_types.specs.declared.entry.Entry.TheVariants as entry
use Rattle.ev_types.specs.Trace.{Trace}
use Rattle.relay_model.specs.Settings.{Settings, HasNoHooks}
use Rattle.relay_model.specs.Plain.{Plain, PlainSide, side_at, change_side}
use Rattle.relay_model.specs.Past.{past}
use Rattle.relay_model.specs.Rooms.{is_connecting}
use Rattle.relay_model.specs.Moments.{active_at, expire}
use Rattle.relay_model.specs.Close.{CloseStep}
use Rattle.relay_model.specs.Stages.{Stage, State, Wanting, Marking, Serving, Dispatching, Freeing, Closing}
use Rattle.relay_model.specs.Turn.{Reaches, Puts}
use Rattle.relay_model.specs.Onward.{Leads}
use Rattle.relay_model.specs.Totals.{connected_by}
use Rattle.relay_model.specs.Work.{left_to_connect}
use Rattle.relay_model.proofs.EndLemmas.{same_end-eq, number-lt}
use Rattle.relay_model.proofs.KeepsLemmas.{raised}
use Rattle.relay_model.proofs.PlainLemmas.{side_at-same}
use Rattle.relay_model.proofs.Shapes.{one_where, ShapeBy, shape-puts}
use Rattle.relay_model.proofs.ReachLemmas.{count-push}
use Rattle.relay_model.proofs.QuietSteps.{kept-quietly}
use Rattle.relay_model.proofs.PlacedLemmas.{live-there}
use Rattle.relay_model.proofs.KindLemmas.{put-kind, ClosedKind, closed-kind}
use Rattle.relay_model.proofs.ToldLemmas.{kept}
use Rattle.relay_model.proofs.OnwardLemmas.{reaches-on}
use Rattle.relay_model.proofs.HooklessLemmas.{asleep}
use Rattle.relay_model.proofs.AwakeLemmas.{KeptBy, put-holds}
use Rattle.relay_model.proofs.CalledEnds.{call-connect}

-- What is left

left_to_connect-opened : (s : Plain) (z : SideId) → z.link < s.opened → left_to_connect s z ≡ one_where (side_at s z).connecting
left_to_connect-opened s z lt = ap (λ b. if b then one_where (side_at s z).connecting else 1) (lt-ltb z.link s.opened lt)

left_to_connect-later : (s : Plain) (z : SideId) → s.opened ≤ z.link → left_to_connect s z ≡ 1
left_to_connect-later s z ge = ap (λ b. if b then one_where (side_at s z).connecting else 1) (le-ltb z.link s.opened ge)

pub at-most-one : (b : Bool) → one_where b ≤ 1
at-most-one true = omega arith
at-most-one false = omega arith

pub left_to_connect-most : (s : Plain) (z : SideId) → left_to_connect s z ≤ 1
left_to_connect-most s z = go (nat_lt z.link s.opened)
  where
    go : (b : Bool) → (if b then one_where (side_at s z).connecting else 1) ≤ 1
    go true = at-most-one (side_at s z).connecting
    go false = omega arith

decided-kept : KeptBy (λ x. x.connecting ≡ false)
decided-kept = record {
  active = λ time d x h. active d time x h;
  expires = λ d x h. expires d x h;
  meets = λ place x h. h;
  connects = λ x h. refl;
  write_fails = λ x h. h;
  read_fails = λ x h. h;
  read_ends = λ x h. h;
  goes = λ x h. h;
  write_ends = λ x h. h;
  closes = λ x h. h;
}
  where
    active : (d : Dir) (time : ℕ) (x : PlainSide) → x.connecting ≡ false → (active_at time d x).connecting ≡ false
    active dir.Read time x h = h
    active dir.Write time x h = h

    expires : (d : Dir) (x : PlainSide) → x.connecting ≡ false → (expire d x).connecting ≡ false
    expires dir.Read x h = h
    expires dir.Write x h = h

-- an end that an entry connects was connecting, and is so no more
connected-told : (g : Settings) (t : Trace) (x : Stage) (s : Plain) (y : Entry) (bytes : List ℕ) (new : State) (z : SideId) →
    length s.sides ≡ 2 * s.opened → Puts g t x s y bytes new → connected_by z (y, bytes) ≡ true →
    (is_connecting s z ≡ true) × ((side_at new.plain z).connecting ≡ false)
connected-told g t (Closing (c ∷ cs)) s y bytes new z size h k = calm c y (closed-kind g (past g t) s c y h.0) k
  where
    calm : (c : CloseStep) (y : Entry) → ClosedKind g (past g t) s c y → connected_by z (y, bytes) ≡ true →
        (is_connecting s z ≡ true) × ((side_at new.plain z).connecting ≡ false)
    calm c y (ClosedKind.faulty a b) k = absurd (cc)
    calm c y (ClosedKind.write_ended a b) k = absurd (cc)
    calm c y (ClosedKind.in_done a b d e) k = absurd (cc)
    calm c y (ClosedKind.out_done) k = absurd (cc)
    calm c y (ClosedKind.peer_gone a b d) k = absurd (cc)
    calm c y (ClosedKind.shut a b) k = absurd (cc)
connected-told g t (Freeing gone x rs) s y bytes new z size h k =
    absurd (let no : connected_by z (y, bytes) ≡ false = subst (λ v. connected_by z (v, bytes) ≡ false) (sym h.0) refl in cc)
connected-told g t (Serving (m ∷ ms)) s (entry.Conn side conn.Connected) bytes new z size h k =
    let is = same_end-eq side z k in
    let connecting : is_connecting s side ≡ true = ap (is_connecting s) h.0 ∙ call-connect g t s m h.1 in
    let live = (and_parts (side_at s side).live (side_at s side).connecting connecting).0 in (
      ap (is_connecting s) (sym is) ∙ connecting,
      ap (λ v. (side_at v.plain z).connecting) h.3
          ∙ ap (λ v. (side_at v z).connecting) (raised g side why.Connected (change_side side (λ x. record x { connecting = false }) s)).1
          ∙ ap (λ x. x.connecting)
          (side_at-same side z (λ x. record x { connecting = false }) s
          (let a = number-lt side s.opened (live-there s side size live) in omega (arith, a, size)) k),
    )
connected-told g t (Serving (m ∷ ms)) s (entry.Conn side conn.Pending) bytes new z size h k = absurd (cc)
connected-told g t (Serving (m ∷ ms)) s (entry.Conn side conn.Failed) bytes new z size h k = absurd (cc)
connected-told g t (Serving []) s (entry.Conn side answer) bytes new z size h k = absurd h
connected-told g t (Wanting (w ∷ ws)) s (entry.Conn side answer) bytes new z size h k = absurd h
connected-told g t (Wanting []) s (entry.Conn side answer) bytes new z size h k = absurd h
connected-told g t (Marking (w ∷ ws) marks) s (entry.Conn side answer) bytes new z size h k = absurd h
connected-told g t (Marking [] marks) s (entry.Conn side answer) bytes new z size h k = absurd h
connected-told g t (Dispatching (v ∷ rs)) s (entry.Conn side answer) bytes new z size h k = absurd h
connected-told g t (Dispatching []) s (entry.Conn side answer) bytes new z size h k = absurd h
connected-told g t (Closing []) s (entry.Conn side answer) bytes new z size h k = absurd h
connected-told g t _ s (entry.Conn side answer) bytes new z size h k = absurd h
connected-told g t _ s _ bytes new z size h k = absurd (cc)

module _ (g : Settings) (none : HasNoHooks g) where
  put-connects : (t : Trace) (s : State) → Reaches g t s → (y : Entry) (bytes : List ℕ) (new : State) →
      Puts g t s.stage s.plain y bytes new → (z : SideId) →
      one_where (connected_by z (y, bytes)) + left_to_connect new.plain z ≤ left_to_connect s.plain z
  put-connects t s r y bytes new h z = go (connected_by z (y, bytes)) refl
    where
      size : length s.plain.sides ≡ 2 * s.plain.opened
      size = (kept g t s r).counts.shape.sides

      shape : ShapeBy (y, bytes) s.plain new.plain
      shape = shape-puts g t s.stage s.plain y bytes new h

      go : (b : Bool) → connected_by z (y, bytes) ≡ b → one_where b + left_to_connect new.plain z ≤ left_to_connect s.plain z
      go true e =
          let told = connected-told g t s.stage s.plain y bytes new z size h e in
          let parts = and_parts (side_at s.plain z).live (side_at s.plain z).connecting told.0 in
          let lt = live-there s.plain z size parts.0 in
          let grown = shape.opened in
          let was = left_to_connect-opened s.plain z lt ∙ ap one_where parts.1 in
          let now = left_to_connect-opened new.plain z (omega (arith, lt, grown)) ∙ ap one_where told.1 in
          omega (arith, was, now)
      go false e = elim (cases_lt z.link s.plain.opened) [
        | inr ge ↦ (let was = left_to_connect-later s.plain z ge in let now = left_to_connect-most new.plain z in omega (arith, was, now))
        | inl lt ↦ by_flag lt (side_at s.plain z).connecting refl
      ]
        where
          by_flag : z.link < s.plain.opened → (b : Bool) → (side_at s.plain z).connecting ≡ b →
              0 + left_to_connect new.plain z ≤ left_to_connect s.plain z
          by_flag lt true e =
              let was = left_to_connect-opened s.plain z lt ∙ ap one_where e in
              let now = left_to_connect-most new.plain z in
              omega (arith, was, now)
          by_flag lt false e =
              let stays = put-holds g (λ x. x.connecting ≡ false) decided-kept z t s.plain s.stage (y, bytes) new
              (asleep g t s none r) size lt
              (put-kind g t s.stage s.plain y bytes new (kept g t s r).placed h) e in
              let grown = shape.opened in
              let now = left_to_connect-opened new.plain z (omega (arith, lt, grown)) ∙ ap one_where stays in
              omega (arith, now)

  -- along a run, each time that an end is connected takes one from what is left of that
  pub connects-once : (t : Trace) (s : State) → Reaches g t s → (u : Trace) (new : State) → Leads g t s u new → (z : SideId) →
      count_by (connected_by z) u + left_to_connect new.plain z ≤ count_by (connected_by z) t + left_to_connect s.plain z
  connects-once t s r u new (Leads.stays) z = omega arith
  connects-once t s r u new (Leads.goes {mid = mid} way h) z =
      let before = connects-once t s r u mid way z in
      let k = kept-quietly g u mid.stage mid.plain new h in
      let same : left_to_connect new.plain z ≡ left_to_connect mid.plain z =
      λ i. if nat_lt z.link (k.opened i) then one_where (k.sides z i).connecting else 1 in
      omega (arith, before, same)
  connects-once t s r w new (Leads.puts {u = u} {mid = mid} y bytes way h) z =
      let before = connects-once t s r u mid way z in
      let one = put-connects u mid (reaches-on g t s r u mid way) y bytes new h z in
      let counted = count-push (connected_by z) u (y, bytes) in
      omega (arith, before, one, counted)
