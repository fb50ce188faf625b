-- What is replayed is reached.
use Rattle.std.proofs.Common.{◌≡◌, ℕ, zero, suc, List, [], ◌∷◌, ◌++◌, Option, Some, None, option_map, refl, sym, subst, append_assoc}
use Rattle.std.proofs.lemmas.List.{append-nil}
use Rattle.ev_types.specs.Trace.{Event, Trace}
use Rattle.relay_model.specs.Settings.{Settings}
use Rattle.relay_model.specs.Plain.{Plain}
use Rattle.relay_model.specs.Stages.{State, at, start}
use Rattle.relay_model.specs.Turn.{Reaches}
use Rattle.relay_rows.specs.Put.{put}
use Rattle.relay_rows.specs.Quiet.{quiet}
use Rattle.relay_rows.specs.Replay.{most_silent, step_within, step, replay_from, replay, rest_within, rest}
use Rattle.relay_rows.specs.Laws.{ReplayedIsReached, RestIsReached}
use Rattle.relay_rows.proofs.PutLemmas.{put-is}
use Rattle.relay_rows.proofs.QuietLemmas.{quiet-is}

step_within-is : (n : ℕ) (g : Settings) (t : Trace) (x : State) (e : Event) (new : State) → Reaches g t x → step_within n g t x e ≡
    Some new → Reaches g (t ++ e ∷ []) new
step_within-is zero g t x e new r h = absurd (cc)
step_within-is (suc n) g t x e new r h =
    put_at (put g t x.stage x.plain e.0 e.1) refl (λ mid reached. step_within-is n g t mid e new reached) h
  where
    More : Type 0
    More = (mid : State) → Reaches g t mid → step_within n g t mid e ≡ Some new → Reaches g (t ++ e ∷ []) new

    quiet_at : (q : Option State) → quiet g t x.stage x.plain ≡ q → More → elim q [
      | Some mid ↦ step_within n g t mid e
      | None
          ↦ None
    ] ≡ Some new → Reaches g (t ++ e ∷ []) new
    quiet_at None q more h = absurd (cc)
    quiet_at (Some mid) q more h = more mid (Reaches.goes r (quiet-is g t x.stage x.plain mid q)) h

    put_at : (p : Option State) → put g t x.stage x.plain e.0 e.1 ≡ p → More →
        elim p [
          | Some mid ↦ Some mid
          | None ↦ elim (quiet g t x.stage x.plain) [ Some mid ↦ step_within n g t mid e | None ↦ None ]
        ] ≡ Some new → Reaches g (t ++ e ∷ []) new
    put_at (Some mid) p more h =
        let same : mid ≡ new = cc in
        subst (λ s. Reaches g (t ++ e ∷ []) s) same (Reaches.puts e.0 e.1 r (put-is g t x.stage x.plain e.0 e.1 mid p))
    put_at None p more h = quiet_at (quiet g t x.stage x.plain) refl more h

replay_from-is : (es : List Event) (g : Settings) (t : Trace) (x new : State) → Reaches g t x → replay_from g t x es ≡ Some new →
    Reaches g (t ++ es) new
replay_from-is [] g t x new r h =
    let same : x ≡ new = cc in
    subst (λ u. Reaches g u new) (sym (append-nil t)) (subst (λ s. Reaches g t s) same r)
replay_from-is (e ∷ es) g t x new r h =
    step_at (step g t x e) refl (λ mid reached. replay_from-is es g (t ++ e ∷ []) mid new reached) h
  where
    More : Type 0
    More = (mid : State) → Reaches g (t ++ e ∷ []) mid → replay_from g (t ++ e ∷ []) mid es ≡ Some new → Reaches g ((t ++ e ∷ []) ++ es) new

    step_at : (m : Option State) → step g t x e ≡ m → More → elim m [ Some mid ↦ replay_from g (t ++ e ∷ []) mid es | None ↦ None ]
        ≡ Some new → Reaches g (t ++ e ∷ es) new
    step_at None m more h = absurd (cc)
    step_at (Some mid) m more h =
        subst (λ u. Reaches g u new) (append_assoc t (e ∷ []) es) (more mid (step_within-is most_silent g t x e mid r m) h)

pub replay-is : ReplayedIsReached
replay-is g t x h = replay_from-is t g [] start x Reaches.begins h

rest_within-is : (n : ℕ) (g : Settings) (t : Trace) (x new : State) → Reaches g t x → rest_within n g t x ≡ Some new → Reaches g t new
rest_within-is zero g t x new r h = absurd (cc)
rest_within-is (suc n) g t x new r h =
    quiet_at (quiet g t x.stage x.plain) refl (λ mid reached. rest_within-is n g t mid new reached) h
  where
    More : Type 0
    More = (mid : State) → Reaches g t mid → rest_within n g t mid ≡ Some new → Reaches g t new

    quiet_at : (q : Option State) → quiet g t x.stage x.plain ≡ q → More → elim q [
      | Some mid ↦ rest_within n g t mid
      | None ↦ Some
          x
    ] ≡ Some new → Reaches g t new
    quiet_at None q more h = let same : x ≡ new = cc in subst (λ s. Reaches g t s) same r
    quiet_at (Some mid) q more h = more mid (Reaches.goes r (quiet-is g t x.stage x.plain mid q)) h

rest-is : (g : Settings) (t : Trace) (new : State) → rest g t ≡ Some new → Reaches g t new
rest-is g t new h = replay_at (replay g t) refl h
  where
    replay_at : (m : Option State) → replay g t ≡ m → elim m [ Some x ↦ rest_within most_silent g t x | None ↦ None ] ≡ Some new →
        Reaches g t new
    replay_at None m h = absurd (cc)
    replay_at (Some x) m h = rest_within-is most_silent g t x new (replay-is g t x m) h

pub stage_after-is : RestIsReached
stage_after-is g t x h = rest_at (rest g t) refl h
  where
    rest_at : (m : Option State) → rest g t ≡ m → option_map (λ s. s.stage) m ≡ Some x → (s : Plain) × Reaches g t (at x s)
    rest_at None m h = absurd (cc)
    rest_at (Some s) m h =
        let same : s.stage ≡ x = cc in
        (s.plain, subst (λ y. Reaches g t (at y s.plain)) same (rest-is g t s m))
