-- A run in which nothing was called but that its port was told to stop accepting, by which the port tells nothing new.
use Rattle.std.proofs.Common.{◌≡◌, ℕ, Bool, List, [], true, false, Option, Some, None, refl, sym, subst, append-nil}
use Rattle.std.specs.Prelude.{⊤, MatchOption, IsSome}
use Rattle.ev_types.specs.declared.side.SideId.{SideId}
use Rattle.ev_types.specs.Growth.{Grew}
use Rattle.ev_types.specs.Told.{EndTold, PortTold, Stays}
use Rattle.ev_types.specs.Trace.{Trace}
use Rattle.ev_port.specs.EndSteps.{AllWent, PortStays, no_step}
use Rattle.ev_port.specs.Faults.{Faults, FaultsStay}
use Rattle.ev_port.specs.declared.port.Port as port
use Rattle.ev_port.specs.declared.scribe.Scribe as scribe
use Rattle.relay_model.specs.Answers.{TurnAnswer}
use Rattle.relay_model.specs.Settings.{Settings}
use Rattle.relay_model.specs.Tied.{IsTied, PortTied, EndTied}
use Rattle.relay_model.proofs.TiedLemmas.{end_ties_join}
use Rattle.relay_drive.specs.Advances.{Heard}
use Rattle.relay_drive.specs.DriveValue.{DriveValue}
use Rattle.relay_drive.specs.Seats.{Telling}
use Rattle.relay_drive.proofs.CalmLemmas.{calm_list}
use Rattle.relay_drive.proofs.GoesLemmas.{Heard-join, Counted-same}
use Rattle.relay_drive.proofs.PortLemmas.{port_calm}
use Rattle.relay_drive.proofs.TiedLemmas.{tied_of}
use Rattle.relay_serve.specs.Seen.{Seen, seen}
use Rattle.relay_serve.specs.Served.{LeavesClosed}
use Rattle.relay_serve.specs.Underway.{PortRests}
use Rattle.relay_serve.proofs.TurnsLemmas.{Standing, AllTold}

-- a port that is tied to a trace stays so
tied-rest : (g : Settings) (began told told' : PortTold) (ends_began ends ends' : SideId → EndTold) (t : Trace) →
    IsTied g began told ends_began ends t → AllWent ends ends' (λ _. no_step) → PortStays told told' →
    IsTied g began told' ends_began ends' t
tied-rest g began told told' ends_began ends ends' t k went stays = record {
  port = subst (λ z. PortTied g began told' z) (append-nil t) (port_calm g began told told' t k.port [] (calm_list [] refl) stays);
  ends = λ e. subst (λ z. EndTied (ends_began e) (ends' e) e z) (append-nil t)
      (end_ties_join e t [] (ends_began e) (ends e) (ends' e) (k.ends e) (tied_of e (ends e) (ends' e) [] (went e)));
}

-- and accepting stands as it did
closed-rest : (o o' : Option Bool) (P : Type 0) → IsSome o → Stays o o' → MatchOption o ⊤ (λ stands. stands ≡ true → P) →
    MatchOption o' ⊤ (λ stands. stands ≡ true → P)
closed-rest None o' P some stays h = absurd (cc)
closed-rest (Some b) o' P some stays h = subst (λ z. MatchOption z ⊤ (λ stands. stands ≡ true → P)) (sym stays) h

leaves-rest : (g : Settings) (began told told' : PortTold) (t : Trace) → PortTied g began told t → PortStays told told' →
    LeavesClosed TurnAnswer.Went g began told t → LeavesClosed TurnAnswer.Went g began told' t
leaves-rest g began told told' t k stays h = λ some is.
    closed-rest told.accepting told'.accepting _ (k.accepting is) stays.accepting (h some is)

-- no fault was counted
heard-rest : (f f' : Faults) → FaultsStay f f' → Heard f f' [] false
heard-rest f f' h = record {
  ends = λ e. Counted-same (f.ends e) (f'.ends e) (h.ends e);
  polling = Counted-same f.polling f'.polling h.polling;
  listener = Counted-same f.listener f'.listener h.listener;
}

-- So a run that stood stands where the port rests, and hooks have told the same.
stands-rest : (g : Settings) (old mid new : Seen) (d : DriveValue) (turns : ℕ) → (k : Standing g old mid d turns) → new.log ≡ mid.log →
    FaultsStay mid.faults new.faults → AllWent mid.ends new.ends (λ _. no_step) → PortStays mid.told new.told → Standing g old new d turns
stands-rest g old mid new d turns k log faults went stays =
    let w = k.0 in (
      record {
        added = w.added;
        list = subst (λ z. Grew old.log z w.added) (sym log) w.list;
        settings = w.settings;
        after = w.after;
        ends = w.ends;
        work = w.work;
        tied = tied-rest g old.told mid.told new.told old.ends mid.ends new.ends w.added w.tied went stays;
        closed = leaves-rest g old.told mid.told new.told w.added w.tied.port stays w.closed;
        heard = subst (λ z. Heard old.faults new.faults z false) (append-nil w.added)
            (Heard-join old.faults mid.faults new.faults w.added [] false false w.heard (heard-rest mid.faults new.faults faults));
      },
      k.1,
      k.2,
    )

pub rests : {P S H : Type 0} (p : port.Ghosts P) (h : scribe.Ghosts S) (tells : Telling H) (first hooks gone : List (Option H))
    (g : Settings) (old : Seen) (d : DriveValue) (was now : P) (s : S) (turns : ℕ) → PortRests p was now →
    (stood : Standing g old (seen p h (was, s)) d turns) × AllTold tells first hooks gone stood.0.added →
    (stood : Standing g old (seen p h (now, s)) d turns) × AllTold tells first hooks gone stood.0.added
unfolding stands-rest
rests p h tells first hooks gone g old d was now s turns r k =
    (stands-rest g old (seen p h (was, s)) (seen p h (now, s)) d turns k.0 refl r.faults r.ends r.told, k.1)
