-- A pass of a link, as the phase of passing has it.
use Rattle.std.proofs.Common.{◌≡◌, ℕ, Bool, [], ◌∷◌, inl, inr, refl, ap, ◌∙◌, Result, Ok, Err, MatchResult}
use Rattle.ev_types.specs.declared.side.SideId.{SideId}
use Rattle.relay_state.specs.State.{State}
use Rattle.relay_state.specs.Passage.{Passage}
use Rattle.relay_state.specs.Passing.{with_passage}
use Rattle.relay_state.specs.Closing.{in_side, out_side}
use Rattle.relay_core.specs.BothPassed.{PassedBoth, PartlyPassedBoth}
use Rattle.relay_drive.specs.PassPhase.{PassesLink, CutPassingLink}

module _ (s new : State) (link : ℕ) where
  pub link_went : (changed : Bool) → PassedBoth s link changed new → PassesLink link s [] new
  link_went changed p = record {
    middle = p.0;
    front = [];
    back = [];
    first = (refl, p.1);
    second = record {
      middle = new;
      front = [];
      back = [];
      first = (refl, p.2);
      second = (refl, refl);
      joined = refl;
    };
    joined = refl;
  }

  pub link_cut : PartlyPassedBoth s link new → CutPassingLink link s [] new
  link_cut p = elim p [
    | inl q ↦ record {
      front = [];
      last = in_side link;
      back = out_side link ∷ [];
      all = refl;
      went = record {
        middle = s;
        front = [];
        back = [];
        first = (refl, refl);
        second = (refl, q);
        joined = refl;
      };
    }
    | inr q ↦ record {
      front = in_side link ∷ [];
      last = out_side link;
      back = [];
      all = refl;
      went = record {
        middle = q.0;
        front = [];
        back = [];
        first = record {
          middle = q.0;
          front = [];
          back = [];
          first = (refl, q.1);
          second = (refl, refl);
          joined = refl;
        };
        second = (refl, q.2);
        joined = refl;
      };
    }
  ]

  -- what passing a direction leaves, passing a link leaves
  pub link_keeps : {T : Type 0} (f : State → T) → ((e : SideId) (x : Passage) (z : State) → f (with_passage e x z) ≡ f z) →
      (E : Type 0) (result : Result Bool E) →
      MatchResult result (λ changed. PassedBoth s link changed new) (λ _. PartlyPassedBoth s link new) → f new ≡ f s
  link_keeps f same E (Ok b) p =
      ap f p.2.2 ∙ same (out_side link) p.2.0 p.0 ∙ ap f p.1.2 ∙ same (in_side link) p.1.0 s
  link_keeps f same E (Err x) p = elim p [
    | inl q ↦ ap f q.2 ∙ same (in_side link) q.0 s
    | inr q ↦ ap f q.2.2 ∙ same (out_side link) q.2.0 q.0 ∙ ap f q.1.2 ∙ same (in_side link) q.1.0 s
  ]
