-- What is due by number is what the relay's model has due by side, call by call and over any calls.
use Rattle.std.specs.Prelude.{◌≡◌, List, [], ◌∷◌, ◌++◌, Option}
use Rattle.std.specs.Option.{option_to_list}
use Rattle.ev_types.specs.declared.side.SideId.{SideId}
use Rattle.ev_types.specs.declared.why.Why.{Why}
use Rattle.ev_types.specs.Sides.{number}
use Rattle.deferred_cb.specs.DueValue.{DueValue}
use Rattle.deferred_cb.specs.DueCalls as by_number
use Rattle.relay_model.specs.Due.{Due, Reason, with_reason, without_due, without_reasons, batch}
use Rattle.relay_waits.specs.DueSides.{dues, left_to_call}

-- a reason that becomes due for a side's number becomes due for the side
abbrev pub ReasonsJoin : Type 0
ReasonsJoin = (e : SideId) (y : Why) (es : List by_number.Entry) → dues (by_number.with_reason (number e) y es) ≡ with_reason e y (dues es)

-- what is dropped for a side's number is dropped for the side, of the pending entries and of the batch
abbrev pub SidesAreForgotten : Type 0
SidesAreForgotten = (e : SideId) (es : List by_number.Entry) (calls : List by_number.Call) →
    (dues (by_number.without (number e) es) ≡ without_due e (dues es))
    × (left_to_call (by_number.without_calls (number e) calls) ≡ without_reasons e (left_to_call calls))

-- the calls of a batch are the reasons that a turn of the model fires
abbrev pub BatchesAreFired : Type 0
BatchesAreFired = (es : List by_number.Entry) → left_to_call (by_number.all_calls es) ≡ batch (dues es)

-- a call on what is due
pub data DueCall : Type 0 where
  Scheduled : SideId → Why → DueCall
  Forgot : SideId → DueCall
  Began : DueCall
  TookTurn : Option by_number.Call → DueCall  -- with its answer

-- What a call does to what is due by number: these are its clauses.
abbrev pub DoesCall : DueCall → DueValue → DueValue → Type 0
DoesCall (DueCall.Scheduled e y) old new = (new.pending ≡ by_number.with_reason (number e) y old.pending) × (new.batch ≡ old.batch)
DoesCall (DueCall.Forgot e) old new =
    (new.pending ≡ by_number.without (number e) old.pending) × (new.batch ≡ by_number.without_calls (number e) old.batch)
DoesCall DueCall.Began old new = (new.pending ≡ []) × (new.batch ≡ by_number.all_calls old.pending)
DoesCall (DueCall.TookTurn answer) old new = (new.pending ≡ old.pending) × (old.batch ≡ option_to_list answer ++ new.batch)

-- the model's pending entries and what it has to fire
pub record Waiting : Type 0 where
  pub due : List Due
  pub left : List Reason

-- what the model sees
abbrev pub seen_by_side : DueValue → Waiting
seen_by_side d = record { due = dues d.pending; left = left_to_call d.batch }

-- What a call does in the model
abbrev pub MayLead : DueCall → Waiting → Waiting → Type 0
MayLead (DueCall.Scheduled e y) old new = new ≡ record old { due = with_reason e y old.due }
MayLead (DueCall.Forgot e) old new = new ≡ record { due = without_due e old.due; left = without_reasons e old.left }
MayLead DueCall.Began old new = new ≡ record { due = []; left = batch old.due }
MayLead (DueCall.TookTurn answer) old new = (new.due ≡ old.due) × (old.left ≡ left_to_call (option_to_list answer) ++ new.left)

-- calls in a row, by number and in the model
abbrev pub DoAll : List DueCall → DueValue → DueValue → Type 0
DoAll [] old new = old ≡ new
DoAll (c ∷ cs) old new = (mid : DueValue) × DoesCall c old mid × DoAll cs mid new

abbrev pub LeadOn : List DueCall → Waiting → Waiting → Type 0
LeadOn [] old new = old ≡ new
LeadOn (c ∷ cs) old new = (mid : Waiting) × MayLead c old mid × LeadOn cs mid new

-- Whatever calls are made, what is pending and what the batch has left is what the model has due and has to fire.
abbrev pub DueIsTheModels : Type 0
DueIsTheModels = (calls : List DueCall) (old new : DueValue) → DoAll calls old new → LeadOn calls (seen_by_side old) (seen_by_side new)
