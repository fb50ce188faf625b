-- The laws that every port owes, of a script port. Each port proves them, so their proofs stand here.
use Rattle.std.specs.Prelude.{◌≡◌, ◌+◌, ◌≤◌, Bool, true, false, ◌||◌, if◌then◌else◌, [], ◌∷◌, ◌++◌, length, take, drop, count_by}
use Rattle.std.specs.Prelude.{refl}
use Rattle.std.specs.List.{flat_map, list_any}
use Rattle.std.proofs.Common.{subst, sym, ap, ◌∙◌, append_assoc}
use Rattle.std.proofs.lemmas.Bool.{false≢true}
use Rattle.std.proofs.lemmas.List.Sums.{sum_by-cons}
use Rattle.ev_types.specs.declared.entry.Entry.{Entry}
use Rattle.ev_types.specs.declared.entry.Entry.TheVariants as entry
use Rattle.ev_types.specs.ScriptTurn.{lines_of}
use Rattle.ev_types.specs.Trace.{Event, Trace}
use Rattle.relay_model.specs.RatesKept.{is_turn}
use Rattle.relay_model.specs.Totals.{is_opened}
use Rattle.relay_model.specs.Lines.{links_by}
use Rattle.ev_port.specs.Vouching.{LongerBy, tells_links, TellsNoLinks}
use Rattle.ev_port.specs.Calls.{IsUnheard}
use Rattle.script_port.specs.ScriptState.{PortState}
use Rattle.script_port.specs.ScriptPlan.{ScriptPlan, closings, IsCalledBy}
use Rattle.script_port.specs.ScriptVouched.{PortStands, ScriptVouches, NoneWaits}

-- What no port answers changes nothing of what is vouched for.
pub unheard_vouched : (p : PortState) (x : Entry) → IsUnheard x → LongerBy (ScriptVouches p) (ScriptVouches p) ((x, []) ∷ [])
unheard_vouched p x h = λ plan t vouched. record {
  turns = vouched.turns;
  closing = vouched.closing;
  step = vouched.step;
  stands = λ own unheard.
      subst (λ z. IsCalledBy plan z → PortStands p plan.step z) (sym (append_assoc t ((x, []) ∷ []) own))
      (vouched.stands ((x, []) ∷ own) (h, refl, unheard));
}

-- No turn begins and no link is opened in entries that tell of none.
none_counted : (p : Event → Bool) → ((x : Event) → tells_links x ≡ false → p x ≡ false) → (u : Trace) → TellsNoLinks u → count_by p u ≡ 0
none_counted p h [] none = refl
none_counted p h (x ∷ u) none = by_test (λ k. none_counted p h u k) (tells_links x) refl none
  where
    by_test : (TellsNoLinks u → count_by p u ≡ 0) → (b : Bool) → tells_links x ≡ b → (b || list_any tells_links u) ≡ false → count_by p (x ∷ u) ≡ 0
    by_test rest true e k = absurd (false≢true (sym k))
    by_test rest false e k =
        sum_by-cons (λ y. if p y then 1 else 0) x u ∙ ap (λ b. (if b then 1 else 0) + count_by p u) (h x e) ∙ ap (λ n. 0 + n) (rest k)

same_count : (p : Event → Bool) → ((x : Event) → tells_links x ≡ false → p x ≡ false) → (t u : Trace) → TellsNoLinks u → count_by p (t ++ u) ≡ count_by p t
same_count p h [] u none = none_counted p h u none
same_count p h (x ∷ t) u none =
    sum_by-cons (λ y. if p y then 1 else 0) x (t ++ u) ∙ ap (λ n. (if p x then 1 else 0) + n) (same_count p h t u none)
    ∙ sym (sum_by-cons (λ y. if p y then 1 else 0) x t)

no_turn : (x : Event) → tells_links x ≡ false → is_turn x ≡ false
no_turn (entry.Turn ms, bytes) h = absurd (false≢true (sym h))
no_turn _ h = refl

no_link : (x : Event) → tells_links x ≡ false → is_opened x ≡ false
no_link (entry.Opened link connected, bytes) h = absurd (false≢true (sym h))
no_link _ h = refl

-- Where no link waits, none does behind such entries.
pub waits_no_more : (plan : ScriptPlan) (t u : Trace) → TellsNoLinks u → NoneWaits plan t → NoneWaits plan (t ++ u)
waits_no_more plan t u none waits = λ asked.
    let begun = same_count is_turn no_turn t u none in
    let opens = same_count is_opened no_link t u none in
    let before : IsCalledBy plan t = record {
      lines = asked.lines;
      turns_left = subst (λ n. n ≤ length (plan.turns ++ closings plan.closing)) begun asked.turns_left;
      in_order = λ before after link connected bytes is.
          asked.in_order before (after ++ u) link connected bytes (ap (λ z. z ++ u) is ∙ append_assoc before ((entry.Opened link connected, bytes) ∷ after) u);
    } in
    (λ i. drop (opens i) (flat_map links_by (lines_of (take (begun i) plan.turns)))) ∙ waits before
