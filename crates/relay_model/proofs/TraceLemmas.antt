-- What a trace with events at its end says of an end.
use Rattle.std.proofs.Common.{◌≡◌, Bool, true, false, ◌||◌, [], ◌∷◌, ◌++◌, refl, ◌∙◌, ap}
use Rattle.std.proofs.lemmas.List.{append-nil}
use Rattle.std.proofs.lemmas.Grind.{flat_map-append}
use Rattle.std.proofs.lemmas.List.Folds.{list_any-append}
use Rattle.ev_types.specs.declared.side.SideId.{SideId}
use Rattle.ev_types.specs.Trace.{Event, Trace}
use Rattle.relay_model.specs.Trace.{read_by, given_by, ended_by, told_moved_by, told_given_by, write_closed_by, bytes_read, bytes_given}
use Rattle.relay_model.specs.Trace.{has_ended, moved_at_free, given_at_free, is_write_closed}

pub bytes_read-append : (e : SideId) (t u : Trace) → bytes_read e (t ++ u) ≡ bytes_read e t ++ bytes_read e u
bytes_read-append e t u = flat_map-append (read_by e) t u

pub bytes_given-append : (e : SideId) (t u : Trace) → bytes_given e (t ++ u) ≡ bytes_given e t ++ bytes_given e u
bytes_given-append e t u = flat_map-append (given_by e) t u

pub has_ended-append : (e : SideId) (t u : Trace) → has_ended e (t ++ u) ≡ (has_ended e t || has_ended e u)
has_ended-append e t u = list_any-append (ended_by e) t u

pub moved_at_free-append : (e : SideId) (t u : Trace) → moved_at_free e (t ++ u) ≡ moved_at_free e t ++ moved_at_free e u
moved_at_free-append e t u = flat_map-append (told_moved_by e) t u

pub given_at_free-append : (e : SideId) (t u : Trace) → given_at_free e (t ++ u) ≡ given_at_free e t ++ given_at_free e u
given_at_free-append e t u = flat_map-append (told_given_by e) t u

pub is_write_closed-append : (e : SideId) (t u : Trace) → is_write_closed e (t ++ u) ≡ (is_write_closed e t || is_write_closed e u)
is_write_closed-append e t u = list_any-append (write_closed_by e) t u

-- the same for one event

pub bytes_read-push : (e : SideId) (t : Trace) (x : Event) → bytes_read e (t ++ x ∷ []) ≡ bytes_read e t ++ read_by e x
bytes_read-push e t x = bytes_read-append e t (x ∷ []) ∙ ap (λ z. bytes_read e t ++ z) (append-nil (read_by e x))

pub bytes_given-push : (e : SideId) (t : Trace) (x : Event) → bytes_given e (t ++ x ∷ []) ≡ bytes_given e t ++ given_by e x
bytes_given-push e t x = bytes_given-append e t (x ∷ []) ∙ ap (λ z. bytes_given e t ++ z) (append-nil (given_by e x))

pub moved_at_free-push : (e : SideId) (t : Trace) (x : Event) → moved_at_free e (t ++ x ∷ []) ≡ moved_at_free e t ++ told_moved_by e x
moved_at_free-push e t x = moved_at_free-append e t (x ∷ []) ∙ ap (λ z. moved_at_free e t ++ z) (append-nil (told_moved_by e x))

pub given_at_free-push : (e : SideId) (t : Trace) (x : Event) → given_at_free e (t ++ x ∷ []) ≡ given_at_free e t ++ told_given_by e x
given_at_free-push e t x = given_at_free-append e t (x ∷ []) ∙ ap (λ z. given_at_free e t ++ z) (append-nil (told_given_by e x))

or_no : (a b : Bool) → (a || (b || false)) ≡ (a || b)
or_no true b = refl
or_no false true = refl
or_no false false = refl

pub has_ended-push : (e : SideId) (t : Trace) (x : Event) → has_ended e (t ++ x ∷ []) ≡ (has_ended e t || ended_by e x)
has_ended-push e t x = has_ended-append e t (x ∷ []) ∙ or_no (has_ended e t) (ended_by e x)

pub is_write_closed-push : (e : SideId) (t : Trace) (x : Event) → is_write_closed e (t ++ x ∷ []) ≡
    (is_write_closed e t || write_closed_by e x)
is_write_closed-push e t x = is_write_closed-append e t (x ∷ []) ∙ or_no (is_write_closed e t) (write_closed_by e x)
