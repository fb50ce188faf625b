-- What the stage of a turn names is there: links that were opened, and live sides where they must be.
use Rattle.std.proofs.Common.{◌≡◌, ℕ, zero, suc, ◌+◌, ◌-◌, ◌*◌, ◌<◌, ◌≤◌, min, Bool, true, false, ◌&&◌, ◌||◌, not, if◌then◌else◌, List, []}
use Rattle.std.proofs.Common.{◌∷◌, length, ◌⊎◌, inl, inr, refl, ap, arith, map}
use Rattle.std.specs.Prelude.{⊤, nat_le, filter}
use Rattle.std.specs.List.{AllByRecursion}
use Rattle.std.proofs.lemmas.Bool.{and_parts, or_cases, cases_lt}
use Rattle.std.proofs.lemmas.List.{get_or_past}
use Rattle.token_bucket.specs.declared.limit.Dir.{Dir}
use Rattle.token_bucket.specs.declared.limit.Dir.TheVariants as dir
use Rattle.ev_types.specs.declared.side.SideId.{SideId}
use Rattle.ev_types.specs.Sides.{number, peer}
use Rattle.relay_model.specs.Settings.{Settings}
use Rattle.relay_model.specs.Plain.{Plain, no_side, side_at, is_live, all_sides}
use Rattle.relay_model.specs.Past.{Past}
use Rattle.relay_model.specs.Rooms.{Want, want_of, wanted, wants, may_read, may_write, read_room, write_room, is_connecting, within_rates}
use Rattle.relay_model.specs.Rooms.{read_mark, input_length, raw_output_at, most_at_once}
use Rattle.relay_model.specs.Close.{CloseStep, closing_from}
use Rattle.relay_model.specs.Stages.{Stage, Wanting, Marking, Firing, Freeing, Closing}
use Rattle.relay_model.proofs.EndLemmas.{number-ge}

-- a side that lives is one of an opened link
pub live-there : (s : Plain) (e : SideId) → length s.sides ≡ 2 * s.opened → is_live s e ≡ true → e.link < s.opened
live-there s e size h = go (cases_lt e.link s.opened)
  where
    go : (e.link < s.opened) ⊎ (s.opened ≤ e.link) → e.link < s.opened
    go (inl lt) = lt
    go (inr ge) = absurd (
        let past : side_at s e ≡ no_side = get_or_past s.sides (number e) no_side (omega (arith, number-ge e s.opened ge)) in
        let gone : is_live s e ≡ false = ap (λ x. x.live) past in cc)

-- what a side that may read is
pub record MayRead (s : Plain) (e : SideId) : Type 0 where
  pub live : is_live s e ≡ true
  pub reads : (side_at s e).reads ≡ true
  pub ended : not (side_at s e).ended ≡ true
  pub peer_live : is_live s (peer e) ≡ true

pub may_read-parts : (s : Plain) (e : SideId) → may_read s e ≡ true → MayRead s e
may_read-parts s e h =
    let x = side_at s e in
    let a = and_parts (x.live && not x.connecting && x.reads && not x.ended && not x.failed) (is_live s (peer e)) h in
    let b = and_parts (x.live && not x.connecting && x.reads && not x.ended) (not x.failed) a.0 in
    let c = and_parts (x.live && not x.connecting && x.reads) (not x.ended) b.0 in
    let d = and_parts (x.live && not x.connecting) x.reads c.0 in
    record { live = (and_parts x.live (not x.connecting) d.0).0; reads = d.1; ended = c.1; peer_live = a.1 }

pub may_write-live : (s : Plain) (e : SideId) → may_write s e ≡ true → is_live s e ≡ true
may_write-live s e h =
    let x = side_at s e in
    let a = and_parts (x.live && not x.connecting && x.writes && not x.failed) (not x.write_ended) h in
    let b = and_parts (x.live && not x.connecting && x.writes) (not x.failed) a.0 in
    let c = and_parts (x.live && not x.connecting) x.writes b.0 in
    (and_parts x.live (not x.connecting) c.0).0

pub room-read : (g : Settings) (p : Past) (s : Plain) (e : SideId) → nat_le 1 (read_room g p s e) ≡ true → may_read s e ≡ true
room-read g p s e h = go (may_read s e) refl h
  where
    go : (b : Bool) → may_read s e ≡ b → nat_le 1 (if b then within_rates g p s e dir.Read
        (min most_at_once (read_mark s e - input_length g p s e)) else 0) ≡ true → may_read s e ≡ true
    go true e h = e
    go false e h = absurd (cc)

pub room-write : (g : Settings) (p : Past) (s : Plain) (e : SideId) → nat_le 1 (write_room g p s e) ≡ true → may_write s e ≡ true
room-write g p s e h = go (may_write s e) refl h
  where
    go : (b : Bool) → may_write s e ≡ b → nat_le 1 (if b then within_rates g p s e dir.Write
        (min most_at_once (length (raw_output_at g p s e))) else 0) ≡ true → may_write s e ≡ true
    go true e h = e
    go false e h = absurd (cc)

pub connecting-live : (s : Plain) (e : SideId) → is_connecting s e ≡ true → is_live s e ≡ true
connecting-live s e h = (and_parts (side_at s e).live (side_at s e).connecting h).0

pub wants-live : (g : Settings) (p : Past) (s : Plain) (e : SideId) (d : Dir) → wants g p s e d ≡ true → is_live s e ≡ true
wants-live g p s e dir.Read h = (may_read-parts s e (room-read g p s e h)).live
wants-live g p s e dir.Write h = go (or_cases (nat_le 1 (write_room g p s e)) (is_connecting s e && not (side_at s e).failed) h)
  where
    go : (nat_le 1 (write_room g p s e) ≡ true) ⊎ ((is_connecting s e && not (side_at s e).failed) ≡ true) → is_live s e ≡ true
    go (inl k) = may_write-live s e (room-write g p s e k)
    go (inr k) = connecting-live s e (and_parts (is_connecting s e) (not (side_at s e).failed) k).0

-- of the wants, each is that of a live side
abbrev pub AllLive : Plain → List Want → Type 0
AllLive s ws = AllByRecursion (λ w. is_live s w.side ≡ true) ws

abbrev some : Want → Bool
some w = w.read || w.write

pub wanted-live : (g : Settings) (p : Past) (s : Plain) → AllLive s (wanted g p s)
wanted-live g p s = go (all_sides s)
  where
    one : (e : SideId) → (wants g p s e dir.Read ≡ true) ⊎ (wants g p s e dir.Write ≡ true) → is_live s e ≡ true
    one e (inl k) = wants-live g p s e dir.Read k
    one e (inr k) = wants-live g p s e dir.Write k

    keep : (e : SideId) (rest : List Want) → AllLive s rest → (b : Bool) → some (want_of g p s e) ≡ b → AllLive s
        (if b then want_of g p s e ∷ rest else rest)
    keep e rest h true k = (one e (or_cases (wants g p s e dir.Read) (wants g p s e dir.Write) k), h)
    keep e rest h false k = h

    go : (es : List SideId) → AllLive s (filter some (map (want_of g p s) es))
    go [] = tt
    go (e ∷ es) = keep e (filter some (map (want_of g p s) es)) (go es) (some (want_of g p s e)) refl

-- the link that a step of closing looks at
abbrev pub link_of : CloseStep → ℕ
link_of (CloseStep.Faulty e) = e.link
link_of (CloseStep.EndWriting e) = e.link
link_of (CloseStep.BothDone k) = k
link_of (CloseStep.OutDone k) = k
link_of (CloseStep.PeerGone e) = e.link
link_of (CloseStep.Shut e) = e.link

abbrev pub AllOpened : ℕ → List CloseStep → Type 0
AllOpened n cs = AllByRecursion (λ c. link_of c < n) cs

pub closing-opened : (k left n : ℕ) → k + left ≤ n → AllOpened n (closing_from k left)
closing-opened k zero n h = tt
closing-opened k (suc left) n h =
    let lt : k < n = omega arith in
    (lt, (lt, (lt, (lt, (lt, (lt, (lt, (lt, (lt, closing-opened (k + 1) left n (omega arith))))))))))

-- what a stage names
abbrev pub Placed : Stage → Plain → Type 0
Placed (Wanting ws) s = AllLive s ws
Placed (Marking ws marks) s = AllLive s ws
Placed (Firing x rs) s = x.side.link < s.opened
Placed (Freeing gone x rs) s = (gone.link < s.opened) × (x.side.link < s.opened) × (is_live s gone ≡ false)
Placed (Closing cs) s = AllOpened s.opened cs
Placed _ s = ⊤
