-- The timeouts that a script sets are numbers of 64 bits, and its hold mark isn't 0.
use Rattle.std.proofs.Common.{◌≡◌, ◌≤◌, ◌<◌, ◌^◌, ℕ, Bool, true, false, ◌&&◌, ◌||◌, not, List, [], ◌∷◌, ◌++◌, length, codes, Option, Some}
use Rattle.std.proofs.Common.{None, Ok, refl, subst, arith, if◌then◌else◌}
use Rattle.std.specs.Prelude.{nat_lt, IfSome, option_map, option_and_then, unwrap_or}
use Rattle.token_bucket.specs.declared.limit.Dir.TheVariants.{Read, Write}
use Rattle.ev_types.specs.declared.filter.FilterKind.{FilterKind}
use Rattle.ev_types.specs.declared.side.Side.{Side}
use Rattle.ev_types.specs.declared.side.Side.TheVariants.{In, Out}
use Rattle.std.proofs.lemmas.Bool.{ltb-true}
use Rattle.std.specs.Str.{bytes_eq}
use Rattle.ev_types.specs.ScriptTurn.{lines_of}
use Rattle.ev_types.specs.declared.turn_line.TurnLine.TheVariants as turn
use Rattle.ev_types.specs.Usual.{usual, no_timeouts}
use Rattle.ev_types.specs.declared.settings.Marks.{Marks}
use Rattle.ev_types.specs.declared.settings.Timeouts.{Timeouts}
use Rattle.script_text.specs.declared.line.Keyword.{Keyword}
use Rattle.script_text.specs.declared.line.Keyword.TheVariants as keyword
use Rattle.script_text.specs.declared.line.Line.{Line}
use Rattle.script_text.specs.declared.line.Line.TheVariants as line
use Rattle.script_text.specs.declared.setting.Setting.{Setting}
use Rattle.script_text.specs.declared.setting.Setting.TheVariants as setting
use Rattle.script_text.specs.declared.setting.SettingName.{SettingName}
use Rattle.script_text.specs.declared.setting.SettingName.TheVariants as name
use Rattle.script_text.specs.declared.setting.Given.{Given}
use Rattle.script_text.specs.Script.{ScriptValue, SoFar, whole}
use Rattle.script_text.specs.Given.{once, with_setting}
use Rattle.script_text.specs.Pieces.{lines}
use Rattle.script_text.specs.Numbers.{number_within, bytes_of}
use Rattle.script_text.specs.FilterNames.{filter_kind_of}
use Rattle.script_text.specs.Ends.{link_of, end_of, side_of}
use Rattle.script_text.specs.Limits.{limit_said}
use Rattle.rate_group.specs.declared.group_set.GroupSet.{GroupSet}
use Rattle.ev_types.specs.declared.plan_line.PlanLine.{PlanLine}
use Rattle.script_text.specs.ValueGrammar.{why_kind_of}
use Rattle.script_text.specs.ActGrammar.{planned_ask}
use Rattle.token_bucket.specs.declared.limit.LimitCfg.{LimitCfg}
use Rattle.script_text.specs.Grammar.{keyword_of, made_of, more_of, of_end, hold_of, side_marks_of, side_timeouts_of, set_by}
use Rattle.script_text.specs.Grammar.{setting_name_of, said_by, is_comment, said}
use Rattle.script_text.specs.GroupsAndPlans.{group_of, group_set_of, hooked_of, nth_of}
use Rattle.script_text.specs.Order.{may_be_set, group_set, may_follow, with_line, extended}
use Rattle.script_text.specs.Spelled.{no_line, script_of}
use Rattle.script_text.proofs.LawLemmas.{script_of-read, decimal-number_within}
use Rattle.relay_laws.specs.Spelling.{TimeoutsFit}
use Rattle.relay_model.specs.Settings.{HoldsSome}
use Rattle.evplay.specs.Headline.{settings_of}
use Rattle.evplay.proofs.ScriptLemmas.{some-is, none-some, keeps-lines}

-- both are below 2^64
abbrev IsShort : Timeouts → Type 0
IsShort t = (t.read_ms < 2 ^ 64) × (t.write_ms < 2 ^ 64)

-- a line sets timeouts that are, or a hold mark above 0
abbrev SetsFit : Line → Type 0
SetsFit (line.Set (setting.Hold n)) = 0 < n
SetsFit (line.Set (setting.Timeouts side timeouts)) = IsShort timeouts
SetsFit _ = Unit {0}

number-most : (most : ℕ) (word : List ℕ) → most < 2 ^ 64 → IfSome (number_within most word) (λ n. n ≤ most)
number-most most word below = go (number_within most word) refl
  where
    go : (o : Option ℕ) → number_within most word ≡ o → IfSome o (λ n. n ≤ most)
    go None h = tt
    go (Some n) h = (decimal-number_within most n word below h).1

timeouts-short : (read write : List ℕ) → IfSome (side_timeouts_of read write) IsShort
timeouts-short read write = go (number_within (2 ^ 40) read) (number_within (2 ^ 40) write) (number-most (2 ^ 40) read (omega arith))
    (number-most (2 ^ 40) write (omega arith))
  where
    go : (a b : Option ℕ) → IfSome a (λ n. n ≤ 2 ^ 40) → IfSome b (λ n. n ≤ 2 ^ 40) →
        IfSome (option_and_then (λ r. option_and_then (λ w. Some (let t : Timeouts = record { read_ms = r; write_ms = w } in t)) b)
        a) IsShort
    go None b h k = tt
    go (Some r) None h k = tt
    go (Some r) (Some w) h k = (omega (arith, h), omega (arith, k))

hold-some : (word : List ℕ) → IfSome (hold_of word) (λ n. 0 < n)
hold-some word = go (number_within (2 ^ 24) word)
  where
    above : (n : ℕ) (b : Bool) → nat_lt 0 n ≡ b → IfSome (if b then Some n else None) (λ m. 0 < m)
    above n true h = ltb-true 0 n h
    above n false h = tt

    go : (o : Option ℕ) → IfSome (option_and_then (λ n. if nat_lt 0 n then Some n else None) o) (λ n. 0 < n)
    go None = tt
    go (Some n) = above n (nat_lt 0 n) refl

set-fits : (named : SettingName) (ws : List (List ℕ)) → IfSome (option_map (λ s. line.Set s) (set_by named ws)) SetsFit
set-fits name.Timeouts (side ∷ r ∷ w ∷ []) = go (side_of side) (side_timeouts_of r w) (timeouts-short r w)
  where
    go : (a : Option Side) (b : Option Timeouts) → IfSome b IsShort →
        IfSome (option_map (λ s. line.Set s) (option_and_then (λ s. option_map (λ t. setting.Timeouts s t) b) a)) SetsFit
    go None b h = tt
    go (Some s) None h = tt
    go (Some s) (Some t) h = h
set-fits name.Hold (bytes ∷ []) = go (hold_of bytes) (hold-some bytes)
  where
    go : (o : Option ℕ) → IfSome o (λ n. 0 < n) → IfSome (option_map (λ s. line.Set s) (option_map (λ n. setting.Hold n) o)) SetsFit
    go None h = tt
    go (Some n) h = h
set-fits name.Marks (side ∷ rl ∷ rh ∷ wl ∷ wh ∷ []) = go (side_of side) (side_marks_of rl rh wl wh)
  where
    go : (a : Option Side) (b : Option Marks) →
        IfSome (option_map (λ s. line.Set s) (option_and_then (λ s. option_map (λ marks. setting.Marks s marks) b) a)) SetsFit
    go None b = tt
    go (Some s) None = tt
    go (Some s) (Some m) = tt
set-fits (name.Filter side dir) (filter ∷ []) = go (filter_kind_of filter)
  where
    go : (o : Option FilterKind) → IfSome (option_map (λ s. line.Set s) (option_map (λ kind. setting.Filter side dir kind) o)) SetsFit
    go None = tt
    go (Some kind) = tt
set-fits name.Rate (side ∷ numbers) = go (side_of side) (limit_said numbers)
  where
    go : (a : Option Side) (b : Option LimitCfg) →
        IfSome (option_map (λ s. line.Set s) (option_and_then (λ s. option_map (λ l. setting.Rate s l) b) a)) SetsFit
    go None b = tt
    go (Some s) None = tt
    go (Some s) (Some l) = tt
set-fits name.Group (number ∷ rr ∷ rb ∷ wr ∷ wb ∷ tick ∷ share ∷ []) = go (group_of number) (group_set_of rr rb wr wb tick share)
  where
    go : (a : Option ℕ) (b : Option GroupSet) →
        IfSome (option_map (λ s. line.Set s) (option_and_then (λ n. option_map (λ x. setting.Group n x) b) a)) SetsFit
    go None b = tt
    go (Some n) None = tt
    go (Some n) (Some x) = tt
set-fits name.Member (side ∷ number ∷ []) = go (side_of side) (group_of number)
  where
    go : (a : Option Side) (b : Option ℕ) →
        IfSome (option_map (λ s. line.Set s) (option_and_then (λ s. option_map (λ n. setting.Member s n) b) a)) SetsFit
    go None b = tt
    go (Some s) None = tt
    go (Some s) (Some n) = tt
set-fits _ _ = tt

within-fits : {A : Type 0} (f : A → Line) → ((x : A) → SetsFit (f x)) → (o : Option A) → IfSome (option_map f o) SetsFit
within-fits f each None = tt
within-fits f each (Some x) = each x

then-fits : {A : Type 0} (f : A → Option Line) → ((x : A) → IfSome (f x) SetsFit) → (o : Option A) → IfSome
    (option_and_then f o) SetsFit
then-fits f each None = tt
then-fits f each (Some x) = each x

if-fits : (b : Bool) (x y : Option Line) → IfSome x SetsFit → IfSome y SetsFit → IfSome (if b then x else y) SetsFit
if-fits true x y p q = p
if-fits false x y p q = q

said_by-fits : (k : Keyword) (ws : List (List ℕ)) → IfSome (said_by k ws) SetsFit
said_by-fits keyword.Set (what ∷ more) =
    then-fits (λ named. option_map (λ s. line.Set s) (set_by named more)) (λ named. set-fits named more) (setting_name_of what)
said_by-fits keyword.At (ms ∷ []) = within-fits (λ n. line.At n) (λ n. tt) (number_within (2 ^ 40) ms)
said_by-fits keyword.Open [] = tt
said_by-fits keyword.Open (word ∷ []) = if-fits (bytes_eq word (codes "wait")) (Some (line.Within (turn.NewLink true))) None tt tt
said_by-fits keyword.Conn (link ∷ word ∷ []) =
    then-fits (λ made. option_map (λ l. line.Within (turn.Conn l made)) (link_of link))
    (λ made. within-fits (λ l. line.Within (turn.Conn l made)) (λ l. tt) (link_of link)) (made_of word)
said_by-fits keyword.Pending (link ∷ side ∷ digits ∷ []) =
    then-fits (λ e. option_map (λ bytes. line.Within (turn.Pending e bytes)) (bytes_of digits))
    (λ e. within-fits (λ bytes. line.Within (turn.Pending e bytes)) (λ bytes. tt) (bytes_of digits)) (end_of link side)
said_by-fits keyword.Eof (link ∷ side ∷ []) = within-fits (λ e. line.Within (turn.Eof e)) (λ e. tt) (end_of link side)
said_by-fits keyword.ReadFail (link ∷ side ∷ []) = within-fits (λ e. line.Within (turn.ReadFail e)) (λ e. tt) (end_of link side)
said_by-fits keyword.Take (link ∷ side ∷ count ∷ []) =
    then-fits (λ more. of_end (λ e. turn.Take e more) link side)
    (λ more. within-fits (λ e. line.Within (turn.Take e more)) (λ e. tt) (end_of link side)) (more_of count)
said_by-fits keyword.WriteFail (link ∷ side ∷ []) = within-fits (λ e. line.Within (turn.WriteFail e)) (λ e. tt) (end_of link side)
said_by-fits keyword.Spur (link ∷ side ∷ []) = within-fits (λ e. line.Within (turn.Spur e)) (λ e. tt) (end_of link side)
said_by-fits keyword.PollFail [] = tt
said_by-fits keyword.On (link ∷ side ∷ why ∷ nth ∷ act) =
    then-fits _ (λ end.
    then-fits _ (λ kind.
    then-fits _ (λ n.
    then-fits (λ ask. Some (line.Plan end (let item : PlanLine = record { why = kind; nth = n; act = ask } in item))) (λ ask. tt)
    (planned_ask act)) (nth_of nth)) (why_kind_of why)) (hooked_of link side)
said_by-fits _ _ = tt

said-fits : (ws : List (List ℕ)) → IfSome (said ws) SetsFit
said-fits [] = tt
said-fits (first ∷ more) =
    if-fits (is_comment first) (Some line.Skipped) (option_and_then (λ k. said_by k more) (keyword_of first)) tt
    (then-fits (λ k. said_by k more) (λ k. said_by-fits k more) (keyword_of first))

-- what was given so far fits
abbrev GivenFits : Given → Type 0
GivenFits g = IfSome g.hold (λ n. 0 < n) × (IfSome g.in_timeouts IsShort × IfSome g.out_timeouts IsShort)

abbrev AllFit : SoFar → Type 0
AllFit s = GivenFits s.given

once-fits : {A : Type 0} (before : Option A) (longer new : Given) → GivenFits longer → once before longer ≡ Some new → GivenFits new
once-fits None longer new g h = subst GivenFits (some-is longer new h) g
once-fits (Some x) longer new g h = none-some new h

with-fits : (g new : Given) (s : Setting) → SetsFit (line.Set s) → GivenFits g → with_setting g s ≡ Some new → GivenFits new
with-fits g new (setting.Hold n) is k h = once-fits g.hold (record g { hold = Some n }) new (is, k.1) h
with-fits g new (setting.Filter In Read f) is k h = once-fits g.in_read (record g { in_read = Some f }) new k h
with-fits g new (setting.Filter In Write f) is k h = once-fits g.in_write (record g { in_write = Some f }) new k h
with-fits g new (setting.Filter Out Read f) is k h = once-fits g.out_read (record g { out_read = Some f }) new k h
with-fits g new (setting.Filter Out Write f) is k h = once-fits g.out_write (record g { out_write = Some f }) new k h
with-fits g new (setting.Marks In m) is k h = once-fits g.in_marks (record g { in_marks = Some m }) new k h
with-fits g new (setting.Marks Out m) is k h = once-fits g.out_marks (record g { out_marks = Some m }) new k h
with-fits g new (setting.Timeouts In t) is k h = once-fits g.in_timeouts (record g { in_timeouts = Some t }) new (k.0, (is, k.1.1)) h
with-fits g new (setting.Timeouts Out t) is k h = once-fits g.out_timeouts (record g { out_timeouts = Some t }) new (k.0, (k.1.0, is)) h
with-fits g new (setting.Rate In l) is k h =
    once-fits g.in_rate (record g { in_rate = Some l }) new k h
with-fits g new (setting.Rate Out l) is k h =
    once-fits g.out_rate (record g { out_rate = Some l }) new k h
with-fits g new (setting.Member In n) is k h =
    once-fits g.members.in_group (record g { members = record g.members { in_group = Some n } }) new k h
with-fits g new (setting.Member Out n) is k h =
    once-fits g.members.out_group (record g { members = record g.members { out_group = Some n } }) new k h
with-fits g new (setting.Group n x) is k h = subst GivenFits (some-is g new h) k

extended-fits : (s new : SoFar) (x : Line) → SetsFit x → AllFit s → extended s x ≡ Some new → AllFit new
extended-fits s new (line.Set setting) is k h =
    go (nat_lt 0 (length s.turns) || not (may_be_set s.groups setting)) (with_setting s.given setting) refl h
  where
    go : (b : Bool) (o : Option Given) → with_setting s.given setting ≡ o →
        (if b then None else option_map (λ g. let z : SoFar = record s { given = g; groups = s.groups ++ group_set setting } in z)
        o) ≡ Some new →
        AllFit new
    go true o e p = none-some new p
    go false None e p = none-some new p
    go false (Some g) e p = subst AllFit (some-is _ new p) (with-fits s.given g setting is k e)
extended-fits s new (line.Plan side item) is k h = go (nat_lt 0 (length s.turns)) h
  where
    go : (b : Bool) → (if b then None else Some (record s { plans = s.plans ++ (side, item) ∷ [] })) ≡ Some new → AllFit new
    go true p = none-some new p
    go false p = subst AllFit (some-is _ new p) k
extended-fits s new (line.At ms) is k h = go (nat_lt (length s.turns) 20000) h
  where
    go : (b : Bool) → (if b then Some (record s { turns = s.turns ++ (ms, []) ∷ [] }) else None) ≡ Some new → AllFit new
    go true p = subst AllFit (some-is _ new p) k
    go false p = none-some new p
extended-fits s new line.Skipped is k h = subst AllFit (some-is s new h) k
extended-fits s new (line.Within x) is k h = go (nat_lt 0 (length s.turns) && may_follow (lines_of s.turns) x) h
  where
    go : (b : Bool) → (if b then Some (record s { turns = with_line s.turns x }) else None) ≡ Some new → AllFit new
    go true p = subst AllFit (some-is _ new p) k
    go false p = none-some new p

said-keeps : (s new : SoFar) (ws : List (List ℕ)) (x : Line) → said ws ≡ Some x → AllFit s → extended s x ≡ Some new → AllFit new
said-keeps s new ws x is k h = extended-fits s new x (subst (λ o. IfSome o SetsFit) is (said-fits ws)) k h

short-of : (o : Option Timeouts) → IfSome o IsShort → IsShort (unwrap_or o no_timeouts)
short-of None h = (omega arith, omega arith)
short-of (Some t) h = h

given-fits : (s : SoFar) → AllFit s → TimeoutsFit (settings_of (whole s))
given-fits s k =
    let a = short-of s.given.in_timeouts k.1.0 in
    let b = short-of s.given.out_timeouts k.1.1 in
    record { in_read = a.0; in_write = a.1; out_read = b.0; out_write = b.1 }

some-of : (o : Option ℕ) → IfSome o (λ n. 0 < n) → 0 < unwrap_or o usual.hold
some-of None h = omega arith
some-of (Some n) h = h

-- so it is with what a text spells
all-fit : (text : List ℕ) (script : ScriptValue) (h : script_of text ≡ Ok script) → AllFit (script_of-read text script h).so_far
all-fit text script h =
    let read = script_of-read text script h in
    keeps-lines AllFit said-keeps no_line read.so_far 0 (lines text) (tt, (tt, tt)) read.read

pub timeouts-fit : (text : List ℕ) (script : ScriptValue) → script_of text ≡ Ok script → TimeoutsFit (settings_of script)
timeouts-fit text script h =
    let read = script_of-read text script h in
    subst (λ (z : ScriptValue). TimeoutsFit (settings_of z)) read.is (given-fits read.so_far (all-fit text script h))

pub holds-some : (text : List ℕ) (script : ScriptValue) → script_of text ≡ Ok script → HoldsSome (settings_of script)
holds-some text script h =
    let read = script_of-read text script h in
    subst (λ (z : ScriptValue). HoldsSome (settings_of z)) read.is
    (record { hold = some-of read.so_far.given.hold (all-fit text script h).0 })
