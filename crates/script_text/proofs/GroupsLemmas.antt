-- The groups of a script that a text spells: there are at most 64, no share is 0, and who is a member is one of a group that there is.
use Rattle.std.proofs.Common.{◌≡◌, ◌≤◌, ◌<◌, ◌^◌, ℕ, Bool, true, false, ◌&&◌, ◌||◌, not, List, [], ◌∷◌, ◌++◌, length}
use Rattle.std.proofs.Common.{Option, Some, None, Ok, refl, sym, subst, arith, append-nil, length-append, ltb-true, leb-true}
use Rattle.std.specs.Prelude.{IfSome, nat_lt, nat_le, if◌then◌else◌, option_map, option_and_then}
use Rattle.std.proofs.lemmas.Bool.{and_parts, eqb-true}
use Rattle.std.proofs.lemmas.List.Elements.{All-nil, All-cons, All-append}
use Rattle.token_bucket.specs.declared.limit.Dir.TheVariants.{Read, Write}
use Rattle.token_bucket.specs.declared.limit.LimitCfg.{LimitCfg}
use Rattle.rate_group.specs.declared.group_set.GroupSet.{GroupSet}
use Rattle.ev_types.specs.declared.side.Side.TheVariants.{In, Out}
use Rattle.ev_types.specs.ScriptTurn.{lines_of}
use Rattle.script_text.specs.declared.line.Line.{Line}
use Rattle.script_text.specs.declared.line.Line.TheVariants as line
use Rattle.script_text.specs.declared.members.Members.{Members}
use Rattle.script_text.specs.declared.setting.Given.{Given}
use Rattle.script_text.specs.declared.setting.Setting.{Setting}
use Rattle.script_text.specs.declared.setting.Setting.TheVariants as setting
use Rattle.script_text.specs.declared.setting.SettingName.{SettingName}
use Rattle.script_text.specs.declared.setting.SettingName.TheVariants as name
use Rattle.script_text.specs.Given.{once, with_setting}
use Rattle.script_text.specs.Script.{ScriptValue, SoFar}
use Rattle.script_text.specs.GroupsAreSet.{GroupsAreSet}
use Rattle.script_text.specs.Numbers.{value_of, is_numeral, number_within}
use Rattle.script_text.specs.Ends.{side_of}
use Rattle.script_text.specs.FilterNames.{filter_kind_of}
use Rattle.script_text.specs.Limits.{limit_said}
use Rattle.script_text.specs.GroupsAndPlans.{group_of, share_of, group_set_of}
use Rattle.script_text.specs.Grammar.{hold_of, side_marks_of, side_timeouts_of, set_by, said}
use Rattle.script_text.specs.Order.{may_be_set, group_set, may_follow, with_line, extended}
use Rattle.script_text.specs.Spelled.{script_of}
use Rattle.script_text.proofs.SpelledLengthLemmas.{some-map, some-then, some-if}
use Rattle.script_text.proofs.SaidLemmas.{said-each, script_of-keeps}

-- a group that is set has a number below 64, and its share is not 0
abbrev IsGroupInRange : Setting → Type 0
IsGroupInRange (setting.Group n x) = (n ≤ 63) × (0 < x.share)
IsGroupInRange _ = Unit {0}

abbrev SetsInRange : Line → Type 0
SetsInRange (line.Set s) = IsGroupInRange s
SetsInRange _ = Unit {0}

number_within-most : (most : ℕ) (word : List ℕ) → IfSome (number_within most word) (λ n. n ≤ most)
number_within-most most word = go (is_numeral word && nat_le (value_of word) most) refl
  where
    go : (b : Bool) → (is_numeral word && nat_le (value_of word) most) ≡ b →
        IfSome (if b then Some (value_of word) else None) (λ n. n ≤ most)
    go true h = leb-true (value_of word) most (and_parts (is_numeral word) (nat_le (value_of word) most) h).1
    go false h = tt

share_of-some : (word : List ℕ) → IfSome (share_of word) (λ n. 0 < n)
share_of-some word = some-then (λ n. 0 < n) _ above (number_within (2 ^ 40) word)
  where
    go : (n : ℕ) (b : Bool) → nat_lt 0 n ≡ b → IfSome (if b then Some n else None) (λ n. 0 < n)
    go n true h = ltb-true 0 n h
    go n false h = tt

    above : (n : ℕ) → IfSome (if nat_lt 0 n then Some n else None) (λ n. 0 < n)
    above n = go n (nat_lt 0 n) refl

group_set_of-share : (rr rb wr wb tick share : List ℕ) → IfSome (group_set_of rr rb wr wb tick share) (λ x. 0 < x.share)
group_set_of-share rr rb wr wb tick share =
    some-then (λ (x : GroupSet). 0 < x.share) _ (λ cfg. go cfg (share_of share) (share_of-some share))
    (limit_said (rr ∷ rb ∷ wr ∷ wb ∷ tick ∷ []))
  where
    go : (cfg : LimitCfg) (o : Option ℕ) → IfSome o (λ n. 0 < n) →
        IfSome (option_and_then (λ least. Some (let x : GroupSet = record { cfg = cfg; share = least } in x)) o) (λ x. 0 < x.share)
    go cfg None h = tt
    go cfg (Some least) h = h

set_by-range : (named : SettingName) (ws : List (List ℕ)) → IfSome (set_by named ws) IsGroupInRange
set_by-range name.Group (number ∷ rr ∷ rb ∷ wr ∷ wb ∷ tick ∷ share ∷ []) =
    go (group_of number) (group_set_of rr rb wr wb tick share) (number_within-most 63 number)
    (group_set_of-share rr rb wr wb tick share)
  where
    go : (a : Option ℕ) (b : Option GroupSet) → IfSome a (λ n. n ≤ 63) → IfSome b (λ x. 0 < x.share) →
        IfSome (option_and_then (λ n. option_map (λ x. setting.Group n x) b) a) IsGroupInRange
    go None b few share = tt
    go (Some n) None few share = tt
    go (Some n) (Some x) few share = (few, share)
set_by-range name.Hold (bytes ∷ []) = some-map IsGroupInRange (λ n. setting.Hold n) (λ n. tt) (hold_of bytes)
set_by-range name.Marks (side ∷ rl ∷ rh ∷ wl ∷ wh ∷ []) =
    some-then IsGroupInRange _ (λ s. some-map IsGroupInRange (λ m. setting.Marks s m) (λ m. tt) (side_marks_of rl rh wl wh)) (side_of side)
set_by-range name.Timeouts (side ∷ r ∷ w ∷ []) =
    some-then IsGroupInRange _ (λ s. some-map IsGroupInRange (λ t. setting.Timeouts s t) (λ t. tt) (side_timeouts_of r w)) (side_of side)
set_by-range (name.Filter side dir) (filter ∷ []) =
    some-map IsGroupInRange (λ kind. setting.Filter side dir kind) (λ kind. tt) (filter_kind_of filter)
set_by-range name.Rate (side ∷ numbers) =
    some-then IsGroupInRange _ (λ s. some-map IsGroupInRange (λ l. setting.Rate s l) (λ l. tt) (limit_said numbers)) (side_of side)
set_by-range name.Member (side ∷ number ∷ []) =
    some-then IsGroupInRange _ (λ s. some-map IsGroupInRange (λ n. setting.Member s n) (λ n. tt) (group_of number)) (side_of side)
set_by-range _ _ = tt

said-range : (ws : List (List ℕ)) → IfSome (said ws) SetsInRange
said-range ws = said-each SetsInRange set_by-range (λ end item. tt) (λ ms. tt) (λ x. tt) tt ws

-- A setting more

once-some : (P : Given → Type 0) {A : Type 0} (before : Option A) (longer : Given) → P longer → IfSome (once before longer) P
once-some P None longer k = k
once-some P (Some x) longer k = tt

-- a number of a group is one of more groups too
still-within : (o : Option ℕ) (few many : ℕ) → few ≤ many → IfSome o (λ n. n < few) → IfSome o (λ n. n < many)
still-within None few many le h = tt
still-within (Some n) few many le h = omega (arith, le, h)

module _ (g : Given) (groups : List GroupSet) (k : GroupsAreSet groups g.members) where
  -- a setting that is no group leaves them
  abbrev AreLeft : Given → Type 0
  AreLeft new = GroupsAreSet (groups ++ []) new.members

  left : (members : Members) → GroupsAreSet groups members → GroupsAreSet (groups ++ []) members
  left members h = subst (λ z. GroupsAreSet z members) (sym (append-nil groups)) h

  with_setting-groups : (s : Setting) → IsGroupInRange s → may_be_set groups s ≡ true →
      IfSome (with_setting g s) (λ new. GroupsAreSet (groups ++ group_set s) new.members)
  with_setting-groups (setting.Hold n) is may = once-some AreLeft g.hold (record g { hold = Some n }) (left g.members k)
  with_setting-groups (setting.Filter In Read f) is may = once-some AreLeft g.in_read (record g { in_read = Some f }) (left g.members k)
  with_setting-groups (setting.Filter In Write f) is may = once-some AreLeft g.in_write (record g { in_write = Some f }) (left g.members k)
  with_setting-groups (setting.Filter Out Read f) is may = once-some AreLeft g.out_read (record g { out_read = Some f }) (left g.members k)
  with_setting-groups (setting.Filter Out Write f) is may =
      once-some AreLeft g.out_write (record g { out_write = Some f }) (left g.members k)
  with_setting-groups (setting.Marks In m) is may = once-some AreLeft g.in_marks (record g { in_marks = Some m }) (left g.members k)
  with_setting-groups (setting.Marks Out m) is may = once-some AreLeft g.out_marks (record g { out_marks = Some m }) (left g.members k)
  with_setting-groups (setting.Timeouts In t) is may =
      once-some AreLeft g.in_timeouts (record g { in_timeouts = Some t }) (left g.members k)
  with_setting-groups (setting.Timeouts Out t) is may =
      once-some AreLeft g.out_timeouts (record g { out_timeouts = Some t }) (left g.members k)
  with_setting-groups (setting.Rate In l) is may = once-some AreLeft g.in_rate (record g { in_rate = Some l }) (left g.members k)
  with_setting-groups (setting.Rate Out l) is may = once-some AreLeft g.out_rate (record g { out_rate = Some l }) (left g.members k)
  with_setting-groups (setting.Group n x) is may =
      let next : n ≡ length groups = eqb-true n (length groups) may in
      let more = length-append groups (x ∷ []) in
      record {
        few = omega (arith, is.0, next, more);
        shares = All-append (λ (y : GroupSet). 0 < y.share) groups (x ∷ []) k.shares
            (All-cons (λ (y : GroupSet). 0 < y.share) x [] is.1 (All-nil (λ (y : GroupSet). 0 < y.share)));
        in_group = still-within g.members.in_group (length groups) (length (groups ++ x ∷ [])) (omega (arith, more)) k.in_group;
        out_group = still-within g.members.out_group (length groups) (length (groups ++ x ∷ [])) (omega (arith, more)) k.out_group;
      }
  with_setting-groups (setting.Member In n) is may =
      let members : Members = record g.members { in_group = Some n } in
      once-some AreLeft g.members.in_group (record g { members = members })
      (left members (record { few = k.few; shares = k.shares; in_group = ltb-true n (length groups) may; out_group = k.out_group }))
  with_setting-groups (setting.Member Out n) is may =
      let members : Members = record g.members { out_group = Some n } in
      once-some AreLeft g.members.out_group (record g { members = members })
      (left members (record { few = k.few; shares = k.shares; in_group = k.in_group; out_group = ltb-true n (length groups) may }))

-- A line more

abbrev AreSetSoFar : SoFar → Type 0
AreSetSoFar s = GroupsAreSet s.groups s.given.members

extended-groups : (s : SoFar) (x : Line) → SetsInRange x → AreSetSoFar s → IfSome (extended s x) AreSetSoFar
extended-groups s (line.Set set) is k = go (nat_lt 0 (length s.turns)) (may_be_set s.groups set) refl
  where
    longer : Given → SoFar
    longer g = record s { given = g; groups = s.groups ++ group_set set }

    made : (o : Option Given) → IfSome o (λ new. GroupsAreSet (s.groups ++ group_set set) new.members) →
        IfSome (option_map longer o) AreSetSoFar
    made None h = tt
    made (Some g) h = h

    go : (late may : Bool) → may_be_set s.groups set ≡ may →
        IfSome (if late || not may then None else option_map longer (with_setting s.given set)) AreSetSoFar
    go true may h = tt
    go false false h = tt
    go false true h = made (with_setting s.given set) (with_setting-groups s.given s.groups k set is h)
extended-groups s (line.Plan side item) is k =
    some-if AreSetSoFar (nat_lt 0 (length s.turns)) None (Some (record s { plans = s.plans ++ (side, item) ∷ [] })) tt k
extended-groups s (line.At ms) is k =
    some-if AreSetSoFar (nat_lt (length s.turns) 20000) (Some (record s { turns = s.turns ++ (ms, []) ∷ [] })) None k tt
extended-groups s (line.Within x) is k =
    some-if AreSetSoFar (nat_lt 0 (length s.turns) && may_follow (lines_of s.turns) x)
    (Some (record s { turns = with_line s.turns x })) None k tt
extended-groups s line.Skipped is k = k

pub script_of-groups : (text : List ℕ) (script : ScriptValue) → script_of text ≡ Ok script → GroupsAreSet script.groups script.members
script_of-groups text script spelled =
    script_of-keeps AreSetSoFar
    (λ s ws x is k. extended-groups s x (subst (λ o. IfSome o SetsInRange) is (said-range ws)) k)
    (record { few = omega arith; shares = All-nil (λ (y : GroupSet). 0 < y.share); in_group = tt; out_group = tt })
    (λ (z : ScriptValue). GroupsAreSet z.groups z.members) (λ s k. k) text script spelled
