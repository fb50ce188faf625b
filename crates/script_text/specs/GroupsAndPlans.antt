-- What the words of groups and of plans say.
use Rattle.std.specs.Prelude.{ℕ, ◌^◌, List, [], ◌∷◌, nat_lt, if◌then◌else◌, Option, Some, None}
use Rattle.ev_types.specs.declared.side.SideId.{SideId}
use Rattle.script_text.specs.Numbers.{number_within}
use Rattle.script_text.specs.Ends.{side_of}
use Rattle.script_text.specs.Limits.{limit_said}
use Rattle.script_text.specs.ActGrammar.{planned_ask}
use Rattle.script_text.specs.ValueGrammar.{◌>>=◌, why_kind_of}
use Rattle.rate_group.specs.declared.group_set.GroupSet.{GroupSet}
use Rattle.script_text.specs.declared.line.Line.{Line}
use Rattle.script_text.specs.declared.line.Line.TheVariants as line

-- the number of a group: there are at most 64
abbrev pub group_of : List ℕ → Option ℕ
group_of word = number_within 63 word

-- the least share of a member, 1 to 2^40 bytes
abbrev pub share_of : List ℕ → Option ℕ
share_of word = number_within (2 ^ 40) word >>= (λ n. if nat_lt 0 n then Some n else None)

-- the group that five numbers of a limit and a share make
abbrev pub group_set_of : List ℕ → List ℕ → List ℕ → List ℕ → List ℕ → List ℕ → Option GroupSet
group_set_of rr rb wr wb tick share = do
  cfg ← limit_said (rr ∷ rb ∷ wr ∷ wb ∷ tick ∷ [])
  least ← share_of share
  Some (record { cfg = cfg; share = least })

-- the side of a planned hook, opened or not: there are plans for the links 0 to 31
abbrev pub hooked_of : List ℕ → List ℕ → Option SideId
hooked_of link side = do
  s ← side_of side
  l ← number_within 31 link
  Some (record { link = l; side = s })

-- for which fire of its kind something is planned, counted from 1: 1 to 1,000,000
abbrev pub nth_of : List ℕ → Option ℕ
nth_of word = number_within 1000000 word >>= (λ n. if nat_lt 0 n then Some n else None)

-- what is planned for the hook of a side
abbrev pub planned_of : List ℕ → List ℕ → List ℕ → List ℕ → List (List ℕ) → Option Line
planned_of link side why nth act = do
  end ← hooked_of link side
  kind ← why_kind_of why
  n ← nth_of nth
  ask ← planned_ask act
  Some (line.Plan end (record { why = kind; nth = n; act = ask }))
