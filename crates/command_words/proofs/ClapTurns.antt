-- What clap makes of one word, where the command has only options that are named by their long forms.
use Rattle.std.proofs.Common.{◌≡◌, ◌∙◌, Bool, true, false, refl, ap, List, [], ◌∷◌, map, Option, Some, None, option_map, codes}
use Rattle.clap.specs.Kinds.{Kinds, or_else}
use Rattle.clap.specs.Faults.{entered_fault, flags_fault, option_fault, turn_fault}
use Rattle.clap.specs.Simple.{Shape, entered, new_shape}
use Rattle.clap.specs.Walk.{Held, Rule, Text, Waiting, Walk, arg_by_id, arg_by_long, idle, option, reacted, settled, walked}
use Rattle.clap.specs.declared.error.kind.ErrorKind.TheVariants as kind
use Rattle.command_words.specs.Options.{Chosen, Named}
use Rattle.command_words.proofs.OptionRules.{arg_by_id-named, arg_by_index-named, arg_by_long-named, arg_by_short-named, built_rule}
use Rattle.command_words.proofs.OptionRules.{required_of, row, same_as_itself}
use Rattle.command_words.proofs.WordViews.{IsLong, IsPlain, IsShort}

-- the command as clap builds it
abbrev pub built_shape : List Named → Shape
built_shape names = record (new_shape (codes "evrelay")) {
  rules = map built_rule names;
  no_binary_name = true;
  disable_help_flag = true;
  disable_help_subcommand = true;
  disable_version_flag = true;
  is_built = true;
}

-- what was given and was used, and what is pending
abbrev pub held_at : List Chosen → Option (Text × List Text) → Held
held_at done pending = record { rows = map row done; pending = pending; skip = 0 }

abbrev pub walk_at : Held → Waiting → Walk
walk_at h waiting = record { held = h; waiting = waiting; position = 1; is_trailing = false; stopped = None }

-- an option that has its value, which is used with the next option
abbrev pub with_value : Chosen → Option (Text × List Text)
with_value g = Some (g.0, g.1 ∷ [])

or_else-nil : (ks : Kinds) → or_else ks [] ≡ ks
or_else-nil [] = refl
or_else-nil (k ∷ ks) = refl

-- a command with no subcommands enters none
pub no_entry : (top : Shape) (stop : Option (Text × List Text)) → entered (record { top = top; subs = [] }) stop ≡ None
no_entry top None = refl
no_entry top (Some p) = refl

pub no_entry_fault : (top : Shape) (stop : Option (Text × List Text)) → entered_fault (record { top = top; subs = [] }) stop ≡ []
no_entry_fault top None = refl
no_entry_fault top (Some p) = refl

module _ (names : List Named) where
  abbrev rules : List Rule
  rules = map built_rule names

  -- the rule of a name that the command has
  pub long-known : (name : Text) (required : Bool) → required_of names name ≡ Some required
      → arg_by_long rules name ≡ Some (built_rule (name, required))
  long-known name required e = arg_by_long-named names name ∙ ap (option_map (λ r. built_rule (name, r))) e

  pub id-known : (name : Text) (required : Bool) → required_of names name ≡ Some required
      → arg_by_id rules name ≡ Some (built_rule (name, required))
  id-known name required e = arg_by_id-named names name ∙ ap (option_map (λ r. built_rule (name, r))) e

  pub long-unknown : (name : Text) → required_of names name ≡ None → arg_by_long rules name ≡ None
  long-unknown name e = arg_by_long-named names name ∙ ap (option_map (λ r. built_rule (name, r))) e

  -- ---- a word with two hyphens

  pub turn-known : (h : Held) (word name : Text) (value : Option Text) (required : Bool) → (w : IsLong word) → w.name ≡ name
      → w.value ≡ value
      → required_of names name ≡ Some required
      → turn_fault (built_shape names) [] (walk_at h idle) word ≡ option_fault rules false (built_rule (name, required)) value h
  turn-known h word name (Some v) required w n e k =
      rw (w.more, w.long, n, e, long-known name required k) (or_else-nil _)
  turn-known h word name None required w n e k =
      rw (w.more, w.long, n, e, long-known name required k) (or_else-nil _)

  pub turn-unknown : (h : Held) (word : Text) (w : IsLong word) → required_of names w.name ≡ None
      → turn_fault (built_shape names) [] (walk_at h idle) word ≡ kind.UnknownArgument ∷ []
  turn-unknown h word w k = rw (w.more, w.long, long-unknown w.name k) refl

  -- the option is used with the value that is attached to it
  pub walked-attached : (h : Held) (word name v : Text) (required : Bool) (w : IsLong word) → w.name ≡ name → w.value ≡ Some v
      → required_of names name ≡ Some required
      → walked rules [] (walk_at h idle) word ≡ walk_at (reacted rules (built_rule (name, required)) (v ∷ []) h) idle
  unfolding walked
  walked-attached h word name v required w n e k = rw (w.more, w.long, n, e, long-known name required k) refl

  -- the option waits for its value
  pub walked-named : (h : Held) (word name : Text) (required : Bool) (w : IsLong word) → w.name ≡ name → w.value ≡ None
      → required_of names name ≡ Some required
      → walked rules [] (walk_at h idle) word ≡ walk_at (record (settled rules h) { pending = Some (name, []) }) (option name)
  unfolding walked
  walked-named h word name required w n e k = rw (w.more, w.long, n, e, long-known name required k) refl

  -- ---- a word with one hyphen

  pub turn-short : (done : List Chosen) (pending : Option (Text × List Text)) (word : Text) → IsShort word
      → turn_fault (built_shape names) [] (walk_at (held_at done pending) idle) word ≡ kind.UnknownArgument ∷ []
  unfolding flags_fault
  turn-short done pending word w = rw (w.more, w.long, w.short, w.chars, arg_by_short-named names w.char) refl

  -- ---- a word without a hyphen

  pub turn-stray : (h : Held) (word : Text) → IsPlain word → turn_fault (built_shape names) [] (walk_at h idle) word
      ≡ kind.UnknownArgument ∷ []
  turn-stray h word w = rw (w.more, w.long, w.short, arg_by_index-named names 1) refl

  -- ---- a word where an option waits for its value

  pub turn-missing : (done : List Chosen) (name : Text) (required : Bool) (word next : Text) (value : Option Text) (other : Bool)
      (w : IsLong word) → w.name ≡ next
      → w.value ≡ value → required_of names name ≡ Some required → required_of names next ≡ Some other
      → turn_fault (built_shape names) [] (walk_at (held_at done (Some (name, []))) (option name)) word ≡ kind.InvalidValue ∷ []
  turn-missing done name required word next (Some v) other w n e k l =
      rw (w.more, w.long, n, e, long-known next other l, id-known name required k) refl
  turn-missing done name required word next None other w n e k l =
      rw (w.more, w.long, n, e, long-known next other l, id-known name required k) refl

  pub turn-missing_unknown : (done : List Chosen) (name : Text) (word : Text) (w : IsLong word) → required_of names w.name ≡ None
      → turn_fault (built_shape names) [] (walk_at (held_at done (Some (name, []))) (option name)) word ≡ kind.UnknownArgument ∷ []
  turn-missing_unknown done name word w k = rw (w.more, w.long, long-unknown w.name k) refl

  pub turn-missing_short : (done : List Chosen) (name : Text) (word : Text) → IsShort word
      → turn_fault (built_shape names) [] (walk_at (held_at done (Some (name, []))) (option name)) word ≡ kind.UnknownArgument ∷ []
  unfolding flags_fault
  turn-missing_short done name word w = rw (w.more, w.long, w.short, w.chars, arg_by_short-named names w.char) refl

  pub turn-value : (done : List Chosen) (name : Text) (word : Text) → IsPlain word
      → turn_fault (built_shape names) [] (walk_at (held_at done (Some (name, []))) (option name)) word ≡ []
  turn-value done name word w = rw (w.more, w.long, w.short) refl

  -- the word is the value
  pub walked-value : (done : List Chosen) (name : Text) (required : Bool) (word : Text) → IsPlain word
      → required_of names name ≡ Some required
      → walked rules [] (walk_at (held_at done (Some (name, []))) (option name)) word
      ≡ walk_at (held_at done (with_value (name, word))) idle
  unfolding walked
  walked-value done name required word w k = rw (w.more, w.long, w.short, id-known name required k, same_as_itself name) refl
