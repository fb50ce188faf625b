-- What clap makes of all the words: the options that the words give, each known and none given twice.
use Rattle.std.proofs.Common.{◌≡◌, ◌∙◌, ◌&&◌, ◌||◌, Bool, cond, true, false, not, refl, sym, ap, List, [], ◌∷◌, ◌++◌, map, Option, Some}
use Rattle.std.proofs.Common.{None, is_some, option_map, inl, inr, true≢false}
use Rattle.std.specs.Prelude.{◌⊎◌, option_and_then}
use Rattle.std.specs.List.{fold, list_any}
use Rattle.clap.specs.Kinds.{Kinds, or_else}
use Rattle.clap.specs.Faults.{option_fault, settle_fault, turn_fault, use_fault, walk_fault}
use Rattle.std.specs.Option.{option_map_or}
use Rattle.clap.specs.Walk.{Row, Rule, Text, Walk, idle, option, has_row, reacted, settled, settled_rows, used, walked}
use Rattle.clap.specs.declared.error.kind.ErrorKind.{ErrorKind}
use Rattle.clap.specs.declared.error.kind.ErrorKind.TheVariants as kind
use Rattle.command_words.specs.Options.{Chosen, Named, and_then, options_in, has_hyphen, is_bare, has_name, value_for}
use Rattle.command_words.proofs.OptionRules.{built_rule, has_row-given, has_name-required_of, required_of, row, with_values-new}
use Rattle.command_words.proofs.WordViews.{AreTexts, IsLong, IsPlain, IsShort, word_view}
use Rattle.command_words.proofs.ClapTurns.{built_shape, held_at, id-known, turn-known, turn-missing, turn-missing_short}
use Rattle.command_words.proofs.ClapTurns.{turn-missing_unknown, turn-short, turn-stray, turn-unknown, turn-value, walk_at, walked-attached}
use Rattle.command_words.proofs.ClapTurns.{walked-named, walked-value, with_value}

abbrev pub is_nil : Kinds → Bool
is_nil [] = true
is_nil (k ∷ ks) = false

abbrev pub pend : Option Chosen → Option (Text × List Text)
pend None = None
pend (Some g) = with_value g

abbrev pub list_of : Option Chosen → List Chosen
list_of None = []
list_of (Some g) = g ∷ []

-- further options are given, each of them known and new
abbrev pub extend : List Named → List Chosen → List Chosen → Option (List Chosen)
extend names done [] = Some done
extend names done (g ∷ gs) = cond (has_name names g.0 && not (is_some (value_for g.0 done))) (extend names (done ++ g ∷ []) gs) None

-- ---- options that follow

module _ (names : List Named) where
  abbrev pub target : List Chosen → Option Chosen → Option (List Chosen) → Option (List Row)
  target done last o = option_map (map row) (option_and_then (λ gs. extend names done (list_of last ++ gs)) o)

  target-none : (done : List Chosen) (last : Option Chosen) (o : Option (List Chosen))
      → ((gs : List Chosen) → extend names done (list_of last ++ gs) ≡ None) → target done last o ≡ None
  target-none done last None h = refl
  target-none done last (Some gs) h = ap (option_map (map row)) (h gs)

  target-cons_none : (done : List Chosen) (last : Option Chosen) (g : Chosen) (o : Option (List Chosen))
      → ((gs : List Chosen) → extend names done (list_of last ++ g ∷ gs) ≡ None)
      → target done last (and_then g o) ≡ None
  target-cons_none done last g None h = refl
  target-cons_none done last g (Some gs) h = ap (option_map (map row)) (h gs)

  target-same : (done now : List Chosen) (last : Option Chosen) (o : Option (List Chosen))
      → ((gs : List Chosen) → extend names done (list_of last ++ gs) ≡ extend names now gs)
      → target done last o ≡ target now None o
  target-same done now last None h = refl
  target-same done now last (Some gs) h = ap (option_map (map row)) (h gs)

  target-cons : (done now : List Chosen) (last : Option Chosen) (g : Chosen) (o : Option (List Chosen))
      → ((gs : List Chosen) → extend names done (list_of last ++ g ∷ gs) ≡ extend names now gs)
      → target done last (and_then g o) ≡ target now None o
  target-cons done now last g None h = refl
  target-cons done now last g (Some gs) h = ap (option_map (map row)) (h gs)

  target-waited : (done : List Chosen) (g : Chosen) (o : Option (List Chosen)) → target done None (and_then g o) ≡ target done (Some g) o
  target-waited done g None = refl
  target-waited done g (Some gs) = refl

  -- an option that no program has
  extend-unknown : (done : List Chosen) (g : Chosen) (gs : List Chosen) → required_of names g.0 ≡ None → extend names done (g ∷ gs) ≡ None
  extend-unknown done g gs k =
      let unknown : has_name names g.0 ≡ false = has_name-required_of names g.0 ∙ ap is_some k in
      rw unknown refl

  cond-none : {A : Type 0} (b : Bool) (x : Option A) → x ≡ None → cond b x None ≡ None
  cond-none true x e = e
  cond-none false x e = refl

  extend-unknown_past : (done : List Chosen) (last : Option Chosen) (g : Chosen) (gs : List Chosen) → required_of names g.0 ≡ None
      → extend names done (list_of last ++ g ∷ gs) ≡ None
  extend-unknown_past done None g gs k = extend-unknown done g gs k
  extend-unknown_past done (Some l) g gs k = cond-none _ _ (extend-unknown (done ++ l ∷ []) g gs k)

  -- whatever follows a name that no program has
  target-unknown_name : (done : List Chosen) (last : Option Chosen) (name : Text) (words : List Text) → required_of names name ≡ None
      → target done last (options_in (Some name) words) ≡ None
  target-unknown_name done last name [] k = refl
  target-unknown_name done last name (word ∷ more) k = go (has_hyphen word)
    where
      go : (b : Bool) → target done last (cond b None (and_then (name, word) (options_in None more))) ≡ None
      go true = refl
      go false = target-cons_none done last (name, word) (options_in None more) (λ gs. extend-unknown_past done last (name, word) gs k)

  -- ---- one use of an option

  -- the option is used, or was given before
  abbrev pub Used : List Chosen → Text → Text → Bool → Type 0
  Used done name v required =
      ((use_fault false (built_rule (name, required)) (v ∷ []) (map row done) ≡ [])
      × (used (built_rule (name, required)) (v ∷ []) (map row done) ≡ map row (done ++ (name, v) ∷ []))
      × ((gs : List Chosen) → extend names done ((name, v) ∷ gs) ≡ extend names (done ++ (name, v) ∷ []) gs))
      ⊎ ((use_fault false (built_rule (name, required)) (v ∷ []) (map row done) ≡ kind.ArgumentConflict ∷ [])
      × ((gs : List Chosen) → extend names done ((name, v) ∷ gs) ≡ None))

  used_or_again : (done : List Chosen) (name v : Text) (required : Bool) → required_of names name ≡ Some required → (b : Bool)
      → is_some (value_for name done) ≡ b → Used done name v required
  used_or_again done name v required k false e =
      let new : has_row name (map row done) ≡ false = has_row-given done name ∙ e in
      let known : has_name names name ≡ true = has_name-required_of names name ∙ ap is_some k in
      inl (rw new refl, with_values-new done name v new, λ gs. rw (known, e) refl)
  used_or_again done name v required k true e =
      let again : has_row name (map row done) ≡ true = has_row-given done name ∙ e in
      let known : has_name names name ≡ true = has_name-required_of names name ∙ ap is_some k in
      inr (rw again refl, λ gs. rw (known, e) refl)

  pub use_view : (done : List Chosen) (name v : Text) (required : Bool) → required_of names name ≡ Some required → Used done name v required
  use_view done name v required k = used_or_again done name v required k (is_some (value_for name done)) refl

  abbrev pub IsKnown : Option Chosen → Type 0
  IsKnown None = Unit {0}
  IsKnown (Some g) = (required : Bool) × (required_of names g.0 ≡ Some required)

  -- what is pending is used, or was given before
  abbrev pub Settled : List Chosen → Option Chosen → Type 0
  Settled done last =
      ((now : List Chosen) × (settle_fault (map built_rule names) false (held_at done (pend last)) ≡ [])
      × (settled_rows (map built_rule names) (pend last) (map row done) ≡ map row now)
      × ((gs : List Chosen) → extend names done (list_of last ++ gs) ≡ extend names now gs))
      ⊎ ((settle_fault (map built_rule names) false (held_at done (pend last)) ≡ kind.ArgumentConflict ∷ [])
      × ((gs : List Chosen) → extend names done (list_of last ++ gs) ≡ None))

  pub settle_view : (done : List Chosen) (last : Option Chosen) → IsKnown last → Settled done last
  settle_view done None k = inl (done, refl, refl, λ gs. refl)
  settle_view done (Some g) k =
      let rule = id-known names g.0 k.0 k.1 in
      elim (use_view done g.0 g.1 k.0 k.1) [
        | inl u ↦ inl (done ++ g ∷ [], rw rule u.0, rw rule u.1, u.2)
        | inr u ↦ inr (rw rule u.0, u.1)
      ]

  -- ---- the end of the words, and one word more

  abbrev rules : List Rule
  rules = map built_rule names

  abbrev finish : Walk → Option (List Row)
  finish w = cond (is_nil (settle_fault rules false w.held)) (Some (settled rules w.held).rows) None

  -- the rows that clap has after the words, where it finds no fault in them
  abbrev pub verdict : Walk → List Text → Option (List Row)
  verdict w words = cond (is_nil (walk_fault (built_shape names) [] w words)) (finish (fold (walked rules []) w words)) None

  joined : (a b : Kinds) (r : Option (List Row)) → cond (is_nil (or_else a b)) r None ≡ cond (is_nil a) (cond (is_nil b) r None) None
  joined [] b r = refl
  joined (k ∷ ks) b r = refl

  verdict-cons : (w : Walk) (word : Text) (more : List Text)
      → verdict w (word ∷ more) ≡ cond (is_nil (turn_fault (built_shape names) [] w word)) (verdict (walked rules [] w word) more) None
  unfolding walk_fault
  verdict-cons w word more = joined (turn_fault (built_shape names) [] w word)
      (walk_fault (built_shape names) [] (walked rules [] w word) more) _

  verdict-refused : (w : Walk) (word : Text) (more : List Text) (k : ErrorKind) (ks : Kinds)
      → turn_fault (built_shape names) [] w word ≡ k ∷ ks → verdict w (word ∷ more) ≡ None
  verdict-refused w word more k ks e = verdict-cons w word more ∙ ap (λ f. cond (is_nil f) (verdict (walked rules [] w word) more) None) e

  verdict-goes_on : (w next : Walk) (word : Text) (more : List Text) → turn_fault (built_shape names) [] w word ≡ []
      → walked rules [] w word ≡ next
      → verdict w (word ∷ more) ≡ verdict next more
  verdict-goes_on w next word more e f =
      verdict-cons w word more ∙ ap (λ x. cond (is_nil x) (verdict (walked rules [] w word) more) None) e ∙ ap (λ x. verdict x more) f

  abbrev pub idle_at : List Chosen → Option Chosen → Walk
  idle_at done last = walk_at (held_at done (pend last)) idle

  abbrev wait_at : List Chosen → Text → Walk
  wait_at done name = walk_at (held_at done (Some (name, []))) (option name)

  verdict-end : (done : List Chosen) (last : Option Chosen) → IsKnown last → verdict (idle_at done last) [] ≡ target done last (Some [])
  unfolding walk_fault
  verdict-end done last k = elim (settle_view done last k) [
    | inl s ↦ rw (s.1, s.2, s.3 []) refl
    | inr f ↦ rw (f.0, f.1 []) refl
  ]

  verdict-waits : (done : List Chosen) (name : Text) (required : Bool) → required_of names name ≡ Some required
      → verdict (wait_at done name) [] ≡ None
  unfolding walk_fault
  verdict-waits done name required k = rw (id-known names name required k) refl

  -- what the words that follow come to
  abbrev Reads : List Text → Type 0
  Reads words =
      ((done : List Chosen) (last : Option Chosen) → IsKnown last
      → verdict (idle_at done last) words ≡ target done last (options_in None words))
      × ((done : List Chosen) (name : Text) (required : Bool) → required_of names name ≡ Some required
      → verdict (wait_at done name) words ≡ target done None (options_in (Some name) words))

  -- ---- a word where no option waits

  attached : (done : List Chosen) (last : Option Chosen) (word : Text) (more : List Text) (w : IsLong word) (v : Text) (required : Bool)
      → IsKnown last → w.value ≡ Some v
      → required_of names w.name ≡ Some required → Reads more
      → verdict (idle_at done last) (word ∷ more) ≡ target done last (and_then (w.name, v) (options_in None more))
  attached done last word more w v required l e k next =
      let h = held_at done (pend last) in
      let turn = turn-known names h word w.name (Some v) required w refl e k in
      elim (settle_view done last l) [
        | inr f ↦
            let fault : option_fault rules false (built_rule (w.name, required)) (Some v) h ≡ kind.ArgumentConflict ∷ [] = rw f.0 refl in
            verdict-refused (idle_at done last) word more _ _ (turn ∙ fault)
            ∙ sym (target-cons_none done last (w.name, v) (options_in None more) (λ gs. f.1 ((w.name, v) ∷ gs)))
        | inl s ↦ elim (use_view s.0 w.name v required k) [
          | inr f ↦
              let fault : option_fault rules false (built_rule (w.name, required)) (Some v) h
              ≡ kind.ArgumentConflict ∷ [] = rw (s.1, s.2, f.0) refl in
              verdict-refused (idle_at done last) word more _ _ (turn ∙ fault)
              ∙ sym (target-cons_none done last (w.name, v) (options_in None more) (λ gs. s.3 ((w.name, v) ∷ gs) ∙ f.1 gs))
          | inl u ↦
              let now = s.0 ++ (w.name, v) ∷ [] in
              let fine : option_fault rules false (built_rule (w.name, required)) (Some v) h ≡ [] = rw (s.1, s.2, u.0) refl in
              let walk : walk_at (reacted rules (built_rule (w.name, required)) (v ∷ []) h) idle ≡ idle_at now None = rw (s.2, u.1) refl in
              verdict-goes_on (idle_at done last) (idle_at now None) word more (turn ∙ fine)
              (walked-attached names h word w.name v required w refl e k ∙ walk) ∙ next.0 now None tt
              ∙ sym (target-cons done now last (w.name, v) (options_in None more) (λ gs. s.3 ((w.name, v) ∷ gs) ∙ u.2 gs))
        ]
      ]

  named : (done : List Chosen) (last : Option Chosen) (word : Text) (more : List Text) (w : IsLong word) (required : Bool) → IsKnown last
      → w.value ≡ None
      → required_of names w.name ≡ Some required → Reads more
      → verdict (idle_at done last) (word ∷ more) ≡ target done last (options_in (Some w.name) more)
  named done last word more w required l e k next =
      let turn = turn-known names (held_at done (pend last)) word w.name None required w refl e k in
      elim (settle_view done last l) [
        | inr f ↦ verdict-refused _ word more _ _ (turn ∙ f.0) ∙ sym (target-none done last (options_in (Some w.name) more) f.1)
        | inl s ↦
            let walk : walk_at (record (settled rules (held_at done (pend last))) { pending = Some (w.name, []) }) (option w.name)
            ≡ wait_at s.0 w.name = rw s.2 refl in
            verdict-goes_on (idle_at done last) (wait_at s.0 w.name) word more (turn ∙ s.1)
            (walked-named names (held_at done (pend last)) word w.name required w refl e k ∙ walk)
            ∙ next.1 s.0 w.name required k ∙ sym (target-same done s.0 last (options_in (Some w.name) more) s.3)
      ]

  -- what a long word comes to, by its value
  abbrev after_long : Text → Option Text → List Text → Option (List Chosen)
  after_long name value more = option_map_or (λ v. and_then (name, v) (options_in None more)) value (options_in (Some name) more)

  target-unknown : (done : List Chosen) (last : Option Chosen) (name : Text) (value : Option Text) (more : List Text)
      → required_of names name ≡ None
      → target done last (after_long name value more) ≡ None
  target-unknown done last name None more k = target-unknown_name done last name more k
  target-unknown done last name (Some v) more k =
      target-cons_none done last (name, v) (options_in None more) (λ gs. extend-unknown_past done last (name, v) gs k)

  long_by_value : (done : List Chosen) (last : Option Chosen) (word : Text) (more : List Text) (w : IsLong word) (required : Bool)
      (value : Option Text) → IsKnown last
      → w.value ≡ value → required_of names w.name ≡ Some required → Reads more
      → verdict (idle_at done last) (word ∷ more) ≡ target done last (after_long w.name value more)
  long_by_value done last word more w required (Some v) l e k next = attached done last word more w v required l e k next
  long_by_value done last word more w required None l e k next = named done last word more w required l e k next

  long_by_name : (done : List Chosen) (last : Option Chosen) (word : Text) (more : List Text) (w : IsLong word) (found : Option Bool)
      → IsKnown last
      → required_of names w.name ≡ found → Reads more → verdict (idle_at done last) (word ∷ more)
      ≡ target done last (after_long w.name w.value more)
  long_by_name done last word more w (Some required) l k next = long_by_value done last word more w required w.value l refl k next
  long_by_name done last word more w None l k next =
      verdict-refused _ word more _ _ (turn-unknown names (held_at done (pend last)) word w k)
      ∙ sym (target-unknown done last w.name w.value more k)

  idle_reads : (done : List Chosen) (last : Option Chosen) (word : Text) (more : List Text) → IsKnown last
      → IsLong word ⊎ (IsShort word ⊎ IsPlain word) → Reads more
      → verdict (idle_at done last) (word ∷ more) ≡ target done last (options_in None (word ∷ more))
  idle_reads done last word more l (inl w) next = long_by_name done last word more w (required_of names w.name) l refl next
      ∙ sym (rw w.option refl)
  idle_reads done last word more l (inr (inl w)) next = verdict-refused _ word more _ _ (turn-short names done (pend last) word w)
      ∙ sym (rw w.option refl)
  idle_reads done last word more l (inr (inr w)) next =
      verdict-refused _ word more _ _ (turn-stray names (held_at done (pend last)) word w) ∙ sym (rw w.option refl)

  -- ---- a word where an option waits for its value

  missing : (done : List Chosen) (name : Text) (required : Bool) (word : Text) (more : List Text) (w : IsLong word) (found : Option Bool)
      → required_of names name ≡ Some required
      → required_of names w.name ≡ found → verdict (wait_at done name) (word ∷ more) ≡ None
  missing done name required word more w (Some other) k l =
      verdict-refused _ word more _ _ (turn-missing names done name required word w.name w.value other w refl refl k l)
  missing done name required word more w None k l = verdict-refused _ word more _ _ (turn-missing_unknown names done name word w l)

  wait_reads : (done : List Chosen) (name : Text) (required : Bool) (word : Text) (more : List Text)
      → required_of names name ≡ Some required
      → IsLong word ⊎ (IsShort word ⊎ IsPlain word) → Reads more
      → verdict (wait_at done name) (word ∷ more) ≡ target done None (options_in (Some name) (word ∷ more))
  wait_reads done name required word more k (inl w) next =
      missing done name required word more w (required_of names w.name) k refl ∙ sym (rw w.hyphen refl)
  wait_reads done name required word more k (inr (inl w)) next = verdict-refused _ word more _ _
      (turn-missing_short names done name word w) ∙ sym (rw w.hyphen refl)
  wait_reads done name required word more k (inr (inr w)) next =
      verdict-goes_on _ (idle_at done (Some (name, word))) word more (turn-value names done name word w)
      (walked-value names done name required word w k)
      ∙ next.0 done (Some (name, word)) (required, k) ∙ sym (target-waited done (name, word) (options_in None more))
      ∙ sym (rw w.hyphen refl)

  or_false : (a b : Bool) → (a || b) ≡ false → (a ≡ false) × (b ≡ false)
  or_false true b e = absurd (true≢false e)
  or_false false b e = (refl, e)

  reads : (words : List Text) → AreTexts words → list_any is_bare words ≡ false → Reads words
  reads [] texts full = (verdict-end, verdict-waits)
  reads (word ∷ more) texts full =
      let parts = or_false (is_bare word) (list_any is_bare more) full in
      let view = word_view word texts.0 parts.0 in
      let next = reads more texts.1 parts.1 in (
        λ done last k. idle_reads done last word more k view next,
        λ done name required k. wait_reads done name required word more k view next,
      )

  -- the rows of the options that the words give, where each is known and none is given twice
  pub verdict_is : (words : List Text) → AreTexts words → list_any is_bare words ≡ false
      → verdict (idle_at [] None) words ≡ option_map (map row) (option_and_then (extend names []) (options_in None words))
  verdict_is words texts full = (reads words texts full).0 [] None tt
