-- How many lines a text has, and how many bytes a line brings.
use Rattle.std.proofs.Common.{◌≡◌, ◌≤◌, ◌+◌, ℕ, true, false, ◌&&◌, cond, leb, leb-true, eqb, Option, Some, None, Ok, Err, List, [], ◌∷◌}
use Rattle.std.proofs.Common.{◌++◌, length, refl, arith}
use Rattle.std.specs.Prelude.{IfSome, option_map, option_and_then}
use Rattle.std.specs.List.{list_all}
use Rattle.std.specs.Result.{result_ok}
use Rattle.std.proofs.lemmas.Bool.{and_parts}
use Rattle.std.proofs.lemmas.List.{length_push}
use Rattle.hex.specs.Hex.{decode_of}
use Rattle.hex.proofs.HexLemmas.{decode_of-ok}
use Rattle.script_text.specs.Pieces.{begun, pieces, words}
use Rattle.script_text.specs.Numbers.{bytes_of}
use Rattle.script_text.specs.Spelled.{is_plain}
use Rattle.buffers_mode.specs.Keywords.{keyword_of}
use Rattle.buffers_mode.specs.Grammar.{buffer_of, count_of, callback_of, from_of, place_of, style_of, switch_of, plain_op, one_op, two_op}
use Rattle.buffers_mode.specs.Grammar.{op_by, ask_by, said}
use Rattle.buffers_mode.specs.Spelled.{is_skipped, with_line, going_on, lines_read}
use Rattle.buffers_mode.specs.declared.keyword.Keyword.{Keyword}
use Rattle.buffers_mode.specs.declared.keyword.Keyword.TheVariants as keyword
use Rattle.buffers_mode.specs.declared.line.Op.{Op}
use Rattle.buffers_mode.specs.declared.line.Op.TheVariants as op
use Rattle.buffers_mode.specs.declared.line.BufferAsk.{BufferAsk}
use Rattle.buffers_mode.specs.declared.line.BufferAsk.TheVariants as ask
use Rattle.buffers_mode.specs.declared.line.Line.{Line}

-- at most 32,768 bytes come in
abbrev pub BringsFew : Op → Type 0
BringsFew (op.Add bytes) = length bytes ≤ 32768
BringsFew (op.Prepend bytes) = length bytes ≤ 32768
BringsFew (op.AddReference bytes ticket) = length bytes ≤ 32768
BringsFew _ = Unit {0}

-- the same of whatever a line asks
abbrev pub AsksFew : BufferAsk → Type 0
AsksFew (ask.Own asked) = BringsFew asked
AsksFew _ = Unit {0}

-- at most 32,768 bytes come in by each line
abbrev pub AllFew : List Line → Type 0
AllFew [] = Unit {0}
AllFew (line ∷ more) = AsksFew line.ask × AllFew more

AllFew-push : (lines : List Line) (line : Line) → AllFew lines → AsksFew line.ask → AllFew (lines ++ line ∷ [])
AllFew-push [] line few last = (last, tt)
AllFew-push (first ∷ more) line few last = (few.0, AllFew-push more line few.1 last)

length-begun : (b : ℕ) (ps : List (List ℕ)) → length (begun b ps) ≤ length ps + 1
length-begun b [] = omega arith
length-begun b (p ∷ ps) = omega arith

-- a text has no more pieces than bytes
pub length-pieces : (stop : ℕ) (xs : List ℕ) → length (pieces stop xs) ≤ length xs
length-pieces stop [] = omega arith
length-pieces stop (x ∷ xs) =
    let further = length-pieces stop xs in
    elim (eqb x stop) as (λ v. length (cond v ([] ∷ pieces stop xs) (begun x (pieces stop xs))) ≤ length (x ∷ xs)) [
      | true ↦ omega arith
      | false ↦ omega (arith, length-begun x (pieces stop xs))
    ]

-- what holds of a value's image, where there is one
IfSome-map : {X Y : Type 0} (f : X → Y) (o : Option X) (P : X → Type 0) (Q : Y → Type 0) → IfSome o P → ((x : X) → P x → Q (f x)) →
    IfSome (option_map f o) Q
IfSome-map f None P Q holds gives = tt
IfSome-map f (Some x) P Q holds gives = gives x holds

-- what holds of each image
IfSome-map-all : {X Y : Type 0} (f : X → Y) (o : Option X) (Q : Y → Type 0) → ((x : X) → Q (f x)) → IfSome (option_map f o) Q
IfSome-map-all f None Q gives = tt
IfSome-map-all f (Some x) Q gives = gives x

IfSome-and_then : {X Y : Type 0} (f : X → Option Y) (o : Option X) (P : X → Type 0) (Q : Y → Type 0) → IfSome o P →
    ((x : X) → P x → IfSome (f x) Q) → IfSome (option_and_then f o) Q
IfSome-and_then f None P Q holds gives = tt
IfSome-and_then f (Some x) P Q holds gives = gives x holds

IfSome-and_then-all : {X Y : Type 0} (f : X → Option Y) (o : Option X) (Q : Y → Type 0) → ((x : X) → IfSome (f x) Q) →
    IfSome (option_and_then f o) Q
IfSome-and_then-all f None Q gives = tt
IfSome-and_then-all f (Some x) Q gives = gives x

IfSome-at : {X : Type 0} (o : Option X) (P : X → Type 0) (x : X) → IfSome o P → o ≡ Some x → P x
IfSome-at None P x holds is = cc
IfSome-at (Some y) P x holds is = let same : y ≡ x = cc in rw (← same) holds

-- a word spells at most 32,768 bytes
pub bytes_of-few : (word : List ℕ) → IfSome (bytes_of word) (λ bytes. length bytes ≤ 32768)
bytes_of-few word =
    elim (leb 2 (length word) && leb (length word) 65536) as (λ v. (leb 2 (length word) && leb (length word) 65536) ≡ v →
    IfSome (cond v (result_ok (decode_of word)) None) (λ bytes. length bytes ≤ 32768)) [
      | true ↦ λ both.
          let short : length word ≤ 65536 =
          leb-true (length word) 65536 (and_parts (leb 2 (length word)) (leb (length word) 65536) both).1 in
          elim (decode_of word) as (λ r. decode_of word ≡ r → IfSome (result_ok r) (λ bytes. length bytes ≤ 32768)) [
            | Ok bytes ↦ λ decoded. omega (arith, (decode_of-ok word bytes decoded).2, short)
            | Err fault ↦ λ refused. tt
          ] refl
      | false ↦ λ neither. tt
    ] refl

-- what a line of each kind asks brings few bytes
plain_op-few : (kind : Keyword) → IfSome (plain_op kind) BringsFew
plain_op-few keyword.PullupAll = tt
plain_op-few keyword.AddCb = tt
plain_op-few keyword.Len = tt
plain_op-few _ = tt

one_op-few : (kind : Keyword) (word : List ℕ) → IfSome (one_op kind word) BringsFew
one_op-few keyword.Add word = IfSome-map (λ bytes. op.Add bytes) (bytes_of word) _ BringsFew (bytes_of-few word) (λ bytes few. few)
one_op-few keyword.Prepend word = IfSome-map (λ bytes. op.Prepend bytes) (bytes_of word) _ BringsFew (bytes_of-few word) (λ bytes few. few)
one_op-few keyword.Drain word = IfSome-map-all (λ n. op.Drain n) (count_of word) BringsFew (λ n. tt)
one_op-few keyword.Remove word = IfSome-map-all (λ n. op.Remove n) (count_of word) BringsFew (λ n. tt)
one_op-few keyword.Pullup word = IfSome-map-all (λ n. op.Pullup n) (count_of word) BringsFew (λ n. tt)
one_op-few keyword.Peek word = IfSome-map-all (λ n. op.Peek n) (count_of word) BringsFew (λ n. tt)
one_op-few keyword.Readln word = IfSome-map-all (λ style. op.Readln style) (style_of word) BringsFew (λ style. tt)
one_op-few keyword.Freeze word = IfSome-map-all (λ place. op.Freeze place) (place_of word) BringsFew (λ place. tt)
one_op-few keyword.Unfreeze word = IfSome-map-all (λ place. op.Unfreeze place) (place_of word) BringsFew (λ place. tt)
one_op-few keyword.RemoveCb word = IfSome-map-all (λ cb. op.RemoveCb cb) (callback_of word) BringsFew (λ cb. tt)
one_op-few keyword.EnableCb word = IfSome-map-all (λ cb. op.SetCbEnabled cb true) (callback_of word) BringsFew (λ cb. tt)
one_op-few keyword.DisableCb word = IfSome-map-all (λ cb. op.SetCbEnabled cb false) (callback_of word) BringsFew (λ cb. tt)
one_op-few _ word = tt

two_op-few : (kind : Keyword) (first second : List ℕ) → IfSome (two_op kind first second) BringsFew
two_op-few keyword.AddReference digits ticket =
    IfSome-and_then (λ bytes. option_map (λ t. op.AddReference bytes t) (callback_of ticket)) (bytes_of digits) _ BringsFew
    (bytes_of-few digits)
    (λ bytes few. IfSome-map-all (λ t. op.AddReference bytes t) (callback_of ticket) BringsFew (λ t. few))
two_op-few keyword.Search digits from =
    IfSome-and_then-all (λ bytes. option_map (λ place. op.Search bytes place) (from_of from)) (bytes_of digits) BringsFew
    (λ bytes. IfSome-map-all (λ place. op.Search bytes place) (from_of from) BringsFew (λ place. tt))
two_op-few keyword.SearchEol style from =
    IfSome-and_then-all (λ s. option_map (λ place. op.SearchEol s place) (from_of from)) (style_of style) BringsFew
    (λ s. IfSome-map-all (λ place. op.SearchEol s place) (from_of from) BringsFew (λ place. tt))
two_op-few _ first second = tt

op_by-few : (kind : Keyword) (more : List (List ℕ)) → IfSome (op_by kind more) BringsFew
op_by-few kind [] = plain_op-few kind
op_by-few kind (a ∷ []) = one_op-few kind a
op_by-few kind (a ∷ b ∷ []) = two_op-few kind a b
op_by-few kind (a ∷ b ∷ c ∷ more) = tt

own-few : (kind : Keyword) (more : List (List ℕ)) → IfSome (option_map (λ asked. ask.Own asked) (op_by kind more)) AsksFew
own-few kind more = IfSome-map (λ asked. ask.Own asked) (op_by kind more) BringsFew AsksFew (op_by-few kind more) (λ asked few. few)

ask_by-few : (kind : Keyword) (more : List (List ℕ)) → IfSome (ask_by kind more) AsksFew
ask_by-few keyword.AddBuffer (from ∷ []) = IfSome-map-all (λ b. ask.AddBuffer b) (buffer_of from) AsksFew (λ b. tt)
ask_by-few keyword.RemoveBuffer (to ∷ count ∷ []) =
    IfSome-and_then-all (λ b. option_map (λ n. ask.RemoveBuffer b n) (count_of count)) (buffer_of to) AsksFew
    (λ b. IfSome-map-all (λ n. ask.RemoveBuffer b n) (count_of count) AsksFew (λ n. tt))
ask_by-few keyword.Defer (switch ∷ []) = IfSome-map-all (λ on. ask.Defer on) (switch_of switch) AsksFew (λ on. tt)
ask_by-few keyword.Reports [] = tt
ask_by-few kind more = own-few kind more

said-few : (ws : List (List ℕ)) → IfSome (said ws) (λ line. AsksFew line.ask)
said-few [] = tt
said-few (first ∷ []) = tt
said-few (first ∷ number ∷ more) =
    IfSome-and_then-all (λ kind. option_and_then
    (λ b. option_map (λ asked. let line : Line = record { buffer = b; ask = asked } in line) (ask_by kind more)) (buffer_of number))
    (keyword_of first) (λ (line : Line). AsksFew line.ask)
    (λ kind. IfSome-and_then-all
    (λ b. option_map (λ asked. let line : Line = record { buffer = b; ask = asked } in line) (ask_by kind more)) (buffer_of number)
    (λ (line : Line). AsksFew line.ask)
    (λ b. IfSome-map (λ asked. let line : Line = record { buffer = b; ask = asked } in line) (ask_by kind more) AsksFew
    (λ (line : Line). AsksFew line.ask) (ask_by-few kind more) (λ asked few. few)))

-- a text of one line adds at most one line, which brings few bytes
pub record AddsOne (before after : List Line) : Type 0 where
  pub few : AllFew after
  pub count : length after ≤ length before + 1

with_line-adds : (before : List Line) (text : List ℕ) → AllFew before → IfSome (with_line before text) (AddsOne before)
with_line-adds before text few =
    elim (list_all is_plain text) as
    (λ v. IfSome (cond v
    (cond (is_skipped (words text)) (Some before) (option_map (λ line. before ++ line ∷ []) (said (words text)))) None)
    (AddsOne before)) [
      | true ↦ elim (is_skipped (words text)) as
          (λ v. IfSome (cond v (Some before) (option_map (λ line. before ++ line ∷ []) (said (words text)))) (AddsOne before)) [
            | true ↦ record { few = few; count = omega arith }
            | false ↦ IfSome-map (λ line. before ++ line ∷ []) (said (words text)) (λ line. AsksFew line.ask) (AddsOne before)
                (said-few (words text))
                (λ line last. record { few = AllFew-push before line few last; count = omega (arith, length_push before line) })
          ]
      | false ↦ tt
    ]

-- so many lines were read at most, each of which brings few bytes
pub record AreFew (most : ℕ) (script : List Line) : Type 0 where
  pub few : AllFew script
  pub count : length script ≤ most

-- texts are read as no more lines than they are
pub lines_read-few : (so_far : List Line) (before : ℕ) (texts : List (List ℕ)) (script : List Line) → AllFew so_far →
    lines_read so_far before texts ≡ Ok script →
    AreFew (length so_far + length texts) script
lines_read-few so_far before [] script few read = let same : so_far ≡ script = cc in rw (← same) (record { few = few; count = omega arith })
lines_read-few so_far before (text ∷ more) script few read =
    elim (with_line so_far text) as
    (λ o. with_line so_far text ≡ o → going_on o (before + 1) (λ longer. lines_read longer (before + 1) more) ≡ Ok script →
    AreFew (length so_far + length (text ∷ more)) script) [
      | None ↦ λ here no. cc
      | Some longer ↦ λ here on.
          let adds = IfSome-at (with_line so_far text) (AddsOne so_far) longer (with_line-adds so_far text few) here in
          let later = lines_read-few longer (before + 1) more script adds.few on in
          record { few = later.few; count = omega (arith, adds.count, later.count) }
    ] refl read
