-- The lines of a generated script: what they open, name and bring in.
use Rattle.std.proofs.Common.{◌≡◌, ◌≤◌, ◌<◌, ◌+◌, ◌*◌, ℕ, zero, suc, Bool, true, false, List, [], ◌++◌, length, refl, ap, sym, ◌∙◌}
use Rattle.std.proofs.Common.{arith, subst, append-nil, length-append, if◌then◌else◌}
use Rattle.std.specs.Prelude.{replicate}
use Rattle.std.specs.List.{flat_map}
use Rattle.std.proofs.lemmas.Grind.{flat_map-append}
use Rattle.std.proofs.lemmas.List.Elements.{All-append, All-nil}
use Rattle.std.proofs.lemmas.List.Sums.{sum_by-append}
use Rattle.ev_types.specs.declared.side.SideId.{SideId}
use Rattle.ev_types.specs.Sides.{same_end}
use Rattle.ev_types.specs.declared.turn_line.TurnLine.{TurnLine}
use Rattle.ev_types.specs.declared.turn_line.TurnLine.TheVariants as line
use Rattle.ev_types.specs.ScriptTurn.{lines_of}
use Rattle.script_text.specs.Brought.{all_brought, brought}
use Rattle.relay_model.specs.Called.{NamesOpened}
use Rattle.relay_model.specs.ClosingTurns.{scripted_links}
use Rattle.relay_model.specs.Lines.{links_by, brings}
use Rattle.big_script.specs.Generated.{generated, number_after}
use Rattle.big_script.specs.BigScript.{lines_with, lines_from, turns_with_each, in_side_of}
use Rattle.big_script.specs.BigLaws.{AreFewBytes}
use Rattle.big_script.proofs.GeneratedLemmas.{length-generated, generated-bytes}

-- All lines

-- the lines are those that open links, and those of each link
pub lines_of-turns : (each links : ℕ) →
    lines_of (turns_with_each each links) ≡ replicate links (line.NewLink false) ++ lines_from each links 0 links
lines_of-turns each links =
    ap (λ (rest : List TurnLine). replicate links (line.NewLink false) ++ rest) (append-nil (lines_from each links 0 links))

-- What they open

-- the lines that open links open one each
links_by-opening : (n : ℕ) → length (flat_map links_by (replicate n (line.NewLink false))) ≡ n
links_by-opening zero = refl
links_by-opening (suc n) = omega (arith, links_by-opening n)

-- the lines of links open none
links_by-lines_from : (each n link x : ℕ) → flat_map links_by (lines_from each n link x) ≡ []
links_by-lines_from each zero link x = refl
links_by-lines_from each (suc n) link x = links_by-lines_from each n (link + 1) (number_after each x)

pub length-opened : (each links : ℕ) → length (scripted_links (turns_with_each each links)) ≡ links
length-opened each links =
    let opening = replicate links (line.NewLink false) in
    let sending = lines_from each links 0 links in
    ap (λ (all : List TurnLine). length (flat_map links_by all)) (lines_of-turns each links)
    ∙ ap length (flat_map-append links_by opening sending)
    ∙ ap (λ (more : List Bool). length (flat_map links_by opening ++ more)) (links_by-lines_from each links 0 links)
    ∙ ap length (append-nil (flat_map links_by opening))
    ∙ links_by-opening links

-- What they name

-- the lines of links that are opened name those
names-lines_from : (opened each n link x : ℕ) → link + n ≤ opened → NamesOpened opened (lines_from each n link x)
names-lines_from opened each zero link x h = tt
names-lines_from opened each (suc n) link x h =
    let here : link < opened = omega (arith, h) in
    let rest : link + 1 + n ≤ opened = omega (arith, h) in
    (here, (here, (here, (here, (here, names-lines_from opened each n (link + 1) (number_after each x) rest)))))

-- behind lines that open so many links, those lines name opened links that do so where so many more are opened
names-opening : (opened n : ℕ) (rest : List TurnLine) → NamesOpened (opened + n) rest →
    NamesOpened opened (replicate n (line.NewLink false) ++ rest)
names-opening opened zero rest h = let e : opened + 0 ≡ opened = omega arith in subst (λ (k : ℕ). NamesOpened k rest) e h
names-opening opened (suc n) rest h =
    let e : opened + suc n ≡ opened + 1 + n = omega arith in
    names-opening (opened + 1) n rest (subst (λ (k : ℕ). NamesOpened k rest) e h)

pub names-turns : (each links : ℕ) → NamesOpened 0 (lines_of (turns_with_each each links))
names-turns each links =
    let e : 0 + links ≡ links = omega arith in
    let within : 0 + links ≤ links = omega arith in
    subst (NamesOpened 0) (sym (lines_of-turns each links))
    (names-opening 0 links (lines_from each links 0 links)
    (subst (λ (k : ℕ). NamesOpened k (lines_from each links 0 links)) (sym e) (names-lines_from links each links 0 links within)))

-- What they bring in

all_brought-opening : (n : ℕ) → all_brought (replicate n (line.NewLink false)) ≡ 0
all_brought-opening zero = refl
all_brought-opening (suc n) = all_brought-opening n

all_brought-lines_from : (each n link x : ℕ) → all_brought (lines_from each n link x) ≡ each * n
all_brought-lines_from each zero link x = let e : 0 ≡ each * 0 = omega arith in e
all_brought-lines_from each (suc n) link x =
    let here = lines_with (generated each x) link in
    let rest = lines_from each n (link + 1) (number_after each x) in
    let both : all_brought (here ++ rest) ≡ all_brought here + all_brought rest = sum_by-append brought here rest in
    let one : all_brought here ≡ each = ap (λ (k : ℕ). 0 + k + 0 + 0 + 0 + 0) (length-generated each x) ∙ (omega arith) in
    let more = all_brought-lines_from each n (link + 1) (number_after each x) in
    omega (arith, both, one, more)

pub all_brought-turns : (each links : ℕ) → all_brought (lines_of (turns_with_each each links)) ≡ each * links
all_brought-turns each links =
    let opening = replicate links (line.NewLink false) in
    let sending = lines_from each links 0 links in
    let both : all_brought (opening ++ sending) ≡ all_brought opening + all_brought sending = sum_by-append brought opening sending in
    ap all_brought (lines_of-turns each links)
    ∙ (let e : all_brought (opening ++ sending) ≡ each * links =
    omega (arith, both, all_brought-opening links, all_brought-lines_from each links 0 links) in e)

-- The bytes of an end

no-bytes : (most : ℕ) → AreFewBytes most []
no-bytes most = record { bytes = All-nil (λ b. b < 256); few = omega arith }

both-few : (a b most : ℕ) (xs ys : List ℕ) → a + b ≤ most → AreFewBytes a xs → AreFewBytes b ys → AreFewBytes most (xs ++ ys)
both-few a b most xs ys h one two = record {
  bytes = All-append (λ b. b < 256) xs ys one.bytes two.bytes;
  few = omega (arith, h, one.few, two.few, length-append xs ys);
}

if-few : (most : ℕ) (test : Bool) (xs : List ℕ) → AreFewBytes most xs → AreFewBytes most (if test then xs else [])
if-few most true xs h = h
if-few most false xs h = no-bytes most

brings-opening : (e : SideId) (n : ℕ) → flat_map (brings e) (replicate n (line.NewLink false)) ≡ []
brings-opening e zero = refl
brings-opening e (suc n) = brings-opening e n

brings-lines_from : (e : SideId) (each n link x : ℕ) → AreFewBytes (each * n) (flat_map (brings e) (lines_from each n link x))
brings-lines_from e each zero link x = no-bytes (each * 0)
brings-lines_from e each (suc n) link x =
    let sum : each + each * n ≤ each * suc n = omega arith in
    let gen : AreFewBytes each (generated each x) =
    record { bytes = generated-bytes each x; few = omega (arith, length-generated each x) } in
    both-few each (each * n) (each * suc n) (if same_end (in_side_of link) e then generated each x else [])
    (flat_map (brings e) (lines_from each n (link + 1) (number_after each x))) sum
    (if-few each (same_end (in_side_of link) e) (generated each x) gen)
    (brings-lines_from e each n (link + 1) (number_after each x))

pub brings-turns : (e : SideId) (each links : ℕ) → AreFewBytes (each * links) (flat_map (brings e) (lines_of (turns_with_each each links)))
brings-turns e each links =
    let opening = replicate links (line.NewLink false) in
    let sending = lines_from each links 0 links in
    let is =
    ap (flat_map (brings e)) (lines_of-turns each links)
    ∙ flat_map-append (brings e) opening sending
    ∙ ap (λ (front : List ℕ). front ++ flat_map (brings e) sending) (brings-opening e links) in
    subst (AreFewBytes (each * links)) (sym is) (brings-lines_from e each links 0 links)
