-- Each value is what its word says, and its word is one.
use Rattle.std.proofs.Common.{◌≡◌, ◌<◌, ◌≤◌, ◌-◌, ◌^◌, ℕ, zero, suc, slice_index, Bool, true, false, ◌||◌, le-leb, lit<, List, [], ◌∷◌}
use Rattle.std.proofs.Common.{length, refl, ap, ◌∙◌, arith, codes, Option, Some}
use Rattle.std.specs.Prelude.{option_map, option_and_then}
use Rattle.std.specs.List.{list_all}
use Rattle.std.specs.Fmt.{decimal}
use Rattle.std.specs.Result.{result_ok}
use Rattle.hex.specs.Hex.{IsBytes, encode_lower, lower_digits}
use Rattle.hex.proofs.HexLemmas.{length-encode_with, decode_of-encode_lower}
use Rattle.token_bucket.specs.declared.limit.Dir.{Dir}
use Rattle.token_bucket.specs.declared.limit.Dir.TheVariants as dir
use Rattle.ev_types.specs.declared.side.Side.{Side}
use Rattle.ev_types.specs.declared.side.Side.TheVariants as side
use Rattle.ev_types.specs.declared.side.SideId.{SideId}
use Rattle.ev_types.specs.declared.why.Why.{Why}
use Rattle.ev_types.specs.declared.why.Why.TheVariants as why
use Rattle.ev_types.specs.declared.why.Cause.{Cause}
use Rattle.ev_types.specs.declared.why.Cause.TheVariants as cause
use Rattle.ev_types.specs.declared.answer.ConnAnswer.{ConnAnswer}
use Rattle.ev_types.specs.declared.answer.ConnAnswer.TheVariants as conn
use Rattle.ev_types.specs.declared.answer.AskAnswer.{AskAnswer}
use Rattle.ev_types.specs.declared.answer.AskAnswer.TheVariants as answer
use Rattle.script_text.specs.Numbers.{any_number}
use Rattle.script_text.specs.Ends.{side_of, link_of, end_of}
use Rattle.script_text.specs.ValueGrammar.{dir_of, marks_of, conn_of, why_of, cause_of, ask_of, lower_bytes_of, is_no_capital}
use Rattle.script_text.specs.Lines.{side_word, dir_word, marks_word, why_word, cause_word}
use Rattle.script_text.specs.TraceText.{conn_word}
use Rattle.script_text.specs.ActLine.{ask_word}
use Rattle.script_text.specs.TraceLaws.{IsWide, IsEnd, IsWhy, IsCause}
use Rattle.script_text.proofs.LawLemmas.{number_within-decimal}
use Rattle.script_text.proofs.SolidLemmas.{Solid, is_solid, list_all-append, list_all-encode_lower, Solid-decimal}

-- ---- what a word says

pub any_number-decimal : (n : ℕ) → IsWide n → any_number (decimal n) ≡ Some n
any_number-decimal n wide = number_within-decimal (2 ^ 64 - 1) n (lit< tt) (omega arith)

pub link_of-decimal : (l : ℕ) → l < 2 ^ 32 → link_of (decimal l) ≡ Some l
link_of-decimal l small = number_within-decimal (2 ^ 32 - 1) l (lit< tt) (omega arith)

pub side_of-word : (s : Side) → side_of (side_word s) ≡ Some s
side_of-word side.In = refl
side_of-word side.Out = refl

pub end_of-words : (end : SideId) → IsEnd end → end_of (decimal end.link) (side_word end.side) ≡ Some end
end_of-words end small =
    let made : Side → Option SideId = λ s. option_map (λ l. record { link = l; side = s }) (link_of (decimal end.link)) in
    ap (λ (o : Option Side). option_and_then made o) (side_of-word end.side)
    ∙ ap (λ (o : Option ℕ). option_map (λ l. record { link = l; side = end.side }) o) (link_of-decimal end.link small)

pub dir_of-word : (d : Dir) → dir_of (dir_word d) ≡ Some d
dir_of-word dir.Read = refl
dir_of-word dir.Write = refl

pub marks_of-word : (r w : Bool) → (r || w) ≡ true → marks_of (marks_word r w) ≡ Some (r, w)
marks_of-word true true some = refl
marks_of-word true false some = refl
marks_of-word false true some = refl
marks_of-word false false some = absurd cc

pub conn_of-word : (a : ConnAnswer) → conn_of (conn_word a) ≡ Some a
conn_of-word conn.Connected = refl
conn_of-word conn.Pending = refl
conn_of-word conn.Failed = refl

pub ask_of-word : (a : AskAnswer) → ask_of (ask_word a) ≡ Some a
ask_of-word answer.Ok = refl
ask_of-word answer.NotLive = refl
ask_of-word answer.NoGroup = refl
ask_of-word answer.BadValue = refl
ask_of-word answer.TooManyRefs = refl
ask_of-word answer.Memory = refl

pub lower_bytes_of-encode_lower : (bytes : List ℕ) → 0 < length bytes → IsBytes bytes → lower_bytes_of (encode_lower bytes) ≡ Some bytes
lower_bytes_of-encode_lower bytes some are =
    let long : 2 ≤ length (encode_lower bytes) = omega (arith, length-encode_with lower_digits bytes, some) in
    rw (le-leb 2 (length (encode_lower bytes)) long, list_all-encode_lower is_no_capital refl bytes are)
    (ap result_ok (decode_of-encode_lower bytes are))

byte_at : (b : ℕ) → b < 256 → (i : ℕ) → slice_index (b ∷ []) i < 256
byte_at b fits zero = fits
byte_at b fits (suc i) = lit< tt

byte_alone : (b : ℕ) → b < 256 → IsBytes (b ∷ [])
byte_alone b fits = byte_at b fits

pub why_of-word : (w : Why) → IsWhy w → why_of (why_word w) ≡ Some w
why_of-word why.Connected is = refl
why_of-word why.Read is = refl
why_of-word why.Write is = refl
why_of-word why.Timer is = refl
why_of-word (why.Event flags) is = rw (lower_bytes_of-encode_lower (flags.0 ∷ []) (lit< tt) (byte_alone flags.0 is)) refl

pub cause_of-word : (c : Cause) → IsCause c → cause_of (cause_word c) ≡ Some c
cause_of-word cause.Hook is = refl
cause_of-word cause.Done is = refl
cause_of-word cause.PeerGone is = refl
cause_of-word cause.Failed is = refl
cause_of-word cause.Timeout is = refl
cause_of-word (cause.Filter place) is = rw (any_number-decimal place is) refl

-- ---- that it is a word

-- a word that computes
pub computed : (w : List ℕ) → 0 < length w → list_all is_solid w ≡ true → Solid w
computed w filled solid = record { filled = filled; solid = solid }

pub Solid-side_word : (s : Side) → Solid (side_word s)
Solid-side_word side.In = computed (codes "in") (lit< tt) refl
Solid-side_word side.Out = computed (codes "out") (lit< tt) refl

pub Solid-dir_word : (d : Dir) → Solid (dir_word d)
Solid-dir_word dir.Read = computed (codes "read") (lit< tt) refl
Solid-dir_word dir.Write = computed (codes "write") (lit< tt) refl

pub Solid-marks_word : (r w : Bool) → Solid (marks_word r w)
Solid-marks_word true true = computed (codes "rw") (lit< tt) refl
Solid-marks_word true false = computed (codes "r") (lit< tt) refl
Solid-marks_word false true = computed (codes "w") (lit< tt) refl
Solid-marks_word false false = computed (codes "none") (lit< tt) refl

pub Solid-conn_word : (a : ConnAnswer) → Solid (conn_word a)
Solid-conn_word conn.Connected = computed (codes "ok") (lit< tt) refl
Solid-conn_word conn.Pending = computed (codes "wait") (lit< tt) refl
Solid-conn_word conn.Failed = computed (codes "fail") (lit< tt) refl

pub Solid-ask_word : (a : AskAnswer) → Solid (ask_word a)
Solid-ask_word answer.Ok = computed (codes "ok") (lit< tt) refl
Solid-ask_word answer.NotLive = computed (codes "notlive") (lit< tt) refl
Solid-ask_word answer.NoGroup = computed (codes "nogroup") (lit< tt) refl
Solid-ask_word answer.BadValue = computed (codes "badvalue") (lit< tt) refl
Solid-ask_word answer.TooManyRefs = computed (codes "toomanyrefs") (lit< tt) refl
Solid-ask_word answer.Memory = computed (codes "memory") (lit< tt) refl

pub Solid-why_word : (w : Why) → IsWhy w → Solid (why_word w)
Solid-why_word why.Connected is = computed (codes "connected") (lit< tt) refl
Solid-why_word why.Read is = computed (codes "read") (lit< tt) refl
Solid-why_word why.Write is = computed (codes "write") (lit< tt) refl
Solid-why_word why.Timer is = computed (codes "timer") (lit< tt) refl
Solid-why_word (why.Event flags) is = record {
  filled = omega arith;
  solid = list_all-append is_solid (codes "event:") (encode_lower (flags.0 ∷ [])) refl
      (list_all-encode_lower is_solid refl (flags.0 ∷ []) (byte_alone flags.0 is));
}

pub Solid-cause_word : (c : Cause) → IsCause c → Solid (cause_word c)
Solid-cause_word cause.Hook is = computed (codes "hook") (lit< tt) refl
Solid-cause_word cause.Done is = computed (codes "done") (lit< tt) refl
Solid-cause_word cause.PeerGone is = computed (codes "peergone") (lit< tt) refl
Solid-cause_word cause.Failed is = computed (codes "failed") (lit< tt) refl
Solid-cause_word cause.Timeout is = computed (codes "timeout") (lit< tt) refl
Solid-cause_word (cause.Filter place) is = record {
  filled = omega arith;
  solid = list_all-append is_solid (codes "filter:") (decimal place) refl (Solid-decimal place is).solid;
}
