-- How buffers tell what waits in them, one after another.
use Rattle.std.proofs.Common.{◌≡◌, ◌<◌, ◌≤◌, ◌+◌, ℕ, Bool, true, false, List, [], ◌∷◌, ◌++◌, length, take, drop, set, refl, ap, ◌∙◌, arith}
use Rattle.std.proofs.Common.{append_assoc}
use Rattle.std.proofs.lemmas.List.{drop_more, take_more, take_more_set, drop-set-lt, take_all, drop_all, append-nil}
use Rattle.evbuf.specs.Evbuffered.{Evbuffered}
use Rattle.evbuf.specs.Moves.{buffer_at}
use Rattle.evbuf.specs.Steps.{new_buffer}
use Rattle.buffers_mode.specs.Steps.{with_callbacks}
use Rattle.buffers_mode.specs.Run.{Run, report_lines, all_reported, reported_by, reports_text, after_reports, released_lines, released_text}
use Rattle.buffers_mode.specs.Run.{without_released, after_released, released_by}

run_same : (run : Run) (bufs bufs' : List Evbuffered) (text text' : List ℕ) → bufs ≡ bufs' → text ≡ text' →
    let one : Run = record run { buffers = bufs; text = text } in let other : Run =
    record run { buffers = bufs'; text = text' } in one ≡ other
run_same run bufs bufs' text text' same_bufs same_text = cc

-- a buffer that was exchanged stands between those before it and those behind it
take-exchanged : (bufs : List Evbuffered) (b : ℕ) (x : Evbuffered) (more : List Evbuffered) → b < length bufs →
    take (b + 1) (set bufs b x) ++ more ≡ take b bufs ++ x ∷ more
take-exchanged bufs b x more lt =
    ap (λ (front : List Evbuffered). front ++ more) (take_more_set bufs b x lt) ∙ append_assoc (take b bufs) (x ∷ []) more

drop-exchanged : (bufs : List Evbuffered) (b : ℕ) (x : Evbuffered) → drop (b + 1) (set bufs b x) ≡ drop (b + 1) bufs
drop-exchanged bufs b x = drop-set-lt (b + 1) bufs b x (omega arith)

-- where the buffers below b have told, what is left to tell
abbrev pub left_reports : (ℕ → Bool) → Run → ℕ → Run
left_reports reports run b = record run {
  buffers = take b run.buffers ++ after_reports reports b (drop b run.buffers);
  text = run.text ++ reports_text reports b (drop b run.buffers);
}

pub left_reports-told : (reports : ℕ → Bool) (run : Run) (b : ℕ) → b < length run.buffers → reports b ≡ true →
    left_reports reports (reported_by b run) (b + 1) ≡ left_reports reports run b
left_reports-told reports run b lt tells =
    let buf = buffer_at run.buffers b in
    let told = with_callbacks buf (all_reported buf.callbacks) in
    let rest = drop (b + 1) run.buffers in
    let here : drop b run.buffers ≡ buf ∷ rest = drop_more run.buffers b new_buffer lt in
    run_same run _ _ _ _
    (ap (λ (more : List Evbuffered). take (b + 1) (set run.buffers b told) ++ after_reports reports (b + 1) more)
    (drop-exchanged run.buffers b told)
    ∙ take-exchanged run.buffers b told (after_reports reports (b + 1) rest) lt
    ∙ rw (here, tells) refl)
    (ap (λ (more : List Evbuffered). run.text ++ report_lines b buf.callbacks ++ reports_text reports (b + 1) more)
    (drop-exchanged run.buffers b told)
    ∙ append_assoc run.text (report_lines b buf.callbacks) (reports_text reports (b + 1) rest)
    ∙ rw (here, tells) refl)

pub left_reports-silent : (reports : ℕ → Bool) (run : Run) (b : ℕ) → b < length run.buffers → reports b ≡ false →
    left_reports reports run (b + 1) ≡ left_reports reports run b
left_reports-silent reports run b lt silent =
    let buf = buffer_at run.buffers b in
    let rest = drop (b + 1) run.buffers in
    let here : drop b run.buffers ≡ buf ∷ rest = drop_more run.buffers b new_buffer lt in
    run_same run _ _ _ _
    (ap (λ (front : List Evbuffered). front ++ after_reports reports (b + 1) rest) (take_more run.buffers b new_buffer lt)
    ∙ append_assoc (take b run.buffers) (buf ∷ []) (after_reports reports (b + 1) rest)
    ∙ rw (here, silent) refl)
    (rw (here, silent) refl)

pub left_reports-none : (reports : ℕ → Bool) (run : Run) (b : ℕ) → length run.buffers ≤ b → left_reports reports run b ≡ run
left_reports-none reports run b all =
    run_same run _ run.buffers _ run.text
    (rw (drop_all b run.buffers all, take_all b run.buffers all) (append-nil run.buffers))
    (rw (drop_all b run.buffers all) (append-nil run.text))

abbrev pub left_released : Run → ℕ → Run
left_released run b = record run {
  buffers = take b run.buffers ++ after_released (drop b run.buffers);
  text = run.text ++ released_text (drop b run.buffers);
}

pub left_released-told : (run : Run) (b : ℕ) → b < length run.buffers → left_released (released_by b run) (b + 1) ≡ left_released run b
left_released-told run b lt =
    let buf = buffer_at run.buffers b in
    let told = without_released buf in
    let rest = drop (b + 1) run.buffers in
    let here : drop b run.buffers ≡ buf ∷ rest = drop_more run.buffers b new_buffer lt in
    run_same run _ _ _ _
    (ap (λ (more : List Evbuffered). take (b + 1) (set run.buffers b told) ++ after_released more) (drop-exchanged run.buffers b told)
    ∙ take-exchanged run.buffers b told (after_released rest) lt
    ∙ rw here refl)
    (ap (λ (more : List Evbuffered). run.text ++ released_lines buf.released ++ released_text more) (drop-exchanged run.buffers b told)
    ∙ append_assoc run.text (released_lines buf.released) (released_text rest)
    ∙ rw here refl)

pub left_released-none : (run : Run) (b : ℕ) → length run.buffers ≤ b → left_released run b ≡ run
left_released-none run b all =
    run_same run _ run.buffers _ run.text
    (rw (drop_all b run.buffers all, take_all b run.buffers all) (append-nil run.buffers))
    (rw (drop_all b run.buffers all) (append-nil run.text))
