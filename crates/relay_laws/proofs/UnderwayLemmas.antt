-- The buffers of live sides hold what is under way.
use Rattle.std.proofs.Common.{◌≡◌, ℕ, zero, suc, ◌+◌, ◌-◌, ◌<◌, ◌≤◌, Bool, true, false, not, if◌then◌else◌, [], length, sym, ◌∙◌, ap, arith}
use Rattle.std.proofs.Common.{refl}
use Rattle.ev_types.specs.declared.side.SideId.{SideId}
use Rattle.ev_types.specs.Sides.{peer}
use Rattle.ev_types.specs.Trace.{Trace}
use Rattle.relay_model.specs.Trace.{bytes_read, has_ended}
use Rattle.filter_model.specs.Filter.{Filter}
use Rattle.relay_model.specs.Flow.{Flow, raw_input, input, output, raw_output}
use Rattle.relay_model.specs.Conserved.{Buffers}
use Rattle.relay_model.specs.Plain.{Plain, flow_at, is_live}
use Rattle.relay_model.specs.Rooms.{read_kind, write_kind, read_filter, write_filter}
use Rattle.relay_model.specs.Stages.{Stage}
use Rattle.relay_model.specs.Told.{is_freed}
use Rattle.relay_state.specs.State.{State, lane_at}
use Rattle.relay_state.specs.Rooms.{input_length, output_length}
use Rattle.relay_state.specs.Closing.{in_side, out_side}
use Rattle.relay_state.specs.Counting.{buffered_at, buffered_below}
use Rattle.relay_steps.specs.Meaning.{StandsFor}
use Rattle.relay_steps.proofs.EndLemmas.{peer-peer}
use Rattle.relay_laws.specs.Links.{AllRecorded}
use Rattle.relay_laws.specs.Plainly.{HasNoFilters}
use Rattle.relay_laws.specs.Underway.{not_moved, not_taken, underway_at, underway_below, not_given, UnderwayIs, BufferedIsUnderway}
use Rattle.relay_laws.proofs.LawLemmas.{taken-length}
use Rattle.relay_laws.proofs.LinkLemmas.{live-told, freed-told, links-told}
use Rattle.relay_laws.proofs.PlainlyLemmas.{read_kind-none, write_kind-none, plainly-held}

module _ (t : Trace) (x : Stage) (s : State) (h : StandsFor t x s) where
  abbrev p : Plain
  p = s.plain

  -- the input of a live side is what was read there and not moved
  input-is : (e : SideId) → e.link < p.opened → is_live p e ≡ true → input_length s e ≡ not_moved t s e
  input-is e lt live =
      let f : Flow = flow_at p e in
      let r : Filter = read_filter s.settings p e in
      let k = (h.each e lt).holds.buffers in
      let raw : (lane_at s e).buffers.raw_input ≡ raw_input (bytes_read e t) f =
      ap (λ (b : Buffers). b.raw_input) k ∙ ap (λ b. if b then raw_input (bytes_read e t) f else []) live in
      let made : (lane_at s e).buffers.input ≡ input r (bytes_read e t) f =
      ap (λ (b : Buffers). b.input) k ∙ ap (λ b. if b then input r (bytes_read e t) f else []) live in
      λ i. length (raw i) + length (made i)

  -- what waits for a live side is what was moved to it and not given
  output-is : (e : SideId) → e.link < p.opened → is_live p e ≡ true → output_length s e ≡ not_taken t s e
  output-is e lt live =
      let f : Flow = flow_at p (peer e) in
      let r : Filter = read_filter s.settings p (peer e) in
      let k = (h.each (peer e) lt).holds.buffers in
      let back = peer-peer e in
      let there : is_live p (peer (peer e)) ≡ true = ap (is_live p) back ∙ live in
      let waits : (lane_at s (peer e)).buffers.output ≡ output r (bytes_read (peer e) t) f =
      ap (λ (b : Buffers). b.output) k ∙ ap (λ b. if b then output r (bytes_read (peer e) t) f else []) there in
      let made : (lane_at s (peer e)).buffers.raw_output ≡ raw_output r (write_filter s.settings p e) (bytes_read (peer e) t) f =
      ap (λ (b : Buffers). b.raw_output) k
      ∙ ap (λ b. if b then raw_output r (write_filter s.settings p (peer (peer e))) (bytes_read (peer e) t) f else []) there
      ∙ ap (λ z. raw_output r (write_filter s.settings p z) (bytes_read (peer e) t) f) back in
      λ i. length (waits i) + length (made i)

  holds-live : (e : SideId) → e.link < p.opened → is_live p e ≡ true → buffered_at s e ≡ not_moved t s e + not_taken t s e
  holds-live e lt live =
      let a = input-is e lt live in
      let b = output-is e lt live in
      ap (λ z. if z then input_length s e + output_length s e else 0) live ∙ (λ i. a i + b i)

  holds-freed : (e : SideId) → is_live p e ≡ false → buffered_at s e ≡ 0
  holds-freed e freed = ap (λ z. if z then input_length s e + output_length s e else 0) freed

  each-is : (e : SideId) → e.link < p.opened → buffered_at s e ≡ underway_at t s e
  each-is e lt = go (is_live p e) refl
    where
      go : (b : Bool) → is_live p e ≡ b → buffered_at s e ≡ underway_at t s e
      go true live = holds-live e lt live ∙ sym (ap (λ z. if z then not_moved t s e + not_taken t s e else 0) live)
      go false freed = holds-freed e freed ∙ sym (ap (λ z. if z then not_moved t s e + not_taken t s e else 0) freed)

  below-is : (n : ℕ) → n ≤ p.opened → buffered_below s n ≡ underway_below t s n
  below-is zero le = refl
  below-is (suc n) le =
      let less = below-is n (omega (arith, le)) in
      let near = each-is (in_side n) (omega (arith, le)) in
      let far = each-is (out_side n) (omega (arith, le)) in
      λ i. less i + near i + far i

  -- where filters hand bytes on as they are, a direction holds what was read and not given
  direction-is : HasNoFilters s.settings → (e : SideId) → not_moved t s e + not_taken t s (peer e) ≡ not_given t e
  direction-is plainly e =
      let f : Flow = flow_at p e in
      let read = bytes_read e t in
      let r : Filter = read_filter s.settings p e in
      let held = plainly-held (read_kind s.settings e.side) (write_kind s.settings (peer e).side)
      (read_kind-none s.settings plainly e.side) (write_kind-none s.settings plainly (peer e).side)
      read (has_ended e t) f (h.accounts e).fits in
      let back = peer-peer e in
      let far : not_taken t s (peer e) ≡ length (output r read f) + length (raw_output r (write_filter s.settings p (peer e)) read f) =
      ap (λ z. length (output (read_filter s.settings p z) (bytes_read z t) (flow_at p z))
      + length (raw_output (read_filter s.settings p z) (write_filter s.settings p (peer e)) (bytes_read z t) (flow_at p z))) back in
      let given = taken-length t x s h e in
      ap (λ z. not_moved t s e + z) far ∙ held ∙ ap (λ z. length read - z) (sym given)

  both-are : HasNoFilters s.settings → AllRecorded x → (link : ℕ) → link < p.opened → is_freed (in_side link) t ≡ false →
      is_freed (out_side link) t ≡ false →
      buffered_at s (in_side link) + buffered_at s (out_side link) ≡ not_given t (in_side link) + not_given t (out_side link)
  both-are plainly recorded link lt near far =
      let a = holds-live (in_side link) lt (live-told t x s h recorded (in_side link) lt ∙ ap not near) in
      let b = holds-live (out_side link) lt (live-told t x s h recorded (out_side link) lt ∙ ap not far) in
      let d = direction-is plainly (in_side link) in
      let e = direction-is plainly (out_side link) in
      omega (arith, a, b, d, e)

  underway-is : UnderwayIs t x s
  underway-is =
      let links = links-told t x s h in
      record {
        all = below-is p.opened (omega arith) ∙ ap (underway_below t s) links;
        each = λ e lt. each-is e (omega (arith, links, lt));
        both = λ plainly recorded link lt near far. both-are plainly recorded link (omega (arith, links, lt)) near far;
        gone = λ e lt freed.
            let here : e.link < p.opened = omega (arith, links, lt) in
            holds-freed e (freed-told t x s h e here freed);
      }

pub buffered_is_underway : BufferedIsUnderway
buffered_is_underway t x s k = underway-is t x s k
