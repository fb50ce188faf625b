-- What follows where a direction is conserved, for all filters that obey the laws.
use Rattle.std.specs.Prelude.{◌≡◌, ℕ, ◌≤◌, Bool, true, false, ◌&&◌, if◌then◌else◌, List, [], ◌++◌, length, take, is_none, Contains}
use Rattle.ev_types.specs.declared.filter.FilterKind.{FilterKind}
use Rattle.ev_types.specs.declared.side.SideId.{SideId}
use Rattle.ev_types.specs.Trace.{Trace}
use Rattle.relay_model.specs.Trace.{moved_at_free}
use Rattle.filter_model.specs.Filter.{Filter}
use Rattle.filter_model.specs.FilterLaws.{IsPrefixOf, IsFilter, LookAlike, more, more_at_end}
use Rattle.relay_model.specs.Flow.{Flow, middle, output, raw_output, passed}
use Rattle.relay_model.specs.Conserved.{Accounted, Holds, Buffers}
use Rattle.filter_model.specs.Running.{StandsAt, Running}

-- What was given begins what the filters make of all that was read: before the side has ended without their ends, from then
-- on with them.
abbrev pub GivenBegins : Type 0
GivenBegins = (r w : Filter) (t : Trace) (from : SideId) (read taken : List ℕ) (ended : Bool) (f : Flow) →
    IsFilter r → IsFilter w → Accounted r w t from read taken ended f → IsPrefixOf taken (passed r w ended read)

-- what a filter that used xs still adds for ys, and for its end where that is to come; nothing once it is finished
abbrev pub adds : Filter → Bool → Bool → List ℕ → List ℕ → List ℕ
adds f done ends xs ys = if done then [] else (if ends then more_at_end f xs ys else more f xs ys)

-- the filters will add their ends: the side has ended, and its read filter's end is good
abbrev pub ends_well : Filter → Bool → List ℕ → Bool
ends_well r ended read = ended && is_none (r.bad_at_end read)

-- what the read filter still adds for the raw input that a direction holds
abbrev pub read_adds : Filter → Bool → List ℕ → Flow → Buffers → List ℕ
read_adds r ended read f b = adds r f.read_done (ends_well r ended read) (take f.used read) b.raw_input

-- what the write filter still adds for the output, the input and what the read filter adds
abbrev pub write_adds : Filter → Filter → Bool → List ℕ → Flow → Buffers → List ℕ
write_adds r w ended read f b =
    adds w f.write_done (ends_well r ended read) (take f.turned (middle r read f)) (b.output ++ (b.input ++ read_adds r ended read f b))

-- While both sides live: what was given, then the raw output, then what the write filter still adds for the rest, is what the
-- filters make of all that was read.
abbrev pub AllIsThere : Type 0
AllIsThere = (read_name write_name : FilterKind) (r w : Filter) (t : Trace) (from : SideId) (read taken : List ℕ) (ended : Bool) (f : Flow) (b : Buffers)
    (reader writer : Running) → IsFilter r → IsFilter w → Accounted r w t from read taken ended f →
    Holds read_name write_name r w read ended true true f b reader writer →
    taken ++ (b.raw_output ++ write_adds r w ended read f b) ≡ passed r w ended read

-- After the side was freed, its free telling how many bytes were moved, and while the write filter is not finished: what was
-- given, then the raw output, then what the write filter adds for the output, is what the write filter makes of so many first
-- bytes of what the read filter makes of all that was read, its end included where the side had ended.
abbrev pub RestAfterFree : Type 0
RestAfterFree = (r w : Filter) (t : Trace) (from : SideId) (read taken : List ℕ) (ended : Bool) (f : Flow) (moved : ℕ) →
    IsFilter r → IsFilter w → Accounted r w t from read taken ended f → Contains (moved_at_free from t) moved → f.write_done ≡ false →
    taken ++ (raw_output r w read f ++ more w (take f.turned (middle r read f)) (output r read f))
    ≡ w.before (take moved (if ended then r.at_end read else r.before read))
