-- S12.1: a log of calls. A call has a kind byte and what follows it: 5 bytes in all for a Release, 2 + 4c for a Tick with c
-- reports. A call that is cut short or of another kind ends the log, and so does the last byte.
use Rattle.std.specs.Prelude.{ℕ, zero, suc, ◌≡◌, ◌+◌, ◌*◌, cond, List, [], ◌∷◌, map, eqb, leb, length, Option, Some, None, Result, MatchResult}
use Rattle.basics.specs.Lists.{range}
use Rattle.basics.specs.Numbers.{byte_at, u32_at}
use Rattle.model.specs.Step.{Call, release, tick}
use Rattle.guarantee.specs.declared.encoding.Kind.{Kind}
use Rattle.guarantee.specs.declared.encoding.Kind.TheVariants.{Release, Tick}
use Rattle.guarantee.specs.declared.encoding.UnknownKind.{UnknownKind}

-- S12.1: the kind byte of a Release.
abbrev pub release_kind : ℕ
release_kind = 0

-- S12.1: the kind byte of a Tick.
abbrev pub tick_kind : ℕ
tick_kind = 1

-- S12.1: the kind that a byte says, if it says one.
unfoldable pub kind_of : ℕ → Option Kind
kind_of b = cond (eqb b release_kind) (Some Release) (cond (eqb b tick_kind) (Some Tick) None)

-- S12.1: the result is the kind that the byte says, or the byte itself where it says none.
abbrev pub Decodes : ℕ → Result Kind UnknownKind → Type 0
Decodes b r = MatchResult r (λ kind. kind_of b ≡ Some kind) (λ e. (e.0 ≡ b) × (kind_of b ≡ None))

-- S12.1: how many bytes a call of this kind asks for; its second byte is the number of a tick's reports.
unfoldable pub asked_by : Kind → ℕ → ℕ
asked_by Release second = 5
asked_by Tick second = 2 + 4 * second

-- S12.1: how many bytes the call at a place asks for, by its kind; 0 for an unknown one.
unfoldable pub asked_at : List ℕ → ℕ → ℕ
asked_at bytes at =
    cond (eqb (byte_at bytes at) release_kind) 5
    (cond (eqb (byte_at bytes at) tick_kind) (2 + 4 * byte_at bytes (at + 1))
    0)

-- S12.1: how many bytes the call at a place has if it stands there whole; 0 where the log ends.
unfoldable pub size_at : List ℕ → ℕ → ℕ
size_at bytes at = cond (leb (at + asked_at bytes at) (length bytes)) (asked_at bytes at) 0

-- S12.1: count reports of four bytes each, from a place on.
unfoldable pub reports_at : List ℕ → ℕ → ℕ → List ℕ
reports_at bytes at count = map (λ i. u32_at bytes (at + 4 * i)) (range 0 count)

-- S12.1: the call that stands whole at a place.
unfoldable pub call_at : List ℕ → ℕ → Call
call_at bytes at =
    cond (eqb (byte_at bytes at) release_kind) (release (u32_at bytes (at + 1)))
    (tick (reports_at bytes (at + 2) (byte_at bytes (at + 1))))

-- S12.1: the call of a kind that these bytes are.
unfoldable pub call_in : Kind → List ℕ → Call
call_in Release bytes = release (u32_at bytes 1)
call_in Tick bytes = tick (reports_at bytes 2 (byte_at bytes 1))

-- S12.1: the calls from a place on, up to where the log ends, and at most so many.
unfoldable pub calls_from : ℕ → List ℕ → ℕ → List Call
calls_from zero bytes at = []
calls_from (suc most) bytes at =
    cond (eqb (size_at bytes at) 0) [] (call_at bytes at ∷ calls_from most bytes (at + size_at bytes at))

-- S12.1: the calls of a log. Each has a byte at least, so that there are no more calls than bytes.
unfoldable pub calls_of : List ℕ → List Call
calls_of bytes = calls_from (length bytes) bytes 0
