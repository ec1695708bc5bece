-- The calls through which code was inlined (LLVM Language Reference Manual, "DILocation"; DWARF 5 section 3.3.8). A call is the node of its DILocation.
use Rattle.std.specs.Prelude.{◌≡◌, ℕ, ◌⊎◌, List, [], ◌∷◌, Option, Some, None}
use Rattle.std.specs.Option.{option_and_then}
use Rattle.read_metadata.specs.Maps.{Maps}
use Rattle.read_metadata.specs.Metadata.{location_at}
use Rattle.read_metadata.specs.declared.node.LocationNode.{LocationNode}
use Rattle.read_item.specs.Debug.{inlined_at_node}

-- the node, if it is readable as a DILocation
abbrev pub if_location : Option LocationNode → ℕ → Option ℕ
if_location None n = None
if_location (Some l) n = Some n

-- the call at a node
abbrev pub call_at : Maps → Option ℕ → Option ℕ
call_at meta at = option_and_then (λ n. if_location (location_at meta n) n) at

-- the call through which a call was inlined itself
abbrev pub outer_call : Maps → ℕ → Option ℕ
outer_call meta n = call_at meta (inlined_at_node (location_at meta n))

-- These are the calls from one on up to another one, which isn't among them, inner ones first: each next one is the call through which the one before it was
-- inlined.
abbrev pub IsWay : Maps → (from : Option ℕ) → (calls : List ℕ) → (to : Option ℕ) → Type 0
IsWay meta from [] to = from ≡ to
IsWay meta from (n ∷ ns) to = (from ≡ Some n) × IsWay meta (outer_call meta n) ns to

-- These are the calls from one on, up to the function's own code or to a call that isn't readable. So there are none from a call that leads to one twice: a
-- circle has no end.
abbrev pub AreCallsFrom : Maps → Option ℕ → List ℕ → Type 0
AreCallsFrom meta from ns = IsWay meta from ns None

-- the calls through which code at a debug location was inlined that is inlined at a node: none if the way from there doesn't end
abbrev pub AreCalls : Maps → Option ℕ → List ℕ → Type 0
AreCalls meta at ns = AreCallsFrom meta (call_at meta at) ns ⊎ (((ms : List ℕ) → AreCallsFrom meta (call_at meta at) ms → ⊥) × (ns ≡ []))
