-- The inlined subroutines of a function: an instance for each call through which its code was inlined (DWARF 5 section 3.3.8.2).
use Rattle.std.specs.Prelude.{◌≡◌, ℕ, ◌<◌, List, [], ◌∷◌, map, Option, None, Some, IfSome, cond, nat_eq, slice_get}
use Rattle.std.specs.Option.{option_and_then}
use Rattle.read_metadata.specs.Maps.{Maps}
use Rattle.read_metadata.specs.Metadata.{location_at}
use Rattle.dwarf_line_table.specs.declared.source_and_code.SourceAndCode.{SourceAndCode}
use Rattle.inline_instances.specs.declared.instance.Instance.{Instance}
use Rattle.inline_instances.specs.declared.instance.InlinedCode.{InlinedCode}
use Rattle.inline_instances.specs.Calls.{outer_call}
use Rattle.inline_instances.specs.Words.{InlinedWord, AreInlined, has_call, calls_of, ranges_of}

-- the scope of the location of a call
abbrev pub scope_of_call : Maps → ℕ → Option ℕ
scope_of_call meta n = option_and_then (λ l. l.scope) (location_at meta n)

-- a scope of the function that was inlined by a call, itself or a lexical block of it: that of the location before the call on the way through these calls,
-- which begins in a scope
abbrev pub scope_in : Maps → ℕ → (scope : Option ℕ) → (calls : List ℕ) → Option ℕ
scope_in meta n scope [] = None
scope_in meta n scope (m ∷ ms) = cond (nat_eq n m) scope (scope_in meta n (scope_of_call meta m) ms)

-- a scope of the function that was inlined by a call, by the first instruction that was inlined through it
abbrev pub inlined_scope : Maps → ℕ → List InlinedWord → Option ℕ
inlined_scope meta n [] = None
inlined_scope meta n (w ∷ ws) = cond (has_call n w) (scope_in meta n w.scope w.calls) (inlined_scope meta n ws)

-- an index of a call among calls, and none of none
abbrev pub IsIndexOf : (calls : List ℕ) → Option ℕ → (call : Option ℕ) → Type 0
IsIndexOf calls None None = Unit {0}
IsIndexOf calls None (Some n) = ⊥
IsIndexOf calls (Some k) None = ⊥
IsIndexOf calls (Some k) (Some n) = slice_get calls k ≡ Some n

-- the instance of its call, with an index: it stands in the instance of the call through which its call was inlined itself, which has an earlier index, if that
-- is readable, and has a scope of the function that was inlined
pub record IsInstance (meta : Maps) (words : List InlinedWord) (k : ℕ) (i : Instance) : Type 0 where
  pub parent : IsIndexOf (calls_of words) i.parent (outer_call meta i.call)
  pub earlier : IfSome i.parent (λ p. p < k)
  pub scope : i.scope ≡ inlined_scope meta i.call words

-- The instances of a function: of each call one, by their first instruction, outer ones first. The ranges of each are the addresses of the instructions that
-- were inlined through its call.
pub record AreInstances (meta : Maps) (f : SourceAndCode) (inlined : InlinedCode) : Type 0 where
  pub words : List InlinedWord
  pub instructions : AreInlined meta f words
  pub calls : map (λ i. i.call) inlined.instances ≡ calls_of words
  pub each : (k : ℕ) (i : Instance) → slice_get inlined.instances k ≡ Some i → IsInstance meta words k i
  pub ranges : inlined.ranges ≡ map (λ n. ranges_of n words) (calls_of words)
