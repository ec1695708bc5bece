-- How each item is encoded (its span), and the rounds of branch relaxation.
use Rattle.std.specs.Prelude.{◌≡◌, ℕ, suc, ◌+◌, ◌&&◌, Bool, cond, nat_le, List, [], ◌∷◌, map, slice_index, sum_by}
use Rattle.rv64_instr.specs.Row.{Row, row_of}
use Rattle.rv64_instr.specs.LocationEffects.{has_site}
use Rattle.mir_func.specs.declared.exit.Exit.{Exit}
use Rattle.mir_func.specs.declared.exit.Exit.TheVariants.{Onward, Perhaps, Always, Final}
use Rattle.mir_func.specs.Exits.{row_exit}
use Rattle.mir_func.specs.declared.block.Block.{Block}
use Rattle.mir_func.specs.declared.item.ItemKind.{ItemKind}
use Rattle.mir_func.specs.declared.item.ItemKind.TheVariants.{Code, Mark, Phi}
use Rattle.mir_func.specs.declared.position.Pos.{Pos}
use Rattle.emit_code.specs.declared.span.Span.{Span}
use Rattle.emit_code.specs.declared.span.Span.TheVariants.{Nothing, OneWord, CallSite, Short, Long}
use Rattle.emit_code.specs.Rule.{Site, sites_from}
use Rattle.emit_code.specs.steps.Places.{first_of}

abbrev pub span_size : Span → ℕ
span_size Nothing = 0
span_size OneWord = 4
span_size CallSite = 8
span_size (Short t) = 4
span_size (Long t) = 8

abbrev pub short_count : Span → ℕ
short_count Nothing = 0
short_count OneWord = 0
short_count CallSite = 0
short_count (Short t) = 1
short_count (Long t) = 0

-- the number of short branches
abbrev pub shorts : List Span → ℕ
shorts spans = sum_by short_count spans

-- the span of an instruction by its exit. The flag is whether a conditional branch is long
abbrev pub exit_span : List Block → (long : Bool) → Exit → (site : Bool) → Span
exit_span blocks long Onward site = cond site CallSite OneWord
exit_span blocks long (Perhaps n) site = cond long (Long (first_of blocks n)) (Short (first_of blocks n))
exit_span blocks long (Always n) site = OneWord
exit_span blocks long Final site = cond site CallSite OneWord

-- the span of an instruction by its row
abbrev pub row_span : List Block → (long : Bool) → Row → Span
row_span blocks long row = exit_span blocks long (row_exit row) (has_site row)

abbrev pub span_of : List Block → (long : Bool) → ItemKind → Span
span_of blocks long (Code i k) = row_span blocks long (row_of i)
span_of blocks long (Mark v m) = Nothing
span_of blocks long (Phi p k) = Nothing

-- the span of an item at its point
abbrev pub site_span : List Block → (long : Pos → Bool) → Site → Span
site_span blocks long s = span_of blocks (long s.point) s.item.kind

-- the spans of all items of a function, in text order
abbrev pub spans_of : List Block → (long : Pos → Bool) → List Span
spans_of blocks long = map (site_span blocks long) (sites_from 0 blocks)

-- the bytes before each item and before the end, counted from n
abbrev pub sums_from : ℕ → List Span → List ℕ
sums_from n [] = n ∷ []
sums_from n (s ∷ spans) = n ∷ sums_from (n + span_size s) spans

-- a conditional branch at one address reaches the other: the offset is from -4096 to 4094 bytes
abbrev pub reaches : (from to : ℕ) → Bool
reaches from to = nat_le to (from + 4094) && nat_le from (to + 4096)

-- one step of relaxation: the short branch at this index becomes long if its target is out of reach
abbrev pub grown : (sums : List ℕ) → (index : ℕ) → Span → Span
grown sums k Nothing = Nothing
grown sums k OneWord = OneWord
grown sums k CallSite = CallSite
grown sums k (Short t) = cond (reaches (slice_index sums k) (slice_index sums t)) (Short t) (Long t)
grown sums k (Long t) = Long t

abbrev pub grown_from : (sums : List ℕ) → (index : ℕ) → List Span → List Span
grown_from sums k [] = []
grown_from sums k (s ∷ spans) = grown sums k s ∷ grown_from sums (suc k) spans

-- a round of relaxation: over all spans, by the byte offsets before the round
abbrev pub round : List Span → List Span
round spans = grown_from (sums_from 0 spans) 0 spans

-- zero or more rounds from one list of spans to the other
pub data Rounds (spans : List Span) : List Span → Type 0 where
  begun : Rounds spans spans
  further : {others : List Span} → Rounds spans others → Rounds spans (round others)

-- the result of rounds is a fixpoint: one more round changes nothing
pub record Settles (spans others : List Span) : Type 0 where
  pub rounds : Rounds spans others
  pub steady : round others ≡ others
