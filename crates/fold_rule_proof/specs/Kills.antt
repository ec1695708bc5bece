-- Kills for bypassed blocks, at the blocks where their chains end.
use Rattle.std.specs.Prelude.{◌≡◌, ◌↔◌, ℕ, List, [], ◌∷◌, ◌++◌, map, filter, filter_map, Option, Some, None, Bool, false, not, ◌&&◌, nat_eq, flat_map, IsTrue}
use Rattle.std.specs.Option.{is_some}
use Rattle.mir_func.specs.declared.block.Block.{Block}
use Rattle.mir_func.specs.declared.item.Item.{Item}
use Rattle.mir_func.specs.declared.item.ItemKind.{ItemKind}
use Rattle.mir_func.specs.declared.item.ItemKind.TheVariants.{Code, Mark, Phi}
use Rattle.mir_func.specs.declared.location.Loc.{Loc}
use Rattle.mir_func.specs.declared.location.Loc.TheVariants.{Absent}
use Rattle.mir_func.specs.declared.position.Origin.TheVariants.{Before}
use Rattle.mir_func.specs.declared.variable.MarkValue.TheVariants.{Nothing}
use Rattle.mir_func.specs.Variables.{is_same}
use Rattle.mir_func.specs.Function.{Function}
use Rattle.fold_targets.specs.Leads.{lead}
use Rattle.fold_rule.specs.Reached.{Reached}
use Rattle.fold_rule.specs.Rule.{AreFolded}

-- the kill for a debug item, at the start of block e: an undef debug value of the same variable fragment, with the same debug
-- location, or an undef DBG_PHI of the same number, without a debug location
abbrev pub kill_by : (e : ℕ) → ItemKind → Loc → Option Item
kill_by e (Mark v m) l = Some (record { kind = Mark v Nothing; origin = Before (record { block = e; item = 0 }); loc = l })
kill_by e (Phi p k) l = Some (record { kind = Phi None k; origin = Before (record { block = e; item = 0 }); loc = Absent })
kill_by e (Code i k) l = None

-- kills of the same variable fragment, or of the same number
abbrev pub kills_same : ItemKind → ItemKind → Bool
kills_same (Mark v m) (Mark w n) = is_same v w
kills_same (Phi p k) (Phi q l) = nat_eq k l
kills_same (Mark v m) (Phi q l) = false
kills_same (Phi p k) (Mark w n) = false
kills_same (Code i k) _ = false
kills_same _ (Code i k) = false

-- without duplicates; the first of each is kept
abbrev pub once : List Item → List Item
once [] = []
once (i ∷ is) = i ∷ filter (λ j. not (kills_same i.kind j.kind)) (once is)

-- `end n` is the end of block n's chain, and `was n` is whether block n was reachable before
module _ (end : ℕ → ℕ) (was : ℕ → Bool) (blocks : List Block) where
  -- the block is bypassed, and its chain ends at block e: it was reachable, is jump-only, and isn't its own end
  abbrev pub is_bypassed : (e : ℕ) → Block → Bool
  is_bypassed e b = was b.id && is_some (lead blocks b.id) && nat_eq (end b.id) e && not (nat_eq b.id e)

  -- the kills for the debug items of the bypassed blocks whose chains end at block e, in text order
  abbrev pub lost_ways : (e : ℕ) → List Item
  lost_ways e = flat_map (λ b. filter_map (λ i. kill_by e i.kind i.loc) b.items) (filter (is_bypassed e) blocks)

  -- the kills at the start of block e
  abbrev pub kills : ℕ → List Item
  kills e = once (lost_ways e)

  abbrev pub with_kills : Block → Block
  with_kills b = record b { items = kills b.id ++ b.items }

-- the function is folded, and the ends of chains have the kills for bypassed blocks. `was` is reachability before folding
pub record IsFoldedWithKills (f g : Function) : Type 0 where
  pub blocks : List Block
  pub folded : AreFolded f.blocks blocks
  pub was : ℕ → Bool
  pub reached : (n : ℕ) → IsTrue (was n) ↔ Reached f.blocks (λ m. m) n
  pub killed : g ≡ record f { blocks = map (with_kills folded.end was f.blocks) blocks }
