-- What happens to each item of a block from which redundant copies are removed: one line for each item, in the order of
-- the text.
use Rattle.std.specs.Prelude.{ℕ, zero, suc, List, [], ◌∷◌, ◌++◌, cond, nat_eq, Option, Some, None}
use Rattle.mir_func.specs.declared.block.Block.{Block}
use Rattle.mir_func.specs.declared.debug_substitution.DebugSubstitution.{DebugSubstitution}
use Rattle.mir_func.specs.declared.item.Item.{Item}
use Rattle.mir_func.specs.declared.item.ItemKind.{ItemKind}
use Rattle.mir_func.specs.declared.item.ItemKind.TheVariants.{Code, Mark, Phi}
use Rattle.mir_func.specs.Function.{Function}
use Rattle.pass_salvage.specs.declared.salvage_action.SalvageAction.{SalvageAction}
use Rattle.pass_salvage.specs.declared.salvage_action.SalvageAction.TheVariants.{HasEntry, GetsEntry, GetsPhi}
use Rattle.pass_salvage.specs.SalvageAction.{salvage_action}
use Rattle.pass_salvage.specs.Salvage.{with_number, put_for}
use Rattle.copyprop_block.specs.declared.copies.CopyAction.{CopyAction}
use Rattle.copyprop_block.specs.declared.copies.CopyAction.TheVariants.{Stays, Goes, GoesWith}
use Rattle.copyprop_block.specs.Copied.{SoFar, renamed_item, fate_of, next_item, at_block, BlocksSoFar, next_block}
use Rattle.copyprop_rule.specs.Rule.{begins}

-- the items that replace an item, the number that it got, and the register of the DBG_PHI that replaces it
pub record Line : Type 0 where
  pub now : List Item
  pub gained : Option ℕ
  pub phi : Option ℕ

-- code without a number gets this one
abbrev pub gained_by : (n : ℕ) → ItemKind → (before : Option ℕ) → Option ℕ
gained_by n (Code i None) before = Some n
gained_by n (Code i (Some m)) before = before
gained_by n (Mark v m) before = before
gained_by n (Phi p m) before = before

-- the item at an index, counted along the items of this line and of the later ones, gets the number
abbrev pub numbered_in : (now : List Item) → (index n : ℕ) → Line → List Line → (further : ℕ → List Line) → List Line
numbered_in [] d n l ls further = l ∷ further d
numbered_in (y ∷ ys) zero n l ls further =
    record { now = record y { kind = with_number n y.kind } ∷ ys; gained = gained_by n y.kind l.gained; phi = l.phi } ∷ ls
numbered_in (y ∷ ys) (suc d) n l ls further = l ∷ further d

-- the lines with a number on the item at an index, counted along all lines
abbrev pub numbered_line : (index n : ℕ) → List Line → List Line
numbered_line d n [] = []
numbered_line d n (l ∷ ls) = numbered_in l.now d n l ls (λ e. numbered_line e n ls)

-- the lines above a removed copy: the code that replaces it in debug information has its number now
abbrev pub lines_above : SalvageAction → List Line → List Line
lines_above HasEntry ls = ls
lines_above (GetsEntry d o n) ls = numbered_line d n ls
lines_above GetsPhi ls = ls

-- the register of the DBG_PHI for a copy of s, if there is one
abbrev pub phi_of : SalvageAction → (s : ℕ) → Option ℕ
phi_of HasEntry s = None
phi_of (GetsEntry d o n) s = None
phi_of GetsPhi s = Some s

-- the line of an item that got no number so far
abbrev pub line : List Item → (phi : Option ℕ) → Line
line now phi = record { now = now; gained = None; phi = phi }

-- the lines after one more item that is renamed already
abbrev pub lines_by_fate : List Line → SoFar → Item → CopyAction → List Line
lines_by_fate ls a x Stays = ls ++ line (x ∷ []) None ∷ []
lines_by_fate ls a x Goes = ls ++ line [] None ∷ []
lines_by_fate ls a x (GoesWith k s) =
    lines_above (salvage_action [] a.subs a.fresh k s a.done) ls ++ line (put_for (salvage_action [] a.subs a.fresh k s a.done) k s x.origin)
    (phi_of (salvage_action [] a.subs a.fresh k s a.done) s) ∷ []

-- the lines after one more item, which is renamed by the available copies
abbrev pub next_lines : List Line → SoFar → Item → List Line
next_lines ls a x = lines_by_fate ls a (renamed_item a.roots x) (fate_of a.roots (renamed_item a.roots x).kind)

-- the lines of a block's items, in order
abbrev pub over_lines : List Line → SoFar → List Item → List Line
over_lines ls a [] = ls
over_lines ls a (x ∷ xs) = over_lines (next_lines ls a x) (next_item a x) xs

-- the lines of the block with this number, among these blocks
abbrev pub lines_in : BlocksSoFar → List Block → (block : ℕ) → List Line
lines_in a [] n = []
lines_in a (b ∷ bs) n = cond (nat_eq b.id n) (over_lines [] (at_block a.subs a.fresh) b.items) (lines_in (next_block a b) bs n)

-- the lines of the function's block with this number
abbrev pub ledger : Function → List DebugSubstitution → (block : ℕ) → List Line
ledger f subs n = lines_in (begins f subs) f.blocks n
