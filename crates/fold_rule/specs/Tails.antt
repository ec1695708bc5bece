-- The terminators of blocks, and how they are rewritten.
use Rattle.std.specs.Prelude.{ℕ, List, [], ◌∷◌, Option, Some, None, Bool, false, cond, nat_eq, option_to_list}
use Rattle.mir_func.specs.declared.exit.Exit.{Exit}
use Rattle.mir_func.specs.declared.exit.Exit.TheVariants.{Onward, Perhaps, Always, Final}
use Rattle.mir_func.specs.declared.item.Item.{Item}
use Rattle.mir_func.specs.declared.location.Loc.TheVariants.{Absent}
use Rattle.mir_func.specs.declared.position.Pos.{Pos}
use Rattle.mir_func.specs.declared.position.Origin.TheVariants.{Before}
use Rattle.mir_func.specs.Exits.{exit_of}
use Rattle.fold_targets.specs.Leads.{always_to}
use Rattle.fold_rule.specs.declared.ways.Ways.{Ways}
use Rattle.fold_rule.specs.Turned.{sent, turned, made_jump}

-- the first of some items
abbrev pub first_of : List Item → Option Item
first_of [] = None
first_of (i ∷ is) = Some i

-- where control goes when a branch isn't taken: where the next item jumps, or to the block below if there is no next item
abbrev pub else_way : Option Item → (fall : Option ℕ) → Option ℕ
else_way None fall = fall
else_way (Some j) fall = always_to (exit_of j.kind)

-- the outgoing edges of a block from an item on; `rest` is the item after it, and `below` are the edges from there on
abbrev pub ways_by : Exit → (rest : Option Item) (below : Ways) (fall : Option ℕ) → Ways
ways_by Onward rest below fall = below
ways_by (Perhaps n) rest below fall = record { branch = Some n; onward = else_way rest fall }
ways_by (Always n) rest below fall = record { branch = None; onward = Some n }
ways_by Final rest below fall = record { branch = None; onward = None }

-- the outgoing edges of a block with these items; without a final terminator control falls to the block below
abbrev pub ways_of : List Item → (fall : Option ℕ) → Ways
ways_of [] fall = record { branch = None; onward = fall }
ways_of (i ∷ is) fall = ways_by (exit_of i.kind) (first_of is) (ways_of is fall) fall

-- the optional number is this one
abbrev pub is_number : Option ℕ → ℕ → Bool
is_number None n = false
is_number (Some m) n = nat_eq m n

-- the jump to a block, or nothing if that block comes next
abbrev pub if_needed : (next : Option ℕ) (block : ℕ) → Item → List Item
if_needed next n j = cond (is_number next n) [] (j ∷ [])

-- the jump to a block at the end: the old jump with a new target, or, if there is none, a new one whose origin is before the
-- block's silent position
abbrev pub jump_at_end : (source_end : Pos) → Option Item → (block : ℕ) → Item
jump_at_end source_end None n = made_jump n (Before source_end) Absent
jump_at_end source_end (Some j) n = sent n j

-- the same jump in the position of a removed conditional branch, with the branch's origin and debug location
abbrev pub jump_for_branch : (source_end : Pos) (branch : Item) → Option Item → (block : ℕ) → Item
jump_for_branch source_end x rest n = record (jump_at_end source_end rest n) { origin = x.origin; loc = x.loc }

-- A conditional branch whose edges end at blocks a and b: it is removed if they are the same, kept if b comes next, inverted
-- if a comes next, and otherwise followed by a jump to b
abbrev pub branch_tail : (next : Option ℕ) (source_end : Pos) (branch : Item) → Option Item → (a b : ℕ) → List Item
branch_tail next source_end x rest a b =
    cond (nat_eq a b) (if_needed next b (jump_for_branch source_end x rest b)) (cond (is_number next b) (sent a x ∷ [])
    (cond (is_number next a) (turned b x ∷ []) (sent a x ∷ jump_at_end source_end rest b ∷ [])))

-- `end n` is the end of block n's chain; `next` is the block that comes next among the kept blocks, and `fall` the one that
-- comes next among all
module _ (end : ℕ → ℕ) (next fall : Option ℕ) (source_end : Pos) where
  -- the terminators of a block without a conditional branch
  abbrev pub plain_tail : Option Item → (to : Option ℕ) → List Item
  plain_tail rest (Some n) = if_needed next (end n) (jump_at_end source_end rest (end n))
  plain_tail rest None = option_to_list rest

  -- the terminators from a conditional branch on: it goes to block a, and otherwise to another block, or control ends there
  abbrev pub branch_tail_to : (branch : Item) → Option Item → (a : ℕ) (to : Option ℕ) → List Item
  branch_tail_to x rest a (Some m) = branch_tail next source_end x rest (end a) (end m)
  branch_tail_to x rest a None = x ∷ []

  -- an item with this exit, the item after it, and the rewritten items after it: the items from it on, rewritten
  abbrev pub tail_by : Exit → Item → (rest : Option Item) → (below : List Item) → List Item
  tail_by Onward x rest below = x ∷ below
  tail_by (Perhaps n) x rest below = branch_tail_to x rest n (else_way rest fall)
  tail_by (Always n) x rest below = plain_tail (Some x) (Some n)
  tail_by Final x rest below = plain_tail (Some x) None

  -- the items with their terminators rewritten
  abbrev pub rewritten : List Item → List Item
  rewritten [] = plain_tail None fall
  rewritten (x ∷ xs) = tail_by (exit_of x.kind) x (first_of xs) (rewritten xs)
