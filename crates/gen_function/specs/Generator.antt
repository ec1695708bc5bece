-- The function that is generated from a number: the order of random choices, and the items that they determine.
use Rattle.std.specs.Prelude.{ℕ, zero, suc, ◌+◌, ◌-◌, ◌%◌, List, [], ◌∷◌, ◌++◌, length, Some, None, cond, nat_eq, codes}
use Rattle.mir_func.specs.declared.block.Block.{Block}
use Rattle.mir_func.specs.declared.item.Item.{Item}
use Rattle.mir_func.specs.declared.item.ItemKind.{ItemKind}
use Rattle.mir_func.specs.declared.position.Origin.TheVariants.{Kept}
use Rattle.mir_func.specs.declared.location.Loc.TheVariants.{Absent}
use Rattle.mir_func.specs.Function.{Function}
use Rattle.gen_function.specs.Draws.{Drawn, next, draw}
use Rattle.gen_function.specs.Items.{register_of, variable_of, add, copy, constant, store, load, phi, mark, branch, jump, return}

-- items, and the state of the sequence after them
pub record GeneratedItems : Type 0 where
  pub kinds : List ItemKind
  pub rest : Drawn

-- the register that is chosen by a state of the sequence
abbrev pub register_at : (state : ℕ) → ℕ
register_at s = register_of (s % 8)

-- an addition with the next number, and a DBG_INSTR_REF to it
abbrev pub add_group : Drawn → GeneratedItems
add_group d =
    let rd = next d.state in let rs = next rd in let rt = next rs in let v = next rt in let k = d.given + 1 in
    record {
      kinds = add (register_at rd) (register_at rs) (register_at rt) k ∷ mark (variable_of (v % 4)) k ∷ [];
      rest = record { state = v; given = k };
    }

-- a copy with the next number
abbrev pub copy_group : Drawn → GeneratedItems
copy_group d =
    let rd = next d.state in let rs = next rd in let k = d.given + 1 in
    record { kinds = copy (register_at rd) (register_at rs) (Some k) ∷ []; rest = record { state = rs; given = k } }

-- a constant below 64 with the next number, and a DBG_INSTR_REF to it
abbrev pub constant_group : Drawn → GeneratedItems
constant_group d =
    let rd = next d.state in let n = next rd in let v = next n in let k = d.given + 1 in
    record {
      kinds = constant (register_at rd) (n % 64) k ∷ mark (variable_of (v % 4)) k ∷ [];
      rest = record { state = v; given = k };
    }

-- a slot store
abbrev pub store_group : Drawn → GeneratedItems
store_group d =
    let rs = next d.state in let n = next rs in
    record { kinds = store (register_at rs) (n % 4) ∷ []; rest = record d { state = n } }

-- a slot load with the next number, and a DBG_INSTR_REF to it
abbrev pub load_group : Drawn → GeneratedItems
load_group d =
    let rd = next d.state in let n = next rd in let v = next n in let k = d.given + 1 in
    record {
      kinds = load (register_at rd) (n % 4) k ∷ mark (variable_of (v % 4)) k ∷ [];
      rest = record { state = v; given = k };
    }

-- a DBG_PHI with the next number, and a DBG_INSTR_REF to it
abbrev pub phi_group : Drawn → GeneratedItems
phi_group d =
    let rs = next d.state in let v = next rs in let k = d.given + 1 in
    record {
      kinds = phi (register_at rs) k ∷ mark (variable_of (v % 4)) k ∷ [];
      rest = record { state = v; given = k };
    }

-- a DBG_INSTR_REF to a number that is used, or to the next one
abbrev pub mark_group : Drawn → GeneratedItems
mark_group d =
    let v = next d.state in let m = next v in
    record { kinds = mark (variable_of (v % 4)) (m % (d.given + 1) + 1) ∷ []; rest = record d { state = m } }

-- the group of a random number below 8
unfoldable pub group_of : (drawn : ℕ) → Drawn → GeneratedItems
group_of zero d = add_group d
group_of (suc zero) d = add_group d
group_of (suc (suc zero)) d = copy_group d
group_of (suc (suc (suc zero))) d = constant_group d
group_of (suc (suc (suc (suc zero)))) d = store_group d
group_of (suc (suc (suc (suc (suc zero))))) d = load_group d
group_of (suc (suc (suc (suc (suc (suc zero)))))) d = phi_group d
group_of (suc (suc (suc (suc (suc (suc (suc n))))))) d = mark_group d

-- A group chosen by a random number below 8: two of these numbers choose an addition, and one each other group.
unfoldable pub group : Drawn → GeneratedItems
group d = group_of (next d.state % 8) (draw d)

-- `count` groups, one after the other
unfoldable pub groups : (count : ℕ) → Drawn → GeneratedItems
groups zero d = record { kinds = []; rest = d }
groups (suc n) d =
    let before = groups n d in let last = group before.rest in
    record { kinds = before.kinds ++ last.kinds; rest = last.rest }

-- the end of the last block
abbrev pub last_end : List ItemKind
last_end = copy 10 8 None ∷ return ∷ []

-- a branch to any block but the first, of `blocks` in all
abbrev pub branch_end : (blocks : ℕ) → Drawn → GeneratedItems
branch_end count d =
    let rs = next d.state in let t = next rs in
    record { kinds = branch (register_at rs) (t % (count - 1) + 1) ∷ []; rest = record d { state = t } }

-- a jump to a later block
abbrev pub jump_end : (blocks block : ℕ) → Drawn → GeneratedItems
jump_end count b d =
    let t = next d.state in
    record { kinds = jump (b + 1 + t % (count - 1 - b)) ∷ []; rest = record d { state = t } }

-- the end of a block that isn't the last, by a random number below 3
unfoldable pub end_of : (drawn blocks block : ℕ) → Drawn → GeneratedItems
end_of zero count b d = record { kinds = []; rest = d }
end_of (suc zero) count b d = branch_end count d
end_of (suc (suc n)) count b d = jump_end count b d

-- the end of a block: the last one returns, any other falls through, branches or jumps
unfoldable pub end : (blocks block : ℕ) → Drawn → GeneratedItems
end count b d = cond (nat_eq (b + 1) count) (record { kinds = last_end; rest = d }) (end_of (next d.state % 3) count b (draw d))

-- the first items of a block: the first block stores x10 into each slot
unfoldable pub beginning : (block : ℕ) → List ItemKind
beginning zero = store 10 0 ∷ store 10 1 ∷ store 10 2 ∷ store 10 3 ∷ []
beginning (suc b) = []

-- the items of a block, of `blocks` in all: its first items, six groups, and its end
unfoldable pub block_items : (blocks block : ℕ) → Drawn → GeneratedItems
block_items count b d =
    let body = groups 6 d in let last = end count b body.rest in
    record { kinds = beginning b ++ body.kinds ++ last.kinds; rest = last.rest }

-- Items as they are read: each has its own position as origin, and no debug location.
abbrev pub placed : (block index : ℕ) → List ItemKind → List Item
placed b n [] = []
placed b n (k ∷ kinds) = record { kind = k; origin = Kept (record { block = b; item = n }); loc = Absent } ∷ placed b (suc n) kinds

-- a basic block of items of these kinds, as it is read
abbrev pub block_of : (block : ℕ) → List ItemKind → Block
block_of b kinds = record { id = b; items = placed b 0 kinds; source_end = length kinds }

-- blocks, and the state of the sequence after them
pub record MadeBlocks : Type 0 where
  pub blocks : List Block
  pub rest : Drawn

-- the first `made` blocks, of `blocks` in all
unfoldable pub blocks_made : (blocks made : ℕ) → Drawn → MadeBlocks
blocks_made count zero d = record { blocks = []; rest = d }
blocks_made count (suc b) d =
    let before = blocks_made count b d in let last = block_items count b before.rest in
    record { blocks = before.blocks ++ block_of b last.kinds ∷ []; rest = last.rest }

-- the function that is generated from a number, with `blocks` blocks
abbrev pub generated : (number blocks : ℕ) → Function
generated number count = record {
  name = codes "gen";
  slots = 0 ∷ 1 ∷ 2 ∷ 3 ∷ [];
  objects = [];
  blocks = (blocks_made count count (record { state = number; given = 0 })).blocks;
}
