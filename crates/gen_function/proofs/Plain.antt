-- What the items of generated functions keep.
--
-- A plain item goes on below and branches nowhere; so are all items of groups, and what the first block begins with. The end of a
-- block is nothing, a branch, a jump, or the copy and the return, to blocks that are there. Numbers rise by one from item to item.
use Rattle.std.proofs.Common.{◌≡◌, ℕ, zero, suc, ◌%◌, ◌<◌, List, [], ◌∷◌, ◌++◌, Option, refl, arith}
use Rattle.std.proofs.Common.{lit<}
use Rattle.std.specs.List.{All, Contains}
use Rattle.std.proofs.lemmas.List.Elements.{All-nil, All-cons, All-append}
use Rattle.rv64_instr.specs.declared.operand.Operand.{Operand}
use Rattle.mir_func.specs.declared.exit.Exit.TheVariants.{Onward}
use Rattle.mir_func.specs.declared.item.ItemKind.{ItemKind}
use Rattle.mir_func.specs.Exits.{exit_of}
use Rattle.mir_func.specs.Sound.{TargetsIn, PassedIn, SlotsIn, ObjectsIn, IsNotPointer, LeavesPointer, KindPassesFirst}
use Rattle.gen_function.specs.Draws.{Drawn, next, draw}
use Rattle.gen_function.specs.Items.{register_of, variable_of, add, copy, constant, store, load, phi, mark, branch, jump, return}
use Rattle.gen_function.specs.Generator.{group_of, group, groups, beginning}

abbrev pub SLOTS : List ℕ
SLOTS = 0 ∷ 1 ∷ 2 ∷ 3 ∷ []

-- an item of a function with these blocks names slots that are there, no objects, and not the stack pointer
pub record IsFine (ids : List ℕ) (k : ItemKind) : Type 0 where
  pub targets : TargetsIn ids k
  pub slots : SlotsIn SLOTS k
  pub passed : KindPassesFirst SLOTS k
  pub objects : ObjectsIn [] k
  pub pointer : LeavesPointer k

pub record IsPlain (ids : List ℕ) (k : ItemKind) : Type 0 where
  pub fine : IsFine ids k
  pub onward : exit_of k ≡ Onward

-- ---- operands

register_apart : (n : ℕ) → register_of n ≡ 2 → ⊥
register_apart zero e = absurd (omega arith)
register_apart (suc zero) e = absurd (omega arith)
register_apart (suc (suc zero)) e = absurd (omega arith)
register_apart (suc (suc (suc zero))) e = absurd (omega arith)
register_apart (suc (suc (suc (suc zero)))) e = absurd (omega arith)
register_apart (suc (suc (suc (suc (suc zero))))) e = absurd (omega arith)
register_apart (suc (suc (suc (suc (suc (suc zero)))))) e = absurd (omega arith)
register_apart (suc (suc (suc (suc (suc (suc (suc zero))))))) e = absurd (omega arith)
register_apart (suc (suc (suc (suc (suc (suc (suc (suc n)))))))) e = absurd (omega arith)

slot_there : (n : ℕ) → n < 4 → Contains SLOTS n
slot_there zero l = (0, lit< tt, refl)
slot_there (suc zero) l = (1, lit< tt, refl)
slot_there (suc (suc zero)) l = (2, lit< tt, refl)
slot_there (suc (suc (suc zero))) l = (3, lit< tt, refl)
slot_there (suc (suc (suc (suc n)))) l = absurd (omega arith)

apart_from : (n : ℕ) → ((n ≡ 2) → ⊥) → n ≡ 2 → ⊥
apart_from n h = h

module _ (P : Operand → Type 0) where
  one : (a : Operand) → P a → All P (a ∷ [])
  one a p = All-cons P a [] p (All-nil P)

  two : (a b : Operand) → P a → P b → All P (a ∷ b ∷ [])
  two a b p q = All-cons P a (b ∷ []) p (one b q)

  three : (a b c : Operand) → P a → P b → P c → All P (a ∷ b ∷ c ∷ [])
  three a b c p q r = All-cons P a (b ∷ c ∷ []) p (two b c q r)

-- no slot is passed
abbrev Passed : Operand → Type 0
Passed = PassedIn SLOTS

-- ---- items, one by one

zero_apart : ◌≡◌ {A = ℕ} 0 2 → ⊥
zero_apart e = omega arith

plain_add : (ids : List ℕ) (a b c k : ℕ) → IsPlain ids (add (register_of a) (register_of b) (register_of c) k)
plain_add ids a b c k = record {
  fine = record {
    targets = tt;
    slots = (tt, three Passed _ _ _ tt tt tt);
    passed = tt;
    objects = tt;
    pointer = three IsNotPointer _ _ _ (register_apart a) (register_apart b) (register_apart c);
  };
  onward = refl;
}

pub plain_copy : (ids : List ℕ) (rd rs : ℕ) (k : Option ℕ) → (rd ≡ 2 → ⊥) → (rs ≡ 2 → ⊥) → IsPlain ids (copy rd rs k)
plain_copy ids rd zero k p q = record {
  fine = record { targets = tt; slots = (tt, two Passed _ _ tt tt); passed = tt; objects = tt; pointer = two IsNotPointer _ _ p q };
  onward = refl;
}
plain_copy ids rd (suc rs) k p q = record {
  fine = record { targets = tt; slots = (tt, two Passed _ _ tt tt); passed = tt; objects = tt; pointer = two IsNotPointer _ _ p q };
  onward = refl;
}

plain_constant : (ids : List ℕ) (a n k : ℕ) → IsPlain ids (constant (register_of a) n k)
plain_constant ids a n k = record {
  fine = record {
    targets = tt;
    slots = (tt, three Passed _ _ _ tt tt tt);
    passed = tt;
    objects = tt;
    pointer = three IsNotPointer _ _ _ (register_apart a) zero_apart tt;
  };
  onward = refl;
}

plain_store : (ids : List ℕ) (rs n : ℕ) → (rs ≡ 2 → ⊥) → n < 4 → IsPlain ids (store rs n)
plain_store ids rs n p l = record {
  fine = record { targets = tt; slots = (slot_there n l, three Passed _ _ _ tt tt tt); passed = tt; objects = tt; pointer = three IsNotPointer _ _ _ p tt tt };
  onward = refl;
}

plain_load : (ids : List ℕ) (a n k : ℕ) → n < 4 → IsPlain ids (load (register_of a) n k)
plain_load ids a n k l = record {
  fine = record {
    targets = tt;
    slots = (slot_there n l, three Passed _ _ _ tt tt tt);
    passed = tt;
    objects = tt;
    pointer = three IsNotPointer _ _ _ (register_apart a) tt tt;
  };
  onward = refl;
}

plain_phi : (ids : List ℕ) (rs k : ℕ) → IsPlain ids (phi rs k)
plain_phi ids rs k = record { fine = record { targets = tt; slots = tt; passed = tt; objects = tt; pointer = tt }; onward = refl }

plain_mark : (ids : List ℕ) (n k : ℕ) → IsPlain ids (mark (variable_of n) k)
plain_mark ids n k = record { fine = record { targets = tt; slots = tt; passed = tt; objects = tt; pointer = tt }; onward = refl }

pub fine_branch : (ids : List ℕ) (a n : ℕ) → Contains ids n → IsFine ids (branch (register_of a) n)
fine_branch ids a n h = record {
  targets = h;
  slots = (tt, three Passed _ _ _ tt tt tt);
  passed = tt;
  objects = tt;
  pointer = three IsNotPointer _ _ _ (register_apart a) zero_apart tt;
}

pub fine_jump : (ids : List ℕ) (n : ℕ) → Contains ids n → IsFine ids (jump n)
fine_jump ids n h = record { targets = h; slots = (tt, one Passed _ tt); passed = tt; objects = tt; pointer = one IsNotPointer _ tt }

pub fine_return : (ids : List ℕ) → IsFine ids return
fine_return ids = record { targets = tt; slots = (tt, one Passed _ tt); passed = tt; objects = tt; pointer = one IsNotPointer _ tt }

-- ---- groups

below_four : (n : ℕ) → n % 4 < 4
below_four n = omega arith

just : (ids : List ℕ) (k : ItemKind) → IsPlain ids k → All (IsPlain ids) (k ∷ [])
just ids k p = All-cons (IsPlain ids) k [] p (All-nil (IsPlain ids))

both : (ids : List ℕ) (k l : ItemKind) → IsPlain ids k → IsPlain ids l → All (IsPlain ids) (k ∷ l ∷ [])
both ids k l p q = All-cons (IsPlain ids) k (l ∷ []) p (just ids l q)

plain_group_of : (ids : List ℕ) (n : ℕ) (d : Drawn) → All (IsPlain ids) (group_of n d).kinds
unfolding group_of
plain_group_of ids zero d = both ids _ _ (plain_add ids _ _ _ _) (plain_mark ids _ _)
plain_group_of ids (suc zero) d = both ids _ _ (plain_add ids _ _ _ _) (plain_mark ids _ _)
plain_group_of ids (suc (suc zero)) d =
    let rd = next d.state in
    just ids _ (plain_copy ids _ _ _ (register_apart (rd % 8)) (register_apart (next rd % 8)))
plain_group_of ids (suc (suc (suc zero))) d = both ids _ _ (plain_constant ids _ _ _) (plain_mark ids _ _)
plain_group_of ids (suc (suc (suc (suc zero)))) d =
    let rs = next d.state in just ids _ (plain_store ids _ _ (register_apart (rs % 8)) (below_four (next rs)))
plain_group_of ids (suc (suc (suc (suc (suc zero))))) d =
    both ids _ _ (plain_load ids _ _ _ (below_four (next (next d.state)))) (plain_mark ids _ _)
plain_group_of ids (suc (suc (suc (suc (suc (suc zero)))))) d = both ids _ _ (plain_phi ids _ _) (plain_mark ids _ _)
plain_group_of ids (suc (suc (suc (suc (suc (suc (suc n))))))) d = just ids _ (plain_mark ids _ _)

plain_groups : (ids : List ℕ) (n : ℕ) (d : Drawn) → All (IsPlain ids) (groups n d).kinds
unfolding groups group
plain_groups ids zero d = All-nil (IsPlain ids)
plain_groups ids (suc n) d =
    let w = (groups n d).rest in
    All-append (IsPlain ids) (groups n d).kinds (group w).kinds (plain_groups ids n d) (plain_group_of ids (next w.state % 8) (draw w))

ten_apart : ◌≡◌ {A = ℕ} 10 2 → ⊥
ten_apart e = omega arith

plain_beginning : (ids : List ℕ) (b : ℕ) → All (IsPlain ids) (beginning b)
unfolding beginning
plain_beginning ids zero =
    let stored = λ (n : ℕ) (l : n < 4). plain_store ids 10 n ten_apart l in
    All-append (IsPlain ids) (store 10 0 ∷ store 10 1 ∷ []) (store 10 2 ∷ store 10 3 ∷ [])
    (both ids _ _ (stored 0 (omega arith)) (stored 1 (omega arith))) (both ids _ _ (stored 2 (omega arith)) (stored 3 (omega arith)))
plain_beginning ids (suc b) = All-nil (IsPlain ids)

-- the items of a block before its end
pub plain_body : (ids : List ℕ) (b : ℕ) (d : Drawn) → All (IsPlain ids) (beginning b ++ (groups 6 d).kinds)
plain_body ids b d = All-append (IsPlain ids) (beginning b) (groups 6 d).kinds (plain_beginning ids b) (plain_groups ids 6 d)
